-- The class of which bytes are the file, or why they are no class file, with the place.
use Rattle.std.specs.Prelude.{◌≡◌, ℕ, ◌-◌, ◌^◌, min, List, length, Result, Ok, Err}
use Rattle.jc_rules.specs.declared.stop.Stop.{Stop}
use Rattle.jc_rules.specs.declared.stop.Stop.TheVariants.{Refused, WantOfMemory}
use Rattle.jc_class_out.specs.declared.format.Flaw.{Flaw}
use Rattle.jc_class_out.specs.declared.format.Flaw.TheVariants as flaw
use Rattle.jc_class_out.specs.declared.model.ClassModel.{ClassModel}
use Rattle.jc_class_out.specs.Format.{read}
use Rattle.jc_class_in.specs.declared.fault.ClassFault.{ClassFault}
use Rattle.jc_class_in.specs.declared.fault.ClassFault.TheVariants as fault

-- the place from which on so many bytes are left of so many; it has four bytes
abbrev pub place_in : ℕ → ℕ → ℕ
place_in size left = min (size - left) (2 ^ 32 - 1)

-- a flaw with its place from the file's start; the magic number and the version have fixed places, and what is too short ends at the file's end
abbrev pub fault_in : ℕ → Flaw → ClassFault
fault_in size flaw.Short = fault.Short (place_in size 0)
fault_in size flaw.Magic = fault.Magic
fault_in size flaw.Version = fault.Version
fault_in size (flaw.Tag left) = fault.Tag (place_in size left)
fault_in size (flaw.Index left) = fault.Index (place_in size left)
fault_in size (flaw.Opcode left) = fault.Opcode (place_in size left)
fault_in size (flaw.Trailing left) = fault.Trailing (place_in size left)
fault_in size (flaw.Text left) = fault.Text (place_in size left)

-- the class, or the fault with its place
abbrev pub with_place : ℕ → Result ClassModel Flaw → Result ClassModel ClassFault
with_place size (Ok class) = Ok class
with_place size (Err flaw) = Err (fault_in size flaw)

-- the class of which the bytes are the file, or the first fault
abbrev pub class_in : List ℕ → Result ClassModel ClassFault
class_in bytes = with_place (length bytes) (read bytes)

-- The answer is that class or that fault; want of memory says nothing of the bytes.
abbrev pub Answers : Result ClassModel (Stop ClassFault) → Result ClassModel ClassFault → Type 0
Answers (Ok class) wanted = wanted ≡ Ok class
Answers (Err (Refused fault)) wanted = wanted ≡ Err fault
Answers (Err WantOfMemory) wanted = Unit {0}

-- The answer is that class, or want of memory.
abbrev pub Accepts : ClassModel → Result ClassModel (Stop ClassFault) → Type 0
Accepts class (Ok found) = found ≡ class
Accepts class (Err (Refused fault)) = ⊥
Accepts class (Err WantOfMemory) = Unit {0}
