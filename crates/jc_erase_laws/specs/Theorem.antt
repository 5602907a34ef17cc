-- The erasure of a program does what the program does: what this asks of the two, and that it is so.
use Rattle.std.specs.Prelude.{◌≡◌, ℕ, false, [], Some, slice_get}
use Rattle.jc_types.specs.declared.ids.ClassId.{ClassId}
use Rattle.jc_types.specs.declared.ids.MethodId.{MethodId}
use Rattle.jc_types.specs.Accessors.{is_interface}
use Rattle.jc_types.specs.Erasing.{erasure}
use Rattle.jc_heaps.specs.Erases.{Erases}
use Rattle.jc_typed.specs.declared.program.TypedProgram.{TypedProgram}
use Rattle.jc_meaning.specs.Meaning.{meaning}
use Rattle.jc_meaning.specs.Programs.{selected_of}
use Rattle.jc_erased.specs.declared.program.ErasedProgram.{ErasedProgram}
use Rattle.jc_erased.specs.Meaning.{meaning as erased_meaning}
use Rattle.jc_bridges_laws.specs.Bodies.{HasBodies, IsBody}
use Rattle.jc_bridges_call_laws.specs.Calls.{HasBridges}
use Rattle.jc_erase_spec.specs.Meeting.{AreErasedMethods}
use Rattle.jc_erase_laws.specs.Firm.{FirmMethods}

-- Each class that selects a body for a method is none that is an interface, and the body is that which overriding gives (JLS 8.4.8, 15.12.4.4)
abbrev pub SelectsBodies : TypedProgram → Type 0
SelectsBodies P = (k : ClassId) (m own : MethodId) → selected_of m (slice_get P.selections k.0) ≡ Some own → (is_interface P.table k ≡ false) × IsBody P.table k m own

-- What the equation is drawn from: the erased program says the same of the table, of what is known and of selections, its methods are those of the typed one with
-- their types erased, and its classes have their bridges; created and caught types are firm; and what the typed program selects are the bodies that overriding gives
pub record ErasesTo (P : TypedProgram) (E : ErasedProgram) : Type 0 where
  pub table : E.table ≡ P.table
  pub known : E.known ≡ P.known
  pub selections : E.selections ≡ P.selections
  pub methods : AreErasedMethods P P.methods E.methods
  pub bridged : HasBridges E
  pub firm : FirmMethods P.table P.methods
  pub bodies : HasBodies P.table
  pub selects : SelectsBodies P

-- at every depth the body of every method does, with every number of units, on every erased state what the typed one does
abbrev pub BodiesErase : TypedProgram → ErasedProgram → Type 0
BodiesErase P E = (d : ℕ) (m : MethodId) → Erases (erasure P.table []) ((meaning P d).body m) ((erased_meaning E d).body m)

abbrev pub ErasureKeepsMeaning : Type 0
ErasureKeepsMeaning = (P : TypedProgram) (E : ErasedProgram) → ErasesTo P E → BodiesErase P E
