-- Calls on an object, by the first of their arguments.
use Rattle.std.proofs.Common.{◌≡◌, ◌∙◌, [], ◌∷◌, ℕ, List, ap, refl, sym}
use Rattle.std.specs.Prelude.{Bool, false, option_and_then, slice_get}
use Rattle.std.specs.declared.option.Option.{Option}
use Rattle.std.specs.declared.option.Option.TheVariants.{Some}
use Rattle.jc_class_out.specs.declared.model.ClassModel.{ClassModel}
use Rattle.jc_heap.specs.Signatures.{selected_as}
use Rattle.jc_jvm.specs.Calls.{Step, called, called_specially, null_pointer, selecting_class, stuck}
use Rattle.jc_jvm.specs.declared.frame.Frame.{Frame}
use Rattle.jc_jvm.specs.declared.frame.Waiting.{Waiting}
use Rattle.jc_jvm.specs.declared.value.Value.{Value}
use Rattle.jc_jvm.specs.declared.value.Value.TheVariants.{Whole, Long, Address, NullValue}
use Rattle.jc_jvm.specs.declared.world.Fault.TheVariants.{NullPointer}
use Rattle.jc_jvm.specs.declared.world.World.{World}
use Rattle.jc_rows.specs.Acts.{called_by_number}
use Rattle.jc_stepping.specs.Makes.{call_makes, special_makes, virtual_makes}
use Rattle.jc_waiting.specs.Memory.{fault_makes}

-- the method that an object's class selects
abbrev pub target_for : List ClassModel → Option ℕ → World → ℕ → Option (ℕ × ℕ)
target_for classes signature world at = option_and_then (selected_as classes signature) (selecting_class classes (slice_get world.heap at))

-- ---- invokevirtual and invokeinterface

abbrev pub virtual_step : List ClassModel → Option ℕ → World → ℕ → Frame → List Waiting → List Value → List Value → Option Value → Step
virtual_step classes signature world next now waiting arguments rest (Some (Address at)) = called classes world next now waiting arguments rest (target_for classes signature world at)
virtual_step classes signature world next now waiting arguments rest (Some NullValue) = null_pointer classes world now waiting
virtual_step classes signature world next now waiting arguments rest _ = stuck

virtual_first : (classes : List ClassModel) (signature : Option ℕ) (world : World) (next : ℕ) (now : Frame) (waiting : List Waiting) (arguments rest : List Value) →
    called_by_number classes signature world next now waiting (Some (arguments, rest)) ≡ virtual_step classes signature world next now waiting arguments rest (slice_get arguments 0)
virtual_first classes signature world next now waiting [] rest = refl
virtual_first classes signature world next now waiting (Address at ∷ more) rest = refl
virtual_first classes signature world next now waiting (NullValue ∷ more) rest = refl
virtual_first classes signature world next now waiting (Whole n ∷ more) rest = refl
virtual_first classes signature world next now waiting (Long n ∷ more) rest = refl

-- the step of a call with these arguments
pub virtual_by : (classes : List ClassModel) (signature : Option ℕ) (world : World) (next : ℕ) (now : Frame) (waiting : List Waiting) (taken : Option (List Value × List Value)) (arguments rest : List Value) (first : Option Value) →
    taken ≡ Some (arguments, rest) → first ≡ slice_get arguments 0 →
    called_by_number classes signature world next now waiting taken ≡ virtual_step classes signature world next now waiting arguments rest first
virtual_by classes signature world next now waiting taken arguments rest first is at =
    ap (λ (o : Option (List Value × List Value)). called_by_number classes signature world next now waiting o) is
    ∙ virtual_first classes signature world next now waiting arguments rest
    ∙ ap (λ (o : Option Value). virtual_step classes signature world next now waiting arguments rest o) (sym at)

abbrev pub virtual_memory : List ClassModel → Option ℕ → World → List Value → Option Value → Bool
virtual_memory classes signature world arguments (Some (Address at)) = call_makes classes world arguments (target_for classes signature world at)
virtual_memory classes signature world arguments (Some NullValue) = fault_makes classes NullPointer
virtual_memory classes signature world arguments _ = false

memory_first : (classes : List ClassModel) (signature : Option ℕ) (world : World) (arguments rest : List Value) →
    virtual_makes classes signature world (Some (arguments, rest)) ≡ virtual_memory classes signature world arguments (slice_get arguments 0)
memory_first classes signature world [] rest = refl
memory_first classes signature world (Address at ∷ more) rest = refl
memory_first classes signature world (NullValue ∷ more) rest = refl
memory_first classes signature world (Whole n ∷ more) rest = refl
memory_first classes signature world (Long n ∷ more) rest = refl

-- what it may make
pub virtual_memory_by : (classes : List ClassModel) (signature : Option ℕ) (world : World) (taken : Option (List Value × List Value)) (arguments rest : List Value) (first : Option Value) →
    taken ≡ Some (arguments, rest) → first ≡ slice_get arguments 0 → virtual_makes classes signature world taken ≡ virtual_memory classes signature world arguments first
virtual_memory_by classes signature world taken arguments rest first is at =
    ap (λ (o : Option (List Value × List Value)). virtual_makes classes signature world o) is
    ∙ memory_first classes signature world arguments rest
    ∙ ap (λ (o : Option Value). virtual_memory classes signature world arguments o) (sym at)

-- ---- invokespecial

abbrev pub special_step : List ClassModel → Option (ℕ × ℕ) → World → ℕ → Frame → List Waiting → List Value → List Value → Option Value → Step
special_step classes target world next now waiting arguments rest (Some (Address at)) = called classes world next now waiting arguments rest target
special_step classes target world next now waiting arguments rest (Some NullValue) = null_pointer classes world now waiting
special_step classes target world next now waiting arguments rest _ = stuck

special_first : (classes : List ClassModel) (target : Option (ℕ × ℕ)) (world : World) (next : ℕ) (now : Frame) (waiting : List Waiting) (arguments rest : List Value) →
    called_specially classes target world next now waiting (Some (arguments, rest)) ≡ special_step classes target world next now waiting arguments rest (slice_get arguments 0)
special_first classes target world next now waiting [] rest = refl
special_first classes target world next now waiting (Address at ∷ more) rest = refl
special_first classes target world next now waiting (NullValue ∷ more) rest = refl
special_first classes target world next now waiting (Whole n ∷ more) rest = refl
special_first classes target world next now waiting (Long n ∷ more) rest = refl

-- the step of a call with these arguments
pub special_by : (classes : List ClassModel) (target : Option (ℕ × ℕ)) (world : World) (next : ℕ) (now : Frame) (waiting : List Waiting) (taken : Option (List Value × List Value)) (arguments rest : List Value) (first : Option Value) →
    taken ≡ Some (arguments, rest) → first ≡ slice_get arguments 0 →
    called_specially classes target world next now waiting taken ≡ special_step classes target world next now waiting arguments rest first
special_by classes target world next now waiting taken arguments rest first is at =
    ap (λ (o : Option (List Value × List Value)). called_specially classes target world next now waiting o) is
    ∙ special_first classes target world next now waiting arguments rest
    ∙ ap (λ (o : Option Value). special_step classes target world next now waiting arguments rest o) (sym at)

abbrev pub special_memory : List ClassModel → Option (ℕ × ℕ) → World → List Value → Option Value → Bool
special_memory classes target world arguments (Some (Address at)) = call_makes classes world arguments target
special_memory classes target world arguments (Some NullValue) = fault_makes classes NullPointer
special_memory classes target world arguments _ = false

special_memory_first : (classes : List ClassModel) (target : Option (ℕ × ℕ)) (world : World) (arguments rest : List Value) →
    special_makes classes target world (Some (arguments, rest)) ≡ special_memory classes target world arguments (slice_get arguments 0)
special_memory_first classes target world [] rest = refl
special_memory_first classes target world (Address at ∷ more) rest = refl
special_memory_first classes target world (NullValue ∷ more) rest = refl
special_memory_first classes target world (Whole n ∷ more) rest = refl
special_memory_first classes target world (Long n ∷ more) rest = refl

-- what it may make
pub special_memory_by : (classes : List ClassModel) (target : Option (ℕ × ℕ)) (world : World) (taken : Option (List Value × List Value)) (arguments rest : List Value) (first : Option Value) →
    taken ≡ Some (arguments, rest) → first ≡ slice_get arguments 0 → special_makes classes target world taken ≡ special_memory classes target world arguments first
special_memory_by classes target world taken arguments rest first is at =
    ap (λ (o : Option (List Value × List Value)). special_makes classes target world o) is
    ∙ special_memory_first classes target world arguments rest
    ∙ ap (λ (o : Option Value). special_memory classes target world arguments o) (sym at)

pub ruleset virtual_rules = (virtual_by, virtual_memory_by)

pub ruleset special_rules = (special_by, special_memory_by)
