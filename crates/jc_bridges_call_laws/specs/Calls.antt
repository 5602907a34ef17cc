-- What a call of an erased program has to do: the checks on entry, the body that overriding gives, and the check of its result (JLS 15.12.4.4, 15.12.4.5).
use Rattle.std.specs.Prelude.{◌≡◌, ℕ, ◌+◌, true, List, ◌∷◌, map, Some}
use Rattle.std.specs.Str.{bytes_eq}
use Rattle.jc_types.specs.declared.erased.Erased.{Erased}
use Rattle.jc_types.specs.declared.form.Ty.{Ty}
use Rattle.jc_types.specs.declared.ids.ClassId.{ClassId}
use Rattle.jc_types.specs.declared.ids.MethodId.{MethodId}
use Rattle.jc_types.specs.Accessors.{class_count, method_name_of, params_of, result_of}
use Rattle.jc_running.specs.declared.value.Value.{Value}
use Rattle.jc_running.specs.declared.value.Value.TheVariants.{Address}
use Rattle.jc_running.specs.Outcomes.{bind}
use Rattle.jc_heaps.specs.declared.state.Object.{Object}
use Rattle.jc_heaps.specs.Classes.{is_of}
use Rattle.jc_heaps.specs.Erases.{ErasedState}
use Rattle.jc_bridges_spec.specs.Bridging.{bridges}
use Rattle.jc_bridges_spec.specs.Descriptors.{is_selectable}
use Rattle.jc_erased.specs.declared.program.ErasedProgram.{ErasedProgram}
use Rattle.jc_erased.specs.Programs.{bridges_of, erased_type, name_of_method}
use Rattle.jc_erased.specs.Calls.{Bodies, answered, call_named, entered_all, run_method}

-- each class has its bridges, methods that a call may select have one name where the table has one, and each result is of its own erasure, as all types are
-- but the null type
pub record HasBridges (E : ErasedProgram) : Type 0 where
  pub bridges_are : (k : ClassId) → bridges_of E k ≡ bridges E.table k
  pub names : (m n : MethodId) → is_selectable E.table m ≡ true → is_selectable E.table n ≡ true
      → bytes_eq (name_of_method E m) (name_of_method E n) ≡ bytes_eq (method_name_of E.table m) (method_name_of E.table n)
  pub results : (m : MethodId) (t : Ty) → result_of E.table m ≡ Some t → is_of E.table (erased_type E t) (erased_type E t) ≡ true

-- a call of m does what `own` does between the checks that the declared types of the two ask for, with the same units, in each state
abbrev pub RunsBody : ErasedProgram → Bodies → ℕ → Object Erased → MethodId → MethodId → List Value → Type 0
RunsBody E body a o m own args =
    (u : ℕ) (s : ErasedState)
    → call_named E body (class_count E.table + 2) a o m args u s
    ≡ bind (entered_all E (params_of E.table m) (params_of E.table own) args) (λ vs.
    bind (run_method E body own (Address a ∷ vs)) (answered E (result_of E.table m) (result_of E.table own))) u s
