-- A call by the class of an object that selects no body for the called method.
use Rattle.std.specs.Prelude.{◌≡◌, ℕ, List}
use Rattle.std.proofs.Common.{ap, ◌∙◌}
use Rattle.jc_types.specs.declared.ids.MethodId.{MethodId}
use Rattle.jc_running.specs.declared.value.Value.{Value}
use Rattle.jc_running.specs.declared.value.Value.TheVariants.{Address}
use Rattle.jc_running.specs.Outcomes.{bind, wrong}
use Rattle.jc_heaps.specs.Erases.{ErasedState}
use Rattle.jc_heaps.specs.States.{look}
use Rattle.jc_heaps.specs.Classes.{methods_class}
use Rattle.jc_erased.specs.declared.program.ErasedProgram.{ErasedProgram}
use Rattle.jc_erased.specs.Programs.{is_selected}
use Rattle.jc_erased.specs.Calls.{Bodies, IsUnselected, call_selected, call_virtual}

pub unselected_wrong : (P : ErasedProgram) (body : Bodies) (m : MethodId) (a : ℕ) (args : List Value) (u : ℕ) (s : ErasedState)
    → IsUnselected P m a s → call_virtual P body m (Address a) args u s ≡ wrong u s
unselected_wrong P body m a args u s (o, found, none) =
    ap (λ f. bind (look (λ t. f)) (λ o. call_selected P body (is_selected P (methods_class o.kept) m) a o m args) u s) found
    ∙ ap (λ c. call_selected P body c a o m args u s) none
