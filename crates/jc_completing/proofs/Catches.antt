-- Catch clauses as a list from the first one on.
use Rattle.std.proofs.Common.{◌≡◌, ℕ, List, ◌∷◌, Bool, true, false, Option, Some, refl, ap, ◌∙◌, if◌then◌else◌}
use Rattle.jc_types.specs.declared.erased.Erased.{Erased}
use Rattle.jc_running.specs.declared.value.Completion.{Completion}
use Rattle.jc_running.specs.declared.value.Value.TheVariants.{Address}
use Rattle.jc_running.specs.Outcomes.{behind, stop}
use Rattle.jc_heaps.specs.States.{set_local}
use Rattle.jc_typed.specs.declared.program.TypedProgram.{TypedProgram}
use Rattle.jc_typed.specs.Trees.{Catches, NoCatches, MoreCatches}
use Rattle.jc_meaning.specs.Kept.{TypedRun}
use Rattle.jc_meaning.specs.Statements as s
use Rattle.jc_values.specs.Idle.{idle}
use Rattle.jc_places.specs.Sorts.{Catch, catches_before}
use Rattle.jc_pending.specs.Level.{inner, run}
use Rattle.jc_completing.specs.Catching.{first_catch, taken}

one : (P : TypedProgram) (d a : ℕ) (b : Bool) (c : Catch) (more : Option Catch)
    → (if b then behind (set_local c.local (Address a)) (run P d c.body) else taken P d a more) ≡ taken P d a (if b then Some c else more)
one P d a true c more = refl
one P d a false c more = refl

pub caught_first : (P : TypedProgram) (d : ℕ) (catches : Catches) (more : List Catch) (a : ℕ) (e : Erased)
    → s.caught P (inner P d) (run P d) d catches a e (taken P d a (first_catch P e more)) ≡ taken P d a (first_catch P e (catches_before catches more))
caught_first P d NoCatches more a e = refl
caught_first P d (MoreCatches before place local types body) more a e =
    let c : Catch = record { local = local; types = types; body = body } in
    ap (λ (m : TypedRun Completion). s.caught P (inner P d) (run P d) d before a e m) (one P d a (s.is_any_of P idle (λ x. stop) 0 e types) c (first_catch P e more))
    ∙ caught_first P d before (c ∷ more) a e
