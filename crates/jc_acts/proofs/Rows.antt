-- The elements of an array that are arrays themselves, one after the other.
use Rattle.std.proofs.Common.{◌≡◌, ℕ, zero, suc, ◌+◌, ◌-◌, ◌<◌, arith, ap, ◌∙◌}
use Rattle.jc_running.specs.declared.value.Value.{Value}
use Rattle.jc_running.specs.Outcomes.{Out, Val, on_both, throw}
use Rattle.jc_heaps.specs.States.{set_part}
use Rattle.jc_typed.specs.declared.program.TypedProgram.{TypedProgram}
use Rattle.jc_meaning.specs.Kept.{TypedState, TypedRun}
use Rattle.jc_meaning.specs.Expressions as e
use Rattle.jc_values.specs.Idle.{idle}

pub one_more : (P : TypedProgram) (a at left : ℕ) (m : TypedRun Value) (v : Value) (u u1 u2 : ℕ) (s s1 s2 : TypedState) → 0 < left
    → m u s ≡ Val v u1 s1 → set_part a at v u1 s1 ≡ Val tt u2 s2 → e.fill P idle a at left m u s ≡ e.fill P idle a (at + 1) (left - 1) m u2 s2
one_more P a at zero m v u u1 u2 s s1 s2 h p q = absurd (omega arith)
one_more P a at (suc n) m v u u1 u2 s s1 s2 h p q =
    let next : suc at ≡ at + 1 = omega arith in
    let fewer : n ≡ suc n - 1 = omega arith in
    let made : e.fill P idle a at (suc n) m u s ≡ on_both (set_part a at v u1 s1) (λ x. e.fill P idle a (suc at) n m) throw =
    ap (λ (o : Out TypedState Value). on_both (on_both o (set_part a at) throw) (λ x. e.fill P idle a (suc at) n m) throw) p in
    let stored : on_both (set_part a at v u1 s1) (λ x. e.fill P idle a (suc at) n m) throw ≡ e.fill P idle a (suc at) n m u2 s2 =
    ap (λ (o : Out TypedState (Unit {0})). on_both o (λ x. e.fill P idle a (suc at) n m) throw) q in
    rw (← next, ← fewer) (made ∙ stored)
