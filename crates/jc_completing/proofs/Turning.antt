-- Turns: each spends a unit. And a finally block that has a statement.
use Rattle.std.proofs.Common.{◌≡◌, ℕ, zero, suc, ◌-◌, ◌<◌, List, [], ◌∷◌, refl, arith}
use Rattle.jc_running.specs.declared.value.Completion.{Completion}
use Rattle.jc_running.specs.declared.value.Turn.{Turn}
use Rattle.jc_running.specs.Outcomes.{Going, on_both, on_turn, throw, turns, both_ways, bind, instead, give}
use Rattle.jc_typed.specs.declared.program.TypedProgram.{TypedProgram}
use Rattle.jc_typed.specs.Trees.{Stmt}
use Rattle.jc_meaning.specs.Kept.{TypedState, TypedRun}
use Rattle.jc_meaning.specs.Expressions as e
use Rattle.jc_meaning.specs.Statements as s

pub turns_none : {I : Type 0} (k : ℕ) (turn : I → TypedRun (Turn I)) (i : I) (u : ℕ) (t : TypedState) → k ≡ 0 → turns k turn i u t ≡ Going t
turns_none k turn i u t h = rw h refl

pub turns_spent : {I : Type 0} (k : ℕ) (turn : I → TypedRun (Turn I)) (i : I) (u : ℕ) (t : TypedState) → u ≡ 0 → turns k turn i u t ≡ Going t
turns_spent zero turn i u t h = refl
turns_spent (suc k) turn i u t h = rw h refl

pub turns_at : {I : Type 0} (k : ℕ) (turn : I → TypedRun (Turn I)) (i : I) (u : ℕ) (t : TypedState) → 0 < k → 0 < u
    → turns k turn i u t ≡ on_both (turn i (u - 1) t) (λ r. on_turn r (turns (k - 1) turn)) throw
turns_at zero turn i u t h g = absurd (omega arith)
turns_at (suc k) turn i zero t h g = absurd (omega arith)
turns_at (suc k) turn i (suc u) t h g =
    let a : k ≡ suc k - 1 = omega arith in
    let b : u ≡ suc u - 1 = omega arith in
    rw (← a, ← b) refl

pub finally_some : (P : TypedProgram) (r : e.Inner) (run : Stmt → TypedRun Completion) (k : ℕ) (m : TypedRun Completion) (ss : List Stmt) (u : ℕ) (t : TypedState)
    → (ss ≡ [] → ⊥) → s.finally P r run k m ss u t
    ≡ both_ways m (λ c. bind (s.run_all P r run k ss) (λ d. instead d (give c))) (λ a. bind (s.run_all P r run k ss) (λ d. instead d (throw a))) u t
finally_some P r run k m [] u t h = absurd (h refl)
finally_some P r run k m (x ∷ ss) u t h = refl
