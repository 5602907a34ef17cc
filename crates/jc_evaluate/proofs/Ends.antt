-- How a run ends: the units of its node, and what holds of the outcome that a result stands for.
use Rattle.std.proofs.Common.{◌≡◌, ℕ, zero, suc, ◌-◌, ◌<◌, Result, Ok, Err, refl, subst, sym, arith}
use Rattle.jc_running.specs.Outcomes.{Out, Going, spend}
use Rattle.jc_meaning.specs.Kept.{TypedState, TypedRun}
use Rattle.jc_values.specs.declared.halt.Halt.{Halt}
use Rattle.jc_values.specs.declared.halt.Halt.TheVariants as halt
use Rattle.jc_values.specs.declared.halt.Running.{Running}
use Rattle.jc_values.specs.Doing.{Does, OutOf}

pub spent_none : {A : Type 0} (m : TypedRun A) (u : ℕ) (s : TypedState) → u ≡ 0 → spend m u s ≡ Going s
spent_none m zero s h = refl
spent_none m (suc u) s h = absurd (omega arith)

pub spent_one : {A : Type 0} (m : TypedRun A) (u : ℕ) (s : TypedState) → 0 < u → spend m u s ≡ m (u - 1) s
spent_one m zero s h = absurd (omega arith)
spent_one m (suc u) s h = let e : u ≡ suc u - 1 = omega arith in rw (← e) refl

pub out_of : {A : Type 0} (o : Out TypedState A) (x : Result A Halt) (r : Running) (Q : Out TypedState A → Type 0)
    → (x ≡ Err halt.WantOfMemory → ⊥) → Does o x r → OutOf x r Q → Q o
out_of o (Ok a) r Q known e h = subst Q (sym e) h
out_of o (Err (halt.Thrown address)) r Q known e h = subst Q (sym e) h
out_of o (Err (halt.Exited code)) r Q known e h = subst Q (sym e) h
out_of o (Err halt.Going) r Q known e h = subst Q (sym e) h
out_of o (Err halt.Wrong) r Q known e h = subst Q (sym e) h
out_of o (Err halt.WantOfMemory) r Q known e h = absurd (known refl)
