-- A computation that ends another one ends it in the same way.
use Rattle.std.proofs.Common.{refl}
use Rattle.jc_running.specs.Outcomes.{Out, on_both, throw}
use Rattle.jc_meaning.specs.Kept.{TypedState, TypedRun}
use Rattle.jc_values.specs.declared.halt.Halt.{Halt}
use Rattle.jc_values.specs.declared.halt.Halt.TheVariants as halt
use Rattle.jc_values.specs.declared.halt.Running.{Running}
use Rattle.jc_values.specs.Doing.{Halted}

pub halted_on : {A B : Type 0} (o : Out TypedState A) (f : A → TypedRun B) (h : Halt) (r : Running) → Halted o h r → Halted (on_both o f throw) h r
halted_on o f (halt.Thrown address) r e = rw e refl
halted_on o f (halt.Exited code) r e = rw e refl
halted_on o f halt.Going r e = rw e refl
halted_on o f halt.Wrong r e = rw e refl
halted_on o f halt.WantOfMemory r e = tt
