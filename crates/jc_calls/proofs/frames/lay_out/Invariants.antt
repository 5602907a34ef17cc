use Rattle.std.proofs.Common.{◌≡◌, take}
use Rattle.jc_jvm.specs.Frames.{laid_out}
use Rattle.jc_calls.proofs.frames.lay_out.Given as goal

abbrev pub invariant-loop-value : goal.invariant-loop-value
invariant-loop-value l = l.locals.items ≡ laid_out (take l.value-index l.arguments)
