use Rattle.jc_types.specs.Erasing.{Reaches}
use Rattle.jc_types.proofs.erasing.inner_type.Given as goal

abbrev pub invariant-loop-inner : goal.invariant-loop-inner
invariant-loop-inner l = Reaches l.fn.ty l.inner l.dims
