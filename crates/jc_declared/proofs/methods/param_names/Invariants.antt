use Rattle.std.proofs.Common.{◌≡◌, take, map}
use Rattle.jc_declares.specs.Making.{param_name}
use Rattle.jc_declared.proofs.methods.param_names.Given as goal

abbrev pub invariant-loop-formal : goal.invariant-loop-formal
invariant-loop-formal l = l.list ≡ map (param_name l.file) (take l.formal-index l.formals)
