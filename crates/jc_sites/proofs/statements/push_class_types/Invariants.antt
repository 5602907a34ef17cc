use Rattle.std.proofs.Common.{◌≡◌, ◌++◌, drop, map}
use Rattle.jc_declares.specs.Sites.{OfClassType}
use Rattle.jc_sites.specs.Joining.{placed}
use Rattle.jc_sites.proofs.statements.push_class_types.Given as goal

abbrev pub invariant-loop-tree : goal.invariant-loop-tree
invariant-loop-tree l = l.uses ++ placed l.spot (map (λ c. OfClassType c) (drop l.tree-index l.trees)) ≡ l.initial.uses ++ placed l.spot (map (λ c. OfClassType c) l.trees)
