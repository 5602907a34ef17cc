use Rattle.std.proofs.Common.{◌≡◌, take, map}
use Rattle.jc_declares.specs.Heads.{path_of_class}
use Rattle.jc_heads.proofs.paths.paths.Given as goal

abbrev pub invariant-loop-tree : goal.invariant-loop-tree
invariant-loop-tree l = l.list ≡ map path_of_class (take l.tree-index l.trees)
