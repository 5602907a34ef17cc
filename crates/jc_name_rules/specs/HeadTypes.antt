-- What the types break that heads write.
use Rattle.std.specs.Prelude.{List, ◌++◌}
use Rattle.jc_tree.specs.declared.statement.DeclarationHead.{DeclarationHead}
use Rattle.jc_tree.specs.declared.statement.MethodHead.{MethodHead}
use Rattle.jc_declares.specs.declared.heads.Heads.{Heads}
use Rattle.jc_declares.specs.Heads.{superclass_trees, interface_trees}
use Rattle.jc_declares.specs.Looking.{Knowledge}
use Rattle.jc_declares.specs.Sites.{params_of_head, listed_params}
use Rattle.jc_declares.specs.Writing.{Reading, Broken}
use Rattle.jc_declares.specs.Breaks.{bounds_broken, class_trees_broken, result_broken, formals_broken}

-- the bounds of the type parameters of a class, its superclass and its superinterfaces
abbrev pub class_types : Heads → Knowledge → Reading → DeclarationHead → List Broken
class_types H K r head = bounds_broken H K r (params_of_head head) ++ class_trees_broken H K r (superclass_trees head) ++ class_trees_broken H K r (interface_trees head)

-- the bounds of the type parameters of a method, its result, its formal parameters and what it throws
abbrev pub head_types : Heads → Knowledge → Reading → MethodHead → List Broken
head_types H K r head = bounds_broken H K r (listed_params head.params) ++ result_broken H K r head.result ++ formals_broken H K r head.formals ++ class_trees_broken H K r head.throws
