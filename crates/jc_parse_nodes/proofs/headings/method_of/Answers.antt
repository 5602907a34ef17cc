use Rattle.std.proofs.Common.{rules}
use Rattle.jc_tree.specs.declared.types.TypeTree.{TypeTree}
use Rattle.jc_parse_nodes.specs.declared.heads.Named.{Named}
use Rattle.jc_parse_nodes.specs.declared.heads.Shape.TheVariants as shape_of
use Rattle.jc_tree.specs.declared.statement.ResultType.TheVariants as result_of
use Rattle.jc_parse_nodes.proofs.headings.method_of.Goals as goal

pub returns : goal.returns
returns c = c.join.ensures (λ (a : TypeTree) (b : Named). shape_of.Method (result_of.Type a) b) (λ a b r p. search rules)
