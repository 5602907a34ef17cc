-- The worked trees, by the laws of each form.
use Rattle.std.proofs.Common.{ap, rules}
use Rattle.jc_tree.specs.declared.types.BaseTree.TheVariants as aBase
use Rattle.jc_tree.specs.declared.types.TypeTree.{out-roll-TypeTree}
use Rattle.jc_tree.proofs.HeightsOfTypes.{type_height-made, base_height-Primitive, base_height-Class, class_height-made, part_height-made, arg_height-Exact}
use Rattle.jc_tree.proofs.HeightsOfExpressions.{expr_height-Chain, expr_height-Name, expr_height-Cast, operand_height-Binary}
use Rattle.jc_tree.proofs.HeightsOfStatements.{stmt_height-If, stmt_height-Empty, clause_height-made}
use Rattle.jc_grammar.proofs.TokensOfTypes.{type_tokens-made, base_tokens-Primitive, base_tokens-Class, class_tokens-made, part_tokens-made, arg_tokens-Exact}
use Rattle.jc_grammar.proofs.TokensOfExpressions.{expr_tokens-Chain, expr_tokens-Name, expr_tokens-Cast, operand_tokens-Binary}
use Rattle.jc_grammar.proofs.TokensOfStatements.{stmt_tokens-If, stmt_tokens-Empty, clause_tokens-made}
use Rattle.jc_grammar.proofs.ShapesOfExpressions.{expr_shape-Chain, expr_shape-Name, expr_shape-Assign, expr_shape-Cast, expr_shape-Prefix, expr_shape-Index, expr_shape-InnerNew, expr_shape-New, operand_shape-Binary, creation_shape-Sized}
use Rattle.jc_grammar.proofs.ShapesOfStatements.{stmt_shape-If, stmt_shape-Empty, clause_shape-made}
use Rattle.jc_grammar.specs.Shapes.{Shape}
use Rattle.jc_grammar.specs.Worked.{letter, WorkedTrees}

ruleset tokens = (expr_tokens-Chain, expr_tokens-Name, expr_tokens-Cast, operand_tokens-Binary, type_tokens-made, base_tokens-Primitive, base_tokens-Class, class_tokens-made, part_tokens-made, arg_tokens-Exact, stmt_tokens-If, stmt_tokens-Empty, clause_tokens-made)

ruleset heights = (expr_height-Chain, expr_height-Name, expr_height-Cast, operand_height-Binary, type_height-made, base_height-Primitive, base_height-Class, class_height-made, part_height-made, arg_height-Exact, stmt_height-If, stmt_height-Empty, clause_height-made)

ruleset shapes = (expr_shape-Chain, expr_shape-Name, expr_shape-Assign, expr_shape-Cast, expr_shape-Prefix, expr_shape-Index, expr_shape-InnerNew, expr_shape-New, operand_shape-Binary, creation_shape-Sized, stmt_shape-If, stmt_shape-Empty, clause_shape-made, out-roll-TypeTree, aBase.outs-Primitive, aBase.outs-Class)

pub trees_are_worked : WorkedTrees
trees_are_worked = record {
  sum_tokens = simp tokens;
  sum_is = simp shapes;
  sum_height = simp heights;
  loose_left = simp shapes;
  chain_is = simp shapes;
  right_chain = simp shapes;
  assign_is = simp shapes;
  left_assign = simp shapes;
  cast_tokens = simp tokens;
  cast_is = simp shapes;
  cast_height = simp heights;
  cast_of_minus = simp shapes;
  class_cast_of_minus = simp shapes;
  shift_is = simp shapes;
  shift_told = simp tokens (search rules);
  apart_not_told = simp tokens (search rules);
  lists_told = simp tokens (search rules);
  lists_height = simp heights;
  creation_takes_no_selector = simp shapes;
  inner_creation_takes_no_selector = simp shapes;
  branches_tokens = simp tokens;
  branches_good = simp shapes;
  branches_height = simp heights;
  inner_else_good = simp shapes;
  outer_else_bad = simp shapes;
  name_no_effect = ap (λ (s : Shape). s.effect) (expr_shape-Name (letter 97 0));
}
