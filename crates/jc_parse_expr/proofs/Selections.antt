-- How high a value is of which something is selected.
use Rattle.std.proofs.Common.{◌≡◌, ◌+◌, min, max, arith}
use Rattle.jc_tree.specs.declared.expression.Expr.{Expr}
use Rattle.jc_tree.specs.Heights.{capped, expr_height}
use Rattle.jc_tree.proofs.HeightsOfExpressions.{expr_height-Call, expr_height-Field, expr_height-Index, expr_height-InnerNew}
use Rattle.jc_parse_expr.specs.PrimeCode.{member_height, of_member, of_selector, selector_height}
use Rattle.jc_parse_expr.specs.declared.parts.MemberTree.{MemberTree}
use Rattle.jc_parse_expr.specs.declared.parts.MemberTree.TheVariants as member_of
use Rattle.jc_parse_expr.specs.declared.parts.SelectorTree.{SelectorTree}
use Rattle.jc_parse_expr.specs.declared.parts.SelectorTree.TheVariants as selector_of

of_member_height : (v : Expr) (m : MemberTree) → capped (expr_height (of_member v m)) ≡ min (max (capped (expr_height v)) (capped (member_height m)) + 1) 4294967295
of_member_height v (member_of.Field name) = let t = expr_height-Field v name in omega (arith, t)
of_member_height v (member_of.Call type_args name actuals) = let t = expr_height-Call v type_args name actuals in omega (arith, t)

pub selected_height : (v : Expr) (s : SelectorTree) → capped (expr_height (of_selector v s)) ≡ min (max (capped (expr_height v)) (capped (selector_height s)) + 1) 4294967295
selected_height v (selector_of.Index index) = let t = expr_height-Index v index in omega (arith, t)
selected_height v (selector_of.New creation) = let t = expr_height-InnerNew v creation in omega (arith, t)
selected_height v (selector_of.Member member) = of_member_height v member
