-- Each place has a longest expression, or shows that none begins there.
use Rattle.std.proofs.Common.{◌≡◌, ℕ, ◌-◌, ◌≤◌, ◌⊎◌, inl, inr, List, length, drop, refl}
use Rattle.jc_lexer.specs.declared.token.Token.{Token}
use Rattle.jc_tree.specs.declared.fault.ParseFault.TheVariants as fault_of
use Rattle.jc_tree.specs.declared.expression.Expr.{Expr}
use Rattle.jc_reading.specs.Reading.{Read, Found, Stopped}
use Rattle.jc_expr_laws.specs.ExprReading.{exprs}
use Rattle.jc_expr_laws.specs.ExprAnswers.{LongestExpr, NoExprFault, ExpressionsAreTold}
use Rattle.jc_expr_laws.proofs.ExprPlaces.{top, one_tree, found_here, only_here, longest_here, reach_here, none_here}

by_read : (tokens : List Token) (at : ℕ) → at ≤ length tokens → (m : Read Expr) → exprs.expr top (drop at tokens) ≡ m → LongestExpr tokens at ⊎ ((place : ℕ) × NoExprFault tokens at (fault_of.Syntax place))
by_read tokens at le (Found e r l) f =
    let rest = drop at tokens in
    inl (record {
      expr = e;
      next = length tokens - length r;
      reach = length tokens - l;
      stands = found_here tokens rest at le refl e r l f;
      only = only_here tokens rest at le refl e r l f;
      longest = longest_here tokens rest at le refl e r l f;
      is_reach = reach_here tokens rest at le refl e r l f;
    })
by_read tokens at le (Stopped l) f = inr (length tokens - l, none_here tokens (drop at tokens) at le refl l f)

pub expressions_are_told : ExpressionsAreTold
expressions_are_told = record {
  one_expr = λ tokens at expr other next s t. one_tree (drop at tokens) expr other (drop next tokens) s t;
  decided = λ tokens at le. by_read tokens at le (exprs.expr top (drop at tokens)) refl;
}
