-- What an expression in parentheses reads.
use Rattle.std.proofs.Common.{◌≡◌, ℕ, min, List, length, ap, ◌∙◌}
use Rattle.jc_lexer.specs.declared.token.Sign.TheVariants as sign_of
use Rattle.jc_lexer.specs.declared.token.Token.{Token}
use Rattle.jc_tree.specs.declared.expression.Expr.{Expr}
use Rattle.jc_tree.specs.declared.expression.Expr.TheVariants as expr_of
use Rattle.jc_reading.specs.Kinds.{sign_code}
use Rattle.jc_reading.specs.Reading.{Read, Found, Stopped, found, noting, becoming, as_new, in_turn, of_kind}
use Rattle.jc_parse_expr.specs.PrimeCode.{expr_in}
use Rattle.jc_parse_expr.proofs.MeasuredSteps.{then_made}

pub closed_reads : (at h : ℕ) (ts q r : List Token) (e : Expr) (l : ℕ) → expr_in h ts ≡ Found e q l → of_kind (sign_code sign_of.RightParen) q ≡ found tt r
    → as_new (λ (p : Expr × Unit {0}). expr_of.Paren at p.0) (in_turn (expr_in h) (of_kind (sign_code sign_of.RightParen))) ts ≡ Found (expr_of.Paren at e) r (min l (length r))
closed_reads at h ts q r e l f g =
    then_made (λ (p : Expr × Unit {0}). expr_of.Paren at p.0) (expr_in h) (of_kind (sign_code sign_of.RightParen)) ts q e l f ∙ ap (λ (v : Read (Unit {0})). noting l (becoming (λ (u : Unit {0}). expr_of.Paren at e) v)) g

pub closed_open : (at h : ℕ) (ts q : List Token) (e : Expr) (l : ℕ) → expr_in h ts ≡ Found e q l → of_kind (sign_code sign_of.RightParen) q ≡ Stopped (length q)
    → as_new (λ (p : Expr × Unit {0}). expr_of.Paren at p.0) (in_turn (expr_in h) (of_kind (sign_code sign_of.RightParen))) ts ≡ Stopped (min l (length q))
closed_open at h ts q e l f g =
    then_made (λ (p : Expr × Unit {0}). expr_of.Paren at p.0) (expr_in h) (of_kind (sign_code sign_of.RightParen)) ts q e l f ∙ ap (λ (v : Read (Unit {0})). noting l (becoming (λ (u : Unit {0}). expr_of.Paren at e) v)) g
