-- A value that grows, said of what equals it.
use Rattle.std.proofs.Common.{◌≡◌, ℕ, List, sym, subst}
use Rattle.jc_lexer.specs.declared.token.Token.{Token}
use Rattle.jc_tree.specs.declared.expression.Expr.{Expr}
use Rattle.jc_reading.specs.Reading.{Read, Run}
use Rattle.jc_parse_expr.proofs.Grows.{Grows}

pub grows_same : {P : Type 0} (make : Expr → P → Expr) (part : Expr → Run P) (whole : Read Expr) (v w : Expr) (left k : ℕ) (rest q : List Token) → Grows make part whole v left rest → w ≡ v → q ≡ rest → k ≡ left → Grows make part whole w k q
grows_same make part whole v w left k rest q g e f i =
    subst (λ (x : Expr). Grows make part whole x k q) (sym e) (subst (λ (r : List Token). Grows make part whole v k r) (sym f) (subst (λ (n : ℕ). Grows make part whole v n rest) (sym i) g))
