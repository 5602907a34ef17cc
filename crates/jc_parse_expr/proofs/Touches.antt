-- Whether a touching `>` stands before the last tokens.
use Rattle.std.proofs.Common.{◌≡◌, ℕ, ◌-◌, ◌≤◌, false, List, [], ◌∷◌, length, refl, ◌∙◌, arith}
use Rattle.std.specs.Prelude.{◌==◌}
use Rattle.std.proofs.lemmas.Bool.{cond-false}
use Rattle.std.proofs.lemmas.Bool.Decides.{nat_tests}
use Rattle.jc_lexer.specs.declared.token.Token.{Token}
use Rattle.jc_expr_laws.specs.CompareReading.{is_touching, touched_before}

pub touched_none : (ts : List Token) (n : ℕ) → length ts ≤ n → touched_before ts n ≡ false
touched_none [] n e = refl
touched_none (t ∷ ts) n e =
    let f : (length ts == n) ≡ false = grind (arith, nat_tests) in
    cond-false (length ts == n) (is_touching t) (touched_before ts n) f ∙ touched_none ts n (omega arith)

head_same : (x t : Token) (xs more : List Token) → x ∷ xs ≡ t ∷ more → x ≡ t
head_same x t xs more e = cc
