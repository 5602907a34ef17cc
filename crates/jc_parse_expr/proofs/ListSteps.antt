-- What the steps of the code of lists read.
use Rattle.std.proofs.Common.{◌≡◌, ℕ, zero, suc, ◌-◌, ◌<◌, min, Bool, true, false, List, [], ◌∷◌, map, length, refl, sym, ap, ◌∙◌, arith}
use Rattle.std.specs.Prelude.{◌||◌, ◌==◌}
use Rattle.std.proofs.lemmas.Bool.{cond-true, cond-false}
use Rattle.jc_lexer.specs.declared.token.Sign.TheVariants as sign_of
use Rattle.jc_lexer.specs.declared.token.Token.{Token}
use Rattle.jc_tree.specs.declared.expression.ArrayInit.{ArrayInit}
use Rattle.jc_tree.specs.declared.expression.Expr.{Expr}
use Rattle.jc_tree.specs.declared.expression.Init.{Init}
use Rattle.jc_reading.specs.Kinds.{sign_code, front_code, one_of}
use Rattle.jc_reading.specs.Reading.{Read, Found, Stopped, Run, found, noting, ◌>>=◌, becoming, joined, as_new, in_turn, perhaps, any_number, of_kind, at_kind, before_it, behind_it, first_and_more, each_behind, commas_run, This, That}
use Rattle.jc_reading.proofs.Turns.{times_as}
use Rattle.jc_reading.specs.Reach.{Near}
use Rattle.jc_part_laws.specs.PartReading.{closing_run, row_made}
use Rattle.jc_parse_type.proofs.CodeSteps.{behind_far}
use Rattle.jc_expr_laws.specs.ExprReading.{readers, next_readers}
use Rattle.jc_expr_laws.specs.PrimeReading.{actuals_made, actuals_run, or_empty, lengths_run, array_made, array_run}
use Rattle.jc_parse_expr.specs.PrimeCode.{array_in, expr_in, init_in, init_row_run, empty_row_tree, row_tree, length_of, length_run, some_exprs_run}
use Rattle.jc_parse_expr.specs.declared.parts.Row.{Row}
use Rattle.jc_parse_expr.proofs.PrimeNears.{near_bracketed, near_init, near_row}
use Rattle.jc_parse_expr.proofs.LevelNears.{near_expr, near_array_of}
use Rattle.jc_parse_expr.proofs.MeasuredSteps.{twice, then_made, mapped_made, behind_kind, behind_place}

-- any number in brackets, by the expressions in them
pub lengths_as : (m : Run Expr) (ts : List Token) → as_new (map length_of) (lengths_run m) ts ≡ any_number (length_run m) ts
lengths_as m ts = times_as length_of (length ts) (in_turn (of_kind (sign_code sign_of.LeftBracket)) (in_turn m (of_kind (sign_code sign_of.RightBracket)))) ts

pub length_inside : (h : ℕ) (ts q : List Token) → of_kind (sign_code sign_of.LeftBracket) ts ≡ found tt q → length_run (expr_in h) ts ≡ as_new before_it (in_turn (expr_in h) (of_kind (sign_code sign_of.RightBracket))) q
length_inside h ts q e = behind_kind length_of (sign_code sign_of.LeftBracket) (in_turn (expr_in h) (of_kind (sign_code sign_of.RightBracket))) ts q (near_bracketed h (expr_in h) (array_in h) (near_expr h) (near_array_of h)) e

pub near_init_in : (h : ℕ) → Near (init_in h)
near_init_in h = near_init (expr_in h) (array_in h) (near_expr h) (near_array_of h)

pub comma_expr_inside : (h : ℕ) (ts q : List Token) → of_kind (sign_code sign_of.Comma) ts ≡ found tt q → as_new behind_it (in_turn (of_kind (sign_code sign_of.Comma)) (expr_in h)) ts ≡ expr_in h q
comma_expr_inside h ts q e = behind_far (sign_code sign_of.Comma) (expr_in h) ts q e (near_expr h q)

pub comma_init_inside : (h : ℕ) (ts q : List Token) → of_kind (sign_code sign_of.Comma) ts ≡ found tt q → as_new behind_it (in_turn (of_kind (sign_code sign_of.Comma)) (init_in h)) ts ≡ init_in h q
comma_init_inside h ts q e = behind_far (sign_code sign_of.Comma) (init_in h) ts q e (near_init_in h q)

row_first : {A : Type 0} (l : ℕ) (a : A) (m : Read (List (Unit {0} × A))) → becoming first_and_more (noting l (becoming (joined a) m)) ≡ noting l (becoming (λ more. a ∷ more) (becoming (map behind_it) m))
row_first l a (Found list r k) = refl
row_first l a (Stopped k) = refl

pub commas_first : {A : Type 0} (run : Run A) (ts q : List Token) (a : A) (l : ℕ) → run ts ≡ Found a q l → commas_run run ts ≡ noting l (becoming (λ more. a ∷ more) (any_number (as_new behind_it (in_turn (of_kind (sign_code sign_of.Comma)) run)) q))
commas_first {A = A} run ts q a l e =
    ap (λ (v : Read A). becoming first_and_more (v >>= (λ a q. becoming (joined a) (each_behind sign_of.Comma run q)))) e
    ∙ row_first l a (each_behind sign_of.Comma run q)
    ∙ ap (λ (v : Read (List A)). noting l (becoming (λ more. a ∷ more) v)) (times_as behind_it (length q) (in_turn (of_kind (sign_code sign_of.Comma)) run) q)

-- rows of initialisers

abbrev Closed : {A : Type 0} → Read A → (A → List Token → Read (List (Unit {0} × A))) → Run Bool → Read (List A × Bool)
Closed v each closing = becoming row_made (becoming That (v >>= (λ a q. becoming (joined a) (each a q >>= (λ b r. becoming (joined b) (closing r))))))

abbrev Listed : {A : Type 0} → Read A → (A → List Token → Read (List (Unit {0} × A))) → Run Bool → Read (List A × Bool)
Listed v each closing = becoming first_and_more (v >>= (λ a q. becoming (joined a) (each a q))) >>= (λ list r. becoming (joined list) (closing r))

row_ends : {A : Type 0} (l k : ℕ) (a : A) (b : List (Unit {0} × A)) (c : Read Bool) → becoming row_made (becoming That (noting l (becoming (joined a) (noting k (becoming (joined b) c))))) ≡ noting (min l k) (becoming (joined (a ∷ map behind_it b)) c)
row_ends l k a b (Found t r j) = let e : min l (min k j) ≡ min (min l k) j = omega arith in ap (λ i. Found (a ∷ map behind_it b, t) r i) e
row_ends l k a b (Stopped j) = let e : min l (min k j) ≡ min (min l k) j = omega arith in ap (λ i. Stopped i) e

row_each : {A : Type 0} (l : ℕ) (a : A) (w : Read (List (Unit {0} × A))) (closing : Run Bool) → becoming row_made (becoming That (noting l (becoming (joined a) (w >>= (λ b r. becoming (joined b) (closing r)))))) ≡ becoming first_and_more (noting l (becoming (joined a) w)) >>= (λ list r. becoming (joined list) (closing r))
row_each l a (Found b r k) closing = row_ends l k a b (closing r)
row_each l a (Stopped k) closing = refl

row_listed : {A : Type 0} (v : Read A) (each : A → List Token → Read (List (Unit {0} × A))) (closing : Run Bool) → Closed v each closing ≡ Listed v each closing
row_listed (Found a q l) each closing = row_each l a (each a q) closing
row_listed (Stopped l) each closing = refl

pub two_of : (c d : ℕ) (ts : List Token) → one_of (c ∷ d ∷ []) ts ≡ (one_of (c ∷ []) ts || one_of (d ∷ []) ts)
two_of c d ts = choice (c == front_code ts) (d == front_code ts)
  where
    choice : (a b : Bool) → (a || (b || false)) ≡ ((a || false) || (b || false))
    choice true b = refl
    choice false b = refl

-- where the row doesn't end at once, its parts and then its end
pub row_on : (init : Run Init) (ts : List Token) → one_of (sign_code sign_of.Comma ∷ sign_code sign_of.RightBrace ∷ []) ts ≡ false → init_row_run init ts ≡ commas_run init ts >>= (λ list r. becoming (joined list) (closing_run sign_of.Comma sign_of.RightBrace r))
row_on init ts e =
    ap (becoming row_made) (cond-false (one_of (sign_code sign_of.Comma ∷ sign_code sign_of.RightBrace ∷ []) ts) _ _ e)
    ∙ row_listed (init ts) (λ a q. each_behind sign_of.Comma init q) (closing_run sign_of.Comma sign_of.RightBrace)

pub row_empty : (init : Run Init) (ts : List Token) → one_of (sign_code sign_of.Comma ∷ sign_code sign_of.RightBrace ∷ []) ts ≡ true → as_new row_tree (init_row_run init) ts ≡ as_new empty_row_tree (closing_run sign_of.Comma sign_of.RightBrace) ts
row_empty init ts e =
    ap (λ v. becoming row_tree (becoming row_made v)) (cond-true (one_of (sign_code sign_of.Comma ∷ sign_code sign_of.RightBrace ∷ []) ts) _ _ e)
    ∙ ap (becoming row_tree) (twice row_made This (λ trailing. ([], trailing)) (closing_run sign_of.Comma sign_of.RightBrace ts) (λ a. refl))
    ∙ twice row_tree (λ trailing. ([], trailing)) empty_row_tree (closing_run sign_of.Comma sign_of.RightBrace ts) (λ a. refl)

-- actual arguments

pub actuals_shut : (m : Run Expr) (ts : List Token) → of_kind (sign_code sign_of.LeftParen) ts ≡ Stopped (length ts) → actuals_run m ts ≡ Stopped (length ts)
unfolding actuals_run
actuals_shut m ts e = ap (λ (v : Read (Unit {0})). becoming actuals_made (v >>= (λ (u : Unit {0}) q. becoming (joined u) (in_turn (perhaps (commas_run m)) (of_kind (sign_code sign_of.RightParen)) q)))) e

pub actuals_closed : (m : Run Expr) (ts q r s : List Token) (list : List Expr) (l : ℕ) → of_kind (sign_code sign_of.LeftParen) ts ≡ found tt q → some_exprs_run m q ≡ Found list r l → of_kind (sign_code sign_of.RightParen) r ≡ found tt s → actuals_run m ts ≡ Found list s (min (length q) (min l (length s)))
unfolding actuals_run
actuals_closed m ts q r s list l e f g =
    then_made actuals_made (of_kind (sign_code sign_of.LeftParen)) (in_turn (perhaps (commas_run m)) (of_kind (sign_code sign_of.RightParen))) ts q tt (length q) e
    ∙ ap (noting (length q)) (mapped_made (λ b. actuals_made (tt, b)) or_empty (λ (x : List Expr × Unit {0}). x.0) (λ a b. refl) (perhaps (commas_run m)) (of_kind (sign_code sign_of.RightParen)) q r list l f)
    ∙ ap (λ (v : Read (Unit {0})). noting (length q) (noting l (becoming (λ (u : Unit {0}). list) v))) g

pub actuals_open : (m : Run Expr) (ts q r : List Token) (list : List Expr) (l : ℕ) → of_kind (sign_code sign_of.LeftParen) ts ≡ found tt q → some_exprs_run m q ≡ Found list r l → of_kind (sign_code sign_of.RightParen) r ≡ Stopped (length r) → actuals_run m ts ≡ Stopped (min (length q) (min l (length r)))
unfolding actuals_run
actuals_open m ts q r list l e f g =
    then_made actuals_made (of_kind (sign_code sign_of.LeftParen)) (in_turn (perhaps (commas_run m)) (of_kind (sign_code sign_of.RightParen))) ts q tt (length q) e
    ∙ ap (noting (length q)) (mapped_made (λ b. actuals_made (tt, b)) or_empty (λ (x : List Expr × Unit {0}). x.0) (λ a b. refl) (perhaps (commas_run m)) (of_kind (sign_code sign_of.RightParen)) q r list l f)
    ∙ ap (λ (v : Read (Unit {0})). noting (length q) (noting l (becoming (λ (u : Unit {0}). list) v))) g

-- array initialisers

abbrev pub of_row : ℕ → Row → ArrayInit
of_row at row = array_made (at, (row.inits, row.trailing))

pub array_low : (ts : List Token) (h : ℕ) → h ≡ 0 → array_in h ts ≡ Stopped (length ts)
unfolding readers
array_low ts zero e = refl
array_low ts (suc k) e = absurd (omega (arith, e))

array_next : (h : ℕ) (ts : List Token) → 0 < h → array_in h ts ≡ array_run (init_in (h - 1)) ts
unfolding readers next_readers
array_next zero ts p = absurd (omega (arith, p))
array_next (suc k) ts p = let e : k ≡ suc k - 1 = omega arith in ap (λ (n : ℕ). array_run (init_in n) ts) e

pub array_inside : (h : ℕ) (ts q : List Token) (at : ℕ) → 0 < h → at_kind (sign_code sign_of.LeftBrace) ts ≡ found at q → array_in h ts ≡ becoming (of_row at) (as_new row_tree (init_row_run (init_in (h - 1))) q)
unfolding array_run
array_inside h ts q at p e =
    array_next h ts p
    ∙ behind_place array_made (sign_code sign_of.LeftBrace) (init_row_run (init_in (h - 1))) ts q at (near_row (init_in (h - 1)) (near_init (expr_in (h - 1)) (array_in (h - 1)) (near_expr (h - 1)) (near_array_of (h - 1)))) e
    ∙ sym (twice (of_row at) row_tree (λ p. array_made (at, p)) (init_row_run (init_in (h - 1)) q) (λ a. refl))

pub array_open : (h : ℕ) (ts : List Token) → 0 < h → at_kind (sign_code sign_of.LeftBrace) ts ≡ Stopped (length ts) → array_in h ts ≡ Stopped (length ts)
unfolding array_run
array_open h ts p e = array_next h ts p ∙ ap (λ (v : Read ℕ). becoming array_made (v >>= (λ (u : ℕ) q. becoming (joined u) (init_row_run (init_in (h - 1)) q)))) e
