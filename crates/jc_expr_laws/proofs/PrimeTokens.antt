-- The forms of literals and actual arguments, and that they are read as they are to be.
use Rattle.std.proofs.Common.{◌≡◌, ℕ, Bool, true, false, List, [], ◌∷◌, map, Option, Some, None, refl, sym, ap, ◌∙◌, subst}
use Rattle.std.proofs.Math.Bool.{and-true}
use Rattle.std.proofs.lemmas.Bool.{false≢true}
use Rattle.std.specs.Prelude.{◌&&◌, nat_le}
use Rattle.std.specs.List.{list_all}
use Rattle.jc_lexer.specs.declared.token.Key.{Key}
use Rattle.jc_lexer.specs.declared.token.Key.TheVariants as key_of
use Rattle.jc_lexer.specs.declared.token.Sign.TheVariants as sign_of
use Rattle.jc_lexer.specs.declared.token.TokenKind.{TokenKind}
use Rattle.jc_lexer.specs.declared.token.TokenKind.TheVariants as kind_of
use Rattle.jc_tree.specs.declared.expression.Literal.{Literal}
use Rattle.jc_tree.specs.declared.expression.Literal.TheVariants as literal_of
use Rattle.jc_tree.specs.declared.expression.Expr.{Expr}
use Rattle.jc_tree.specs.Heights.{most, expr_height}
use Rattle.jc_grammar.specs.Told.{Told, told, actuals}
use Rattle.jc_grammar.specs.Expressions.{literal_kind, expr_tokens}
use Rattle.jc_grammar.specs.Shapes.{any_level, all_stand, is_expr, expr_shape}
use Rattle.jc_reading.specs.Kinds.{kind_code, sign_code, is_in}
use Rattle.jc_reading.specs.Reading.{Run}
use Rattle.jc_reading.proofs.Forms.{Lawful}
use Rattle.jc_reading.proofs.Kindly.{token, Picks, token_laws}
use Rattle.jc_reading.proofs.Lists.{fits_all}
use Rattle.jc_reading.proofs.Codes.{some_is, none_is}
use Rattle.jc_reading.proofs.Signs.{sign_laws}
use Rattle.jc_parse_type.specs.TypeReading.{at_its_place}
use Rattle.jc_part_laws.proofs.AnnotationForms.{room_and}
use Rattle.jc_reading.proofs.Coded.{Coded, formed, coded, in_order, in_order_laws, optional, listed, made_laws}
use Rattle.jc_part_laws.proofs.ExprForms.{expr_codes, whole_goes}
use Rattle.jc_reading.proofs.Lowest.{Law, optional_law, listed_law}
use Rattle.jc_part_laws.proofs.PartForms.{sign_form}
use Rattle.jc_expr_laws.specs.PrimeReading.{literal_of_key, literal_of_kind, picks_literal, literal_codes, actuals_made, actuals_run}

-- literals

abbrev pub literal_told : (ℕ × Literal) → Told
literal_told p = told (literal_kind p.1) (Some p.0)

from_key : (k : Key) (w : Literal) → literal_of_key k ≡ Some w → kind_of.Key k ≡ literal_kind w
from_key key_of.True w e = ap literal_kind (some_is (literal_of.Boolean true) w e)
from_key key_of.False w e = ap literal_kind (some_is (literal_of.Boolean false) w e)
from_key key_of.Null w e = ap literal_kind (some_is literal_of.Null w e)
from_key _ w e = absurd (none_is w e)

from_kind : (k : TokenKind) (w : Literal) → literal_of_kind k ≡ Some w → k ≡ literal_kind w
from_kind (kind_of.Number v l d) w e = ap literal_kind (some_is (literal_of.Number v l d) w e)
from_kind (kind_of.CharLit u) w e = ap literal_kind (some_is (literal_of.Char u) w e)
from_kind (kind_of.StringLit u) w e = ap literal_kind (some_is (literal_of.String u) w e)
from_kind (kind_of.Key k) w e = from_key k w e
from_kind (kind_of.Word t) w e = absurd (none_is w e)
from_kind (kind_of.Sign s) w e = absurd (none_is w e)

to_kind : (w : Literal) → literal_of_kind (literal_kind w) ≡ Some w
to_kind (literal_of.Number v l d) = refl
to_kind (literal_of.Char u) = refl
to_kind (literal_of.String u) = refl
to_kind (literal_of.Boolean true) = refl
to_kind (literal_of.Boolean false) = refl
to_kind literal_of.Null = refl

from_place : {A : Type 0} (at : ℕ) (o : Option A) (p : ℕ × A) → at_its_place at o ≡ Some p → (at ≡ p.0) × (o ≡ Some p.1)
from_place at None p e = absurd (none_is p e)
from_place at (Some a) p e = let w = some_is (at, a) p e in (ap (λ (q : ℕ × _). q.0) w, ap (λ (q : ℕ × _). Some q.1) w)

literal_coded : (w : Literal) → is_in literal_codes (kind_code (literal_kind w)) ≡ true
literal_coded (literal_of.Number v l d) = refl
literal_coded (literal_of.Char u) = refl
literal_coded (literal_of.String u) = refl
literal_coded (literal_of.Boolean true) = refl
literal_coded (literal_of.Boolean false) = refl
literal_coded literal_of.Null = refl

literal_picks : Picks (ℕ × Literal) literal_codes picks_literal literal_told
literal_picks = record {
  tells = λ t p e. let w = from_place t.from (literal_of_kind t.kind) p e in (from_kind t.kind p.1 w.1, w.0, λ q. absurd (false≢true q), λ q. absurd (false≢true q));
  picks = λ t p i. ap (λ k. at_its_place t.from (literal_of_kind k)) i.0 ∙ ap (at_its_place t.from) (to_kind p.1) ∙ ap (λ n. Some (n, p.1)) i.1;
  coded = λ t p e. let w = from_place t.from (literal_of_kind t.kind) p e in subst (λ k. is_in literal_codes (kind_code k) ≡ true) (sym (from_kind t.kind p.1 w.1)) (literal_coded p.1);
  apart = λ p. refl;
  sample = record { kind = kind_of.Key key_of.Null; from = 0; to = 0; touches = false };
  value = (0, literal_of.Null);
  sampled = refl;
}

abbrev pub literal_form : Coded (ℕ × Literal)
literal_form = coded (token (ℕ × Literal) literal_codes picks_literal literal_told) literal_codes []

pub literal_laws : Lawful (ℕ × Literal) (formed literal_form)
literal_laws = token_laws (ℕ × Literal) literal_codes picks_literal literal_told literal_picks

-- an expression of height at most h, read so where there is room for one at all
abbrev pub any_expr : ℕ → Run Expr → Coded Expr
any_expr h run = record { tell = expr_tokens; fits = λ e. nat_le (expr_height e) h && is_expr e; run = run; starts = expr_codes; goes = whole_goes; empties = false }

-- Actuals

pub all_standing : (shapes : List Expr) → all_stand any_level (map expr_shape shapes) ≡ list_all is_expr shapes
all_standing [] = refl
all_standing (e ∷ list) = ap (λ b. is_expr e && b) (all_standing list)

module _ (h : ℕ) (run : Run Expr) (le : Law Expr (any_expr h run)) where
  abbrev Inside : Coded (Unit {0} × (Option (List Expr) × Unit {0}))
  Inside = in_order (sign_form sign_of.LeftParen) (in_order (optional (listed (any_expr h run))) (sign_form sign_of.RightParen))

  abbrev pub actuals_fit : List Expr → Bool
  actuals_fit list = nat_le (most (map expr_height list)) h && all_stand any_level (map expr_shape list)

  abbrev pub actuals_tell : List Expr → List Told → List Told
  actuals_tell list r = actuals (map expr_tokens list) r

  abbrev pub actuals_coded : Coded (List Expr)
  actuals_coded = record { tell = actuals_tell; fits = actuals_fit; run = actuals_run run; starts = sign_code sign_of.LeftParen ∷ []; goes = []; empties = false }

  pub fit_all : (list : List Expr) → actuals_fit list ≡ fits_all (any_expr h run).fits list
  fit_all list = ap (λ b. nat_le (most (map expr_height list)) h && b) (all_standing list) ∙ room_and expr_height is_expr h list

  told_inside : (p : Unit {0} × (Option (List Expr) × Unit {0})) (r : List Told) → actuals_tell (actuals_made p) r ≡ Inside.tell p r
  told_inside (u, (None, v)) r = refl
  told_inside (u, (Some list, v)) r = refl

  forth_inside : (p : Unit {0} × (Option (List Expr) × Unit {0})) → Inside.fits p ≡ true → actuals_fit (actuals_made p) ≡ true
  forth_inside (u, (None, v)) g = fit_all []
  forth_inside (u, (Some [], v)) g = absurd (false≢true g)
  forth_inside (u, (Some (e ∷ list), v)) g = fit_all (e ∷ list) ∙ sym (and-true (fits_all (any_expr h run).fits (e ∷ list))) ∙ g

  back_inside : (list : List Expr) → actuals_fit list ≡ true → (p : Unit {0} × (Option (List Expr) × Unit {0})) × (actuals_made p ≡ list) × (Inside.fits p ≡ true)
  back_inside [] g = ((tt, (None, tt)), refl, refl)
  back_inside (e ∷ list) g = ((tt, (Some (e ∷ list), tt)), refl, and-true (fits_all (any_expr h run).fits (e ∷ list)) ∙ sym (fit_all (e ∷ list)) ∙ g)

  pub actuals_laws : Lawful (List Expr) (formed actuals_coded)
  unfolding actuals_run
  actuals_laws =
      made_laws (Unit {0} × (Option (List Expr) × Unit {0})) (List Expr) Inside actuals_made actuals_tell actuals_fit
      (in_order_laws (Unit {0}) (Option (List Expr) × Unit {0}) (sign_form sign_of.LeftParen) (in_order (optional (listed (any_expr h run))) (sign_form sign_of.RightParen)) (sign_laws sign_of.LeftParen)
      (in_order_laws (Option (List Expr)) (Unit {0}) (optional (listed (any_expr h run))) (sign_form sign_of.RightParen)
      (optional_law (List Expr) (listed (any_expr h run)) (listed_law Expr (any_expr h run) le refl refl) refl) (sign_laws sign_of.RightParen) refl) refl)
      (record { told = λ p r g. told_inside p r; forth = forth_inside; back = back_inside })
