-- The form of what is skipped between braces, and that it is read as it is to be.
use Rattle.std.proofs.Common.{◌≡◌, ℕ, zero, suc, Bool, true, false, cond, List, [], ◌∷◌, map, Some, None, refl, sym, ap, ◌∙◌, inl, inr}
use Rattle.std.proofs.Math.Bool.{and-true}
use Rattle.std.proofs.lemmas.Bool.{false≢true, and_left, cond-false}
use Rattle.std.specs.Prelude.{◌&&◌, not, nat_le}
use Rattle.jc_rules.proofs.Truths.{not_false}
use Rattle.jc_lexer.specs.declared.token.Key.{Key}
use Rattle.jc_lexer.specs.declared.token.Key.TheVariants as key_of
use Rattle.jc_lexer.specs.declared.token.Sign.{Sign}
use Rattle.jc_lexer.specs.declared.token.Sign.TheVariants as sign_of
use Rattle.jc_lexer.specs.declared.token.TokenKind.{TokenKind}
use Rattle.jc_lexer.specs.declared.token.TokenKind.TheVariants as kind_of
use Rattle.jc_tree.specs.declared.expression.Skip.{Skip, out-Skip, roll-out-Skip}
use Rattle.jc_tree.specs.declared.expression.SkipPart.{SkipPart, SkipPart-F, out-SkipPart, roll-SkipPart, roll-out-SkipPart}
use Rattle.jc_tree.specs.declared.expression.SkipPart.TheVariants as skip_part_of
use Rattle.jc_tree.specs.Heights.{most, skip_height, skip_part_height}
use Rattle.jc_tree.proofs.HeightsOfExpressions.{skip_part_height-Inner, skip_part_height-Token, skip_height-made, skip_height-parts}
use Rattle.jc_grammar.specs.Told.{Told, told, sign, each}
use Rattle.jc_grammar.specs.Expressions.{skip_tokens, skip_part_tokens}
use Rattle.jc_grammar.specs.Shapes.{is_brace, is_skip, is_skip_part}
use Rattle.jc_grammar.proofs.ShapesOfExpressions.{is_skip_part-Inner, is_skip_part-Token, is_skip-made}
use Rattle.jc_grammar.proofs.TokensOfExpressions.{skip_part_tokens-Inner, skip_part_tokens-Token, skip_tokens-made}
use Rattle.jc_reading.specs.Kinds.{kind_code, sign_code, key_code, is_in}
use Rattle.jc_reading.specs.Reading.{Either, This, That}
use Rattle.jc_reading.proofs.Forms.{Lawful}
use Rattle.jc_reading.proofs.Lists.{tell_all, fits_all}
use Rattle.jc_reading.proofs.Codes.{some_is, none_is}
use Rattle.jc_reading.proofs.Signs.{sign_laws}
use Rattle.jc_reading.proofs.Rooms.{room_none, room_above, room_suc}
use Rattle.jc_part_laws.proofs.AnnotationForms.{room_and, all_mapped}
use Rattle.jc_reading.proofs.Coded.{Coded, formed, coded, in_order, in_order_laws, repeated, one_or, made, made_laws, same_makes}
use Rattle.jc_reading.proofs.Lowest.{Law, one_or_law, made_law, repeated_law}
use Rattle.jc_part_laws.proofs.PartForms.{sign_form}
use Rattle.jc_reading.proofs.SomeKinds.{some_token, PicksSome, some_token_laws}
use Rattle.jc_expr_laws.specs.PrimeReading.{picks_skipped, skip_part_made, skip_made, skip_run}

-- the kinds of all tokens but braces
abbrev pub skipped_codes : List ℕ
skipped_codes =
    0 ∷ 1 ∷ 2 ∷ 3 ∷ 10 ∷ 11 ∷ 12 ∷ 13 ∷ 14 ∷ 15 ∷ 16 ∷ 17 ∷ 18 ∷ 19 ∷ 20 ∷ 21 ∷ 22 ∷ 23 ∷ 24 ∷ 25 ∷ 26 ∷ 27 ∷ 28 ∷ 29 ∷ 30 ∷ 31 ∷ 32 ∷ 33 ∷ 34 ∷ 35 ∷ 36 ∷ 37 ∷ 38 ∷ 39 ∷ 40 ∷ 41 ∷ 42 ∷ 43 ∷ 44 ∷ 45 ∷ 46 ∷ 47 ∷ 48 ∷ 49
    ∷ 50 ∷ 51 ∷ 52 ∷ 53 ∷ 54 ∷ 55 ∷ 56 ∷ 57 ∷ 58 ∷ 59 ∷ 60 ∷ 61 ∷ 62 ∷ 100 ∷ 101 ∷ 102 ∷ 103 ∷ 104 ∷ 105 ∷ 106 ∷ 107 ∷ 108 ∷ 109 ∷ 110 ∷ 111 ∷ 112 ∷ 113 ∷ 114 ∷ 115 ∷ 116 ∷ 117 ∷ 118 ∷ 119
    ∷ 120 ∷ 121 ∷ 122 ∷ 125 ∷ 126 ∷ 127 ∷ 128 ∷ 129 ∷ 130 ∷ 131 ∷ 132 ∷ 133 ∷ 134 ∷ 135 ∷ 136 ∷ 137 ∷ 138 ∷ 139 ∷ 140 ∷ 141 ∷ 142 ∷ []

key_skipped : (k : Key) → is_in skipped_codes (key_code k) ≡ true
key_skipped key_of.Abstract = refl
key_skipped _ = refl

sign_skipped : (s : Sign) → is_brace (kind_of.Sign s) ≡ false → is_in skipped_codes (sign_code s) ≡ true
sign_skipped sign_of.LeftBrace e = absurd (false≢true (sym e))
sign_skipped sign_of.RightBrace e = absurd (false≢true (sym e))
sign_skipped _ e = refl

kind_skipped : (k : TokenKind) → is_brace k ≡ false → is_in skipped_codes (kind_code k) ≡ true
kind_skipped (kind_of.Word t) e = refl
kind_skipped (kind_of.Number v l d) e = refl
kind_skipped (kind_of.CharLit u) e = refl
kind_skipped (kind_of.StringLit u) e = refl
kind_skipped (kind_of.Key k) e = key_skipped k
kind_skipped (kind_of.Sign s) e = sign_skipped s e

from_test : (b : Bool) (k j : TokenKind) → cond b None (Some k) ≡ Some j → (b ≡ false) × (k ≡ j)
from_test true k j e = absurd (none_is j e)
from_test false k j e = (refl, some_is k j e)

abbrev plain_kind : TokenKind → Bool
plain_kind k = not (is_brace k)

skipped_picks : PicksSome TokenKind skipped_codes picks_skipped (λ k. told k None) plain_kind
skipped_picks = record {
  tells = λ t k e. ((from_test (is_brace t.kind) t.kind k e).1, tt, λ q. absurd (false≢true q), λ q. absurd (false≢true q));
  fitting = λ t k e. let w = from_test (is_brace t.kind) t.kind k e in ap (λ j. not (is_brace j)) (sym w.1) ∙ ap not w.0;
  picks = λ t k i g. ap (λ j. cond (is_brace j) None (Some j)) i.0 ∙ cond-false (is_brace k) None (Some k) (not_false (is_brace k) g);
  coded = λ t k e. kind_skipped t.kind (from_test (is_brace t.kind) t.kind k e).0;
  apart = λ k. refl;
  sample = record { kind = kind_of.Key key_of.Null; from = 0; to = 0; touches = false };
  value = kind_of.Key key_of.Null;
  sampled = refl;
}

-- a token that is no brace
abbrev pub skipped_form : Coded TokenKind
skipped_form = coded (some_token TokenKind skipped_codes picks_skipped (λ k. told k None) plain_kind) skipped_codes []

skipped_laws : Lawful TokenKind (formed skipped_form)
skipped_laws = some_token_laws TokenKind skipped_codes picks_skipped (λ k. told k None) plain_kind skipped_picks

abbrev pub skip_fits : ℕ → Skip → Bool
skip_fits h skip = nat_le (skip_height skip) h && is_skip skip

abbrev pub skip_coded : ℕ → Coded Skip
skip_coded h = record { tell = skip_tokens; fits = skip_fits h; run = skip_run h; starts = sign_code sign_of.LeftBrace ∷ []; goes = []; empties = false }

pub skip_never : (skip : Skip) → skip_fits 0 skip ≡ false
skip_never skip = and_left (nat_le (skip_height skip) 0) (is_skip skip) (ap (λ n. nat_le n 0) (skip_height-parts skip) ∙ room_none _)

module _ (h : ℕ) where
  abbrev PartOf : Coded (Either Skip TokenKind)
  PartOf = one_or (sign_code sign_of.LeftBrace ∷ []) (skip_coded h) skipped_form

  abbrev part_fits : SkipPart → Bool
  part_fits p = nat_le (skip_part_height p) h && is_skip_part p

  abbrev part_coded : Coded SkipPart
  part_coded = made (Either Skip TokenKind) SkipPart PartOf skip_part_made skip_part_tokens part_fits

  told_part : (o : Either Skip TokenKind) (r : List Told) → skip_part_tokens (skip_part_made o) r ≡ PartOf.tell o r
  told_part (This s) r = skip_part_tokens-Inner s r
  told_part (That k) r = skip_part_tokens-Token k r

  fit_part : (o : Either Skip TokenKind) → part_fits (skip_part_made o) ≡ PartOf.fits o
  fit_part (This s) = ap (λ n. nat_le n h && is_skip_part (skip_part_of.Inner s)) (skip_part_height-Inner s) ∙ ap (λ b. nat_le (skip_height s) h && b) (is_skip_part-Inner s)
  fit_part (That k) = ap (λ n. nat_le n h && is_skip_part (skip_part_of.Token k)) (skip_part_height-Token k) ∙ ap (λ b. b && is_skip_part (skip_part_of.Token k)) (room_above h) ∙ is_skip_part-Token k

  back_part : (p : SkipPart) (l : SkipPart-F SkipPart Skip) → out-SkipPart p ≡ l → (o : Either Skip TokenKind) × (skip_part_made o ≡ p)
  back_part p (SkipPart-F.Inner s) e = (This s, sym (skip_part_of.rolls-Inner s) ∙ ap roll-SkipPart (sym e) ∙ roll-out-SkipPart p)
  back_part p (SkipPart-F.Token k) e = (That k, sym (skip_part_of.rolls-Token k) ∙ ap roll-SkipPart (sym e) ∙ roll-out-SkipPart p)

  part_law : Law Skip (skip_coded h) → Law SkipPart part_coded
  part_law l =
      made_law (Either Skip TokenKind) SkipPart PartOf skip_part_made skip_part_tokens part_fits
      (one_or_law Skip TokenKind (sign_code sign_of.LeftBrace ∷ []) (skip_coded h) skipped_form (record { solid = refl; solid' = refl; this = refl; that = refl }) l (inl skipped_laws))
      (same_makes (Either Skip TokenKind) SkipPart PartOf skip_part_made skip_part_tokens part_fits (record { told = told_part; fit = fit_part; back = λ p. back_part p (out-SkipPart p) refl }))

  abbrev Between : Coded (Unit {0} × (List SkipPart × Unit {0}))
  Between = in_order (sign_form sign_of.LeftBrace) (in_order (repeated part_coded) (sign_form sign_of.RightBrace))

  told_each : (list : List SkipPart) (r : List Told) → each (map skip_part_tokens list) r ≡ tell_all skip_part_tokens list r
  told_each [] r = refl
  told_each (p ∷ list) r = ap (skip_part_tokens p) (told_each list r)

  told_skip : (p : Unit {0} × (List SkipPart × Unit {0})) (r : List Told) → skip_tokens (skip_made p) r ≡ Between.tell p r
  told_skip p r = skip_tokens-made p.1.0 r ∙ ap (λ (l : List Told). sign sign_of.LeftBrace ∷ l) (told_each p.1.0 (sign sign_of.RightBrace ∷ r))

  fit_skip : (p : Unit {0} × (List SkipPart × Unit {0})) → skip_fits (suc h) (skip_made p) ≡ Between.fits p
  fit_skip p =
      ap (λ n. nat_le n (suc h) && is_skip (skip_made p)) (skip_height-made p.1.0)
      ∙ ap (λ b. b && is_skip (skip_made p)) (room_suc (most (map skip_part_height p.1.0)) h)
      ∙ ap (λ b. nat_le (most (map skip_part_height p.1.0)) h && b) (is_skip-made p.1.0 ∙ all_mapped is_skip_part p.1.0)
      ∙ room_and skip_part_height is_skip_part h p.1.0 ∙ sym (and-true (fits_all part_fits p.1.0))

  skip_next : Law Skip (skip_coded h) → Lawful Skip (formed (skip_coded (suc h)))
  unfolding skip_run
  skip_next l =
      made_laws (Unit {0} × (List SkipPart × Unit {0})) Skip Between skip_made skip_tokens (skip_fits (suc h))
      (in_order_laws (Unit {0}) (List SkipPart × Unit {0}) (sign_form sign_of.LeftBrace) (in_order (repeated part_coded) (sign_form sign_of.RightBrace)) (sign_laws sign_of.LeftBrace)
      (in_order_laws (List SkipPart) (Unit {0}) (repeated part_coded) (sign_form sign_of.RightBrace) (repeated_law SkipPart part_coded (part_law l) refl refl) (sign_laws sign_of.RightBrace) refl) refl)
      (same_makes (Unit {0} × (List SkipPart × Unit {0})) Skip Between skip_made skip_tokens (skip_fits (suc h))
      (record { told = told_skip; fit = fit_skip; back = λ s. ((tt, ((out-Skip s).parts, tt)), roll-out-Skip s) }))

pub skip_law : (h : ℕ) → Law Skip (skip_coded h)
unfolding skip_run
skip_law zero = inr (record { stops = λ ts. refl; never = skip_never })
skip_law (suc h) = inl (skip_next h (skip_law h))
