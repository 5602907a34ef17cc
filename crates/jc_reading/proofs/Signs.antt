-- Signs, keywords and identifiers.
use Rattle.std.proofs.Common.{◌≡◌, ℕ, Bool, true, false, cond, List, [], ◌∷◌, Some, None, refl, sym, ap, ◌∙◌, subst, ⊎_elim}
use Rattle.std.specs.Prelude.{◌==◌}
use Rattle.std.proofs.lemmas.Bool.{false≢true, eqb-true, eq-eqb, or_left, or_cases, cond-true, cond-false, cases_Bool}
use Rattle.jc_lexer.specs.declared.token.Key.{Key}
use Rattle.jc_lexer.specs.declared.token.Sign.{Sign}
use Rattle.jc_lexer.specs.declared.token.Token.{Token}
use Rattle.jc_lexer.specs.declared.token.TokenKind.{TokenKind}
use Rattle.jc_lexer.specs.declared.token.TokenKind.TheVariants as kind_of
use Rattle.jc_rules.specs.declared.text.Text.{Text}
use Rattle.jc_tree.specs.declared.name.Ident.{Ident}
use Rattle.jc_grammar.specs.Told.{sign, sign_at, key, key_at, told, ident}
use Rattle.jc_reading.specs.Kinds.{kind_code, sign_code, key_code, word_code, is_in, front_code, one_of}
use Rattle.jc_reading.specs.Reading.{picks, picks_at, ident_of_kind, picks_ident}
use Rattle.jc_reading.proofs.Codes.{kind_is_sign, kind_is_key, some_is, none_is}
use Rattle.jc_reading.proofs.Forms.{Form, Lawful}
use Rattle.jc_reading.proofs.Kindly.{token, Picks, token_laws}

a_token : TokenKind → Token
a_token k = record { kind = k; from = 0; to = 0; touches = false }

-- a kind that its number tells
module _ (k : TokenKind) (is_kind : (j : TokenKind) → kind_code j ≡ kind_code k → j ≡ k) where
  abbrev code : ℕ
  code = kind_code k

  -- what a test of the kind tells
  from_test : {A : Type 0} (j : TokenKind) (a b : A) → cond (kind_code j == code) (Some a) None ≡ Some b → (j ≡ k) × (a ≡ b)
  from_test j a b e =
      ⊎_elim
      (λ t. (is_kind j (eqb-true (kind_code j) code t), some_is a b (sym (cond-true (kind_code j == code) (Some a) None t) ∙ e)))
      (λ f. absurd (none_is b (sym (cond-false (kind_code j == code) (Some a) None f) ∙ e)))
      (cases_Bool (kind_code j == code))

  to_test : {A : Type 0} (j : TokenKind) (a : A) → j ≡ k → cond (kind_code j == code) (Some a) None ≡ Some a
  to_test j a e = cond-true (kind_code j == code) (Some a) None (eq-eqb (kind_code j) code (ap kind_code e))

  coded_test : (j : TokenKind) → j ≡ k → is_in (code ∷ []) (kind_code j) ≡ true
  coded_test j e = or_left (code == kind_code j) false (eq-eqb code (kind_code j) (ap kind_code (sym e)))

  plain_picks : Picks (Unit {0}) (code ∷ []) (picks code) (λ u. told k None)
  unfolding a_token
  plain_picks = record {
    tells = λ t a e. ((from_test t.kind tt a e).0, tt, λ q. absurd (false≢true q), λ q. absurd (false≢true q));
    picks = λ t a i. to_test t.kind tt i.0;
    coded = λ t a e. coded_test t.kind (from_test t.kind tt a e).0;
    apart = λ a. refl;
    sample = a_token k;
    value = tt;
    sampled = to_test k tt refl;
  }

  placed_picks : Picks ℕ (code ∷ []) (picks_at code) (λ at. told k (Some at))
  unfolding a_token
  placed_picks = record {
    tells = λ t a e. ((from_test t.kind t.from a e).0, (from_test t.kind t.from a e).1, λ q. absurd (false≢true q), λ q. absurd (false≢true q));
    picks = λ t a i. to_test t.kind t.from i.0 ∙ ap (λ n. Some n) i.1;
    coded = λ t a e. coded_test t.kind (from_test t.kind t.from a e).0;
    apart = λ a. refl;
    sample = a_token k;
    value = 0;
    sampled = to_test k 0 refl;
  }

abbrev pub a_sign : Sign → Form (Unit {0})
a_sign s = token (Unit {0}) (sign_code s ∷ []) (picks (sign_code s)) (λ u. sign s)

abbrev pub a_sign_at : Sign → Form ℕ
a_sign_at s = token ℕ (sign_code s ∷ []) (picks_at (sign_code s)) (λ at. sign_at s at)

abbrev pub a_key : Key → Form (Unit {0})
a_key k = token (Unit {0}) (key_code k ∷ []) (picks (key_code k)) (λ u. key k)

abbrev pub a_key_at : Key → Form ℕ
a_key_at k = token ℕ (key_code k ∷ []) (picks_at (key_code k)) (λ at. key_at k at)

abbrev pub an_ident : Form Ident
an_ident = token Ident (word_code ∷ []) picks_ident ident

pub sign_laws : (s : Sign) → Lawful (Unit {0}) (a_sign s)
sign_laws s = token_laws (Unit {0}) (sign_code s ∷ []) (picks (sign_code s)) (λ u. sign s) (plain_picks (kind_of.Sign s) (λ j e. kind_is_sign j s e))

pub sign_at_laws : (s : Sign) → Lawful ℕ (a_sign_at s)
sign_at_laws s = token_laws ℕ (sign_code s ∷ []) (picks_at (sign_code s)) (λ at. sign_at s at) (placed_picks (kind_of.Sign s) (λ j e. kind_is_sign j s e))

pub key_laws : (k : Key) → Lawful (Unit {0}) (a_key k)
key_laws k = token_laws (Unit {0}) (key_code k ∷ []) (picks (key_code k)) (λ u. key k) (plain_picks (kind_of.Key k) (λ j e. kind_is_key j k e))

pub key_at_laws : (k : Key) → Lawful ℕ (a_key_at k)
key_at_laws k = token_laws ℕ (key_code k ∷ []) (picks_at (key_code k)) (λ at. key_at k at) (placed_picks (kind_of.Key k) (λ j e. kind_is_key j k e))

an_empty : Text
an_empty = []

from_kind : (k : TokenKind) (at : ℕ) (i : Ident) → ident_of_kind k at ≡ Some i → (k ≡ kind_of.Word i.text) × (at ≡ i.at)
from_kind (kind_of.Word text) at i e = let w = some_is (record { at = at; text = text }) i e in (ap (λ (j : Ident). kind_of.Word j.text) w, ap (λ (j : Ident). j.at) w)
from_kind (kind_of.Key k) at i e = absurd (none_is i e)
from_kind (kind_of.Number v l d) at i e = absurd (none_is i e)
from_kind (kind_of.CharLit u) at i e = absurd (none_is i e)
from_kind (kind_of.StringLit u) at i e = absurd (none_is i e)
from_kind (kind_of.Sign s) at i e = absurd (none_is i e)

to_kind : (k : TokenKind) (at : ℕ) (i : Ident) → k ≡ kind_of.Word i.text → at ≡ i.at → ident_of_kind k at ≡ Some i
to_kind k at i e q = ap (λ j. ident_of_kind j at) e ∙ ap (λ n. Some (record { at = n; text = i.text })) q

word_coded : (k : TokenKind) (at : ℕ) (i : Ident) → ident_of_kind k at ≡ Some i → is_in (word_code ∷ []) (kind_code k) ≡ true
word_coded (kind_of.Word text) at i e = refl
word_coded (kind_of.Key k) at i e = absurd (none_is i e)
word_coded (kind_of.Number v l d) at i e = absurd (none_is i e)
word_coded (kind_of.CharLit u) at i e = absurd (none_is i e)
word_coded (kind_of.StringLit u) at i e = absurd (none_is i e)
word_coded (kind_of.Sign s) at i e = absurd (none_is i e)

ident_picks : Picks Ident (word_code ∷ []) picks_ident ident
unfolding a_token an_empty
ident_picks = record {
  tells = λ t i e. let w = from_kind t.kind t.from i e in (w.0, w.1, λ q. absurd (false≢true q), λ q. absurd (false≢true q));
  picks = λ t i h. to_kind t.kind t.from i h.0 h.1;
  coded = λ t i e. word_coded t.kind t.from i e;
  apart = λ i. refl;
  sample = a_token (kind_of.Word an_empty);
  value = record { at = 0; text = an_empty };
  sampled = refl;
}

pub ident_laws : Lawful Ident an_ident
ident_laws = token_laws Ident (word_code ∷ []) picks_ident ident ident_picks

-- sets of kinds that have none in common
abbrev pub none_common : List ℕ → List ℕ → Bool
none_common [] ys = true
none_common (x ∷ xs) ys = cond (is_in ys x) false (none_common xs ys)

pub apart_sets : (xs ys : List ℕ) → none_common xs ys ≡ true → (n : ℕ) → is_in xs n ≡ true → is_in ys n ≡ false
apart_sets [] ys e n h = absurd (false≢true h)
apart_sets (x ∷ xs) ys e n h =
    ⊎_elim
    (λ t. absurd (false≢true (sym (cond-true (is_in ys x) false (none_common xs ys) t) ∙ e)))
    (λ f. ⊎_elim
    (λ q. subst (λ k. is_in ys k ≡ false) (eqb-true x n q) f)
    (λ q. apart_sets xs ys (sym (cond-false (is_in ys x) false (none_common xs ys) f) ∙ e) n q)
    (or_cases (x == n) (is_in xs n) h))
    (cases_Bool (is_in ys x))

pub in_more : (c : ℕ) (codes : List ℕ) (ts : List Token) → one_of (c ∷ []) ts ≡ true → one_of (c ∷ codes) ts ≡ true
in_more c codes ts e = ⊎_elim (λ t. or_left (c == front_code ts) (is_in codes (front_code ts)) t) (λ f. absurd (false≢true f)) (or_cases (c == front_code ts) false e)

-- whoever is in the one set is in the other
abbrev pub all_in : List ℕ → List ℕ → Bool
all_in [] ys = true
all_in (x ∷ xs) ys = cond (is_in ys x) (all_in xs ys) false

pub within_sets : (xs ys : List ℕ) → all_in xs ys ≡ true → (n : ℕ) → is_in xs n ≡ true → is_in ys n ≡ true
within_sets [] ys e n h = absurd (false≢true h)
within_sets (x ∷ xs) ys e n h =
    ⊎_elim
    (λ t. ⊎_elim
    (λ q. subst (λ k. is_in ys k ≡ true) (eqb-true x n q) t)
    (λ q. within_sets xs ys (sym (cond-true (is_in ys x) (all_in xs ys) false t) ∙ e) n q)
    (or_cases (x == n) (is_in xs n) h))
    (λ f. absurd (false≢true (sym (cond-false (is_in ys x) (all_in xs ys) false f) ∙ e)))
    (cases_Bool (is_in ys x))
