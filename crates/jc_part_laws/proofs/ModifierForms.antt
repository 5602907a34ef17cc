-- The forms of annotations and modifiers, and that they are read as they are to be.
use Rattle.std.proofs.Common.{◌≡◌, ℕ, Bool, true, false, List, [], ◌∷◌, map, Option, Some, None, refl, sym, ap, ◌∙◌, subst, ⊎_elim}
use Rattle.std.proofs.Math.Bool.{and-true}
use Rattle.std.proofs.Math.Path.{fun_ext}
use Rattle.std.proofs.lemmas.Bool.{false≢true, or_right, or_cases, and_parts}
use Rattle.std.specs.Prelude.{◌&&◌, ◌||◌, ◌==◌, nat_le}
use Rattle.jc_lexer.specs.declared.token.Key.{Key}
use Rattle.jc_lexer.specs.declared.token.Key.TheVariants as key_of
use Rattle.jc_lexer.specs.declared.token.Sign.TheVariants as sign_of
use Rattle.jc_lexer.specs.declared.token.Token.{Token}
use Rattle.jc_lexer.specs.declared.token.TokenKind.{TokenKind}
use Rattle.jc_lexer.specs.declared.token.TokenKind.TheVariants as kind_of
use Rattle.jc_tree.specs.declared.name.Ident.{Ident}
use Rattle.jc_tree.specs.declared.statement.Annotation.{Annotation}
use Rattle.jc_tree.specs.declared.statement.Modifier.{Modifier}
use Rattle.jc_tree.specs.declared.statement.Modifier.TheVariants as modifier_of
use Rattle.jc_tree.specs.declared.statement.ModifierWord.{ModifierWord}
use Rattle.jc_tree.specs.declared.statement.ModifierWord.TheVariants as word_of
use Rattle.jc_tree.specs.declared.statement.Pair.{Pair}
use Rattle.jc_tree.specs.Heights.{most, in_some, pair_height, annotation_height, modifier_height}
use Rattle.jc_grammar.specs.Told.{Told, sign_at, key_at, ident, names_after}
use Rattle.jc_grammar.specs.Parts.{if_some, pairs_tokens, annotation_tokens, modifier_key, modifier_tokens, modifiers_tokens}
use Rattle.jc_grammar.specs.Units.{if_there_passes, is_value, are_pairs, is_modifier, are_modifiers}
use Rattle.jc_reading.specs.Kinds.{kind_code, sign_code, key_code, word_code, is_in, front_code, one_of}
use Rattle.jc_reading.specs.Reading.{Either, This, That, rest_of}
use Rattle.jc_reading.proofs.Codes.{some_is, none_is}
use Rattle.jc_reading.proofs.Forms.{Form, Lawful}
use Rattle.jc_reading.proofs.Lists.{many, many_laws, tell_all, fits_all}
use Rattle.jc_reading.proofs.Choices.{choice, choice_laws}
use Rattle.jc_reading.proofs.Alikes.{alike_laws}
use Rattle.jc_reading.proofs.Kindly.{token, token_laws}
use Rattle.jc_reading.proofs.Signs.{sign_laws, ident_laws, apart_sets, within_sets, in_more}
use Rattle.jc_reading.proofs.Rooms.{room_above}
use Rattle.jc_parse_type.specs.TypeReading.{at_its_place}
use Rattle.jc_part_laws.specs.PartReading.{Exprs, pair_run, pairs_made, pairs_run, annotation_made, annotation_run, modifier_word_of, modifier_word_of_kind, picks_modifier, modifier_word_codes, modifier_made, modifier_run, modifiers_run}
use Rattle.jc_part_laws.proofs.AnnotationForms.{room_and, value_never, Paired, pair_fits, pairs_laws}
use Rattle.jc_reading.proofs.Coded.{Coded, formed, coded, coded_laws, in_order, in_order_laws, optional, optional_laws, listed, made_laws}
use Rattle.jc_part_laws.proofs.ExprForms.{ExprLaws}
use Rattle.jc_reading.proofs.LedAt.{led_at, led_at_laws}
use Rattle.jc_reading.proofs.Lowest.{Law, listed_law, optional_law, roomy, roomy_law}
use Rattle.jc_part_laws.proofs.PartForms.{sign_form, ident_form, more_names_coded, more_names_coded_laws}

module _ (x : Exprs) where
  abbrev pub pair_coded : ℕ → Coded Pair
  pair_coded h = roomy h (Paired x h)

  pair_law : ExprLaws x → (h : ℕ) → Law Pair (pair_coded h)
  pair_law lx = roomy_law Pair (Paired x) (λ p. value_never x p.value) (pairs_laws x lx)

  -- "(" [Pair {"," Pair}] ")"

  module _ (h : ℕ) where
    abbrev Inner : Coded (Unit {0} × (Option (List Pair) × Unit {0}))
    Inner = in_order (sign_form sign_of.LeftParen) (in_order (optional (listed (pair_coded h))) (sign_form sign_of.RightParen))

    abbrev pairs_fit : List Pair → Bool
    pairs_fit pairs = nat_le (most (map pair_height pairs)) h && are_pairs pairs

    abbrev pairs_coded : Coded (List Pair)
    pairs_coded = record { tell = pairs_tokens; fits = pairs_fit; run = pairs_run x h; starts = sign_code sign_of.LeftParen ∷ []; goes = []; empties = false }

    fit_pairs : (pairs : List Pair) → pairs_fit pairs ≡ fits_all (pair_fits x h) pairs
    fit_pairs pairs = room_and pair_height (λ (p : Pair). is_value p.value) h pairs

    told_pairs : (p : Unit {0} × (Option (List Pair) × Unit {0})) (r : List Told) → Inner.fits p ≡ true → pairs_tokens (pairs_made x p) r ≡ Inner.tell p r
    told_pairs (u, (None, v)) r g = refl
    told_pairs (u, (Some [], v)) r g = absurd (false≢true g)
    told_pairs (u, (Some (p ∷ list), v)) r g = refl

    forth_pairs : (p : Unit {0} × (Option (List Pair) × Unit {0})) → Inner.fits p ≡ true → pairs_fit (pairs_made x p) ≡ true
    forth_pairs (u, (None, v)) g = fit_pairs []
    forth_pairs (u, (Some [], v)) g = absurd (false≢true g)
    forth_pairs (u, (Some (p ∷ list), v)) g = fit_pairs (p ∷ list) ∙ sym (and-true (fits_all (pair_fits x h) (p ∷ list))) ∙ g

    back_pairs : (pairs : List Pair) → pairs_fit pairs ≡ true → (p : Unit {0} × (Option (List Pair) × Unit {0})) × (pairs_made x p ≡ pairs) × (Inner.fits p ≡ true)
    back_pairs [] g = ((tt, (None, tt)), refl, refl)
    back_pairs (p ∷ list) g = ((tt, (Some (p ∷ list), tt)), refl, and-true (fits_all (pair_fits x h) (p ∷ list)) ∙ sym (fit_pairs (p ∷ list)) ∙ g)

    between_laws : ExprLaws x → Lawful (List Pair) (formed pairs_coded)
    unfolding pairs_run pair_run
    between_laws lx =
        made_laws (Unit {0} × (Option (List Pair) × Unit {0})) (List Pair) Inner (pairs_made x) pairs_tokens pairs_fit
        (in_order_laws (Unit {0}) (Option (List Pair) × Unit {0}) (sign_form sign_of.LeftParen) (in_order (optional (listed (pair_coded h))) (sign_form sign_of.RightParen)) (sign_laws sign_of.LeftParen)
        (in_order_laws (Option (List Pair)) (Unit {0}) (optional (listed (pair_coded h))) (sign_form sign_of.RightParen) (optional_law (List Pair) (listed (pair_coded h)) (listed_law Pair (pair_coded h) (pair_law lx h) refl refl) refl) (sign_laws sign_of.RightParen) refl) refl)
        (record { told = told_pairs; forth = forth_pairs; back = back_pairs })

    -- "@" Name [Pairs]

    abbrev NamePairs : Coded (Ident × (List Ident × Option (List Pair)))
    NamePairs = in_order ident_form (in_order more_names_coded (optional pairs_coded))

    abbrev Marked : Form (ℕ × (Ident × (List Ident × Option (List Pair))))
    Marked = led_at (Ident × (List Ident × Option (List Pair))) sign_of.At (formed NamePairs)

    abbrev at_word : List Token → Bool
    at_word ts = one_of (sign_code sign_of.At ∷ []) ts && one_of (word_code ∷ []) (rest_of ts)

    abbrev annotation_fits : Annotation → Bool
    annotation_fits a = nat_le (annotation_height a) h && if_there_passes are_pairs a.pairs

    abbrev annotation_goes : List ℕ
    annotation_goes = sign_code sign_of.LeftParen ∷ sign_code sign_of.Dot ∷ []

    abbrev annotation_form : Form Annotation
    annotation_form = record { tell = annotation_tokens; fits = annotation_fits; run = annotation_run x h; starts = at_word; goes_on = one_of annotation_goes; empties = false }

    told_if : (o : Option (List Pair)) (r : List Told) → if_some pairs_tokens o r ≡ (optional pairs_coded).tell o r
    told_if None r = refl
    told_if (Some pairs) r = refl

    fit_if : (o : Option (List Pair)) → (nat_le (in_some (λ (l : List Pair). most (map pair_height l)) o) h && if_there_passes are_pairs o) ≡ (optional pairs_coded).fits o
    fit_if None = ap (λ b. b && true) (room_above h)
    fit_if (Some pairs) = refl

    annotation_laws : ExprLaws x → Lawful Annotation annotation_form
    unfolding annotation_run
    annotation_laws lx =
        alike_laws (ℕ × (Ident × (List Ident × Option (List Pair)))) Annotation Marked (annotation_made x) annotation_tokens annotation_fits at_word (one_of annotation_goes)
        (led_at_laws (Ident × (List Ident × Option (List Pair))) sign_of.At (formed NamePairs)
        (in_order_laws Ident (List Ident × Option (List Pair)) ident_form (in_order more_names_coded (optional pairs_coded)) ident_laws
        (in_order_laws (List Ident) (Option (List Pair)) more_names_coded (optional pairs_coded) more_names_coded_laws (optional_laws (List Pair) pairs_coded (between_laws lx) refl) refl) refl) refl)
        (record {
          told = λ p r g. ap (λ (l : List Told). sign_at sign_of.At p.0 ∷ ident p.1.0 ∷ names_after p.1.1.0 l) (told_if p.1.1.1 r);
          forth = λ p g. fit_if p.1.1.1 ∙ g;
          back = λ a g. ((a.at, (a.first, (a.more, a.pairs))), refl, sym (fit_if a.pairs) ∙ g);
          starts_too = λ ts e. e;
          goes_too = λ ts e. e;
        })

-- a modifier's word

from_key : (k : Key) (w : ModifierWord) → modifier_word_of k ≡ Some w → k ≡ modifier_key w
from_key key_of.Public w e = ap modifier_key (some_is word_of.Public w e)
from_key key_of.Protected w e = ap modifier_key (some_is word_of.Protected w e)
from_key key_of.Private w e = ap modifier_key (some_is word_of.Private w e)
from_key key_of.Static w e = ap modifier_key (some_is word_of.Static w e)
from_key key_of.Abstract w e = ap modifier_key (some_is word_of.Abstract w e)
from_key key_of.Final w e = ap modifier_key (some_is word_of.Final w e)
from_key key_of.Native w e = ap modifier_key (some_is word_of.Native w e)
from_key key_of.Volatile w e = ap modifier_key (some_is word_of.Volatile w e)
from_key key_of.Transient w e = ap modifier_key (some_is word_of.Transient w e)
from_key _ w e = absurd (none_is w e)

from_kind : (k : TokenKind) (w : ModifierWord) → modifier_word_of_kind k ≡ Some w → k ≡ kind_of.Key (modifier_key w)
from_kind (kind_of.Key k) w e = ap (λ x. kind_of.Key x) (from_key k w e)
from_kind (kind_of.Word t) w e = absurd (none_is w e)
from_kind (kind_of.Number v l d) w e = absurd (none_is w e)
from_kind (kind_of.CharLit u) w e = absurd (none_is w e)
from_kind (kind_of.StringLit u) w e = absurd (none_is w e)
from_kind (kind_of.Sign s) w e = absurd (none_is w e)

to_key : (w : ModifierWord) → modifier_word_of (modifier_key w) ≡ Some w
to_key word_of.Public = refl
to_key word_of.Protected = refl
to_key word_of.Private = refl
to_key word_of.Static = refl
to_key word_of.Abstract = refl
to_key word_of.Final = refl
to_key word_of.Native = refl
to_key word_of.Volatile = refl
to_key word_of.Transient = refl

from_place : {A : Type 0} (at : ℕ) (o : Option A) (p : ℕ × A) → at_its_place at o ≡ Some p → (at ≡ p.0) × (o ≡ Some p.1)
from_place at None p e = absurd (none_is p e)
from_place at (Some a) p e = let w = some_is (at, a) p e in (ap (λ (q : ℕ × _). q.0) w, ap (λ (q : ℕ × _). Some q.1) w)

word_coded : (w : ModifierWord) → is_in modifier_word_codes (key_code (modifier_key w)) ≡ true
word_coded word_of.Public = refl
word_coded word_of.Protected = refl
word_coded word_of.Private = refl
word_coded word_of.Static = refl
word_coded word_of.Abstract = refl
word_coded word_of.Final = refl
word_coded word_of.Native = refl
word_coded word_of.Volatile = refl
word_coded word_of.Transient = refl

abbrev Words : Form (ℕ × ModifierWord)
Words = token (ℕ × ModifierWord) modifier_word_codes picks_modifier (λ p. key_at (modifier_key p.1) p.0)

words_laws : Lawful (ℕ × ModifierWord) Words
words_laws = token_laws (ℕ × ModifierWord) modifier_word_codes picks_modifier (λ p. key_at (modifier_key p.1) p.0)
    (record {
      tells = λ t p e. let w = from_place t.from (modifier_word_of_kind t.kind) p e in (from_kind t.kind p.1 w.1, w.0, λ q. absurd (false≢true q), λ q. absurd (false≢true q));
      picks = λ t p i. ap (λ k. at_its_place t.from (modifier_word_of_kind k)) i.0 ∙ ap (at_its_place t.from) (to_key p.1) ∙ ap (λ n. Some (n, p.1)) i.1;
      coded = λ t p e. let w = from_place t.from (modifier_word_of_kind t.kind) p e in subst (λ k. is_in modifier_word_codes (kind_code k) ≡ true) (sym (from_kind t.kind p.1 w.1)) (word_coded p.1);
      apart = λ p. refl;
      sample = record { kind = kind_of.Key key_of.Final; from = 0; to = 0; touches = false };
      value = (0, word_of.Final);
      sampled = refl;
    })

-- an annotation begins, or a word
abbrev pub modifier_starts : List Token → Bool
modifier_starts ts = (one_of (sign_code sign_of.At ∷ []) ts && one_of (word_code ∷ []) (rest_of ts)) || one_of modifier_word_codes ts

abbrev pub modifier_codes : List ℕ
modifier_codes = sign_code sign_of.At ∷ modifier_word_codes

abbrev after_codes : List ℕ
after_codes = sign_code sign_of.LeftParen ∷ sign_code sign_of.Dot ∷ []

module _ (x : Exprs) (h : ℕ) where
  abbrev Marks : Form (Either Annotation (ℕ × ModifierWord))
  Marks = choice Annotation (ℕ × ModifierWord) (sign_code sign_of.At ∷ []) (annotation_form x h) Words

  abbrev pub modifier_fits : Modifier → Bool
  modifier_fits m = nat_le (modifier_height m) h && is_modifier m

  abbrev pub modifier_form : Form Modifier
  modifier_form = record { tell = modifier_tokens; fits = modifier_fits; run = modifier_run x h; starts = modifier_starts; goes_on = one_of after_codes; empties = false }

  told_modifier : (o : Either Annotation (ℕ × ModifierWord)) (r : List Told) → modifier_tokens (modifier_made o) r ≡ Marks.tell o r
  told_modifier (This a) r = refl
  told_modifier (That p) r = refl

  fit_modifier : (o : Either Annotation (ℕ × ModifierWord)) → modifier_fits (modifier_made o) ≡ Marks.fits o
  fit_modifier (This a) = refl
  fit_modifier (That p) = ap (λ b. b && true) (room_above h)

  back_modifier : (m : Modifier) → (o : Either Annotation (ℕ × ModifierWord)) × (modifier_made o ≡ m)
  back_modifier (modifier_of.Annotation a) = (This a, refl)
  back_modifier (modifier_of.Word at word) = (That (at, word), refl)

  just_at : (ts : List Token) → (one_of (sign_code sign_of.At ∷ []) ts && one_of (word_code ∷ []) (rest_of ts)) ≡ true → one_of (sign_code sign_of.At ∷ []) ts ≡ true
  just_at ts e = (and_parts (one_of (sign_code sign_of.At ∷ []) ts) (one_of (word_code ∷ []) (rest_of ts)) e).0

  pub modifier_laws : ExprLaws x → Lawful Modifier modifier_form
  unfolding modifier_run
  modifier_laws lx =
      alike_laws (Either Annotation (ℕ × ModifierWord)) Modifier Marks modifier_made modifier_tokens modifier_fits modifier_starts (one_of after_codes)
      (choice_laws Annotation (ℕ × ModifierWord) (sign_code sign_of.At ∷ []) (annotation_form x h) Words (annotation_laws x h lx) words_laws
      (record { solid = refl; solid' = refl; this = just_at; that = λ ts e. apart_sets modifier_word_codes (sign_code sign_of.At ∷ []) refl (front_code ts) e }))
      (record {
        told = λ o r g. told_modifier o r;
        forth = λ o g. fit_modifier o ∙ g;
        back = λ m g. let w = back_modifier m in (w.0, w.1, sym (fit_modifier w.0) ∙ ap modifier_fits w.1 ∙ g);
        starts_too = λ ts e. e;
        goes_too = λ ts e. alone (one_of after_codes ts) e;
      })
    where
      alone : (b : Bool) → (b || false) ≡ true → b ≡ true
      alone true e = refl
      alone false e = e

  starts_codes : (ts : List Token) → modifier_starts ts ≡ true → one_of modifier_codes ts ≡ true
  starts_codes ts e =
      ⊎_elim (λ t. in_more (sign_code sign_of.At) modifier_word_codes ts (just_at ts t)) (λ t. or_right (sign_code sign_of.At == front_code ts) (one_of modifier_word_codes ts) t)
      (or_cases (one_of (sign_code sign_of.At ∷ []) ts && one_of (word_code ∷ []) (rest_of ts)) (one_of modifier_word_codes ts) e)

  -- Mods

  abbrev pub modifiers_fit : List Modifier → Bool
  modifiers_fit modifiers = nat_le (most (map modifier_height modifiers)) h && are_modifiers modifiers

  abbrev modifiers_go : List Token → Bool
  modifiers_go ts = modifier_starts ts || one_of after_codes ts

  abbrev pub modifiers_form : Form (List Modifier)
  modifiers_form = record { tell = modifiers_tokens; fits = modifiers_fit; run = modifiers_run x h; starts = modifier_starts; goes_on = modifiers_go; empties = true }

  told_all : (list : List Modifier) (r : List Told) → modifiers_tokens list r ≡ tell_all modifier_tokens list r
  told_all [] r = refl
  told_all (m ∷ list) r = ap (modifier_tokens m) (told_all list r)

  many_modifiers : ExprLaws x → Lawful (List Modifier) (many Modifier modifier_form)
  many_modifiers lx = many_laws Modifier modifier_form (modifier_laws lx) (record { solid = refl; next = λ ts s. apart_sets modifier_codes after_codes refl (front_code ts) (starts_codes ts s) })

  pub fit_modifiers : (list : List Modifier) → modifiers_fit list ≡ fits_all modifier_fits list
  fit_modifiers list = room_and modifier_height is_modifier h list

  -- the same tokens, and the same tests
  pub modifiers_laws : ExprLaws x → Lawful (List Modifier) modifiers_form
  modifiers_laws lx =
      subst (λ (t : List Modifier → List Told → List Told). Lawful (List Modifier) (record { tell = t; fits = modifiers_fit; run = modifiers_run x h; starts = modifier_starts; goes_on = modifiers_go; empties = true }))
      (fun_ext (λ list. fun_ext (λ r. sym (told_all list r))))
      (subst (λ (f : List Modifier → Bool). Lawful (List Modifier) (record { tell = tell_all modifier_tokens; fits = f; run = modifiers_run x h; starts = modifier_starts; goes_on = modifiers_go; empties = true }))
      (fun_ext (λ list. sym (fit_modifiers list))) (many_modifiers lx))

  abbrev pub modifiers_coded : Coded (List Modifier)
  modifiers_coded = coded modifiers_form modifier_codes (sign_code sign_of.LeftParen ∷ sign_code sign_of.Dot ∷ modifier_codes)

  pub modifiers_coded_laws : ExprLaws x → Lawful (List Modifier) (formed modifiers_coded)
  modifiers_coded_laws lx =
      coded_laws (List Modifier) modifiers_form modifier_codes (sign_code sign_of.LeftParen ∷ sign_code sign_of.Dot ∷ modifier_codes) (modifiers_laws lx) starts_codes
      (λ ts e. ⊎_elim (λ t. further ts (starts_codes ts t)) (λ t. nearer ts t) (or_cases (modifier_starts ts) (one_of after_codes ts) e))
    where
      further : (ts : List Token) → one_of modifier_codes ts ≡ true → one_of (sign_code sign_of.LeftParen ∷ sign_code sign_of.Dot ∷ modifier_codes) ts ≡ true
      further ts e = or_right (sign_code sign_of.LeftParen == front_code ts) (is_in (sign_code sign_of.Dot ∷ modifier_codes) (front_code ts)) (or_right (sign_code sign_of.Dot == front_code ts) (is_in modifier_codes (front_code ts)) e)

      nearer : (ts : List Token) → one_of after_codes ts ≡ true → one_of (sign_code sign_of.LeftParen ∷ sign_code sign_of.Dot ∷ modifier_codes) ts ≡ true
      nearer ts e = within_sets after_codes (sign_code sign_of.LeftParen ∷ sign_code sign_of.Dot ∷ modifier_codes) refl (front_code ts) e

  -- one modifier at least
  abbrev pub modifier_coded : Coded Modifier
  modifier_coded = coded modifier_form modifier_codes after_codes

  pub modifier_coded_laws : ExprLaws x → Lawful Modifier (formed modifier_coded)
  modifier_coded_laws lx = coded_laws Modifier modifier_form modifier_codes after_codes (modifier_laws lx) starts_codes (λ ts e. e)
