-- Forms whose tests are sets of kinds of tokens, so that whether two of them may stand next to each other is computed.
use Rattle.std.proofs.Common.{◌≡◌, ℕ, ◌<◌, Bool, true, false, List, [], ◌∷◌, ◌++◌, map, length, Option, refl, sym, ap, ◌∙◌, ⊎_elim, arith}
use Rattle.std.proofs.lemmas.Bool.{false≢true, or_left, or_right, or_cases, and_from, and_parts}
use Rattle.std.specs.Prelude.{◌&&◌, ◌||◌, ◌==◌}
use Rattle.jc_lexer.specs.declared.token.Token.{Token}
use Rattle.jc_lexer.specs.declared.token.Sign.TheVariants as sign_of
use Rattle.jc_grammar.specs.Told.{Told, commas}
use Rattle.jc_reading.specs.Kinds.{is_in, front_code, one_of, sign_code}
use Rattle.jc_reading.specs.Reading.{Run, as_new, in_turn, perhaps, any_number, Either, either, commas_run}
use Rattle.jc_reading.proofs.Forms.{Form, Lawful}
use Rattle.jc_reading.proofs.Pairs.{pair, pair_laws}
use Rattle.jc_reading.proofs.Options.{option, option_laws, tell_some, fits_some}
use Rattle.jc_reading.proofs.Lists.{many, many_laws, tell_all, fits_all}
use Rattle.jc_reading.proofs.Choices.{choice, choice_laws, tell_either, fits_either}
use Rattle.jc_reading.proofs.Alikes.{alike_laws}
use Rattle.jc_reading.proofs.Retests.{retested_laws}
use Rattle.jc_reading.proofs.Ledby.{commas_form, comma_starts, commas_laws, fits_some_of}
use Rattle.jc_reading.proofs.Signs.{none_common, apart_sets, all_in, within_sets}

-- a form, where it may begin and where it may go on by the kind of the token that stands there
pub record Coded (A : Type 0) : Type 0 where
  pub tell : A → List Told → List Told
  pub fits : A → Bool
  pub run : Run A
  pub starts : List ℕ
  pub goes : List ℕ
  pub empties : Bool

abbrev pub formed : {A : Type 0} → Coded A → Form A
formed c = record { tell = c.tell; fits = c.fits; run = c.run; starts = one_of c.starts; goes_on = one_of c.goes; empties = c.empties }

abbrev pub coded : {A : Type 0} → Form A → List ℕ → List ℕ → Coded A
coded fa starts goes = record { tell = fa.tell; fits = fa.fits; run = fa.run; starts = starts; goes = goes; empties = fa.empties }

pub coded_laws : (A : Type 0) (fa : Form A) (starts goes : List ℕ) → Lawful A fa → ((ts : List Token) → fa.starts ts ≡ true → one_of starts ts ≡ true) → ((ts : List Token) → fa.goes_on ts ≡ true → one_of goes ts ≡ true) → Lawful A (formed (coded fa starts goes))
coded_laws A fa starts goes la s g =
    retested_laws A fa (one_of starts) (one_of goes) la
    (record {
      opens = λ ts a r t lt. ⊎_elim (λ o. s ts o.0) (λ o. absurd (no_less ts r lt o.0)) (la.opens ts a r t);
      refuses = λ ts e. la.refuses ts (not_then (fa.starts ts) (one_of starts ts) (s ts) e);
      goes_too = g;
    })
  where
    no_less : (ts r : List Token) → length r < length ts → ts ≡ r → ⊥
    no_less ts r lt e = omega (arith, lt, ap length e)

    not_then : (b c : Bool) → (b ≡ true → c ≡ true) → c ≡ false → b ≡ false
    not_then true c f e = absurd (false≢true (sym e ∙ f refl))
    not_then false c f e = refl

pub in_first : (xs ys : List ℕ) (n : ℕ) → is_in xs n ≡ true → is_in (xs ++ ys) n ≡ true
in_first [] ys n e = absurd (false≢true e)
in_first (x ∷ xs) ys n e = ⊎_elim (λ t. or_left (x == n) (is_in (xs ++ ys) n) t) (λ t. or_right (x == n) (is_in (xs ++ ys) n) (in_first xs ys n t)) (or_cases (x == n) (is_in xs n) e)

pub in_second : (xs ys : List ℕ) (n : ℕ) → is_in ys n ≡ true → is_in (xs ++ ys) n ≡ true
in_second [] ys n e = e
in_second (x ∷ xs) ys n e = or_right (x == n) (is_in (xs ++ ys) n) (in_second xs ys n e)

pub in_both : (xs ys : List ℕ) (n : ℕ) → (is_in xs n || is_in ys n) ≡ true → is_in (xs ++ ys) n ≡ true
in_both xs ys n e = ⊎_elim (in_first xs ys n) (in_second xs ys n) (or_cases (is_in xs n) (is_in ys n) e)

-- the first set, and the second one where the first may be empty
abbrev pub with_next : Bool → List ℕ → List ℕ → List ℕ
with_next true xs ys = xs ++ ys
with_next false xs ys = xs

in_next : (b : Bool) (xs ys : List ℕ) (n : ℕ) → (is_in xs n || (b && is_in ys n)) ≡ true → is_in (with_next b xs ys) n ≡ true
in_next true xs ys n e = in_both xs ys n e
in_next false xs ys n e = alone (is_in xs n) e
  where
    alone : (b : Bool) → (b || false) ≡ true → b ≡ true
    alone true e = refl
    alone false e = e

-- one and then another
abbrev pub in_order : {A B : Type 0} → Coded A → Coded B → Coded (A × B)
in_order ca cb = record {
  tell = λ p r. ca.tell p.0 (cb.tell p.1 r);
  fits = λ p. ca.fits p.0 && cb.fits p.1;
  run = in_turn ca.run cb.run;
  starts = with_next ca.empties ca.starts cb.starts;
  goes = with_next cb.empties cb.goes ca.goes;
  empties = ca.empties && cb.empties;
}

pub in_order_laws : (A B : Type 0) (ca : Coded A) (cb : Coded B) → Lawful A (formed ca) → Lawful B (formed cb) → none_common cb.starts ca.goes ≡ true → Lawful (A × B) (formed (in_order ca cb))
in_order_laws A B ca cb la lb e =
    coded_laws (A × B) (pair A B (formed ca) (formed cb)) (in_order ca cb).starts (in_order ca cb).goes
    (pair_laws A B (formed ca) (formed cb) la lb (λ ts s. apart_sets cb.starts ca.goes e (front_code ts) s))
    (λ ts s. in_next ca.empties ca.starts cb.starts (front_code ts) s)
    (λ ts s. in_next cb.empties cb.goes ca.goes (front_code ts) s)

-- what may be left out
abbrev pub optional : {A : Type 0} → Coded A → Coded (Option A)
optional ca = record { tell = tell_some ca.tell; fits = fits_some ca.fits; run = perhaps ca.run; starts = ca.starts; goes = ca.starts ++ ca.goes; empties = true }

pub optional_laws : (A : Type 0) (ca : Coded A) → Lawful A (formed ca) → ca.empties ≡ false → Lawful (Option A) (formed (optional ca))
optional_laws A ca la e =
    coded_laws (Option A) (option A (formed ca)) ca.starts (ca.starts ++ ca.goes) (option_laws A (formed ca) la e)
    (λ ts s. s) (λ ts s. in_both ca.starts ca.goes (front_code ts) s)

-- any number
abbrev pub repeated : {A : Type 0} → Coded A → Coded (List A)
repeated ca = record { tell = tell_all ca.tell; fits = fits_all ca.fits; run = any_number ca.run; starts = ca.starts; goes = ca.starts ++ ca.goes; empties = true }

pub repeated_laws : (A : Type 0) (ca : Coded A) → Lawful A (formed ca) → ca.empties ≡ false → none_common ca.starts ca.goes ≡ true → Lawful (List A) (formed (repeated ca))
repeated_laws A ca la e n =
    coded_laws (List A) (many A (formed ca)) ca.starts (ca.starts ++ ca.goes)
    (many_laws A (formed ca) la (record { solid = e; next = λ ts s. apart_sets ca.starts ca.goes n (front_code ts) s }))
    (λ ts s. s) (λ ts s. in_both ca.starts ca.goes (front_code ts) s)

-- one or more, with commas between them
abbrev pub listed : {A : Type 0} → Coded A → Coded (List A)
listed ca = record { tell = λ list r. commas (map ca.tell list) r; fits = fits_some_of ca.fits; run = commas_run ca.run; starts = ca.starts; goes = sign_code sign_of.Comma ∷ ca.goes; empties = ca.empties && true }

pub listed_laws : (A : Type 0) (ca : Coded A) → Lawful A (formed ca) → ca.empties ≡ false → none_common (sign_code sign_of.Comma ∷ []) ca.goes ≡ true → Lawful (List A) (formed (listed ca))
listed_laws A ca la e n =
    coded_laws (List A) (commas_form A (formed ca)) ca.starts (sign_code sign_of.Comma ∷ ca.goes)
    (commas_laws A (formed ca) la e (λ ts s. apart_sets (sign_code sign_of.Comma ∷ []) ca.goes n (front_code ts) (and_parts (one_of (sign_code sign_of.Comma ∷ []) ts) _ s).0))
    (λ ts s. s)
    (λ ts s. ⊎_elim
    (λ t. in_first (sign_code sign_of.Comma ∷ []) ca.goes (front_code ts) (and_parts (one_of (sign_code sign_of.Comma ∷ []) ts) _ t).0)
    (λ t. in_second (sign_code sign_of.Comma ∷ []) ca.goes (front_code ts) t)
    (or_cases (comma_starts A (formed ca) ts) (one_of ca.goes ts) s))

-- the one or the other: the one where it may begin
abbrev pub one_or : {A B : Type 0} → List ℕ → Coded A → Coded B → Coded (Either A B)
one_or codes ca cb = record { tell = tell_either ca.tell cb.tell; fits = fits_either ca.fits cb.fits; run = either codes ca.run cb.run; starts = ca.starts ++ cb.starts; goes = ca.goes ++ cb.goes; empties = false }

pub record Apart (A B : Type 0) (codes : List ℕ) (ca : Coded A) (cb : Coded B) : Type 0 where
  pub solid : ca.empties ≡ false
  pub solid' : cb.empties ≡ false
  pub this : all_in ca.starts codes ≡ true
  pub that : none_common cb.starts codes ≡ true

pub one_or_laws : (A B : Type 0) (codes : List ℕ) (ca : Coded A) (cb : Coded B) → Lawful A (formed ca) → Lawful B (formed cb) → Apart A B codes ca cb → Lawful (Either A B) (formed (one_or codes ca cb))
one_or_laws A B codes ca cb la lb d =
    coded_laws (Either A B) (choice A B codes (formed ca) (formed cb)) (ca.starts ++ cb.starts) (ca.goes ++ cb.goes)
    (choice_laws A B codes (formed ca) (formed cb) la lb (record { solid = d.solid; solid' = d.solid'; this = λ ts s. within_sets ca.starts codes d.this (front_code ts) s; that = λ ts s. apart_sets cb.starts codes d.that (front_code ts) s }))
    (λ ts s. in_both ca.starts cb.starts (front_code ts) s)
    (λ ts s. in_both ca.goes cb.goes (front_code ts) s)

-- values made of those of another form, which are those of one kind
module _ (A B : Type 0) (ca : Coded A) (make : A → B) (tell : B → List Told → List Told) (fits : B → Bool) where
  abbrev pub made : Coded B
  made = record { tell = tell; fits = fits; run = as_new make ca.run; starts = ca.starts; goes = ca.goes; empties = ca.empties }

  pub record Makes : Type 0 where
    pub told : (a : A) (r : List Told) → ca.fits a ≡ true → tell (make a) r ≡ ca.tell a r
    pub forth : (a : A) → ca.fits a ≡ true → fits (make a) ≡ true
    pub back : (b : B) → fits b ≡ true → (a : A) × (make a ≡ b) × (ca.fits a ≡ true)

  pub made_laws : Lawful A (formed ca) → Makes → Lawful B (formed made)
  made_laws la h =
      alike_laws A B (formed ca) make tell fits (one_of ca.starts) (one_of ca.goes) la
      (record { told = h.told; forth = h.forth; back = h.back; starts_too = λ ts e. e; goes_too = λ ts e. e })

-- where every value is made of one, and fits exactly where that does
pub record Same (A B : Type 0) (ca : Coded A) (make : A → B) (tell : B → List Told → List Told) (fits : B → Bool) : Type 0 where
  pub told : (a : A) (r : List Told) → tell (make a) r ≡ ca.tell a r
  pub fit : (a : A) → fits (make a) ≡ ca.fits a
  pub back : (b : B) → (a : A) × (make a ≡ b)

pub same_makes : (A B : Type 0) (ca : Coded A) (make : A → B) (tell : B → List Told → List Told) (fits : B → Bool) → Same A B ca make tell fits → Makes A B ca make tell fits
same_makes A B ca make tell fits h = record {
  told = λ a r g. h.told a r;
  forth = λ a g. h.fit a ∙ g;
  back = λ b g. let w = h.back b in (w.0, w.1, sym (h.fit w.0) ∙ ap fits w.1 ∙ g);
}

-- those of a kind
pub record OfKind (A B : Type 0) (ca : Coded A) (make : A → B) (tell : B → List Told → List Told) (kind fits : B → Bool) : Type 0 where
  pub told : (a : A) (r : List Told) → tell (make a) r ≡ ca.tell a r
  pub fit : (a : A) → fits (make a) ≡ ca.fits a
  pub is_kind : (a : A) → kind (make a) ≡ true
  pub back : (b : B) → kind b ≡ true → (a : A) × (make a ≡ b)

pub kind_makes : (A B : Type 0) (ca : Coded A) (make : A → B) (tell : B → List Told → List Told) (kind fits : B → Bool) → OfKind A B ca make tell kind fits → Makes A B ca make tell (λ b. kind b && fits b)
kind_makes A B ca make tell kind fits h = record {
  told = λ a r g. h.told a r;
  forth = λ a g. and_from (kind (make a)) (fits (make a)) (h.is_kind a) (h.fit a ∙ g);
  back = λ b g. let f = and_parts (kind b) (fits b) g in let w = h.back b f.0 in (w.0, w.1, sym (h.fit w.0) ∙ ap fits w.1 ∙ f.1);
}

-- with the same values, larger sets
abbrev pub widened : {A : Type 0} → Coded A → List ℕ → List ℕ → Coded A
widened ca starts goes = record { tell = ca.tell; fits = ca.fits; run = ca.run; starts = starts; goes = goes; empties = ca.empties }

pub widened_laws : (A : Type 0) (ca : Coded A) (starts goes : List ℕ) → Lawful A (formed ca) → all_in ca.starts starts ≡ true → all_in ca.goes goes ≡ true → Lawful A (formed (widened ca starts goes))
widened_laws A ca starts goes la s g =
    coded_laws A (formed ca) starts goes la (λ ts e. within_sets ca.starts starts s (front_code ts) e) (λ ts e. within_sets ca.goes goes g (front_code ts) e)
