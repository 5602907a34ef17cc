-- Lists whose last part may have a sign behind it, up to a sign that ends them.
use Rattle.std.proofs.Common.{◌≡◌, ℕ, Bool, true, false, cond, List, [], ◌∷◌, map, refl, sym, ap, ◌∙◌, ⊎_elim, inl, inr}
use Rattle.std.proofs.Math.Bool.{and-true}
use Rattle.std.proofs.lemmas.Bool.{false≢true, or_left, or_right, or_cases, or_from, and_left, and_right, and_parts, cond-true, eq-eqb}
use Rattle.std.specs.Prelude.{◌&&◌, ◌||◌, ◌==◌}
use Rattle.jc_lexer.specs.declared.token.Sign.{Sign}
use Rattle.jc_lexer.specs.declared.token.Sign.TheVariants as sign_of
use Rattle.jc_lexer.specs.declared.token.Token.{Token}
use Rattle.jc_grammar.specs.Told.{Told, sign, commas, after_commas}
use Rattle.jc_grammar.specs.Expressions.{if_there}
use Rattle.jc_reading.specs.Kinds.{is_in, front_code, one_of, sign_code}
use Rattle.jc_reading.specs.Reading.{Read, becoming, joined, ◌>>=◌, Either, This, That, behind_it, rest_of}
use Rattle.jc_reading.proofs.Forms.{Form, Lawful}
use Rattle.jc_reading.proofs.Pairs.{pair, pair_laws}
use Rattle.jc_reading.proofs.Lists.{many, tell_all, fits_all}
use Rattle.jc_reading.proofs.Choices.{choice, choice_laws}
use Rattle.jc_reading.proofs.Alikes.{alike_laws}
use Rattle.jc_reading.proofs.Ledby.{or_false, led, led_starts, led_laws, led_many_laws, unled, unled_back, behind_fits}
use Rattle.jc_reading.proofs.Signs.{a_sign, sign_laws, none_common, apart_sets, all_in}
use Rattle.jc_part_laws.specs.PartReading.{which, closing_run, row_made}
use Rattle.jc_reading.proofs.Coded.{Coded, formed, coded, coded_laws, with_next, in_order, in_order_laws, one_or, made, same_makes}
use Rattle.jc_reading.proofs.Lowest.{Law, Void, one_or_law, made_law, never_first}

pub void_first : (A B : Type 0) (ca : Coded A) (cb : Coded B) → Void A ca → Void (A × B) (in_order ca cb)
void_first A B ca cb v = record {
  stops = λ ts. ap (λ (m : Read A). m >>= (λ a q. becoming (joined a) (cb.run q))) (v.stops ts);
  never = never_first A B ca cb v.never;
}

module _ (between end : Sign) (differ : none_common (sign_code end ∷ []) (sign_code between ∷ []) ≡ true) where
  abbrev Twice : Form (Unit {0} × Unit {0})
  Twice = led (Unit {0}) between (a_sign end)

  abbrev Ends : Form (Either (Unit {0} × Unit {0}) (Unit {0}))
  Ends = choice (Unit {0} × Unit {0}) (Unit {0}) (sign_code between ∷ []) Twice (a_sign end)

  ends_laws : Lawful (Either (Unit {0} × Unit {0}) (Unit {0})) Ends
  ends_laws = choice_laws (Unit {0} × Unit {0}) (Unit {0}) (sign_code between ∷ []) Twice (a_sign end) (led_laws (Unit {0}) between (a_sign end) (sign_laws end) refl) (sign_laws end)
      (record {
        solid = refl;
        solid' = refl;
        this = λ ts e. (and_parts (one_of (sign_code between ∷ []) ts) (one_of (sign_code end ∷ []) (rest_of ts)) e).0;
        that = λ ts e. apart_sets (sign_code end ∷ []) (sign_code between ∷ []) differ (front_code ts) e;
      })

  abbrev pub closing_starts : List Token → Bool
  closing_starts ts = led_starts (Unit {0}) between (a_sign end) ts || one_of (sign_code end ∷ []) ts

  abbrev closing_tell : Bool → List Told → List Told
  closing_tell b r = if_there b between (sign end ∷ r)

  abbrev pub closing_form : Form Bool
  closing_form = record { tell = closing_tell; fits = λ b. true; run = closing_run between end; starts = closing_starts; goes_on = λ ts. false; empties = false }

  told_closing : (o : Either (Unit {0} × Unit {0}) (Unit {0})) (r : List Told) → closing_tell (which o) r ≡ Ends.tell o r
  told_closing (This p) r = refl
  told_closing (That u) r = refl

  back_closing : (b : Bool) → (o : Either (Unit {0} × Unit {0}) (Unit {0})) × (which o ≡ b) × (Ends.fits o ≡ true)
  back_closing true = (This (tt, tt), refl, refl)
  back_closing false = (That tt, refl, refl)

  pub closing_laws : Lawful Bool closing_form
  closing_laws = alike_laws (Either (Unit {0} × Unit {0}) (Unit {0})) Bool Ends which closing_tell (λ b. true) closing_starts (λ ts. false) ends_laws
      (record { told = λ o r g. told_closing o r; forth = λ o g. refl; back = λ b g. back_closing b; starts_too = λ ts e. e; goes_too = λ ts e. e })

  abbrev pub closing : Coded Bool
  closing = coded closing_form (sign_code between ∷ sign_code end ∷ []) []

  starts_closing : (ts : List Token) → closing_starts ts ≡ true → one_of (sign_code between ∷ sign_code end ∷ []) ts ≡ true
  starts_closing ts e =
      ⊎_elim
      (λ t. or_left (sign_code between == front_code ts) (is_in (sign_code end ∷ []) (front_code ts)) (or_false (sign_code between == front_code ts) (and_parts (one_of (sign_code between ∷ []) ts) (one_of (sign_code end ∷ []) (rest_of ts)) t).0))
      (λ t. or_right (sign_code between == front_code ts) (is_in (sign_code end ∷ []) (front_code ts)) t)
      (or_cases (led_starts (Unit {0}) between (a_sign end) ts) (one_of (sign_code end ∷ []) ts) e)

  pub closing_coded : Lawful Bool (formed closing)
  closing_coded = coded_laws Bool closing_form (sign_code between ∷ sign_code end ∷ []) [] closing_laws starts_closing (λ ts e. e)

  module _ (A : Type 0) (ca : Coded A) where
    pub record Separate : Type 0 where
      pub solid : ca.empties ≡ false
      pub not_end : none_common (sign_code end ∷ []) ca.starts ≡ true
      pub stops : none_common (sign_code between ∷ sign_code end ∷ []) ca.goes ≡ true

    abbrev Each : Form (List (Unit {0} × A))
    Each = many (Unit {0} × A) (led A between (formed ca))

    abbrev Tail : Form (List (Unit {0} × A) × Bool)
    Tail = pair (List (Unit {0} × A)) Bool Each closing_form

    abbrev pub rows_tail : Coded (List (Unit {0} × A) × Bool)
    rows_tail = coded Tail (sign_code between ∷ sign_code end ∷ []) []

    stops_at : (h : Separate) (ts : List Token) → one_of (sign_code between ∷ sign_code end ∷ []) ts ≡ true → one_of ca.goes ts ≡ false
    stops_at h ts e = apart_sets (sign_code between ∷ sign_code end ∷ []) ca.goes h.stops (front_code ts) e

    met : (h : Separate) (ts : List Token) → closing_starts ts ≡ true → Each.goes_on ts ≡ false
    met h ts e =
        or_from (led_starts A between (formed ca) ts) (one_of ca.goes ts)
        (⊎_elim
        (λ t. and_right (one_of (sign_code between ∷ []) ts) (one_of ca.starts (rest_of ts)) (apart_sets (sign_code end ∷ []) ca.starts h.not_end (front_code (rest_of ts)) (and_parts (one_of (sign_code between ∷ []) ts) (one_of (sign_code end ∷ []) (rest_of ts)) t).1))
        (λ t. and_left (one_of (sign_code between ∷ []) ts) (one_of ca.starts (rest_of ts)) (apart_sets (sign_code end ∷ []) (sign_code between ∷ []) differ (front_code ts) t))
        (or_cases (led_starts (Unit {0}) between (a_sign end) ts) (one_of (sign_code end ∷ []) ts) e))
        (stops_at h ts (starts_closing ts e))

    between_stops : (h : Separate) (ts : List Token) → led_starts A between (formed ca) ts ≡ true → one_of ca.goes ts ≡ false
    between_stops h ts e = stops_at h ts (or_left (sign_code between == front_code ts) (is_in (sign_code end ∷ []) (front_code ts)) (or_false (sign_code between == front_code ts) (and_parts (one_of (sign_code between ∷ []) ts) (one_of ca.starts (rest_of ts)) e).0))

    starts_tail : (ts : List Token) → (led_starts A between (formed ca) ts || (true && closing_starts ts)) ≡ true → one_of (sign_code between ∷ sign_code end ∷ []) ts ≡ true
    starts_tail ts e =
        ⊎_elim
        (λ t. or_left (sign_code between == front_code ts) (is_in (sign_code end ∷ []) (front_code ts)) (or_false (sign_code between == front_code ts) (and_parts (one_of (sign_code between ∷ []) ts) (one_of ca.starts (rest_of ts)) t).0))
        (λ t. starts_closing ts t)
        (or_cases (led_starts A between (formed ca) ts) (closing_starts ts) e)

    pub rows_tail_laws : Lawful A (formed ca) → Separate → Lawful (List (Unit {0} × A) × Bool) (formed rows_tail)
    rows_tail_laws la h =
        coded_laws (List (Unit {0} × A) × Bool) Tail (sign_code between ∷ sign_code end ∷ []) []
        (pair_laws (List (Unit {0} × A)) Bool Each closing_form (led_many_laws A between (formed ca) la h.solid (between_stops h)) closing_laws (met h))
        starts_tail (λ ts e. e)

    -- at least one
    abbrev pub rows : Coded (A × (List (Unit {0} × A) × Bool))
    rows = in_order ca rows_tail

    pub rows_law : Law A ca → Separate → Law (A × (List (Unit {0} × A) × Bool)) rows
    rows_law l h = ⊎_elim (λ la. inl (in_order_laws A (List (Unit {0} × A) × Bool) ca rows_tail la (rows_tail_laws la h) h.stops)) (λ v. inr (void_first A (List (Unit {0} × A) × Bool) ca rows_tail v)) l

-- with commas, or none
module _ (end : Sign) (differ : none_common (sign_code end ∷ []) (sign_code sign_of.Comma ∷ []) ≡ true) (A : Type 0) (ca : Coded A) where
  abbrev Rows : Coded (Either Bool (A × (List (Unit {0} × A) × Bool)))
  Rows = one_or (sign_code sign_of.Comma ∷ sign_code end ∷ []) (closing sign_of.Comma end differ) (rows sign_of.Comma end differ A ca)

  abbrev row_tell : (List A × Bool) → List Told → List Told
  row_tell p r = commas (map ca.tell p.0) (if_there p.1 sign_of.Comma (sign end ∷ r))

  abbrev row_fits : (List A × Bool) → Bool
  row_fits p = fits_all ca.fits p.0

  abbrev pub row : Coded (List A × Bool)
  row = made (Either Bool (A × (List (Unit {0} × A) × Bool))) (List A × Bool) Rows row_made row_tell row_fits

  told_more : (list : List (Unit {0} × A)) (r : List Told) → after_commas (map ca.tell (map behind_it list)) r ≡ tell_all (led A sign_of.Comma (formed ca)).tell list r
  told_more [] r = refl
  told_more (p ∷ list) r = ap (λ (l : List Told). sign sign_of.Comma ∷ ca.tell p.1 l) (told_more list r)

  told_row : (o : Either Bool (A × (List (Unit {0} × A) × Bool))) (r : List Told) → row_tell (row_made o) r ≡ Rows.tell o r
  told_row (This b) r = refl
  told_row (That p) r = ap (ca.tell p.0) (told_more p.1.0 (if_there p.1.1 sign_of.Comma (sign end ∷ r)))

  fit_row : (o : Either Bool (A × (List (Unit {0} × A) × Bool))) → row_fits (row_made o) ≡ Rows.fits o
  fit_row (This b) = refl
  fit_row (That p) = ap (λ b. ca.fits p.0 && b) (sym (behind_fits ca.fits p.1.0) ∙ sym (and-true (fits_all (λ (q : Unit {0} × A). true && ca.fits q.1) p.1.0)))

  back_row : (p : List A × Bool) → (o : Either Bool (A × (List (Unit {0} × A) × Bool))) × (row_made o ≡ p)
  back_row ([], b) = (This b, refl)
  back_row (a ∷ list, b) = (That (a, (unled list, b)), ap (λ (more : List A). (a ∷ more, b)) (unled_back list))

  pub row_laws : Law A ca → Separate sign_of.Comma end differ A ca → none_common ca.starts (sign_code sign_of.Comma ∷ sign_code end ∷ []) ≡ true → Lawful (List A × Bool) (formed row)
  row_laws l h e =
      ⊎_elim (λ (g : Lawful (List A × Bool) (formed row)). g) (λ v. absurd (false≢true (sym (v.never ([], true)))))
      (made_law (Either Bool (A × (List (Unit {0} × A) × Bool))) (List A × Bool) Rows row_made row_tell row_fits
      (one_or_law Bool (A × (List (Unit {0} × A) × Bool)) (sign_code sign_of.Comma ∷ sign_code end ∷ []) (closing sign_of.Comma end differ) (rows sign_of.Comma end differ A ca)
      (record { solid = refl; solid' = ap (λ b. b && false) h.solid; this = both_in (sign_code sign_of.Comma) (sign_code end); that = that_starts ca.empties h.solid e })
      (inl (closing_coded sign_of.Comma end differ)) (rows_law sign_of.Comma end differ A ca l h))
      (same_makes (Either Bool (A × (List (Unit {0} × A) × Bool))) (List A × Bool) Rows row_made row_tell row_fits (record { told = told_row; fit = fit_row; back = back_row })))
    where
      both_in : (c d : ℕ) → all_in (c ∷ d ∷ []) (c ∷ d ∷ []) ≡ true
      both_in c d = cond-true (is_in (c ∷ d ∷ []) c) (cond (is_in (c ∷ d ∷ []) d) true false) false (or_left (c == c) (is_in (d ∷ []) c) (eq-eqb c c refl)) ∙ cond-true (is_in (c ∷ d ∷ []) d) true false (or_right (c == d) (is_in (d ∷ []) d) (or_left (d == d) false (eq-eqb d d refl)))

      that_starts : (b : Bool) → b ≡ false → none_common ca.starts (sign_code sign_of.Comma ∷ sign_code end ∷ []) ≡ true → none_common (with_next b ca.starts (sign_code sign_of.Comma ∷ sign_code end ∷ [])) (sign_code sign_of.Comma ∷ sign_code end ∷ []) ≡ true
      that_starts true q e = absurd (false≢true (sym q))
      that_starts false q e = e
