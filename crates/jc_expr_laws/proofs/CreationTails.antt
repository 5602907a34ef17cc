-- The forms of what stands behind the type of a creation, and that they are read as they are to be.
use Rattle.std.proofs.Common.{◌≡◌, ℕ, zero, suc, Bool, true, false, List, [], ◌∷◌, map, length, Option, Some, None, refl, sym, ap, ◌∙◌, subst, ⊎_elim, inl, inr, arith}
use Rattle.std.proofs.Math.Bool.{and-true}
use Rattle.std.proofs.lemmas.Bool.{false≢true, and_left, and_right, and_parts, and_from, or_parts, or_left, or_right, or_cases, or_from, cond-false, leb-true}
use Rattle.std.specs.Prelude.{◌&&◌, ◌||◌, ◌==◌, not, nat_le}
use Rattle.std.specs.List.{list_all}
use Rattle.jc_lexer.specs.declared.token.Sign.TheVariants as sign_of
use Rattle.jc_lexer.specs.declared.token.Token.{Token}
use Rattle.jc_tree.specs.declared.expression.Expr.{Expr}
use Rattle.jc_tree.specs.declared.expression.ArrayInit.{ArrayInit}
use Rattle.jc_tree.specs.declared.expression.Skip.{Skip}
use Rattle.jc_tree.specs.declared.types.ClassTree.{ClassTree}
use Rattle.jc_tree.specs.Heights.{most, skip_height}
use Rattle.jc_grammar.specs.Told.{Told, sign, each, brackets}
use Rattle.jc_grammar.specs.Expressions.{skip_tokens, diamond_tokens}
use Rattle.jc_grammar.specs.Shapes.{is_skip, ends_bare}
use Rattle.jc_reading.specs.Kinds.{sign_code, front_code, one_of}
use Rattle.jc_reading.specs.Reading.{Read, Run, becoming, Either, This, That, rest_of}
use Rattle.jc_reading.proofs.Steps.{Refuses}
use Rattle.jc_reading.proofs.Forms.{Form, Lawful, Stands}
use Rattle.jc_reading.proofs.Pairs.{pair, pair_laws}
use Rattle.jc_reading.proofs.Options.{option, option_laws}
use Rattle.jc_reading.proofs.Lists.{tell_all, fits_all}
use Rattle.jc_reading.proofs.Alikes.{alike_laws}
use Rattle.jc_reading.proofs.Retests.{retested, retested_laws}
use Rattle.jc_reading.proofs.Ledby.{or_false, led, led_starts, led_laws, led_many, led_many_laws}
use Rattle.jc_reading.proofs.Signs.{a_sign, sign_laws, apart_sets}
use Rattle.jc_reading.proofs.Rooms.{room_above, room_max}
use Rattle.jc_parse_type.specs.TypeReading.{dims_run}
use Rattle.jc_parse_type.proofs.TypeForms.{arg_codes, goes_on_class}
use Rattle.jc_reading.proofs.Coded.{Coded, formed, coded, coded_laws, in_order, in_order_laws, optional, one_or, one_or_laws, made_laws}
use Rattle.jc_part_laws.proofs.ExprForms.{expr_codes}
use Rattle.jc_reading.proofs.Lowest.{Law, Void, optional_law, roomy}
use Rattle.jc_part_laws.proofs.PartForms.{sign_form, dims_coded}
use Rattle.jc_parse_type.proofs.TypeForms.{dims_laws}
use Rattle.jc_expr_laws.specs.PrimeReading.{Initial, Lengths, ArrayTail, lengths_run, ObjectTail, is_there, at_most_one, diamond_run, body_run, no_diamond, object_tail_run, ClassTail}
use Rattle.jc_expr_laws.proofs.PrimeTokens.{any_expr, actuals_coded, actuals_laws}
use Rattle.jc_expr_laws.proofs.CreationArrays.{array_coded}
use Rattle.jc_expr_laws.proofs.CreationSkips.{skip_coded, skip_fits, skip_law}
use Rattle.jc_expr_laws.proofs.CreationRooms.{Below, expr_below, lawful_room, void_room, one_or_second, refuses_becoming}

-- pairs of brackets, where a bracket is one with another behind it

abbrev Pairs : Form (List (Unit {0} × Unit {0}))
Pairs = led_many (Unit {0}) sign_of.LeftBracket (a_sign sign_of.RightBracket) (sign_laws sign_of.RightBracket) refl

abbrev pub bracket_pair : List Token → Bool
bracket_pair ts = one_of (sign_code sign_of.LeftBracket ∷ []) ts && one_of (sign_code sign_of.RightBracket ∷ []) (rest_of ts)

abbrev pub pairs_form : Form ℕ
pairs_form = record { tell = brackets; fits = λ n. true; run = dims_run; starts = bracket_pair; goes_on = bracket_pair; empties = true }

told_pairs : (list : List (Unit {0} × Unit {0})) (r : List Told) → brackets (length list) r ≡ tell_all (led (Unit {0}) sign_of.LeftBracket (a_sign sign_of.RightBracket)).tell list r
told_pairs [] r = refl
told_pairs (p ∷ list) r = ap (λ (l : List Told). sign sign_of.LeftBracket ∷ sign sign_of.RightBracket ∷ l) (told_pairs list r)

pairs_of : ℕ → List (Unit {0} × Unit {0})
pairs_of zero = []
pairs_of (suc n) = (tt, tt) ∷ pairs_of n

pairs_length : (n : ℕ) → length (pairs_of n) ≡ n
unfolding pairs_of
pairs_length zero = refl
pairs_length (suc n) = ap suc (pairs_length n)

pairs_fit : (n : ℕ) → fits_all (led (Unit {0}) sign_of.LeftBracket (a_sign sign_of.RightBracket)).fits (pairs_of n) ≡ true
unfolding pairs_of
pairs_fit zero = refl
pairs_fit (suc n) = pairs_fit n

pub pairs_laws : Lawful ℕ pairs_form
unfolding dims_run
pairs_laws = alike_laws (List (Unit {0} × Unit {0})) ℕ Pairs length brackets (λ n. true) bracket_pair bracket_pair
    (led_many_laws (Unit {0}) sign_of.LeftBracket (a_sign sign_of.RightBracket) (sign_laws sign_of.RightBracket) refl (λ ts e. refl))
    (record {
      told = λ list r g. told_pairs list r;
      forth = λ a e. refl;
      back = λ n e. (pairs_of n, pairs_length n, pairs_fit n);
      starts_too = λ ts e. e;
      goes_too = λ ts e. or_false (bracket_pair ts) e;
    })

module _ (h : ℕ) (expr : Run Expr) (array : Run ArrayInit) (below : Below h expr array) where
  abbrev Expr_coded : Coded Expr
  Expr_coded = any_expr h expr

  abbrev Array_coded : Coded ArrayInit
  Array_coded = array_coded h array

  -- "[" "]" dims ArrayInit, or "[" Expr "]" {"[" Expr "]"} dims

  abbrev pub initial : Coded Initial
  initial = in_order (sign_form sign_of.RightBracket) (in_order dims_coded Array_coded)

  abbrev Length : Coded (Expr × Unit {0})
  Length = in_order Expr_coded (sign_form sign_of.RightBracket)

  abbrev pub lengths_form : Form (List (Unit {0} × (Expr × Unit {0})))
  lengths_form = record {
    tell = tell_all (λ p r. sign sign_of.LeftBracket ∷ Length.tell p.1 r);
    fits = fits_all (λ p. true && Length.fits p.1);
    run = lengths_run expr;
    starts = λ ts. led_starts (Expr × Unit {0}) sign_of.LeftBracket (formed Length) ts;
    goes_on = λ ts. led_starts (Expr × Unit {0}) sign_of.LeftBracket (formed Length) ts || false;
    empties = true;
  }

  abbrev pub more_lengths : Coded (List (Unit {0} × (Expr × Unit {0})) × ℕ)
  more_lengths = coded (pair (List (Unit {0} × (Expr × Unit {0}))) ℕ lengths_form pairs_form) (sign_code sign_of.LeftBracket ∷ []) (sign_code sign_of.LeftBracket ∷ [])

  abbrev pub lengths : Coded Lengths
  lengths = in_order Expr_coded (in_order (sign_form sign_of.RightBracket) more_lengths)

  abbrev pub brackets_coded : Coded ArrayTail
  brackets_coded = in_order (sign_form sign_of.LeftBracket) (one_or (sign_code sign_of.RightBracket ∷ []) initial lengths)

  abbrev pub array_tail : Coded ArrayTail
  array_tail = roomy h brackets_coded

  pub initial_laws : Lawful ArrayInit (formed Array_coded) → Lawful Initial (formed initial)
  initial_laws la =
      in_order_laws (Unit {0}) (ℕ × ArrayInit) (sign_form sign_of.RightBracket) (in_order dims_coded Array_coded) (sign_laws sign_of.RightBracket)
      (in_order_laws ℕ ArrayInit dims_coded Array_coded dims_laws la refl) refl

  bracket_meets : (ts : List Token) → bracket_pair ts ≡ true → lengths_form.goes_on ts ≡ false
  bracket_meets ts e =
      let p = and_parts (one_of (sign_code sign_of.LeftBracket ∷ []) ts) (one_of (sign_code sign_of.RightBracket ∷ []) (rest_of ts)) e in
      or_from (led_starts (Expr × Unit {0}) sign_of.LeftBracket (formed Length) ts) false
      (and_right (one_of (sign_code sign_of.LeftBracket ∷ []) ts) (one_of Length.starts (rest_of ts)) (apart_sets (sign_code sign_of.RightBracket ∷ []) expr_codes refl (front_code (rest_of ts)) p.1)) refl

  more_starts : (ts : List Token) → (led_starts (Expr × Unit {0}) sign_of.LeftBracket (formed Length) ts || (true && bracket_pair ts)) ≡ true → one_of (sign_code sign_of.LeftBracket ∷ []) ts ≡ true
  more_starts ts e =
      ⊎_elim (λ t. (and_parts (one_of (sign_code sign_of.LeftBracket ∷ []) ts) (one_of Length.starts (rest_of ts)) t).0)
      (λ t. (and_parts (one_of (sign_code sign_of.LeftBracket ∷ []) ts) (one_of (sign_code sign_of.RightBracket ∷ []) (rest_of ts)) t).0)
      (or_cases (led_starts (Expr × Unit {0}) sign_of.LeftBracket (formed Length) ts) (bracket_pair ts) e)

  more_goes : (ts : List Token) → (bracket_pair ts || (true && (led_starts (Expr × Unit {0}) sign_of.LeftBracket (formed Length) ts || false))) ≡ true → one_of (sign_code sign_of.LeftBracket ∷ []) ts ≡ true
  more_goes ts e =
      ⊎_elim
      (λ t. (and_parts (one_of (sign_code sign_of.LeftBracket ∷ []) ts) (one_of (sign_code sign_of.RightBracket ∷ []) (rest_of ts)) t).0)
      (λ t. (and_parts (one_of (sign_code sign_of.LeftBracket ∷ []) ts) (one_of Length.starts (rest_of ts)) (or_false (led_starts (Expr × Unit {0}) sign_of.LeftBracket (formed Length) ts) t)).0)
      (or_cases (bracket_pair ts) (led_starts (Expr × Unit {0}) sign_of.LeftBracket (formed Length) ts || false) e)

  length_laws : Lawful Expr (formed Expr_coded) → Lawful (Expr × Unit {0}) (formed Length)
  length_laws le = in_order_laws Expr (Unit {0}) Expr_coded (sign_form sign_of.RightBracket) le (sign_laws sign_of.RightBracket) refl

  more_lengths_laws : Lawful Expr (formed Expr_coded) → Lawful (List (Unit {0} × (Expr × Unit {0})) × ℕ) (formed more_lengths)
  more_lengths_laws le =
      coded_laws (List (Unit {0} × (Expr × Unit {0})) × ℕ) (pair (List (Unit {0} × (Expr × Unit {0}))) ℕ lengths_form pairs_form) (sign_code sign_of.LeftBracket ∷ []) (sign_code sign_of.LeftBracket ∷ [])
      (pair_laws (List (Unit {0} × (Expr × Unit {0}))) ℕ lengths_form pairs_form
      (led_many_laws (Expr × Unit {0}) sign_of.LeftBracket (formed Length) (length_laws le) refl (λ ts e. refl)) pairs_laws bracket_meets)
      more_starts more_goes

  pub lengths_laws : Lawful Expr (formed Expr_coded) → Lawful Lengths (formed lengths)
  lengths_laws le =
      in_order_laws Expr (Unit {0} × (List (Unit {0} × (Expr × Unit {0})) × ℕ)) Expr_coded (in_order (sign_form sign_of.RightBracket) more_lengths) le
      (in_order_laws (Unit {0}) (List (Unit {0} × (Expr × Unit {0})) × ℕ) (sign_form sign_of.RightBracket) more_lengths (sign_laws sign_of.RightBracket) (more_lengths_laws le) refl) refl

  brackets_laws : Lawful Expr (formed Expr_coded) → Lawful ArrayInit (formed Array_coded) → Lawful ArrayTail (formed brackets_coded)
  brackets_laws le la =
      in_order_laws (Unit {0}) (Either Initial Lengths) (sign_form sign_of.LeftBracket) (one_or (sign_code sign_of.RightBracket ∷ []) initial lengths) (sign_laws sign_of.LeftBracket)
      (one_or_laws Initial Lengths (sign_code sign_of.RightBracket ∷ []) initial lengths (initial_laws la) (lengths_laws le) (record { solid = refl; solid' = refl; this = refl; that = refl })) refl

  brackets_never : Void Expr Expr_coded → Void ArrayInit Array_coded → (t : ArrayTail) → brackets_coded.fits t ≡ false
  brackets_never ve va (u, This p) = va.never p.1.1
  brackets_never ve va (u, That p) = and_left (Expr_coded.fits p.0) _ (ve.never p.0)

  pub array_tail_law : Law ArrayTail array_tail
  array_tail_law =
      ⊎_elim
      (λ v. inr (void_room ArrayTail brackets_coded h v.0 (brackets_never v.1.0 v.1.1)))
      (λ l. inl (lawful_room ArrayTail brackets_coded h l.0 (brackets_laws l.1.0 l.1.1))) below

  -- [Skip]

  abbrev pub body_fits : List Skip → Bool
  body_fits body = nat_le (most (map skip_height body)) h && (list_all is_skip body && nat_le (length body) 1)

  abbrev pub body_coded : Coded (List Skip)
  body_coded = record { tell = λ body r. each (map skip_tokens body) r; fits = body_fits; run = body_run h; starts = sign_code sign_of.LeftBrace ∷ []; goes = sign_code sign_of.LeftBrace ∷ []; empties = true }

  told_body : (o : Option Skip) (r : List Told) → each (map skip_tokens (at_most_one o)) r ≡ (optional (skip_coded h)).tell o r
  told_body None r = refl
  told_body (Some s) r = refl

  one_fits : (s : Skip) → body_fits (s ∷ []) ≡ skip_fits h s
  one_fits s =
      ap (λ b. b && ((is_skip s && true) && true)) (room_max (skip_height s) 0 h ∙ ap (λ b. nat_le (skip_height s) h && b) (room_above h) ∙ and-true (nat_le (skip_height s) h))
      ∙ ap (λ b. nat_le (skip_height s) h && b) (and-true (is_skip s && true) ∙ and-true (is_skip s))

  forth_body : (o : Option Skip) → (optional (skip_coded h)).fits o ≡ true → body_fits (at_most_one o) ≡ true
  forth_body None g = and_from (nat_le 0 h) true (room_above h) refl
  forth_body (Some s) g = one_fits s ∙ g

  back_body : (body : List Skip) → body_fits body ≡ true → (o : Option Skip) × (at_most_one o ≡ body) × ((optional (skip_coded h)).fits o ≡ true)
  back_body [] g = (None, refl, refl)
  back_body (s ∷ []) g = (Some s, refl, sym (one_fits s) ∙ g)
  back_body (s ∷ t ∷ rest) g =
      let f = (and_parts (nat_le (most (map skip_height (s ∷ t ∷ rest))) h) (list_all is_skip (s ∷ t ∷ rest) && nat_le (length (s ∷ t ∷ rest)) 1) g).1 in
      let l = leb-true (length (s ∷ t ∷ rest)) 1 (and_parts (list_all is_skip (s ∷ t ∷ rest)) (nat_le (length (s ∷ t ∷ rest)) 1) f).1 in
      absurd (omega (arith, l))

  pub body_laws : Lawful (List Skip) (formed body_coded)
  body_laws = made_laws (Option Skip) (List Skip) (optional (skip_coded h)) at_most_one (λ body r. each (map skip_tokens body) r) body_fits (optional_law Skip (skip_coded h) (skip_law h) refl)
      (record { told = λ o r g. told_body o r; forth = forth_body; back = back_body })

  -- Actuals [Skip]

  abbrev pub object_coded : Coded (List Expr × List Skip)
  object_coded = in_order (actuals_coded h expr (expr_below h expr array below)) body_coded

  pub object_laws : Lawful (List Expr × List Skip) (formed object_coded)
  object_laws = in_order_laws (List Expr) (List Skip) (actuals_coded h expr (expr_below h expr array below)) body_coded (actuals_laws h expr (expr_below h expr array below)) body_laws refl

  -- ["<" ">"]

  abbrev pub less_greater : List Token → Bool
  less_greater ts = one_of (sign_code sign_of.Less ∷ []) ts && one_of (sign_code sign_of.Greater ∷ []) (rest_of ts)

  abbrev Diamond : Form (Option (Unit {0} × Unit {0}))
  Diamond = option (Unit {0} × Unit {0}) (led (Unit {0}) sign_of.Less (a_sign sign_of.Greater))

  abbrev diamond_form : Form Bool
  diamond_form = record { tell = diamond_tokens; fits = λ b. true; run = diamond_run; starts = less_greater; goes_on = less_greater; empties = true }

  told_diamond : (o : Option (Unit {0} × Unit {0})) (r : List Told) → diamond_tokens (is_there o) r ≡ Diamond.tell o r
  told_diamond None r = refl
  told_diamond (Some p) r = refl

  back_diamond : (b : Bool) → (o : Option (Unit {0} × Unit {0})) × (is_there o ≡ b) × (Diamond.fits o ≡ true)
  back_diamond true = (Some (tt, tt), refl, refl)
  back_diamond false = (None, refl, refl)

  diamond_laws : Lawful Bool diamond_form
  diamond_laws = alike_laws (Option (Unit {0} × Unit {0})) Bool Diamond is_there diamond_tokens (λ b. true) less_greater less_greater
      (option_laws (Unit {0} × Unit {0}) (led (Unit {0}) sign_of.Less (a_sign sign_of.Greater)) (led_laws (Unit {0}) sign_of.Less (a_sign sign_of.Greater) (sign_laws sign_of.Greater) refl) refl)
      (record { told = λ o r g. told_diamond o r; forth = λ o g. refl; back = λ b g. back_diamond b; starts_too = λ ts e. e; goes_too = λ ts e. or_false (less_greater ts) e })

  abbrev object_starts : List Token → Bool
  object_starts ts = less_greater ts || one_of (sign_code sign_of.LeftParen ∷ []) ts

  abbrev pub object_tell : ObjectTail → List Told → List Told
  object_tell p r = diamond_tokens p.0 (object_coded.tell p.1 r)

  abbrev pub object_fits : Bool → ObjectTail → Bool
  object_fits true p = object_coded.fits p.1
  object_fits false p = not p.0 && object_coded.fits p.1

  abbrev pub object_form : Bool → Form ObjectTail
  object_form bare = record { tell = object_tell; fits = object_fits bare; run = object_tail_run h expr bare; starts = object_starts; goes_on = one_of (sign_code sign_of.LeftBrace ∷ []); empties = false }

  paren_meets : (ts : List Token) → one_of (sign_code sign_of.LeftParen ∷ []) ts ≡ true → less_greater ts ≡ false
  paren_meets ts e = and_left (one_of (sign_code sign_of.Less ∷ []) ts) (one_of (sign_code sign_of.Greater ∷ []) (rest_of ts)) (apart_sets (sign_code sign_of.LeftParen ∷ []) (sign_code sign_of.Less ∷ []) refl (front_code ts) e)

  abbrev With_diamond : Form ObjectTail
  With_diamond = pair Bool (List Expr × List Skip) diamond_form (formed object_coded)

  or_true : (b : Bool) → (b || true) ≡ true
  or_true true = refl
  or_true false = refl

  or_none : (b : Bool) → (b || false) ≡ b
  or_none true = refl
  or_none false = refl

  pub fits_object : (bare : Bool) (p : ObjectTail) → object_fits bare p ≡ ((not p.0 || bare) && object_coded.fits p.1)
  fits_object true p = ap (λ b. b && object_coded.fits p.1) (sym (or_true (not p.0)))
  fits_object false p = ap (λ b. b && object_coded.fits p.1) (sym (or_none (not p.0)))

  back_plain : (p : ObjectTail) → object_fits false p ≡ true → (q : List Expr × List Skip) × (no_diamond q ≡ p) × (object_coded.fits q ≡ true)
  back_plain (true, q) g = absurd (false≢true g)
  back_plain (false, q) g = (q, refl, g)

  pub object_form_laws : (bare : Bool) → Lawful ObjectTail (object_form bare)
  object_form_laws true =
      retested_laws ObjectTail With_diamond object_starts (one_of (sign_code sign_of.LeftBrace ∷ []))
      (pair_laws Bool (List Expr × List Skip) diamond_form (formed object_coded) diamond_laws object_laws paren_meets)
      (record {
        opens = λ ts p r t lt. ⊎_elim (λ o. o.0) (λ o. absurd (false≢true o.1)) ((pair_laws Bool (List Expr × List Skip) diamond_form (formed object_coded) diamond_laws object_laws paren_meets).opens ts p r t);
        refuses = λ ts e. (pair_laws Bool (List Expr × List Skip) diamond_form (formed object_coded) diamond_laws object_laws paren_meets).refuses ts e;
        goes_too = λ ts e. or_false (one_of (sign_code sign_of.LeftBrace ∷ []) ts) e;
      })
  object_form_laws false =
      alike_laws (List Expr × List Skip) ObjectTail (formed object_coded) no_diamond object_tell (object_fits false) object_starts (one_of (sign_code sign_of.LeftBrace ∷ [])) object_laws
      (record {
        told = λ p r g. refl;
        forth = λ p g. g;
        back = back_plain;
        starts_too = λ ts e. or_right (less_greater ts) (one_of (sign_code sign_of.LeftParen ∷ []) ts) e;
        goes_too = λ ts e. e;
      })

  abbrev pub object_tail : Bool → Coded ObjectTail
  object_tail bare = coded (object_form bare) (sign_code sign_of.Less ∷ sign_code sign_of.LeftParen ∷ []) (sign_code sign_of.LeftBrace ∷ [])

  starts_object : (ts : List Token) → object_starts ts ≡ true → one_of (sign_code sign_of.Less ∷ sign_code sign_of.LeftParen ∷ []) ts ≡ true
  starts_object ts e =
      ⊎_elim
      (λ t. or_left (sign_code sign_of.Less == front_code ts) (one_of (sign_code sign_of.LeftParen ∷ []) ts) (or_false (sign_code sign_of.Less == front_code ts) (and_parts (one_of (sign_code sign_of.Less ∷ []) ts) (one_of (sign_code sign_of.Greater ∷ []) (rest_of ts)) t).0))
      (λ t. or_right (sign_code sign_of.Less == front_code ts) (one_of (sign_code sign_of.LeftParen ∷ []) ts) t)
      (or_cases (less_greater ts) (one_of (sign_code sign_of.LeftParen ∷ []) ts) e)

  pub object_tail_laws : (bare : Bool) → Lawful ObjectTail (formed (object_tail bare))
  object_tail_laws bare = coded_laws ObjectTail (object_form bare) (sign_code sign_of.Less ∷ sign_code sign_of.LeftParen ∷ []) (sign_code sign_of.LeftBrace ∷ []) (object_form_laws bare) starts_object (λ ts e. e)

  -- behind a class

  abbrev Tails : Bool → Coded ClassTail
  Tails bare = one_or (sign_code sign_of.LeftBracket ∷ []) array_tail (object_tail bare)

  abbrev pub tail_starts : List Token → Bool
  tail_starts ts = one_of (sign_code sign_of.LeftBracket ∷ []) ts || object_starts ts

  abbrev pub tail_goes : List ℕ
  tail_goes = sign_code sign_of.LeftBracket ∷ sign_code sign_of.LeftBrace ∷ []

  abbrev pub class_tail : ClassTree → Form ClassTail
  class_tail class = retested ClassTail (formed (Tails (ends_bare class))) tail_starts (one_of tail_goes)

  opens_tail : (bare : Bool) (ts : List Token) (t : ClassTail) (r : List Token) → Stands (formed (Tails bare)) ts t r → tail_starts ts ≡ true
  opens_tail bare ts (This t) r s =
      ⊎_elim (λ la. ⊎_elim (λ o. or_left (one_of (sign_code sign_of.LeftBracket ∷ []) ts) (object_starts ts) o.0) (λ o. absurd (false≢true o.1)) (la.opens ts t r s))
      (λ v. absurd (false≢true (sym (v.never t) ∙ s.1))) array_tail_law
  opens_tail bare ts (That t) r s =
      ⊎_elim (λ o. or_right (one_of (sign_code sign_of.LeftBracket ∷ []) ts) (object_starts ts) o.0) (λ o. absurd (false≢true o.1)) ((object_form_laws bare).opens ts t r s)

  refuses_tail : (bare : Bool) (ts : List Token) → tail_starts ts ≡ false → Refuses false ts ((Tails bare).run ts)
  refuses_tail bare ts e =
      let o = or_parts (one_of (sign_code sign_of.LeftBracket ∷ []) ts) (object_starts ts) e in
      subst (λ (m : Read ClassTail). Refuses false ts m) (sym (cond-false (one_of (sign_code sign_of.LeftBracket ∷ []) ts) (becoming This (array_tail.run ts)) (becoming That (object_tail_run h expr bare ts)) o.0))
      (refuses_becoming {B = ClassTail} That ts (object_tail_run h expr bare ts) ((object_form_laws bare).refuses ts o.1))

  pub class_tail_laws : (class : ClassTree) → Lawful ClassTail (class_tail class)
  class_tail_laws class =
      retested_laws ClassTail (formed (Tails (ends_bare class))) tail_starts (one_of tail_goes)
      (one_or_second ArrayTail ObjectTail (sign_code sign_of.LeftBracket ∷ []) array_tail (object_tail (ends_bare class)) (record { solid = refl; solid' = refl; this = refl; that = refl }) array_tail_law (object_tail_laws (ends_bare class)))
      (record { opens = λ ts t r s lt. opens_tail (ends_bare class) ts t r s; refuses = refuses_tail (ends_bare class); goes_too = λ ts e. e })

  -- where a tail begins a class type doesn't go on
  pub tail_meets : (ts : List Token) → tail_starts ts ≡ true → goes_on_class ts ≡ false
  tail_meets ts e =
      ⊎_elim (λ t. neither (apart_sets (sign_code sign_of.LeftBracket ∷ []) (sign_code sign_of.Less ∷ []) refl (front_code ts) t) (apart_sets (sign_code sign_of.LeftBracket ∷ []) (sign_code sign_of.Dot ∷ []) refl (front_code ts) t))
      (λ t. ⊎_elim
      (λ d. let p = and_parts (one_of (sign_code sign_of.Less ∷ []) ts) (one_of (sign_code sign_of.Greater ∷ []) (rest_of ts)) d in
      or_from _ _ (and_right (one_of (sign_code sign_of.Less ∷ []) ts) (one_of arg_codes (rest_of ts)) (apart_sets (sign_code sign_of.Greater ∷ []) arg_codes refl (front_code (rest_of ts)) p.1))
      (and_left (one_of (sign_code sign_of.Dot ∷ []) ts) _ (apart_sets (sign_code sign_of.Less ∷ []) (sign_code sign_of.Dot ∷ []) refl (front_code ts) p.0)))
      (λ d. neither (apart_sets (sign_code sign_of.LeftParen ∷ []) (sign_code sign_of.Less ∷ []) refl (front_code ts) d) (apart_sets (sign_code sign_of.LeftParen ∷ []) (sign_code sign_of.Dot ∷ []) refl (front_code ts) d))
      (or_cases (less_greater ts) (one_of (sign_code sign_of.LeftParen ∷ []) ts) t))
      (or_cases (one_of (sign_code sign_of.LeftBracket ∷ []) ts) (object_starts ts) e)
    where
      neither : one_of (sign_code sign_of.Less ∷ []) ts ≡ false → one_of (sign_code sign_of.Dot ∷ []) ts ≡ false → goes_on_class ts ≡ false
      neither l d = or_from _ _ (and_left (one_of (sign_code sign_of.Less ∷ []) ts) _ l) (and_left (one_of (sign_code sign_of.Dot ∷ []) ts) _ d)
