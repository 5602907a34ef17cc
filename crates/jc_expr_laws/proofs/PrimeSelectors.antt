-- The forms of selectors, and that they are read as they are to be.
use Rattle.std.proofs.Common.{◌≡◌, ℕ, Bool, true, false, List, [], ◌∷◌, Option, Some, None, refl, sym, ap, ◌∙◌, subst, ⊎_elim, inl, inr}
use Rattle.std.proofs.lemmas.Bool.{false≢true, false_from_ne_true, and_left, and_parts, or_cases}
use Rattle.std.specs.Prelude.{◌&&◌, ◌||◌, nat_le}
use Rattle.jc_lexer.specs.declared.token.Key.TheVariants as key_of
use Rattle.jc_lexer.specs.declared.token.Sign.TheVariants as sign_of
use Rattle.jc_lexer.specs.declared.token.Token.{Token}
use Rattle.jc_tree.specs.declared.name.Ident.{Ident}
use Rattle.jc_tree.specs.declared.types.TypeArg.{TypeArg}
use Rattle.jc_tree.specs.declared.expression.Creation.{Creation}
use Rattle.jc_tree.specs.declared.expression.Expr.{Expr}
use Rattle.jc_tree.specs.declared.expression.ArrayInit.{ArrayInit}
use Rattle.jc_tree.specs.Heights.{expr_height}
use Rattle.jc_grammar.specs.Shapes.{Shape, creation_shape, expr_shape}
use Rattle.jc_grammar.proofs.ShapesOfExpressions.{expr_shape-Index, expr_shape-InnerNew, expr_shape-Call, expr_shape-Field}
use Rattle.jc_reading.specs.Kinds.{sign_code, key_code, word_code, is_in, front_code, one_of}
use Rattle.jc_reading.specs.Reading.{Run, becoming, joined, Either, This, That, rest_of}
use Rattle.jc_reading.proofs.Steps.{IsFound, found_becoming, found_bind}
use Rattle.jc_reading.proofs.Forms.{Form, Lawful, Stands}
use Rattle.jc_reading.proofs.Pairs.{cut}
use Rattle.jc_reading.proofs.Alikes.{alike_laws}
use Rattle.jc_reading.proofs.Signs.{a_sign, apart_sets, within_sets, all_in, sign_laws, key_laws, ident_laws}
use Rattle.jc_parse_type.proofs.TypeForms.{arg_form, arg_laws, arg_codes, limit_codes, bracket_codes, goes_on_type, goes_on_class}
use Rattle.jc_reading.proofs.Coded.{Coded, formed, coded, coded_laws, in_order, in_order_laws, optional, optional_laws, listed, listed_laws, one_or, one_or_laws}
use Rattle.jc_part_laws.proofs.ExprForms.{expr_codes}
use Rattle.jc_reading.proofs.Lowest.{Law, roomy}
use Rattle.jc_part_laws.proofs.PartForms.{sign_form, key_form, ident_form}
use Rattle.jc_expr_laws.specs.PrimeReading.{SomeArgs, Member, Indexed, Dotted, Selector, creation_run, dotted_run, selector_run, selected, selectors_run}
use Rattle.jc_reading.proofs.Stepwise.{Steady, steady_from, steady_void, Stepping}
use Rattle.jc_expr_laws.proofs.PrimeTokens.{any_expr, actuals_coded, actuals_laws}
use Rattle.jc_expr_laws.proofs.CreationRooms.{Below, expr_below, lawful_room, void_room, one_or_second, found_this, found_that}
use Rattle.jc_expr_laws.proofs.CreationForms.{creation_coded, creation_laws, creation_next, selector_codes}

-- type arguments

abbrev pub arg_goes : List ℕ
arg_goes = sign_code sign_of.LeftBracket ∷ sign_code sign_of.Less ∷ sign_code sign_of.Dot ∷ key_code key_of.Extends ∷ key_code key_of.Super ∷ []

abbrev pub arg_coded : ℕ → Coded TypeArg
arg_coded h = coded (arg_form h) arg_codes arg_goes

goes_arg : (ts : List Token) → (goes_on_type ts || one_of limit_codes ts) ≡ true → one_of arg_goes ts ≡ true
goes_arg ts e =
    ⊎_elim
    (λ t. ⊎_elim
    (λ b. within_sets bracket_codes arg_goes refl (front_code ts) b)
    (λ c. ⊎_elim
    (λ l. within_sets (sign_code sign_of.Less ∷ []) arg_goes refl (front_code ts) (and_parts (one_of (sign_code sign_of.Less ∷ []) ts) (one_of arg_codes (rest_of ts)) l).0)
    (λ d. within_sets (sign_code sign_of.Dot ∷ []) arg_goes refl (front_code ts) (and_parts (one_of (sign_code sign_of.Dot ∷ []) ts) (one_of (word_code ∷ []) (rest_of ts)) d).0)
    (or_cases (one_of (sign_code sign_of.Less ∷ []) ts && one_of arg_codes (rest_of ts)) (one_of (sign_code sign_of.Dot ∷ []) ts && one_of (word_code ∷ []) (rest_of ts)) c))
    (or_cases (one_of bracket_codes ts) (goes_on_class ts) t))
    (λ x. within_sets limit_codes arg_goes refl (front_code ts) x)
    (or_cases (goes_on_type ts) (one_of limit_codes ts) e)

pub arg_coded_laws : (h : ℕ) → Lawful TypeArg (formed (arg_coded h))
arg_coded_laws h = coded_laws TypeArg (arg_form h) arg_codes arg_goes (arg_laws h) (λ ts e. e) goes_arg

pub outside : (xs ys : List ℕ) (n : ℕ) → all_in xs ys ≡ true → is_in ys n ≡ false → is_in xs n ≡ false
outside xs ys n e f = false_from_ne_true (is_in xs n) (λ t. false≢true (sym f ∙ within_sets xs ys e n t))

-- what may go on in a primary
abbrev pub prime_goes : List ℕ
prime_goes = sign_code sign_of.Dot ∷ sign_code sign_of.LeftBracket ∷ sign_code sign_of.LeftParen ∷ sign_code sign_of.LeftBrace ∷ []

module _ (h : ℕ) (expr : Run Expr) (array : Run ArrayInit) (below : Below h expr array) where
  abbrev pub Actuals : Coded (List Expr)
  Actuals = actuals_coded h expr (expr_below h expr array below)

  pub la : Lawful (List Expr) (formed Actuals)
  la = actuals_laws h expr (expr_below h expr array below)

  abbrev pub New : Coded Creation
  New = creation_coded h expr array below

  -- members

  abbrev pub some_args : Coded SomeArgs
  some_args = in_order (sign_form sign_of.Less) (in_order (listed (arg_coded h)) (sign_form sign_of.Greater))

  some_args_laws : Lawful SomeArgs (formed some_args)
  some_args_laws =
      in_order_laws (Unit {0}) (List TypeArg × Unit {0}) (sign_form sign_of.Less) (in_order (listed (arg_coded h)) (sign_form sign_of.Greater)) (sign_laws sign_of.Less)
      (in_order_laws (List TypeArg) (Unit {0}) (listed (arg_coded h)) (sign_form sign_of.Greater) (listed_laws TypeArg (arg_coded h) (arg_coded_laws h) refl refl) (sign_laws sign_of.Greater) refl) refl

  abbrev pub generic : Coded (SomeArgs × (Ident × List Expr))
  generic = in_order some_args (in_order ident_form Actuals)

  abbrev pub named : Coded (Ident × Option (List Expr))
  named = in_order ident_form (optional Actuals)

  pub named_laws : Lawful (Ident × Option (List Expr)) (formed named)
  named_laws = in_order_laws Ident (Option (List Expr)) ident_form (optional Actuals) ident_laws (optional_laws (List Expr) Actuals la refl) refl

  abbrev pub member : Coded Member
  member = one_or (sign_code sign_of.Less ∷ []) generic named

  pub generic_laws : Lawful (SomeArgs × (Ident × List Expr)) (formed generic)
  generic_laws = in_order_laws SomeArgs (Ident × List Expr) some_args (in_order ident_form Actuals) some_args_laws (in_order_laws Ident (List Expr) ident_form Actuals ident_laws la refl) refl

  pub member_laws : Lawful Member (formed member)
  member_laws =
      one_or_laws (SomeArgs × (Ident × List Expr)) (Ident × Option (List Expr)) (sign_code sign_of.Less ∷ []) generic named
      generic_laws
      named_laws (record { solid = refl; solid' = refl; this = refl; that = refl })

  -- selectors

  abbrev pub inner_new : Coded (Unit {0} × Creation)
  inner_new = in_order (key_form key_of.New) New

  pub inner_new_laws : Lawful (Unit {0} × Creation) (formed inner_new)
  inner_new_laws = in_order_laws (Unit {0}) Creation (key_form key_of.New) New (key_laws key_of.New) (creation_laws h expr array below) refl

  abbrev pub behind_dot : Coded (Either (Unit {0} × Creation) Member)
  behind_dot = one_or (key_code key_of.New ∷ []) inner_new member

  pub behind_dot_laws : Lawful (Either (Unit {0} × Creation) Member) (formed behind_dot)
  behind_dot_laws = one_or_laws (Unit {0} × Creation) Member (key_code key_of.New ∷ []) inner_new member inner_new_laws member_laws (record { solid = refl; solid' = refl; this = refl; that = refl })

  abbrev pub dotted : Coded Dotted
  dotted = in_order (sign_form sign_of.Dot) behind_dot

  pub dotted_laws : Lawful Dotted (formed dotted)
  dotted_laws = in_order_laws (Unit {0}) (Either (Unit {0} × Creation) Member) (sign_form sign_of.Dot) behind_dot (sign_laws sign_of.Dot) behind_dot_laws refl

  abbrev Bracketed : Coded Indexed
  Bracketed = in_order (sign_form sign_of.LeftBracket) (in_order (any_expr h expr) (sign_form sign_of.RightBracket))

  abbrev pub indexed : Coded Indexed
  indexed = roomy h Bracketed

  pub indexed_law : Law Indexed indexed
  indexed_law =
      ⊎_elim
      (λ v. inr (void_room Indexed Bracketed h v.0 (λ p. and_left ((any_expr h expr).fits p.1.0) true (v.1.0.never p.1.0))))
      (λ l. inl (lawful_room Indexed Bracketed h l.0
      (in_order_laws (Unit {0}) (Expr × Unit {0}) (sign_form sign_of.LeftBracket) (in_order (any_expr h expr) (sign_form sign_of.RightBracket)) (sign_laws sign_of.LeftBracket)
      (in_order_laws Expr (Unit {0}) (any_expr h expr) (sign_form sign_of.RightBracket) l.1.0 (sign_laws sign_of.RightBracket) refl) refl)))
      below

  abbrev pub selector : Coded Selector
  selector = one_or (sign_code sign_of.LeftBracket ∷ []) indexed dotted

  pub selector_laws : Lawful Selector (formed selector)
  selector_laws = one_or_second Indexed Dotted (sign_code sign_of.LeftBracket ∷ []) indexed dotted (record { solid = refl; solid' = refl; this = refl; that = refl }) indexed_law dotted_laws

  -- with room for a value that is selected from, and behind an array with lengths or not

  abbrev pub part_fits : Bool → Bool → Selector → Bool
  part_fits true false p = selector.fits p
  part_fits true true (This p) = false
  part_fits true true (That p) = dotted.fits p
  part_fits false sized p = false

  abbrev pub part_starts : Bool → Bool → List Token → Bool
  part_starts true false ts = one_of selector.starts ts
  part_starts true true ts = one_of (sign_code sign_of.Dot ∷ []) ts
  part_starts false sized ts = false

  abbrev pub part_form : Bool → Bool → Form Selector
  part_form room sized = record { tell = selector.tell; fits = part_fits room sized; run = selector_run h expr array room sized; starts = part_starts room sized; goes_on = one_of prime_goes; empties = false }

  back_dotted : (p : Selector) → part_fits true true p ≡ true → (d : Dotted) × (That d ≡ p) × (dotted.fits d ≡ true)
  back_dotted (This p) g = absurd (false≢true g)
  back_dotted (That d) g = (d, refl, g)

  pub part_steady : (room sized : Bool) → Steady Selector (part_form room sized)
  part_steady true false =
      steady_from Selector (part_form true false)
      (coded_laws Selector (formed selector) selector.starts prime_goes selector_laws (λ ts e. e) (λ ts e. within_sets selector.goes prime_goes refl (front_code ts) e)) refl
  part_steady true true =
      steady_from Selector (part_form true true)
      (alike_laws Dotted Selector (formed dotted) That selector.tell (part_fits true true) (one_of (sign_code sign_of.Dot ∷ [])) (one_of prime_goes) dotted_laws
      (record { told = λ d r g. refl; forth = λ d g. g; back = back_dotted; starts_too = λ ts e. e; goes_too = λ ts e. within_sets dotted.goes prime_goes refl (front_code ts) e })) refl
  part_steady false sized = steady_void Selector (part_form false sized) (λ ts. refl) (λ p. refl)

  pub part_over : (room sized : Bool) (ts : List Token) → one_of prime_goes ts ≡ false → part_starts room sized ts ≡ false
  part_over true false ts e = outside selector.starts prime_goes (front_code ts) refl e
  part_over true true ts e = outside (sign_code sign_of.Dot ∷ []) prime_goes (front_code ts) refl e
  part_over false sized ts e = refl

  -- what makes an array with lengths
  abbrev pub sizing : Selector → Bool
  sizing (This p) = false
  sizing (That (u, This p)) = (creation_shape p.1).sized
  sizing (That (u, That m)) = false

  dotted_next : (ts : List Token) (d : Dotted) (r : List Token) → Stands (formed dotted) ts d r → one_of selector_codes r ≡ true → (sizing (That d) ≡ true → one_of (sign_code sign_of.Dot ∷ []) r ≡ true) → IsFound d r (dotted_run h expr array ts)
  dotted_next ts (u, This (v, c)) r s e f =
      let w = cut (Unit {0}) (Either (Unit {0} × Creation) Member) (formed (sign_form sign_of.Dot)) (formed behind_dot) (sign_laws sign_of.Dot) behind_dot_laws (λ us q. refl) ts (u, This (v, c)) r s in
      let x = cut (Unit {0}) Creation (formed (key_form key_of.New)) (formed New) (key_laws key_of.New) (creation_laws h expr array below) (λ us q. refl) w.0 (v, c) r w.2 in
      let starts = ⊎_elim (λ o. o.0) (λ o. absurd (false≢true o.1)) ((key_laws key_of.New).opens w.0 v x.0 x.1) in
      let inner = found_bind v x.0 (v, c) r ((key_form key_of.New).run w.0) (λ a q. becoming (joined a) (creation_run h expr array q)) ((key_laws key_of.New).exact w.0 v x.0 x.1 refl) (found_becoming (joined v) c r (creation_run h expr array x.0) (creation_next h expr array below x.0 c r x.2 e f)) in
      found_bind u w.0 (u, This (v, c)) r ((sign_form sign_of.Dot).run ts) (λ a q. becoming (joined a) (behind_dot.run q)) ((sign_laws sign_of.Dot).exact ts u w.0 w.1 refl)
      (found_becoming (joined u) (This (v, c)) r (behind_dot.run w.0) (found_this (key_code key_of.New ∷ []) inner_new.run member.run w.0 (v, c) r starts inner))
  dotted_next ts (u, That m) r s e f =
      let w = cut (Unit {0}) (Either (Unit {0} × Creation) Member) (formed (sign_form sign_of.Dot)) (formed behind_dot) (sign_laws sign_of.Dot) behind_dot_laws (λ us q. refl) ts (u, That m) r s in
      let starts = ⊎_elim (λ o. apart_sets member.starts (key_code key_of.New ∷ []) refl (front_code w.0) o.0) (λ o. absurd (false≢true o.1)) (member_laws.opens w.0 m r w.2) in
      let inner = member_laws.exact w.0 m r w.2 (apart_sets selector_codes member.goes refl (front_code r) e) in
      found_bind u w.0 (u, That m) r ((sign_form sign_of.Dot).run ts) (λ a q. becoming (joined a) (behind_dot.run q)) ((sign_laws sign_of.Dot).exact ts u w.0 w.1 refl)
      (found_becoming (joined u) (That m) r (behind_dot.run w.0) (found_that (key_code key_of.New ∷ []) inner_new.run member.run w.0 m r starts inner))

  indexed_next : (ts : List Token) (p : Indexed) (r : List Token) → Stands (formed indexed) ts p r → (one_of (sign_code sign_of.LeftBracket ∷ []) ts ≡ true) × IsFound p r (indexed.run ts)
  indexed_next ts p r s =
      ⊎_elim (λ l. (⊎_elim (λ o. o.0) (λ o. absurd (false≢true o.1)) (l.opens ts p r s), l.exact ts p r s refl)) (λ v. absurd (false≢true (sym (v.never p) ∙ s.1))) indexed_law

  part_next : (room sized : Bool) (ts : List Token) (p : Selector) (r : List Token) → Stands (part_form room sized) ts p r → one_of selector_codes r ≡ true → (sizing p ≡ true → one_of (sign_code sign_of.Dot ∷ []) r ≡ true) → IsFound p r (selector_run h expr array room sized ts)
  part_next true false ts (This p) r s e f = let w = indexed_next ts p r s in found_this (sign_code sign_of.LeftBracket ∷ []) indexed.run dotted.run ts p r w.0 w.1
  part_next true false ts (That d) r s e f =
      found_that (sign_code sign_of.LeftBracket ∷ []) indexed.run dotted.run ts d r
      (apart_sets (sign_code sign_of.Dot ∷ []) (sign_code sign_of.LeftBracket ∷ []) refl (front_code ts) (⊎_elim (λ o. o.0) (λ o. absurd (false≢true o.1)) (dotted_laws.opens ts d r s))) (dotted_next ts d r s e f)
  part_next true true ts (This p) r s e f = absurd (false≢true s.1)
  part_next true true ts (That d) r s e f = found_becoming That d r (dotted_run h expr array ts) (dotted_next ts d r s e f)
  part_next false sized ts p r s e f = absurd (false≢true s.1)

  starts_selector : (room sized : Bool) (ts : List Token) → part_starts room sized ts ≡ true → one_of selector_codes ts ≡ true
  starts_selector true false ts e = within_sets selector.starts selector_codes refl (front_code ts) e
  starts_selector true true ts e = within_sets (sign_code sign_of.Dot ∷ []) selector_codes refl (front_code ts) e
  starts_selector false sized ts e = absurd (false≢true e)

  starts_dotted : (room sized : Bool) (ts : List Token) → part_starts room sized ts ≡ true → sized ≡ true → one_of (sign_code sign_of.Dot ∷ []) ts ≡ true
  starts_dotted true false ts e f = absurd (false≢true f)
  starts_dotted true true ts e f = e
  starts_dotted false sized ts e f = absurd (false≢true e)

  pub sized_selected : (v : Expr) (p : Selector) → (expr_shape (selected v p)).sized ≡ sizing p
  sized_selected v (This p) = ap (λ (s : Shape). s.sized) (expr_shape-Index v p.1.0)
  sized_selected v (That (u, This p)) = ap (λ (s : Shape). s.sized) (expr_shape-InnerNew v p.1)
  sized_selected v (That (u, That (This p))) = ap (λ (s : Shape). s.sized) (expr_shape-Call v p.0.1.0 p.1.0 p.1.1)
  sized_selected v (That (u, That (That (name, None)))) = ap (λ (s : Shape). s.sized) (expr_shape-Field v name)
  sized_selected v (That (u, That (That (name, Some list)))) = ap (λ (s : Shape). s.sized) (expr_shape-Call v [] name list)

  abbrev pub sel_fits : Expr → Selector → Bool
  sel_fits v = part_fits (nat_le (expr_height v) h) (expr_shape v).sized

  abbrev pub sel_starts : Expr → List Token → Bool
  sel_starts v = part_starts (nat_le (expr_height v) h) (expr_shape v).sized

  -- where a selector of a value stands
  pub first_selector : (v : Expr) (ts : List Token) (p : Selector) (r : List Token) → Stands (part_form (nat_le (expr_height v) h) (expr_shape v).sized) ts p r → (one_of selector_codes ts ≡ true) × ((expr_shape v).sized ≡ true → one_of (sign_code sign_of.Dot ∷ []) ts ≡ true)
  first_selector v ts p r s =
      let o = (part_steady (nat_le (expr_height v) h) (expr_shape v).sized).opens ts p r s in
      (starts_selector (nat_le (expr_height v) h) (expr_shape v).sized ts o.0, starts_dotted (nat_le (expr_height v) h) (expr_shape v).sized ts o.0)

  pub selecting : Stepping Expr Selector selected selector.tell sel_fits (selectors_run h expr array) sel_starts (one_of prime_goes)
  selecting = record {
    steady = λ v. part_steady (nat_le (expr_height v) h) (expr_shape v).sized;
    over = λ v ts e. part_over (nat_le (expr_height v) h) (expr_shape v).sized ts e;
    next = λ v ts p m q r s t.
        let f = first_selector (selected v p) m q r t in
        part_next (nat_le (expr_height v) h) (expr_shape v).sized ts p m s f.0 (λ e. f.1 (sized_selected v p ∙ e));
  }

  -- a bracket, and behind it an expression
  pub index_second : (ts : List Token) (p : Indexed) (r : List Token) → Stands (formed indexed) ts p r → (one_of (sign_code sign_of.LeftBracket ∷ []) ts ≡ true) × (one_of expr_codes (rest_of ts) ≡ true)
  index_second ts p r s =
      ⊎_elim
      (λ v. absurd (false≢true (sym (and_left ((any_expr h expr).fits p.1.0) true (v.1.0.never p.1.0)) ∙ s.1)))
      (λ l.
      let lr = in_order_laws Expr (Unit {0}) (any_expr h expr) (sign_form sign_of.RightBracket) l.1.0 (sign_laws sign_of.RightBracket) refl in
      let w = cut (Unit {0}) (Expr × Unit {0}) (formed (sign_form sign_of.LeftBracket)) (formed (in_order (any_expr h expr) (sign_form sign_of.RightBracket))) (sign_laws sign_of.LeftBracket) lr (λ us q. refl) ts p r s in (
        ⊎_elim (λ o. o.0) (λ o. absurd (false≢true o.1)) ((sign_laws sign_of.LeftBracket).opens ts p.0 w.0 w.1),
        subst (λ (m : List Token). one_of expr_codes m ≡ true) (rest_is ts w.0 w.1) (⊎_elim (λ o. o.0) (λ o. absurd (false≢true o.1)) (lr.opens w.0 p.1 r w.2)),
      ))
      below
    where
      rest_is : (ts m : List Token) → Stands (a_sign sign_of.LeftBracket) ts p.0 m → m ≡ rest_of ts
      rest_is [] m t = absurd t.0
      rest_is (k ∷ ts) m t = sym t.0.1
