-- The form of creations, and that they are read as they are to be.
use Rattle.std.proofs.Common.{◌≡◌, ℕ, max, Bool, true, false, List, [], ◌∷◌, ◌++◌, map, length, refl, sym, ap, ◌∙◌, subst, ⊎_elim, inl, inr, arith}
use Rattle.std.proofs.Math.Bool.{and-true}
use Rattle.std.proofs.lemmas.Bool.{false≢true, and_left, and_parts, or_cases, cases_Bool}
use Rattle.std.proofs.lemmas.Grind.{common_steps}
use Rattle.std.specs.Prelude.{◌&&◌, ◌||◌, not, nat_le}
use Rattle.std.specs.List.{list_all}
use Rattle.jc_rules.proofs.Truths.{and_assoc}
use Rattle.jc_lexer.specs.declared.token.Sign.TheVariants as sign_of
use Rattle.jc_lexer.specs.declared.token.Token.{Token}
use Rattle.jc_tree.specs.declared.expression.Creation.{Creation, Creation-F, out-Creation, roll-Creation, roll-out-Creation}
use Rattle.jc_tree.specs.declared.expression.Creation.TheVariants as creation_of
use Rattle.jc_tree.specs.declared.expression.Operand.{Operand}
use Rattle.jc_tree.specs.declared.expression.Init.{Init}
use Rattle.jc_tree.specs.declared.expression.Expr.{Expr}
use Rattle.jc_tree.specs.declared.expression.ArrayInit.{ArrayInit}
use Rattle.jc_tree.specs.declared.expression.Skip.{Skip}
use Rattle.jc_tree.specs.declared.types.BaseTree.{BaseTree, BaseTree-F, out-BaseTree, roll-BaseTree, roll-out-BaseTree}
use Rattle.jc_tree.specs.declared.types.BaseTree.TheVariants as base_of
use Rattle.jc_tree.specs.declared.types.TypeArg.{TypeArg}
use Rattle.jc_tree.specs.declared.types.TypePart.{TypePart}
use Rattle.jc_tree.specs.declared.types.TypeTree.{TypeTree}
use Rattle.jc_tree.specs.declared.types.ClassTree.{ClassTree}
use Rattle.jc_tree.specs.declared.types.PrimitiveWord.{PrimitiveWord}
use Rattle.jc_tree.specs.Heights.{most, expr_height, array_height, skip_height, creation_height, base_height, class_height}
use Rattle.jc_tree.proofs.HeightsOfExpressions.{creation_height-Object, creation_height-Sized, creation_height-Initialised}
use Rattle.jc_tree.proofs.HeightsOfTypes.{base_height-Primitive, base_height-Class}
use Rattle.jc_grammar.specs.Told.{Told, sign, each, brackets}
use Rattle.jc_grammar.specs.Types.{base_tokens, class_tokens}
use Rattle.jc_grammar.specs.Expressions.{creation_tokens, in_brackets, expr_tokens}
use Rattle.jc_grammar.specs.Shapes.{CreationShape, creation_shape, all_stand, any_level, is_expr, expr_shape, is_array, is_skip, ends_bare}
use Rattle.jc_grammar.proofs.ShapesOfExpressions.{creation_shape-Object, creation_shape-Sized, creation_shape-Initialised}
use Rattle.jc_grammar.proofs.TokensOfExpressions.{creation_tokens-Object, creation_tokens-Sized, creation_tokens-Initialised}
use Rattle.jc_grammar.proofs.TokensOfTypes.{base_tokens-Primitive, base_tokens-Class}
use Rattle.jc_reading.specs.Kinds.{sign_code, word_code, front_code, one_of}
use Rattle.jc_reading.specs.Reading.{Read, Run, becoming, joined, Either, This, That, Takes}
use Rattle.jc_reading.proofs.Steps.{IsFound, found_becoming, found_bind, takes_cut}
use Rattle.jc_reading.proofs.Forms.{Form, Lawful, Stands}
use Rattle.jc_reading.proofs.Pairs.{cut}
use Rattle.jc_reading.proofs.Lists.{tell_all, fits_all}
use Rattle.jc_reading.proofs.Rooms.{room_above, room_max}
use Rattle.jc_reading.proofs.Signs.{apart_sets, sign_laws}
use Rattle.jc_parse_type.specs.TypeReading.{primitive_codes}
use Rattle.jc_parse_type.proofs.TypeForms.{class_form, class_laws, arg_laws, word_form, word_laws}
use Rattle.jc_reading.proofs.Coded.{Coded, formed, coded, coded_laws, in_order, in_order_laws, one_or, one_or_laws, made_laws, same_makes}
use Rattle.jc_reading.proofs.Depends.{depending, depending_laws}
use Rattle.jc_reading.proofs.Lowest.{Law, Void, roomy}
use Rattle.jc_part_laws.proofs.PartForms.{sign_form}
use Rattle.jc_expr_laws.specs.PrimeReading.{Initial, Lengths, ArrayTail, ClassTail, array_tail_run, object_tail_run, class_tail_run, array_creation, class_creation, creation_made, creation_run}
use Rattle.jc_expr_laws.proofs.PrimeTokens.{any_expr, all_standing}
use Rattle.jc_expr_laws.proofs.CreationArrays.{array_coded}
use Rattle.jc_expr_laws.proofs.CreationRooms.{Below, room_same, lawful_room, void_room, one_or_second, found_this, found_that}
use Rattle.jc_expr_laws.proofs.CreationTails.{initial, initial_laws, lengths, lengths_laws, brackets_coded, array_tail, array_tail_law, object_coded, fits_object, object_form, object_form_laws, tail_starts, tail_goes, class_tail, class_tail_laws, tail_meets}
use Rattle.jc_part_laws.proofs.AnnotationForms.{room_and}

-- where a selector begins
abbrev pub selector_codes : List ℕ
selector_codes = sign_code sign_of.Dot ∷ sign_code sign_of.LeftBracket ∷ []

shuffle_sized : (b e m g s : Bool) → (((b && e) && m) && (g && s)) ≡ (b && ((e && g) && (m && s)))
shuffle_sized b e m g s = grind (arith, common_steps)

shuffle_object : (c a s d g k l : Bool) → (((c && a) && s) && (((d && g) && k) && l)) ≡ (c && (d && ((a && g) && (s && (k && l)))))
shuffle_object true a s true g k l = ap (λ b. b) (shuffle_four a s g k l)
  where
    shuffle_four : (a s g k l : Bool) → ((a && s) && ((g && k) && l)) ≡ ((a && g) && (s && (k && l)))
    shuffle_four a s g k l = grind (arith, common_steps)
shuffle_object true a s false g k l = grind (arith, common_steps)
shuffle_object false a s d g k l = refl

module _ (h : ℕ) (expr : Run Expr) (array : Run ArrayInit) (below : Below h expr array) where
  abbrev ATail : Coded ArrayTail
  ATail = array_tail h expr array below

  abbrev Objects : Coded (List Expr × List Skip)
  Objects = object_coded h expr array below

  -- a primitive type, and what makes an array of it
  abbrev Word : Coded (ℕ × PrimitiveWord)
  Word = coded word_form primitive_codes []

  abbrev WordArray : Coded ((ℕ × PrimitiveWord) × ArrayTail)
  WordArray = in_order Word ATail

  abbrev of_word : Coded ((ℕ × PrimitiveWord) × ArrayTail)
  of_word = roomy h WordArray

  of_word_law : Law ((ℕ × PrimitiveWord) × ArrayTail) of_word
  of_word_law =
      ⊎_elim
      (λ v. inr (void_room ((ℕ × PrimitiveWord) × ArrayTail) WordArray h v.0 (λ p. ⊎_elim (λ la. absurd (no_tail v.0 la)) (λ w. w.never p.1) (array_tail_law h expr array below))))
      (λ l. ⊎_elim (λ la. inl (lawful_room ((ℕ × PrimitiveWord) × ArrayTail) WordArray h l.0 (in_order_laws (ℕ × PrimitiveWord) ArrayTail Word ATail word_laws la refl))) (λ w. absurd (a_tail l.1.1 w)) (array_tail_law h expr array below))
      below
    where
      -- at height 0 no array is made
      no_tail : h ≡ 0 → Lawful ArrayTail (formed ATail) → ⊥
      no_tail e la = ⊎_elim (λ v. no_value v.1.0 v.1.1 la.least.value (la.least.spelled []).1) (λ l. l.0 e) below
        where
          no_value : Void Expr (any_expr h expr) → Void ArrayInit (array_coded h array) → (t : ArrayTail) → ATail.fits t ≡ true → ⊥
          no_value ve va (u, This p) g = false≢true (sym (va.never p.1.1) ∙ g)
          no_value ve va (u, That p) g = false≢true (sym (and_left ((any_expr h expr).fits p.0) _ (ve.never p.0)) ∙ g)

      a_tail : Lawful ArrayInit (formed (array_coded h array)) → Void ArrayTail ATail → ⊥
      a_tail la w = false≢true (sym (w.never (tt, This (tt, (0, la.least.value)))) ∙ (la.least.spelled []).1)

  -- a class type, and what makes an object of it, or an array
  abbrev of_class : Form (ClassTree × ClassTail)
  of_class = depending ClassTree ClassTail (class_form h (arg_laws h)) (class_tail h expr array below) (tail_starts h expr array below) (one_of (tail_goes h expr array below))

  of_class_laws : Lawful (ClassTree × ClassTail) of_class
  of_class_laws =
      depending_laws ClassTree ClassTail (class_form h (arg_laws h)) (class_tail h expr array below) (tail_starts h expr array below) (one_of (tail_goes h expr array below)) (class_laws h (arg_laws h)) (class_tail_laws h expr array below)
      (record { solid = λ a. refl; begun = λ a ts e. e; going = λ a ts e. e; meet = tail_meets h expr array below })

  abbrev OfClass : Coded (ClassTree × ClassTail)
  OfClass = coded of_class (word_code ∷ []) (tail_goes h expr array below)

  twice : (b : Bool) → (b || false) ≡ true → b ≡ true
  twice true e = refl
  twice false e = e

  of_class_coded : Lawful (ClassTree × ClassTail) (formed OfClass)
  of_class_coded = coded_laws (ClassTree × ClassTail) of_class (word_code ∷ []) (tail_goes h expr array below) of_class_laws (λ ts e. twice (one_of (word_code ∷ []) ts) e) (λ ts e. e)

  abbrev Sides : Coded (Either ((ℕ × PrimitiveWord) × ArrayTail) (ClassTree × ClassTail))
  Sides = one_or primitive_codes of_word OfClass

  sides_laws : Lawful (Either ((ℕ × PrimitiveWord) × ArrayTail) (ClassTree × ClassTail)) (formed Sides)
  sides_laws = one_or_second ((ℕ × PrimitiveWord) × ArrayTail) (ClassTree × ClassTail) primitive_codes of_word OfClass (record { solid = refl; solid' = refl; this = refl; that = refl }) of_word_law of_class_coded

  abbrev pub creation_fits : Creation → Bool
  creation_fits c = nat_le (creation_height c) h && (creation_shape c).good

  abbrev pub creation_coded : Coded Creation
  creation_coded = record { tell = creation_tokens; fits = creation_fits; run = creation_run h expr array; starts = primitive_codes ++ (word_code ∷ []); goes = Sides.goes; empties = false }

  abbrev sizes : List (Unit {0} × (Expr × Unit {0})) → List Expr
  sizes list = map (λ (q : Unit {0} × (Expr × Unit {0})). q.1.0) list

  -- tokens

  told_lengths : (list : List (Unit {0} × (Expr × Unit {0}))) (r : List Told) → each (map in_brackets (map expr_tokens (sizes list))) r ≡ tell_all (λ (p : Unit {0} × (Expr × Unit {0})) s. sign sign_of.LeftBracket ∷ expr_tokens p.1.0 (sign sign_of.RightBracket ∷ s)) list r
  told_lengths [] r = refl
  told_lengths (p ∷ list) r = ap (λ (l : List Told). sign sign_of.LeftBracket ∷ expr_tokens p.1.0 (sign sign_of.RightBracket ∷ l)) (told_lengths list r)

  told_array : (el : BaseTree) (t : ArrayTail) (r : List Told) → creation_tokens (array_creation el t) r ≡ base_tokens el (ATail.tell t r)
  told_array el (u, This p) r = creation_tokens-Initialised el p.1.0 p.1.1 r
  told_array el (u, That p) r =
      creation_tokens-Sized el p.0 (sizes p.1.1.0) p.1.1.1 r
      ∙ ap (λ (l : List Told). base_tokens el (sign sign_of.LeftBracket ∷ expr_tokens p.0 (sign sign_of.RightBracket ∷ l))) (told_lengths p.1.1.0 (brackets p.1.1.1 r))

  told_class : (class : ClassTree) (t : ClassTail) (r : List Told) → creation_tokens (class_creation class t) r ≡ class_tokens class ((class_tail h expr array below class).tell t r)
  told_class class (This t) r = told_array (base_of.Class class) t r ∙ base_tokens-Class class (ATail.tell t r)
  told_class class (That p) r = creation_tokens-Object class p.0 p.1.0 p.1.1 r

  told_creation : (o : Either ((ℕ × PrimitiveWord) × ArrayTail) (ClassTree × ClassTail)) (r : List Told) → creation_tokens (creation_made o) r ≡ Sides.tell o r
  told_creation (This p) r = told_array (base_of.Primitive p.0.0 p.0.1) p.1 r ∙ base_tokens-Primitive p.0.0 p.0.1 (ATail.tell p.1 r)
  told_creation (That p) r = told_class p.0 p.1 r

  -- heights and shapes

  fit_sizes : (list : List (Unit {0} × (Expr × Unit {0}))) → fits_all (λ (p : Unit {0} × (Expr × Unit {0})). true && ((any_expr h expr).fits p.1.0 && true)) list ≡ fits_all (any_expr h expr).fits (sizes list)
  fit_sizes [] = refl
  fit_sizes (p ∷ list) = ap (λ b. b && fits_all (λ (q : Unit {0} × (Expr × Unit {0})). true && ((any_expr h expr).fits q.1.0 && true)) list) (and-true ((any_expr h expr).fits p.1.0)) ∙ ap (λ b. (any_expr h expr).fits p.1.0 && b) (fit_sizes list)

  good_of : (c : Creation) (s : CreationShape) (n : ℕ) → creation_height c ≡ n → creation_shape c ≡ s → creation_fits c ≡ (nat_le n h && s.good)
  good_of c s n e f = ap (λ k. nat_le k h && (creation_shape c).good) e ∙ ap (λ (t : CreationShape). nat_le n h && t.good) f

  fit_array : (el : BaseTree) (t : ArrayTail) → creation_fits (array_creation el t) ≡ (nat_le (base_height el) h && ATail.fits t)
  fit_array el (u, This p) =
      good_of (creation_of.Initialised el p.1.0 p.1.1) _ _ (creation_height-Initialised el p.1.0 p.1.1) (creation_shape-Initialised el p.1.0 p.1.1)
      ∙ ap (λ b. b && is_array p.1.1) (room_max (base_height el) (array_height p.1.1) h) ∙ and_assoc (nat_le (base_height el) h) (nat_le (array_height p.1.1) h) (is_array p.1.1)
  fit_array el (u, That p) =
      let more : List Expr = sizes p.1.1.0 in
      good_of (creation_of.Sized el p.0 more p.1.1.1) _ _ (creation_height-Sized el p.0 more p.1.1.1) (creation_shape-Sized el p.0 more p.1.1.1)
      ∙ ap (λ b. b && (is_expr p.0 && all_stand any_level (map expr_shape more))) (room_max (max (base_height el) (expr_height p.0)) (most (map expr_height more)) h ∙ ap (λ b. b && nat_le (most (map expr_height more)) h) (room_max (base_height el) (expr_height p.0) h))
      ∙ shuffle_sized (nat_le (base_height el) h) (nat_le (expr_height p.0) h) (nat_le (most (map expr_height more)) h) (is_expr p.0) (all_stand any_level (map expr_shape more))
      ∙ ap (λ b. nat_le (base_height el) h && ((any_expr h expr).fits p.0 && b))
      (ap (λ b. nat_le (most (map expr_height more)) h && b) (all_standing more) ∙ room_and expr_height is_expr h more ∙ sym (fit_sizes p.1.1.0) ∙ sym (and-true (fits_all (λ (q : Unit {0} × (Expr × Unit {0})). true && ((any_expr h expr).fits q.1.0 && true)) p.1.1.0)))

  fit_class : (class : ClassTree) (t : ClassTail) → creation_fits (class_creation class t) ≡ (nat_le (class_height class) h && (class_tail h expr array below class).fits t)
  fit_class class (This t) = fit_array (base_of.Class class) t ∙ ap (λ n. nat_le n h && ATail.fits t) (base_height-Class class)
  fit_class class (That p) =
      let args : List Expr = p.1.0 in
      let body : List Skip = p.1.1 in
      good_of (creation_of.Object class p.0 args body) _ _ (creation_height-Object class p.0 args body) (creation_shape-Object class p.0 args body)
      ∙ ap (λ b. b && ((((not p.0 || ends_bare class) && all_stand any_level (map expr_shape args)) && list_all is_skip body) && nat_le (length body) 1))
      (room_max (max (class_height class) (most (map expr_height args))) (most (map skip_height body)) h ∙ ap (λ b. b && nat_le (most (map skip_height body)) h) (room_max (class_height class) (most (map expr_height args)) h))
      ∙ shuffle_object (nat_le (class_height class) h) (nat_le (most (map expr_height args)) h) (nat_le (most (map skip_height body)) h) (not p.0 || ends_bare class) (all_stand any_level (map expr_shape args)) (list_all is_skip body) (nat_le (length body) 1)
      ∙ ap (λ b. nat_le (class_height class) h && b) (sym (fits_object h expr array below (ends_bare class) p))

  fit_creation : (o : Either ((ℕ × PrimitiveWord) × ArrayTail) (ClassTree × ClassTail)) → creation_fits (creation_made o) ≡ Sides.fits o
  fit_creation (This p) = fit_array (base_of.Primitive p.0.0 p.0.1) p.1 ∙ ap (λ n. nat_le n h && ATail.fits p.1) (base_height-Primitive p.0.0 p.0.1) ∙ ap (λ b. b && ATail.fits p.1) (room_above h)
  fit_creation (That p) = fit_class p.0 p.1

  -- each creation is made of its parts

  wrapped : List Expr → List (Unit {0} × (Expr × Unit {0}))
  wrapped [] = []
  wrapped (e ∷ list) = (tt, (e, tt)) ∷ wrapped list

  wrapped_back : (list : List Expr) → sizes (wrapped list) ≡ list
  unfolding wrapped
  wrapped_back [] = refl
  wrapped_back (e ∷ list) = ap (λ (more : List Expr). e ∷ more) (wrapped_back list)

  back_array : (el : BaseTree) (l : BaseTree-F BaseTree TypeArg ClassTree TypePart TypeTree) (t : ArrayTail) → out-BaseTree el ≡ l → (o : Either ((ℕ × PrimitiveWord) × ArrayTail) (ClassTree × ClassTail)) × (creation_made o ≡ array_creation el t)
  back_array el (BaseTree-F.Primitive at word) t e = (This ((at, word), t), ap (λ (b : BaseTree). array_creation b t) (sym (base_of.rolls-Primitive at word) ∙ ap roll-BaseTree (sym e) ∙ roll-out-BaseTree el))
  back_array el (BaseTree-F.Class class) t e = (That (class, This t), ap (λ (b : BaseTree). array_creation b t) (sym (base_of.rolls-Class class) ∙ ap roll-BaseTree (sym e) ∙ roll-out-BaseTree el))

  back_creation : (c : Creation) (l : Creation-F Creation Expr Init Operand ArrayInit) → out-Creation c ≡ l → (o : Either ((ℕ × PrimitiveWord) × ArrayTail) (ClassTree × ClassTail)) × (creation_made o ≡ c)
  back_creation c (Creation-F.Object class diamond args body) e = (That (class, That (diamond, (args, body))), sym (creation_of.rolls-Object class diamond args body) ∙ ap roll-Creation (sym e) ∙ roll-out-Creation c)
  back_creation c (Creation-F.Sized el first more dims) e =
      let w = back_array el (out-BaseTree el) (tt, That (first, (tt, (wrapped more, dims)))) refl in
      (w.0, w.1 ∙ ap (λ (l : List Expr). creation_of.Sized el first l dims) (wrapped_back more) ∙ sym (creation_of.rolls-Sized el first more dims) ∙ ap roll-Creation (sym e) ∙ roll-out-Creation c)
  back_creation c (Creation-F.Initialised el dims init) e =
      let w = back_array el (out-BaseTree el) (tt, This (tt, (dims, init))) refl in
      (w.0, w.1 ∙ sym (creation_of.rolls-Initialised el dims init) ∙ ap roll-Creation (sym e) ∙ roll-out-Creation c)

  pub creation_laws : Lawful Creation (formed creation_coded)
  unfolding creation_run
  creation_laws =
      made_laws (Either ((ℕ × PrimitiveWord) × ArrayTail) (ClassTree × ClassTail)) Creation Sides creation_made creation_tokens creation_fits sides_laws
      (same_makes (Either ((ℕ × PrimitiveWord) × ArrayTail) (ClassTree × ClassTail)) Creation Sides creation_made creation_tokens creation_fits
      (record { told = told_creation; fit = fit_creation; back = λ c. back_creation c (out-Creation c) refl }))

  -- a creation that is no array with lengths is found exactly where no body follows

  abbrev Brackets : Coded (Either Initial Lengths)
  Brackets = one_or (sign_code sign_of.RightBracket ∷ []) (initial h expr array below) (lengths h expr array below)

  array_exact : (m : List Token) (u : Unit {0}) (p : Initial) (r : List Token) → Stands (formed ATail) m (u, This p) r → (one_of (sign_code sign_of.LeftBracket ∷ []) m ≡ true) × IsFound (u, This p) r (ATail.run m)
  array_exact m u p r s =
      ⊎_elim
      (λ v. absurd (false≢true (sym (v.1.1.never p.1.1) ∙ s.1)))
      (λ l.
      let li = initial_laws h expr array below l.1.1 in
      let lb = one_or_laws Initial Lengths (sign_code sign_of.RightBracket ∷ []) (initial h expr array below) (lengths h expr array below) li (lengths_laws h expr array below l.1.0) (record { solid = refl; solid' = refl; this = refl; that = refl }) in
      let c = cut (Unit {0}) (Either Initial Lengths) (formed (sign_form sign_of.LeftBracket)) (formed Brackets) (sign_laws sign_of.LeftBracket) lb (λ ts e. refl) m (u, This p) r s in
      let first = (sign_laws sign_of.LeftBracket).exact m u c.0 c.1 refl in
      let second = found_this (sign_code sign_of.RightBracket ∷ []) (initial h expr array below).run (lengths h expr array below).run c.0 p r
      (⊎_elim (λ o. o.0) (λ o. absurd (false≢true o.1)) (li.opens c.0 p r c.2)) (li.exact c.0 p r c.2 refl) in
      let whole = found_bind u c.0 (u, This p) r ((sign_form sign_of.LeftBracket).run m) (λ a q. becoming (joined a) (Brackets.run q)) first (found_becoming (joined u) (This p) r (Brackets.run c.0) second) in (
        ⊎_elim (λ o. o.0) (λ o. absurd (false≢true o.1)) ((sign_laws sign_of.LeftBracket).opens m u c.0 c.1),
        subst (λ (w : Read ArrayTail). IsFound (u, This p) r w) (room_same h (brackets_coded h expr array below).run l.0 m) whole,
      ))
      below

  abbrev Sized_tail : ArrayTail → Bool
  Sized_tail (u, This p) = false
  Sized_tail (u, That p) = true

  abbrev Sized_class : ClassTail → Bool
  Sized_class (This t) = Sized_tail t
  Sized_class (That p) = false

  abbrev Sized_side : Either ((ℕ × PrimitiveWord) × ArrayTail) (ClassTree × ClassTail) → Bool
  Sized_side (This p) = Sized_tail p.1
  Sized_side (That p) = Sized_class p.1

  sized_array : (el : BaseTree) (t : ArrayTail) → (creation_shape (array_creation el t)).sized ≡ Sized_tail t
  sized_array el (u, This p) = ap (λ (s : CreationShape). s.sized) (creation_shape-Initialised el p.1.0 p.1.1)
  sized_array el (u, That p) = ap (λ (s : CreationShape). s.sized) (creation_shape-Sized el p.0 (sizes p.1.1.0) p.1.1.1)

  sized_side : (o : Either ((ℕ × PrimitiveWord) × ArrayTail) (ClassTree × ClassTail)) → (creation_shape (creation_made o)).sized ≡ Sized_side o
  sized_side (This p) = sized_array (base_of.Primitive p.0.0 p.0.1) p.1
  sized_side (That (class, This t)) = sized_array (base_of.Class class) t
  sized_side (That (class, That p)) = ap (λ (s : CreationShape). s.sized) (creation_shape-Object class p.0 p.1.0 p.1.1)

  word_exact : (ts : List Token) (w : ℕ × PrimitiveWord) (t : ArrayTail) (r : List Token) → Stands (formed WordArray) ts (w, t) r → Sized_tail t ≡ false → (one_of primitive_codes ts ≡ true) × IsFound (w, t) r (of_word.run ts)
  word_exact ts w (u, That p) r s n = absurd (false≢true (sym n))
  word_exact ts w (u, This p) r s n =
      ⊎_elim
      (λ v. absurd (false≢true (sym (v.1.1.never p.1.1) ∙ s.1)))
      (λ l. ⊎_elim
      (λ la.
      let c = cut (ℕ × PrimitiveWord) ArrayTail (formed Word) (formed ATail) word_laws la (λ ts e. refl) ts (w, (u, This p)) r s in
      let e = array_exact c.0 u p r c.2 in
      let whole = found_bind w c.0 (w, (u, This p)) r (Word.run ts) (λ a q. becoming (joined a) (ATail.run q)) (word_laws.exact ts w c.0 c.1 refl) (found_becoming (joined w) (u, This p) r (ATail.run c.0) e.1) in (
        ⊎_elim (λ o. o.0) (λ o. absurd (false≢true o.1)) (word_laws.opens ts w c.0 c.1),
        subst (λ (v : Read ((ℕ × PrimitiveWord) × ArrayTail)). IsFound (w, (u, This p)) r v) (room_same h WordArray.run l.0 ts) whole,
      ))
      (λ v. absurd (false≢true (sym (v.never (u, This p)) ∙ s.1))) (array_tail_law h expr array below))
      below

  no_bracket : (ts : List Token) → (object_form h expr array below true).starts ts ≡ true → one_of (sign_code sign_of.LeftBracket ∷ []) ts ≡ false
  no_bracket ts e =
      ⊎_elim (λ t. apart_sets (sign_code sign_of.Less ∷ []) (sign_code sign_of.LeftBracket ∷ []) refl (front_code ts) (and_parts (one_of (sign_code sign_of.Less ∷ []) ts) _ t).0)
      (λ t. apart_sets (sign_code sign_of.LeftParen ∷ []) (sign_code sign_of.LeftBracket ∷ []) refl (front_code ts) t) (or_cases _ (one_of (sign_code sign_of.LeftParen ∷ []) ts) e)

  tail_exact : (class : ClassTree) (m : List Token) (t : ClassTail) (r : List Token) → Stands (class_tail h expr array below class) m t r → Sized_class t ≡ false → one_of (sign_code sign_of.LeftBrace ∷ []) r ≡ false → IsFound t r (class_tail_run h expr array class m)
  tail_exact class m (This (u, That p)) r s n e = absurd (false≢true (sym n))
  tail_exact class m (This (u, This p)) r s n e =
      let f = array_exact m u p r s in
      found_this (sign_code sign_of.LeftBracket ∷ []) (array_tail_run h expr array) (object_tail_run h expr (ends_bare class)) m (u, This p) r f.0 f.1
  tail_exact class m (That p) r s n e =
      let lo = object_form_laws h expr array below (ends_bare class) in
      found_that (sign_code sign_of.LeftBracket ∷ []) (array_tail_run h expr array) (object_tail_run h expr (ends_bare class)) m p r
      (no_bracket m (⊎_elim (λ o. o.0) (λ o. absurd (false≢true o.1)) (lo.opens m p r s))) (lo.exact m p r s e)

  cut_class : (ts : List Token) (p : ClassTree × ClassTail) (r : List Token) → Stands of_class ts p r → (m : List Token) × Stands (class_form h (arg_laws h)) ts p.0 m × Stands (class_tail h expr array below p.0) m p.1 r
  cut_class ts p r s =
      let f = and_parts ((class_form h (arg_laws h)).fits p.0) ((class_tail h expr array below p.0).fits p.1) s.1 in
      let e = subst (λ (l : List Told). Takes false l ts r) ((class_laws h (arg_laws h)).appends p.0 ((class_tail h expr array below p.0).tell p.1 []) f.0) s.0 in
      let w = takes_cut false (class_tokens p.0 []) ((class_tail h expr array below p.0).tell p.1 []) ts r e in
      (w.0, (w.1, f.0), (w.2, f.1))

  class_exact : (ts : List Token) (p : ClassTree × ClassTail) (r : List Token) → Stands of_class ts p r → Sized_class p.1 ≡ false → one_of (sign_code sign_of.LeftBrace ∷ []) r ≡ false → IsFound p r (of_class.run ts)
  class_exact ts p r s n e =
      let c = cut_class ts p r s in
      let met = tail_meets h expr array below c.0 (⊎_elim (λ o. o.0) (λ o. absurd (false≢true o.1)) ((class_tail_laws h expr array below p.0).opens c.0 p.1 r c.2)) in
      found_bind p.0 c.0 p r ((class_form h (arg_laws h)).run ts) (λ a q. becoming (joined a) (class_tail_run h expr array a q)) ((class_laws h (arg_laws h)).exact ts p.0 c.0 c.1 met)
      (found_becoming (joined p.0) p.1 r (class_tail_run h expr array p.0 c.0) (tail_exact p.0 c.0 p.1 r c.2 n e))

  side_exact : (ts : List Token) (o : Either ((ℕ × PrimitiveWord) × ArrayTail) (ClassTree × ClassTail)) (r : List Token) → Stands (formed Sides) ts o r → Sized_side o ≡ false → one_of (sign_code sign_of.LeftBrace ∷ []) r ≡ false → IsFound o r (Sides.run ts)
  side_exact ts (This p) r s n e = let f = word_exact ts p.0 p.1 r s n in found_this primitive_codes of_word.run of_class.run ts p r f.0 f.1
  side_exact ts (That p) r s n e =
      found_that primitive_codes of_word.run of_class.run ts p r
      (apart_sets (word_code ∷ []) primitive_codes refl (front_code ts) (⊎_elim (λ o. o.0) (λ o. absurd (false≢true o.1)) (of_class_coded.opens ts p r s))) (class_exact ts p r s n e)

  pub creation_exact : (ts : List Token) (c : Creation) (r : List Token) → Stands (formed creation_coded) ts c r → (creation_shape c).sized ≡ false → one_of (sign_code sign_of.LeftBrace ∷ []) r ≡ false → IsFound c r (creation_run h expr array ts)
  unfolding creation_run
  creation_exact ts c r s n e =
      let w = back_creation c (out-Creation c) refl in
      let told : Takes false (Sides.tell w.0 []) ts r = subst (λ (l : List Told). Takes false l ts r) (ap (λ (k : Creation). creation_tokens k []) (sym w.1) ∙ told_creation w.0 []) s.0 in
      let fit : Sides.fits w.0 ≡ true = sym (fit_creation w.0) ∙ ap creation_fits w.1 ∙ s.1 in
      let size : Sized_side w.0 ≡ false = sym (sized_side w.0) ∙ ap (λ (k : Creation). (creation_shape k).sized) w.1 ∙ n in
      let f = side_exact ts w.0 r (told, fit) size e in
      subst (λ (k : Creation). IsFound k r (becoming creation_made (Sides.run ts))) w.1 (found_becoming creation_made w.0 r (Sides.run ts) f)

  -- behind a creation stands a selector, which is no bracket where the creation has lengths
  pub creation_next : (ts : List Token) (c : Creation) (r : List Token) → Stands (formed creation_coded) ts c r → one_of selector_codes r ≡ true → ((creation_shape c).sized ≡ true → one_of (sign_code sign_of.Dot ∷ []) r ≡ true) → IsFound c r (creation_run h expr array ts)
  creation_next ts c r s e f =
      ⊎_elim (λ t. creation_laws.exact ts c r s (apart_sets (sign_code sign_of.Dot ∷ []) Sides.goes refl (front_code r) (f t)))
      (λ n. creation_exact ts c r s n (apart_sets selector_codes (sign_code sign_of.LeftBrace ∷ []) refl (front_code r) e)) (cases_Bool (creation_shape c).sized)
