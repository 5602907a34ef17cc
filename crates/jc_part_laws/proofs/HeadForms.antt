-- The forms of the heads of declarations behind their modifiers, and that they are read as they are to be.
use Rattle.std.proofs.Common.{◌≡◌, ℕ, max, Bool, true, false, List, [], ◌∷◌, map, Option, Some, None, refl, ap, ◌∙◌, ⊎_elim, arith}
use Rattle.std.proofs.lemmas.Bool.{false≢true, or_cases, and_parts}
use Rattle.std.proofs.lemmas.Grind.{common_steps}
use Rattle.std.specs.Prelude.{◌&&◌, ◌||◌, nat_le}
use Rattle.jc_lexer.specs.declared.token.Key.{Key}
use Rattle.jc_lexer.specs.declared.token.Key.TheVariants as key_of
use Rattle.jc_lexer.specs.declared.token.Sign.TheVariants as sign_of
use Rattle.jc_lexer.specs.declared.token.Token.{Token}
use Rattle.jc_tree.specs.declared.name.Ident.{Ident}
use Rattle.jc_tree.specs.declared.types.ClassTree.{ClassTree}
use Rattle.jc_tree.specs.declared.statement.DeclarationHead.{DeclarationHead}
use Rattle.jc_tree.specs.declared.statement.DeclarationHead.TheVariants as head_of
use Rattle.jc_tree.specs.declared.statement.Modifier.{Modifier}
use Rattle.jc_tree.specs.declared.statement.TypeParam.{TypeParam}
use Rattle.jc_tree.specs.Heights.{most, in_some, class_height, modifier_height, param_height, head_height}
use Rattle.jc_grammar.specs.Told.{Told, key_at, ident}
use Rattle.jc_grammar.specs.Types.{class_tokens}
use Rattle.jc_grammar.specs.Parts.{if_some, extended, keyed_list, modifiers_tokens, params_tokens, head_tokens}
use Rattle.jc_grammar.specs.Units.{are_modifiers, is_head}
use Rattle.jc_reading.specs.Kinds.{sign_code, key_code, front_code, one_of}
use Rattle.jc_reading.specs.Reading.{Either, This, That, rest_of}
use Rattle.jc_reading.proofs.Forms.{Form, Lawful, Stands}
use Rattle.jc_reading.proofs.Choices.{choice, choice_laws}
use Rattle.jc_reading.proofs.Retests.{retested_laws}
use Rattle.jc_reading.proofs.Signs.{key_laws, key_at_laws, ident_laws, apart_sets, within_sets}
use Rattle.jc_reading.proofs.Rooms.{room_above, room_max}
use Rattle.jc_parse_type.specs.TypeReading.{class_run}
use Rattle.jc_part_laws.specs.PartReading.{Exprs, ClassHead, InterfaceHead, AnnotationHead, HeadRest, or_no_class, head_made, class_head_run, interface_head_run, annotation_head_run, head_rest_run, keyed_run}
use Rattle.jc_reading.proofs.Coded.{Coded, formed, in_order, in_order_laws, optional, optional_laws}
use Rattle.jc_reading.proofs.LedAt.{led_at, led_at_laws}
use Rattle.jc_part_laws.proofs.ModifierForms.{modifiers_fit}
use Rattle.jc_part_laws.proofs.PartForms.{key_form, key_at_form, ident_form, class_coded, class_coded_laws, keyed, keyed_laws, params_coded, params_laws}

module _ (h : ℕ) where
  abbrev pub keyed_at : Key → Coded (List ClassTree)
  keyed_at k = record { tell = (keyed k h).tell; fits = (keyed k h).fits; run = keyed_run k (class_run h); starts = (keyed k h).starts; goes = (keyed k h).goes; empties = true }

  abbrev Extended : Coded (Unit {0} × ClassTree)
  Extended = in_order (key_form key_of.Extends) (class_coded h)

  abbrev Supers : Coded (Option (Unit {0} × ClassTree) × List ClassTree)
  Supers = in_order (optional Extended) (keyed_at key_of.Implements)

  abbrev ClassForm : Coded ClassHead
  ClassForm = in_order (key_at_form key_of.Class) (in_order ident_form (in_order (params_coded h) Supers))

  abbrev InterfaceForm : Coded InterfaceHead
  InterfaceForm = in_order (key_at_form key_of.Interface) (in_order ident_form (in_order (params_coded h) (keyed_at key_of.Extends)))

  class_head_laws : Lawful ClassHead (formed ClassForm)
  class_head_laws =
      in_order_laws ℕ (Ident × (List TypeParam × (Option (Unit {0} × ClassTree) × List ClassTree))) (key_at_form key_of.Class) (in_order ident_form (in_order (params_coded h) Supers)) (key_at_laws key_of.Class)
      (in_order_laws Ident (List TypeParam × (Option (Unit {0} × ClassTree) × List ClassTree)) ident_form (in_order (params_coded h) Supers) ident_laws
      (in_order_laws (List TypeParam) (Option (Unit {0} × ClassTree) × List ClassTree) (params_coded h) Supers (params_laws h)
      (in_order_laws (Option (Unit {0} × ClassTree)) (List ClassTree) (optional Extended) (keyed_at key_of.Implements)
      (optional_laws (Unit {0} × ClassTree) Extended (in_order_laws (Unit {0}) ClassTree (key_form key_of.Extends) (class_coded h) (key_laws key_of.Extends) (class_coded_laws h) refl) refl)
      (keyed_laws key_of.Implements h refl) refl) refl) refl) refl

  interface_head_laws : Lawful InterfaceHead (formed InterfaceForm)
  interface_head_laws =
      in_order_laws ℕ (Ident × (List TypeParam × List ClassTree)) (key_at_form key_of.Interface) (in_order ident_form (in_order (params_coded h) (keyed_at key_of.Extends))) (key_at_laws key_of.Interface)
      (in_order_laws Ident (List TypeParam × List ClassTree) ident_form (in_order (params_coded h) (keyed_at key_of.Extends)) ident_laws
      (in_order_laws (List TypeParam) (List ClassTree) (params_coded h) (keyed_at key_of.Extends) (params_laws h) (keyed_laws key_of.Extends h refl) refl) refl) refl

abbrev AnnotationForm : Form AnnotationHead
AnnotationForm = led_at (Unit {0} × Ident) sign_of.At (formed (in_order (key_form key_of.Interface) ident_form))

annotation_head_laws : Lawful AnnotationHead AnnotationForm
annotation_head_laws = led_at_laws (Unit {0} × Ident) sign_of.At (formed (in_order (key_form key_of.Interface) ident_form)) (in_order_laws (Unit {0}) Ident (key_form key_of.Interface) ident_form (key_laws key_of.Interface) ident_laws refl) refl

-- an `@` with `interface` behind it
abbrev pub at_interface : List Token → Bool
at_interface ts = one_of (sign_code sign_of.At ∷ []) ts && one_of (key_code key_of.Interface ∷ []) (rest_of ts)

-- a head begins
abbrev pub head_starts : List Token → Bool
head_starts ts = one_of (key_code key_of.Class ∷ []) ts || (one_of (key_code key_of.Interface ∷ []) ts || at_interface ts)

abbrev pub head_goes : List ℕ
head_goes = key_code key_of.Extends ∷ key_code key_of.Implements ∷ sign_code sign_of.Comma ∷ sign_code sign_of.Less ∷ sign_code sign_of.Dot ∷ []

module _ (h : ℕ) where
  abbrev Later : Form (Either InterfaceHead AnnotationHead)
  Later = choice InterfaceHead AnnotationHead (key_code key_of.Interface ∷ []) (formed (InterfaceForm h)) AnnotationForm

  abbrev Heads : Form HeadRest
  Heads = choice ClassHead (Either InterfaceHead AnnotationHead) (key_code key_of.Class ∷ []) (formed (ClassForm h)) Later

  abbrev pub head_rest_form : Form HeadRest
  head_rest_form = record { tell = Heads.tell; fits = Heads.fits; run = head_rest_run (class_run h); starts = head_starts; goes_on = one_of head_goes; empties = false }

  just_at : (ts : List Token) → at_interface ts ≡ true → one_of (sign_code sign_of.At ∷ []) ts ≡ true
  just_at ts e = (and_parts (one_of (sign_code sign_of.At ∷ []) ts) (one_of (key_code key_of.Interface ∷ []) (rest_of ts)) e).0

  later_apart : (ts : List Token) → (one_of (key_code key_of.Interface ∷ []) ts || at_interface ts) ≡ true → one_of (key_code key_of.Class ∷ []) ts ≡ false
  later_apart ts e =
      ⊎_elim (λ t. apart_sets (key_code key_of.Interface ∷ []) (key_code key_of.Class ∷ []) refl (front_code ts) t) (λ t. apart_sets (sign_code sign_of.At ∷ []) (key_code key_of.Class ∷ []) refl (front_code ts) (just_at ts t))
      (or_cases (one_of (key_code key_of.Interface ∷ []) ts) (at_interface ts) e)

  goes_head : (ts : List Token) → Heads.goes_on ts ≡ true → one_of head_goes ts ≡ true
  goes_head ts e =
      ⊎_elim (λ t. within_sets (ClassForm h).goes head_goes refl (front_code ts) t)
      (λ t. ⊎_elim (λ i. within_sets (InterfaceForm h).goes head_goes refl (front_code ts) i) (λ i. absurd (false≢true i)) (or_cases (one_of (InterfaceForm h).goes ts) false t))
      (or_cases (one_of (ClassForm h).goes ts) (one_of (InterfaceForm h).goes ts || false) e)

  heads_laws : Lawful HeadRest Heads
  heads_laws =
      choice_laws ClassHead (Either InterfaceHead AnnotationHead) (key_code key_of.Class ∷ []) (formed (ClassForm h)) Later (class_head_laws h)
      (choice_laws InterfaceHead AnnotationHead (key_code key_of.Interface ∷ []) (formed (InterfaceForm h)) AnnotationForm (interface_head_laws h) annotation_head_laws
      (record { solid = refl; solid' = refl; this = λ ts e. e; that = λ ts e. apart_sets (sign_code sign_of.At ∷ []) (key_code key_of.Interface ∷ []) refl (front_code ts) (just_at ts e) }))
      (record { solid = refl; solid' = refl; this = λ ts e. e; that = later_apart })

  opens_head : (ts : List Token) (a : HeadRest) (r : List Token) → Stands Heads ts a r → Heads.starts ts ≡ true
  opens_head ts a r s = ⊎_elim (λ o. o.0) (λ o. absurd (false≢true o.1)) (heads_laws.opens ts a r s)

  pub head_rest_laws : Lawful HeadRest head_rest_form
  unfolding head_rest_run class_head_run interface_head_run annotation_head_run
  head_rest_laws = retested_laws HeadRest Heads head_starts (one_of head_goes) heads_laws (record { opens = λ ts a r s lt. opens_head ts a r s; refuses = heads_laws.refuses; goes_too = goes_head })

-- a head with its modifiers

module _ (x : Exprs) (h : ℕ) where
  class_bits : (m p e i a : Bool) → ((((m && p) && e) && i) && a) ≡ ((m && a) && (true && (true && (p && (e && i)))))
  class_bits m p e i a = grind (arith, common_steps)

  interface_bits : (m p i a : Bool) → (((m && p) && i) && a) ≡ ((m && a) && (true && (true && (p && i))))
  interface_bits m p i a = grind (arith, common_steps)

  annotation_bits : (m a : Bool) → (m && a) ≡ ((m && a) && (true && (true && true)))
  annotation_bits m a = grind (arith, common_steps)

  fit_class : (o : Option (Unit {0} × ClassTree)) → nat_le (in_some class_height (or_no_class o)) h ≡ (optional (Extended h)).fits o
  fit_class None = room_above h
  fit_class (Some p) = refl

  pub fit_head : (modifiers : List Modifier) (rest : HeadRest) → (nat_le (head_height (head_made modifiers rest)) h && is_head (head_made modifiers rest)) ≡ (modifiers_fit x h modifiers && (head_rest_form h).fits rest)
  fit_head modifiers (This (at, (name, (params, (extends, implements))))) =
      ap (λ b. b && are_modifiers modifiers)
      (room_max (max (max (most (map modifier_height modifiers)) (most (map param_height params))) (in_some class_height (or_no_class extends))) (most (map class_height implements)) h
      ∙ ap (λ b. b && nat_le (most (map class_height implements)) h)
      (room_max (max (most (map modifier_height modifiers)) (most (map param_height params))) (in_some class_height (or_no_class extends)) h
      ∙ ap (λ b. b && nat_le (in_some class_height (or_no_class extends)) h) (room_max (most (map modifier_height modifiers)) (most (map param_height params)) h)
      ∙ ap (λ b. (nat_le (most (map modifier_height modifiers)) h && nat_le (most (map param_height params)) h) && b) (fit_class extends)))
      ∙ class_bits (nat_le (most (map modifier_height modifiers)) h) (nat_le (most (map param_height params)) h) ((optional (Extended h)).fits extends) (nat_le (most (map class_height implements)) h) (are_modifiers modifiers)
  fit_head modifiers (That (This (at, (name, (params, extends))))) =
      ap (λ b. b && are_modifiers modifiers)
      (room_max (max (most (map modifier_height modifiers)) (most (map param_height params))) (most (map class_height extends)) h
      ∙ ap (λ b. b && nat_le (most (map class_height extends)) h) (room_max (most (map modifier_height modifiers)) (most (map param_height params)) h))
      ∙ interface_bits (nat_le (most (map modifier_height modifiers)) h) (nat_le (most (map param_height params)) h) (nat_le (most (map class_height extends)) h) (are_modifiers modifiers)
  fit_head modifiers (That (That (at, (u, name)))) = annotation_bits (nat_le (most (map modifier_height modifiers)) h) (are_modifiers modifiers)

  told_extends : (o : Option (Unit {0} × ClassTree)) (r : List Told) → if_some extended (or_no_class o) r ≡ (optional (Extended h)).tell o r
  told_extends None r = refl
  told_extends (Some p) r = refl

  pub told_head : (modifiers : List Modifier) (rest : HeadRest) (r : List Told) → head_tokens (head_made modifiers rest) r ≡ modifiers_tokens modifiers ((head_rest_form h).tell rest r)
  told_head modifiers (This (at, (name, (params, (extends, implements))))) r =
      ap (λ (l : List Told). modifiers_tokens modifiers (key_at key_of.Class at ∷ ident name ∷ params_tokens params l)) (told_extends extends (keyed_list key_of.Implements (map class_tokens implements) r))
  told_head modifiers (That (This (at, (name, (params, extends))))) r = refl
  told_head modifiers (That (That (at, (u, name)))) r = refl

pub back_head : (head : DeclarationHead) → (modifiers : List Modifier) × (rest : HeadRest) × (head_made modifiers rest ≡ head)
back_head (head_of.Class modifiers at name params None implements) = (modifiers, This (at, (name, (params, (None, implements)))), refl)
back_head (head_of.Class modifiers at name params (Some class) implements) = (modifiers, This (at, (name, (params, (Some (tt, class), implements)))), refl)
back_head (head_of.Interface modifiers at name params extends) = (modifiers, That (This (at, (name, (params, extends)))), refl)
back_head (head_of.Annotation modifiers at name) = (modifiers, That (That (at, (tt, name))), refl)
