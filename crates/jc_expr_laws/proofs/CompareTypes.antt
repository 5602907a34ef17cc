-- A type that arguments can't follow is found exactly before a `<`.
use Rattle.std.proofs.Common.{◌≡◌, ℕ, zero, suc, Bool, true, false, List, [], ◌∷◌, map, refl, sym, ap, ◌∙◌, subst, ⊎_elim}
use Rattle.std.proofs.lemmas.Bool.{false≢true, and_parts, and_left, and_from, or_from, or_left, eq-eqb, cond-true, cond-false}
use Rattle.std.specs.Prelude.{◌&&◌, ◌||◌, ◌==◌, nat_le}
use Rattle.jc_lexer.specs.declared.token.Sign.TheVariants as sign_of
use Rattle.jc_lexer.specs.declared.token.Token.{Token}
use Rattle.jc_tree.specs.declared.name.Ident.{Ident}
use Rattle.jc_tree.specs.declared.types.BaseTree.{BaseTree, BaseTree-F, roll-BaseTree, out-BaseTree, roll-out-BaseTree}
use Rattle.jc_tree.specs.declared.types.BaseTree.TheVariants as base_of
use Rattle.jc_tree.specs.declared.types.ClassTree.{ClassTree, roll-ClassTree, out-ClassTree, roll-out-ClassTree}
use Rattle.jc_tree.specs.declared.types.PrimitiveWord.{PrimitiveWord}
use Rattle.jc_tree.specs.declared.types.TypeArg.{TypeArg}
use Rattle.jc_tree.specs.declared.types.TypePart.{TypePart, out-TypePart, roll-out-TypePart}
use Rattle.jc_tree.specs.declared.types.TypeTree.{TypeTree, out-TypeTree, roll-out-TypeTree}
use Rattle.jc_tree.specs.Heights.{most, arg_height, part_height, class_height, base_height}
use Rattle.jc_tree.proofs.HeightsOfTypes.{class_height-made, part_height-made, type_height-made, base_height-Class}
use Rattle.jc_grammar.specs.Told.{Told, sign, ident, after_dots, brackets}
use Rattle.jc_grammar.specs.Types.{base_tokens, part_tokens, arg_tokens, angled}
use Rattle.jc_grammar.specs.Shapes.{takes_args, ends_bare, base_takes_args, last_of, is_none}
use Rattle.jc_grammar.proofs.TokensOfTypes.{base_tokens-Class, base_tokens-Primitive, class_tokens-made, part_tokens-made, type_tokens-made}
use Rattle.jc_reading.specs.Kinds.{kind_code, sign_code, word_code, front_code, one_of}
use Rattle.jc_reading.specs.Reading.{Read, Either, This, That, rest_of, behind_it, perhaps_from, in_turn, any_number, becoming, joined, Takes}
use Rattle.jc_reading.proofs.Steps.{IsFound, found_becoming, found_bind, takes_cut}
use Rattle.jc_reading.proofs.Forms.{Form, Lawful, Stands}
use Rattle.jc_reading.proofs.Pairs.{pair, pair_laws}
use Rattle.jc_reading.proofs.Lists.{fits_all, tell_all}
use Rattle.jc_reading.proofs.Ledby.{led, led_starts, led_laws, comma_starts, unled, unled_back, behind_fits}
use Rattle.jc_reading.proofs.Rooms.{room_suc, room_max, room_all}
use Rattle.jc_reading.proofs.Signs.{a_sign, an_ident, sign_laws, ident_laws, apart_sets}
use Rattle.jc_parse_type.specs.TypeReading.{word_run, primitive_codes, or_none, args_run, arg_run, part_made, part_run, class_made, class_run, class_run_of, base_made, base_run, base_run_of, type_made, type_run_of, type_run, dims_run}
use Rattle.jc_parse_type.proofs.TypeForms.{bracket_codes, arg_codes, word_laws, arg_form, arg_laws, type_form, goes_on_class, dims_laws, Row, row_laws, less_starts, part_form, part_laws, class_form, class_laws, base_form, base_laws, goes_on_type, limit_codes}
use Rattle.jc_expr_laws.proofs.CompareLasts.{last_in, starts_there, many_none, many_last}

abbrev BaseLayer : Type 0
BaseLayer = BaseTree-F BaseTree TypeArg ClassTree TypePart TypeTree

abbrev class_of : TypePart → List TypePart → ClassTree
class_of first more = roll-ClassTree (record { first = first; more = more })

module _ (h : ℕ) where
  abbrev la : Lawful TypeArg (arg_form h)
  la = arg_laws h

  abbrev Part : Form TypePart
  Part = part_form h la

  abbrev lp : Lawful TypePart Part
  lp = part_laws h la

  -- arguments between angle brackets

  abbrev Inner : Form (List TypeArg × Unit {0})
  Inner = pair (List TypeArg) (Unit {0}) (Row h la) (a_sign sign_of.Greater)

  abbrev Angled : Form (Unit {0} × (List TypeArg × Unit {0}))
  Angled = led (List TypeArg × Unit {0}) sign_of.Less Inner

  closes : (ts : List Token) → one_of (sign_code sign_of.Greater ∷ []) ts ≡ true → (Row h la).goes_on ts ≡ false
  closes ts c =
      or_from (comma_starts TypeArg (arg_form h) ts) (goes_on_type ts || one_of limit_codes ts)
      (and_left (one_of (sign_code sign_of.Comma ∷ []) ts) (one_of arg_codes (rest_of ts)) (apart_sets (sign_code sign_of.Greater ∷ []) (sign_code sign_of.Comma ∷ []) refl (front_code ts) c))
      (or_from (goes_on_type ts) (one_of limit_codes ts)
      (or_from (one_of bracket_codes ts) (goes_on_class ts) (apart_sets (sign_code sign_of.Greater ∷ []) bracket_codes refl (front_code ts) c)
      (or_from _ _ (and_left (one_of (sign_code sign_of.Less ∷ []) ts) (one_of arg_codes (rest_of ts)) (apart_sets (sign_code sign_of.Greater ∷ []) (sign_code sign_of.Less ∷ []) refl (front_code ts) c))
      (and_left (one_of (sign_code sign_of.Dot ∷ []) ts) (one_of (word_code ∷ []) (rest_of ts)) (apart_sets (sign_code sign_of.Greater ∷ []) (sign_code sign_of.Dot ∷ []) refl (front_code ts) c))))
      (apart_sets (sign_code sign_of.Greater ∷ []) limit_codes refl (front_code ts) c))

  angled_laws : Lawful (Unit {0} × (List TypeArg × Unit {0})) Angled
  angled_laws = led_laws (List TypeArg × Unit {0}) sign_of.Less Inner (pair_laws (List TypeArg) (Unit {0}) (Row h la) (a_sign sign_of.Greater) (row_laws h la) (sign_laws sign_of.Greater) closes) refl

  closed_args : (ts : List Token) (a : TypeArg) (list : List TypeArg) (r : List Token) → Takes false (angled (map arg_tokens (a ∷ list)) []) ts r → fits_all (λ b. nat_le (arg_height b) h) (a ∷ list) ≡ true → IsFound (a ∷ list) r (args_run (arg_run h (type_run h)) ts)
  unfolding args_run
  closed_args ts a list r t g =
      let f = angled_laws.exact ts (tt, (a ∷ list, tt)) r (t, and_from (fits_all (λ b. nat_le (arg_height b) h) (a ∷ list)) true g refl) refl in
      (f.0, ap (λ (m : Read (Unit {0} × (List TypeArg × Unit {0}))). becoming or_none (perhaps_from ts m)) f.1)

  -- a part with arguments

  made_part : (ts : List Token) (name : Ident) (args : List TypeArg) (r : List Token) → Stands Part ts (part_made (name, args)) r → is_none args ≡ false → IsFound (part_made (name, args)) r (Part.run ts)
  unfolding part_run
  made_part ts name [] r s n = absurd (false≢true (sym n))
  made_part ts name (a ∷ list) r s n =
      let e : Takes false (ident name ∷ angled (map arg_tokens (a ∷ list)) []) ts r = subst (λ (l : List Told). Takes false l ts r) (part_tokens-made name (a ∷ list) []) s.0 in
      let w = takes_cut false (ident name ∷ []) (angled (map arg_tokens (a ∷ list)) []) ts r e in
      let g : fits_all (λ b. nat_le (arg_height b) h) (a ∷ list) ≡ true = sym (ap (λ k. nat_le k h) (part_height-made name (a ∷ list)) ∙ room_all arg_height h (a ∷ list)) ∙ s.1 in
      found_becoming part_made (name, a ∷ list) r _
      (found_bind name w.0 (name, a ∷ list) r (an_ident.run ts) _ (ident_laws.exact ts name w.0 (w.1, refl) refl) (found_becoming (joined name) (a ∷ list) r (args_run (arg_run h (type_run h)) w.0) (closed_args w.0 a list r w.2 g)))

  closed_part : (ts : List Token) (part : TypePart) (r : List Token) → Stands Part ts part r → is_none (out-TypePart part).args ≡ false → IsFound part r (Part.run ts)
  closed_part ts part r s n =
      let e : part_made ((out-TypePart part).name, (out-TypePart part).args) ≡ part = roll-out-TypePart part in
      subst (λ (p : TypePart). IsFound p r (Part.run ts)) e (made_part ts (out-TypePart part).name (out-TypePart part).args r (subst (λ (p : TypePart). Stands Part ts p r) (sym e) s) n)

  -- a class type whose last part has arguments

  abbrev Dotted : Form (Unit {0} × TypePart)
  Dotted = led TypePart sign_of.Dot Part

  next_part : (ts : List Token) → led_starts TypePart sign_of.Dot Part ts ≡ true → less_starts h la ts ≡ false
  next_part ts e =
      let c = (and_parts (one_of (sign_code sign_of.Dot ∷ []) ts) (one_of (word_code ∷ []) (rest_of ts)) e).0 in
      and_left (one_of (sign_code sign_of.Less ∷ []) ts) (one_of arg_codes (rest_of ts)) (apart_sets (sign_code sign_of.Dot ∷ []) (sign_code sign_of.Less ∷ []) refl (front_code ts) c)

  ld : Lawful (Unit {0} × TypePart) Dotted
  ld = led_laws TypePart sign_of.Dot Part lp refl

  told_dots : (list : List (Unit {0} × TypePart)) (r : List Told) → after_dots (map part_tokens (map behind_it list)) r ≡ tell_all Dotted.tell list r
  told_dots [] r = refl
  told_dots (p ∷ list) r = ap (λ (l : List Told). sign sign_of.Dot ∷ part_tokens p.1 l) (told_dots list r)

  last_same : (first : TypePart) (p : Unit {0} × TypePart) (list : List (Unit {0} × TypePart)) → last_of first (map behind_it (p ∷ list)) ≡ (last_in p list).1
  last_same first p [] = refl
  last_same first p (q ∷ list) = last_same p.1 q list

  no_dot : (r : List Token) → one_of (sign_code sign_of.Less ∷ []) r ≡ true → led_starts TypePart sign_of.Dot Part r ≡ false
  no_dot r l = and_left (one_of (sign_code sign_of.Dot ∷ []) r) (one_of (word_code ∷ []) (rest_of r)) (apart_sets (sign_code sign_of.Less ∷ []) (sign_code sign_of.Dot ∷ []) refl (front_code r) l)

  closed_dotted : (us : List Token) (p : Unit {0} × TypePart) (r : List Token) → Stands Dotted us p r → is_none (out-TypePart p.1).args ≡ false → IsFound p r (Dotted.run us)
  closed_dotted us p r s n =
      let w = takes_cut false (sign sign_of.Dot ∷ []) (part_tokens p.1 []) us r s.0 in
      found_bind p.0 w.0 p r ((a_sign sign_of.Dot).run us) _ ((sign_laws sign_of.Dot).exact us p.0 w.0 (w.1, refl) refl) (found_becoming (joined p.0) p.1 r (Part.run w.0) (closed_part w.0 p.1 r (w.2, s.1) n))

  made_class : (ts : List Token) (first : TypePart) (list : List (Unit {0} × TypePart)) (r : List Token) → Takes false (part_tokens first (tell_all Dotted.tell list [])) ts r → Part.fits first ≡ true → fits_all Dotted.fits list ≡ true
      → is_none (out-TypePart (last_of first (map behind_it list))).args ≡ false → one_of (sign_code sign_of.Less ∷ []) r ≡ true → IsFound (first, list) r (in_turn Part.run (any_number Dotted.run) ts)
  made_class ts first [] r t ff fl n l =
      found_bind first r (first, []) r (Part.run ts) _ (closed_part ts first r (t, ff) n)
      (found_becoming (joined first) [] r (any_number Dotted.run r) (many_none (Unit {0} × TypePart) Dotted ld (record { solid = refl; next = next_part }) r (no_dot r l)))
  made_class ts first (p ∷ list) r t ff fl n l =
      let e = subst (λ (k : List Told). Takes false k ts r) (lp.appends first (tell_all Dotted.tell (p ∷ list) []) ff) t in
      let w = takes_cut false (part_tokens first []) (tell_all Dotted.tell (p ∷ list) []) ts r e in
      let o = starts_there (Unit {0} × TypePart) Dotted ld (record { solid = refl; next = next_part }) w.0 p list r (w.2, fl) in
      let closed : is_none (out-TypePart (last_in p list).1).args ≡ false = subst (λ (q : TypePart). is_none (out-TypePart q).args ≡ false) (last_same first p list) n in
      found_bind first w.0 (first, p ∷ list) r (Part.run ts) _ (lp.exact ts first w.0 (w.1, ff) (next_part w.0 o))
      (found_becoming (joined first) (p ∷ list) r (any_number Dotted.run w.0)
      (many_last (Unit {0} × TypePart) Dotted ld (record { solid = refl; next = next_part }) w.0 p list r (w.2, fl) (no_dot r l) (λ us s. closed_dotted us (last_in p list) r s closed)))

  room_class : (first : TypePart) (list : List (Unit {0} × TypePart)) → nat_le (class_height (class_made (first, list))) h ≡ (Part.fits first && fits_all Dotted.fits list)
  room_class first list =
      ap (λ k. nat_le k h) (class_height-made first (map behind_it list)) ∙ room_max (part_height first) (most (map part_height (map behind_it list))) h
      ∙ ap (λ b. nat_le (part_height first) h && b) (room_all part_height h (map behind_it list) ∙ sym (behind_fits Part.fits list))

  closed_class : (ts : List Token) (class : ClassTree) (r : List Token) → Stands (class_form h la) ts class r → ends_bare class ≡ false → one_of (sign_code sign_of.Less ∷ []) r ≡ true → IsFound class r (class_run h ts)
  unfolding class_run_of
  closed_class ts class r s n l =
      let first : TypePart = (out-ClassTree class).first in
      let list : List (Unit {0} × TypePart) = unled (out-ClassTree class).more in
      let back : map behind_it list ≡ (out-ClassTree class).more = unled_back (out-ClassTree class).more in
      let e : class_made (first, list) ≡ class = ap (λ (more : List TypePart). class_of first more) back ∙ roll-out-ClassTree class in
      let s' : Stands (class_form h la) ts (class_made (first, list)) r = subst (λ (c : ClassTree). Stands (class_form h la) ts c r) (sym e) s in
      let t = subst (λ (k : List Told). Takes false k ts r) (class_tokens-made first (map behind_it list) [] ∙ ap (part_tokens first) (told_dots list [])) s'.0 in
      let f = and_parts (Part.fits first) (fits_all Dotted.fits list) (sym (room_class first list) ∙ s'.1) in
      subst (λ (c : ClassTree). IsFound c r (class_run h ts)) e
      (found_becoming class_made (first, list) r (in_turn Part.run (any_number Dotted.run) ts)
      (made_class ts first list r t f.0 f.1 (subst (λ (more : List TypePart). is_none (out-TypePart (last_of first more)).args ≡ false) (sym back) n) l))

  -- a type that is no array

  closed_base : (ts : List Token) (base : BaseTree) (layer : BaseLayer) (r : List Token) → out-BaseTree base ≡ layer → Stands (base_form h la) ts base r → base_takes_args layer ≡ false → one_of (sign_code sign_of.Less ∷ []) r ≡ true → IsFound base r (base_run h ts)
  unfolding base_run_of
  closed_base ts base (BaseTree-F.Primitive at word) r q s n l =
      let e : base_of.Primitive at word ≡ base = sym (base_of.rolls-Primitive at word) ∙ ap roll-BaseTree (sym q) ∙ roll-out-BaseTree base in
      let t = subst (λ (k : List Told). Takes false k ts r) (ap (λ (b : BaseTree). base_tokens b []) (sym e) ∙ base_tokens-Primitive at word []) s.0 in
      let f = word_laws.exact ts (at, word) r (t, refl) refl in
      let o : one_of primitive_codes ts ≡ true = ⊎_elim (λ o. o.0) (λ o. absurd (false≢true o.1)) (word_laws.opens ts (at, word) r (t, refl)) in
      subst (λ (b : BaseTree). IsFound b r (base_run h ts)) e
      (subst (λ (m : Read (Either (ℕ × PrimitiveWord) ClassTree)). IsFound (base_of.Primitive at word) r (becoming base_made m)) (sym (cond-true (one_of primitive_codes ts) (becoming This (word_run ts)) (becoming That (class_run h ts)) o))
      (found_becoming base_made (This (at, word)) r (becoming This (word_run ts)) (found_becoming This (at, word) r (word_run ts) f)))
  closed_base ts base (BaseTree-F.Class class) r q s n l =
      let e : base_of.Class class ≡ base = sym (base_of.rolls-Class class) ∙ ap roll-BaseTree (sym q) ∙ roll-out-BaseTree base in
      let s' : Stands (class_form h la) ts class r = (
        subst (λ (k : List Told). Takes false k ts r) (ap (λ (b : BaseTree). base_tokens b []) (sym e) ∙ base_tokens-Class class []) s.0,
        sym (ap (λ k. nat_le k h) (base_height-Class class)) ∙ ap (λ (b : BaseTree). nat_le (base_height b) h) e ∙ s.1,
      ) in
      let o : one_of (word_code ∷ []) ts ≡ true = ⊎_elim (λ o. o.0) (λ o. absurd (false≢true o.1)) ((class_laws h la).opens ts class r s') in
      let no : one_of primitive_codes ts ≡ false = apart_sets (word_code ∷ []) primitive_codes refl (front_code ts) o in
      subst (λ (b : BaseTree). IsFound b r (base_run h ts)) e
      (subst (λ (m : Read (Either (ℕ × PrimitiveWord) ClassTree)). IsFound (base_of.Class class) r (becoming base_made m)) (sym (cond-false (one_of primitive_codes ts) (becoming This (word_run ts)) (becoming That (class_run h ts)) no))
      (found_becoming base_made (That class) r (becoming That (class_run h ts)) (found_becoming That class r (class_run h ts) (closed_class ts class r s' n l))))

  -- any type

  bracket_there : (us r : List Token) (x : List Told) → Takes false (sign sign_of.LeftBracket ∷ x) us r → one_of bracket_codes us ≡ true
  bracket_there [] r x t = absurd t
  bracket_there (k ∷ us) r x t = or_left (sign_code sign_of.LeftBracket == kind_code k.kind) false (eq-eqb (sign_code sign_of.LeftBracket) (kind_code k.kind) (sym (ap kind_code t.0.0)))

  alone : (b : Bool) → (b && true) ≡ false → b ≡ false
  alone true e = absurd (false≢true (sym e))
  alone false e = refl

  no_bracket : (r : List Token) → one_of (sign_code sign_of.Less ∷ []) r ≡ true → one_of bracket_codes r ≡ false
  no_bracket r l = apart_sets (sign_code sign_of.Less ∷ []) bracket_codes refl (front_code r) l

  made_type : (ts : List Token) (base : BaseTree) (dims : ℕ) (r : List Token) → Stands (type_form (suc h)) ts (type_made (base, dims)) r → (base_takes_args (out-BaseTree base) && (dims == 0)) ≡ false → one_of (sign_code sign_of.Less ∷ []) r ≡ true → IsFound (type_made (base, dims)) r (type_run (suc h) ts)
  unfolding type_run type_run_of
  made_type ts base zero r s n l =
      let t = subst (λ (k : List Told). Takes false k ts r) (type_tokens-made base 0 []) s.0 in
      let f : nat_le (base_height base) h ≡ true = sym (ap (λ k. nat_le k (suc h)) (type_height-made base 0) ∙ room_suc (base_height base) h) ∙ s.1 in
      found_becoming type_made (base, 0) r (in_turn (base_run h) dims_run ts)
      (found_bind base r (base, 0) r (base_run h ts) _ (closed_base ts base (out-BaseTree base) r refl (t, f) (alone (base_takes_args (out-BaseTree base)) n) l)
      (found_becoming (joined base) 0 r (dims_run r) (dims_laws.exact r 0 r (refl, refl) (no_bracket r l))))
  made_type ts base (suc d) r s n l =
      let t = subst (λ (k : List Told). Takes false k ts r) (type_tokens-made base (suc d) []) s.0 in
      let f : nat_le (base_height base) h ≡ true = sym (ap (λ k. nat_le k (suc h)) (type_height-made base (suc d)) ∙ room_suc (base_height base) h) ∙ s.1 in
      let w = takes_cut false (base_tokens base []) (brackets (suc d) []) ts r (subst (λ (k : List Told). Takes false k ts r) ((base_laws h la).appends base (brackets (suc d) []) f) t) in
      let b = bracket_there w.0 r (sign sign_of.RightBracket ∷ brackets d []) w.2 in
      let stops : goes_on_class w.0 ≡ false =
      or_from _ _ (and_left (one_of (sign_code sign_of.Less ∷ []) w.0) (one_of arg_codes (rest_of w.0)) (apart_sets bracket_codes (sign_code sign_of.Less ∷ []) refl (front_code w.0) b))
      (and_left (one_of (sign_code sign_of.Dot ∷ []) w.0) (one_of (word_code ∷ []) (rest_of w.0)) (apart_sets bracket_codes (sign_code sign_of.Dot ∷ []) refl (front_code w.0) b)) in
      found_becoming type_made (base, suc d) r (in_turn (base_run h) dims_run ts)
      (found_bind base w.0 (base, suc d) r (base_run h ts) _ ((base_laws h la).exact ts base w.0 (w.1, f) stops)
      (found_becoming (joined base) (suc d) r (dims_run w.0) (dims_laws.exact w.0 (suc d) r (w.2, refl) (no_bracket r l))))

  pub closed_type : (ts : List Token) (ty : TypeTree) (r : List Token) → Stands (type_form (suc h)) ts ty r → takes_args ty ≡ false → one_of (sign_code sign_of.Less ∷ []) r ≡ true → IsFound ty r (type_run (suc h) ts)
  closed_type ts ty r s n l =
      let e : type_made ((out-TypeTree ty).base, (out-TypeTree ty).dims) ≡ ty = roll-out-TypeTree ty in
      subst (λ (p : TypeTree). IsFound p r (type_run (suc h) ts)) e (made_type ts (out-TypeTree ty).base (out-TypeTree ty).dims r (subst (λ (p : TypeTree). Stands (type_form (suc h)) ts p r) (sym e) s) n l)
