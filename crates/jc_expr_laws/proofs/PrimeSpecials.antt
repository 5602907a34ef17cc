-- The form of class literals and outer `this`, and that they are read as they are to be.
use Rattle.std.proofs.Common.{◌≡◌, ℕ, zero, suc, max, Bool, true, false, List, [], ◌∷◌, ◌++◌, map, refl, sym, ap, ◌∙◌, subst, ⊎_elim, ◌⊎◌, inl, inr, arith}
use Rattle.std.proofs.Math.Bool.{and-true}
use Rattle.std.proofs.Math.Path.{fun_ext}
use Rattle.std.proofs.lemmas.Bool.{false≢true, and_left, and_right, and_parts, and_from, or_left, or_right, or_cases, or_parts, cond-false}
use Rattle.std.specs.Prelude.{◌&&◌, ◌||◌, nat_le}
use Rattle.std.specs.List.{list_all}
use Rattle.jc_lexer.specs.declared.token.Key.TheVariants as key_of
use Rattle.jc_lexer.specs.declared.token.Sign.TheVariants as sign_of
use Rattle.jc_lexer.specs.declared.token.Token.{Token}
use Rattle.jc_tree.specs.declared.name.Ident.{Ident}
use Rattle.jc_tree.specs.declared.types.BaseTree.{BaseTree, BaseTree-F, out-BaseTree, roll-BaseTree, roll-out-BaseTree}
use Rattle.jc_tree.specs.declared.types.BaseTree.TheVariants as base_of
use Rattle.jc_tree.specs.declared.types.ClassTree.{ClassTree, out-ClassTree, roll-ClassTree, roll-out-ClassTree, out-roll-ClassTree}
use Rattle.jc_tree.specs.declared.types.TypeArg.{TypeArg}
use Rattle.jc_tree.specs.declared.types.TypePart.{TypePart, out-TypePart, roll-TypePart, roll-out-TypePart, out-roll-TypePart}
use Rattle.jc_tree.specs.declared.types.TypeTree.{TypeTree, out-TypeTree, roll-TypeTree, roll-out-TypeTree, out-roll-TypeTree}
use Rattle.jc_tree.specs.declared.types.PrimitiveWord.{PrimitiveWord}
use Rattle.jc_tree.specs.declared.expression.Creation.{Creation}
use Rattle.jc_tree.specs.declared.expression.Init.{Init}
use Rattle.jc_tree.specs.declared.expression.Operand.{Operand}
use Rattle.jc_tree.specs.declared.expression.ArrayInit.{ArrayInit}
use Rattle.jc_tree.specs.declared.expression.Expr.{Expr, Expr-F, out-Expr, roll-Expr, roll-out-Expr}
use Rattle.jc_tree.specs.declared.expression.Expr.TheVariants as expr_of
use Rattle.jc_tree.specs.Heights.{most, expr_height, base_height, class_height, part_height}
use Rattle.jc_tree.proofs.HeightsOfExpressions.{expr_height-ClassLiteral, expr_height-OuterThis}
use Rattle.jc_tree.proofs.HeightsOfTypes.{type_height-made, base_height-Primitive, base_height-Class, class_height-made, part_height-made}
use Rattle.jc_grammar.specs.Told.{Told, sign, key, ident, names_after, after_dots, brackets}
use Rattle.jc_grammar.specs.Types.{base_tokens, class_tokens, part_tokens}
use Rattle.jc_grammar.specs.Expressions.{expr_tokens}
use Rattle.jc_grammar.specs.Shapes.{Shape, stands, prime_level, expr_shape, is_bare, base_is_bare, part_is_bare, is_none}
use Rattle.jc_grammar.proofs.ShapesOfExpressions.{expr_shape-ClassLiteral, expr_shape-OuterThis}
use Rattle.jc_grammar.proofs.TokensOfExpressions.{expr_tokens-ClassLiteral, expr_tokens-OuterThis}
use Rattle.jc_grammar.proofs.TokensOfTypes.{type_tokens-made, base_tokens-Primitive, base_tokens-Class, class_tokens-made, part_tokens-made}
use Rattle.jc_reading.specs.Kinds.{sign_code, key_code, word_code, front_code, one_of}
use Rattle.jc_reading.specs.Reading.{Read, becoming, Either, This, That, of_kind, rest_of, Takes}
use Rattle.jc_reading.proofs.Steps.{Refuses}
use Rattle.jc_reading.proofs.Forms.{Form, Lawful, Stands}
use Rattle.jc_reading.proofs.Pairs.{pair, pair_laws}
use Rattle.jc_reading.proofs.Retests.{retested, retested_laws}
use Rattle.jc_reading.proofs.Ledby.{led, led_starts, led_laws}
use Rattle.jc_reading.proofs.Rooms.{room_above, room_suc, room_none}
use Rattle.jc_reading.proofs.Signs.{an_ident, apart_sets, sign_laws, key_laws, ident_laws}
use Rattle.jc_parse_type.specs.TypeReading.{primitive_codes}
use Rattle.jc_parse_type.proofs.TypeForms.{word_form, word_laws, dims_laws}
use Rattle.jc_reading.proofs.Coded.{Coded, formed, coded, coded_laws, in_order, in_order_laws, one_or, made_laws}
use Rattle.jc_reading.proofs.Lowest.{Law, roomy}
use Rattle.jc_part_laws.proofs.PartForms.{sign_form, key_form, dims_coded, dot_word, more_names_form, more_names_laws}
use Rattle.jc_expr_laws.specs.StartReading.{DotClass, ClassDims, DotKey, SpecialTail, WordClass, NamesSpecial, Special, bare_part, bare_class, literal_type, special_made, special_run}
use Rattle.jc_expr_laws.proofs.CreationRooms.{lawful_room, void_room, one_or_first, one_or_second, refuses_becoming}
use Rattle.jc_expr_laws.proofs.PrimeStarts.{prime_fits, fits_at}

abbrev pub special_layer : Expr-F Creation Expr Init Operand ArrayInit → Bool
special_layer (Expr-F.ClassLiteral ty) = true
special_layer (Expr-F.OuterThis first more) = true
special_layer _ = false

-- a class literal of a type, or an outer `this`
abbrev pub is_special : Expr → Bool
is_special e = special_layer (out-Expr e)

kind_special : (a : Special) → is_special (special_made a) ≡ true
kind_special (This (w, (dims, p))) = ap special_layer (expr_of.outs-ClassLiteral _)
kind_special (That (first, (more, This (b, (dims, p))))) = ap special_layer (expr_of.outs-ClassLiteral _)
kind_special (That (first, (more, That (u, This v)))) = ap special_layer (expr_of.outs-OuterThis first more)
kind_special (That (first, (more, That (u, That v)))) = ap special_layer (expr_of.outs-ClassLiteral _)

-- types without arguments

after_names : (more : List Ident) (r : List Told) → after_dots (map part_tokens (map bare_part more)) r ≡ names_after more r
after_names [] r = refl
after_names (i ∷ more) r = ap (λ (l : List Told). sign sign_of.Dot ∷ l) (part_tokens-made i [] (after_dots (map part_tokens (map bare_part more)) r) ∙ ap (λ (l : List Told). ident i ∷ l) (after_names more r))

told_bare : (first : Ident) (more : List Ident) (r : List Told) → class_tokens (bare_class first more) r ≡ ident first ∷ names_after more r
told_bare first more r = class_tokens-made (bare_part first) (map bare_part more) r ∙ part_tokens-made first [] (after_dots (map part_tokens (map bare_part more)) r) ∙ ap (λ (l : List Told). ident first ∷ l) (after_names more r)

told_literal : (base : BaseTree) (dims : ℕ) (r : List Told) → expr_tokens (literal_type base dims) r ≡ base_tokens base (brackets dims (sign sign_of.Dot ∷ key key_of.Class ∷ r))
told_literal base dims r = expr_tokens-ClassLiteral (roll-TypeTree (record { base = base; dims = dims })) r ∙ type_tokens-made base dims (sign sign_of.Dot ∷ key key_of.Class ∷ r)

most_bare : (more : List Ident) → most (map part_height (map bare_part more)) ≡ 0
most_bare [] = refl
most_bare (i ∷ more) = ap (λ n. max n (most (map part_height (map bare_part more)))) (part_height-made i []) ∙ ap (λ n. max 0 n) (most_bare more)

bare_height : (first : Ident) (more : List Ident) → class_height (bare_class first more) ≡ 0
bare_height first more = class_height-made (bare_part first) (map bare_part more) ∙ ap (λ n. max n (most (map part_height (map bare_part more)))) (part_height-made first []) ∙ ap (λ n. max 0 n) (most_bare more)

part_bare : (i : Ident) → part_is_bare (bare_part i) ≡ true
part_bare i = ap (λ p. is_none p.args) (out-roll-TypePart (record { name = i; args = [] }))

all_bare : (more : List Ident) → list_all part_is_bare (map bare_part more) ≡ true
all_bare [] = refl
all_bare (i ∷ more) = and_from (part_is_bare (bare_part i)) (list_all part_is_bare (map bare_part more)) (part_bare i) (all_bare more)

class_bare : (first : Ident) (more : List Ident) → base_is_bare (BaseTree-F.Class (bare_class first more)) ≡ true
class_bare first more =
    ap (λ c. part_is_bare c.first && list_all part_is_bare c.more) (out-roll-ClassTree (record { first = bare_part first; more = map bare_part more }))
    ∙ and_from (part_is_bare (bare_part first)) (list_all part_is_bare (map bare_part more)) (part_bare first) (all_bare more)

base_bare : (base : BaseTree) (dims : ℕ) → is_bare (roll-TypeTree (record { base = base; dims = dims })) ≡ base_is_bare (out-BaseTree base)
base_bare base dims = ap (λ t. base_is_bare (out-BaseTree t.base)) (out-roll-TypeTree (record { base = base; dims = dims }))

-- which are made of names

none_is_empty : {A : Type 0} (list : List A) → is_none list ≡ true → [] ≡ list
none_is_empty [] e = refl
none_is_empty (a ∷ list) e = absurd (false≢true e)

abbrev name_of : TypePart → Ident
name_of p = (out-TypePart p).name

part_named : (p : TypePart) → part_is_bare p ≡ true → bare_part (name_of p) ≡ p
part_named p e = ap (λ (args : List TypeArg). roll-TypePart (record { name = name_of p; args = args })) (none_is_empty (out-TypePart p).args e) ∙ roll-out-TypePart p

parts_named : (list : List TypePart) → list_all part_is_bare list ≡ true → map bare_part (map name_of list) ≡ list
parts_named [] e = refl
parts_named (p ∷ list) e =
    let f = and_parts (part_is_bare p) (list_all part_is_bare list) e in
    ap (λ (q : TypePart). q ∷ map bare_part (map name_of list)) (part_named p f.0) ∙ ap (λ (l : List TypePart). p ∷ l) (parts_named list f.1)

class_named : (c : ClassTree) → base_is_bare (BaseTree-F.Class c) ≡ true → bare_class (name_of (out-ClassTree c).first) (map name_of (out-ClassTree c).more) ≡ c
class_named c e =
    let f = and_parts (part_is_bare (out-ClassTree c).first) (list_all part_is_bare (out-ClassTree c).more) e in
    ap (λ (p : TypePart). roll-ClassTree (record { first = p; more = map bare_part (map name_of (out-ClassTree c).more) })) (part_named (out-ClassTree c).first f.0)
    ∙ ap (λ (l : List TypePart). roll-ClassTree (record { first = (out-ClassTree c).first; more = l })) (parts_named (out-ClassTree c).more f.1)
    ∙ roll-out-ClassTree c

class_special : (c : ClassTree) (dims : ℕ) → base_is_bare (BaseTree-F.Class c) ≡ true → (a : Special) × (special_made a ≡ literal_type (base_of.Class c) dims)
class_special c zero e = (That (name_of (out-ClassTree c).first, (map name_of (out-ClassTree c).more, That (tt, That tt))), ap (λ (d : ClassTree). literal_type (base_of.Class d) zero) (class_named c e))
class_special c (suc dims) e = (That (name_of (out-ClassTree c).first, (map name_of (out-ClassTree c).more, This ((tt, tt), (dims, (tt, tt))))), ap (λ (d : ClassTree). literal_type (base_of.Class d) (suc dims)) (class_named c e))

base_special : (base : BaseTree) (l : BaseTree-F BaseTree TypeArg ClassTree TypePart TypeTree) (dims : ℕ) → out-BaseTree base ≡ l → base_is_bare l ≡ true → (a : Special) × (special_made a ≡ literal_type base dims)
base_special base (BaseTree-F.Primitive at word) dims q e = (This ((at, word), (dims, (tt, tt))), ap (λ (b : BaseTree). literal_type b dims) (sym (base_of.rolls-Primitive at word) ∙ ap roll-BaseTree (sym q) ∙ roll-out-BaseTree base))
base_special base (BaseTree-F.Class c) dims q e =
    let w = class_special c dims e in
    (w.0, w.1 ∙ ap (λ (b : BaseTree). literal_type b dims) (sym (base_of.rolls-Class c) ∙ ap roll-BaseTree (sym q) ∙ roll-out-BaseTree base))

type_special : (ty : TypeTree) → is_bare ty ≡ true → (a : Special) × (special_made a ≡ expr_of.ClassLiteral ty)
type_special ty e =
    let w = base_special (out-TypeTree ty).base (out-BaseTree (out-TypeTree ty).base) (out-TypeTree ty).dims refl e in
    (w.0, w.1 ∙ ap (λ (t : TypeTree). expr_of.ClassLiteral t) (roll-out-TypeTree ty))

made_special : (e : Expr) (l : Expr-F Creation Expr Init Operand ArrayInit) → out-Expr e ≡ l → special_layer l ≡ true → (expr_shape e).good ≡ true → (a : Special) × (special_made a ≡ e)
made_special e (Expr-F.ClassLiteral ty) q k g =
    let same : expr_of.ClassLiteral ty ≡ e = sym (expr_of.rolls-ClassLiteral ty) ∙ ap roll-Expr (sym q) ∙ roll-out-Expr e in
    let w = type_special ty (ap (λ (s : Shape). s.good) (sym (expr_shape-ClassLiteral ty)) ∙ ap (λ (d : Expr). (expr_shape d).good) same ∙ g) in
    (w.0, w.1 ∙ same)
made_special e (Expr-F.OuterThis first more) q k g = (That (first, (more, That (tt, This tt))), sym (expr_of.rolls-OuterThis first more) ∙ ap roll-Expr (sym q) ∙ roll-out-Expr e)
made_special e _ q k g = absurd (false≢true k)

-- another test of which values there are, that is the same
pub refit : (A : Type 0) (c : Coded A) (fits : A → Bool) → ((a : A) → c.fits a ≡ fits a) → Lawful A (formed c) → Lawful A (record { tell = c.tell; fits = fits; run = c.run; starts = one_of c.starts; goes_on = one_of c.goes; empties = c.empties })
refit A c fits e la = subst (λ (f : A → Bool). Lawful A (record { tell = c.tell; fits = f; run = c.run; starts = one_of c.starts; goes_on = one_of c.goes; empties = c.empties })) (fun_ext e) la

room_one : (h : ℕ) → (h ≡ 0 → ⊥) → true ≡ nat_le 1 h
room_one zero n = absurd (n refl)
room_one (suc h) n = sym (room_suc 0 h ∙ room_above h)

zero_or : (h : ℕ) → (h ≡ 0) ⊎ (h ≡ 0 → ⊥)
zero_or zero = inl refl
zero_or (suc h) = inr (λ e. omega (arith, e))

module _ (h : ℕ) where
  -- `class`, behind a type that stands in it
  abbrev class_key : Coded (Unit {0})
  class_key = record { tell = λ u r. key key_of.Class ∷ r; fits = λ u. nat_le 1 h; run = of_kind (key_code key_of.Class); starts = key_code key_of.Class ∷ []; goes = []; empties = false }

  class_key_laws : (h ≡ 0 → ⊥) → Lawful (Unit {0}) (formed class_key)
  class_key_laws n = refit (Unit {0}) (key_form key_of.Class) (λ u. nat_le 1 h) (λ u. room_one h n) (key_laws key_of.Class)

  no_class : h ≡ 0 → nat_le 1 h ≡ false
  no_class e = ap (λ k. nat_le 1 k) e ∙ room_none 0

  abbrev DotClassed : Coded DotClass
  DotClassed = in_order (sign_form sign_of.Dot) class_key

  dot_laws : (h ≡ 0 → ⊥) → Lawful DotClass (formed DotClassed)
  dot_laws n = in_order_laws (Unit {0}) (Unit {0}) (sign_form sign_of.Dot) class_key (sign_laws sign_of.Dot) (class_key_laws n) refl

  abbrev BracketPair : Coded (Unit {0} × Unit {0})
  BracketPair = in_order (sign_form sign_of.LeftBracket) (sign_form sign_of.RightBracket)

  abbrev Dims_class : Coded ClassDims
  Dims_class = in_order BracketPair (in_order dims_coded DotClassed)

  abbrev class_dims : Coded ClassDims
  class_dims = roomy h Dims_class

  class_dims_law : Law ClassDims class_dims
  class_dims_law =
      ⊎_elim (λ e. inr (void_room ClassDims Dims_class h e (λ p. no_class e)))
      (λ n. inl (lawful_room ClassDims Dims_class h n
      (in_order_laws (Unit {0} × Unit {0}) (ℕ × DotClass) BracketPair (in_order dims_coded DotClassed)
      (in_order_laws (Unit {0}) (Unit {0}) (sign_form sign_of.LeftBracket) (sign_form sign_of.RightBracket) (sign_laws sign_of.LeftBracket) (sign_laws sign_of.RightBracket) refl)
      (in_order_laws ℕ DotClass dims_coded DotClassed dims_laws (dot_laws n) refl) refl)))
      (zero_or h)

  abbrev Keys : Coded (Either (Unit {0}) (Unit {0}))
  Keys = one_or (key_code key_of.This ∷ []) (key_form key_of.This) (roomy h class_key)

  keys_laws : Lawful (Either (Unit {0}) (Unit {0})) (formed Keys)
  keys_laws =
      one_or_first (Unit {0}) (Unit {0}) (key_code key_of.This ∷ []) (key_form key_of.This) (roomy h class_key) (record { solid = refl; solid' = refl; this = refl; that = refl }) (key_laws key_of.This)
      (⊎_elim (λ e. inr (void_room (Unit {0}) class_key h e (λ u. no_class e))) (λ n. inl (lawful_room (Unit {0}) class_key h n (class_key_laws n))) (zero_or h))

  abbrev dot_key : Coded DotKey
  dot_key = in_order (sign_form sign_of.Dot) Keys

  dot_key_laws : Lawful DotKey (formed dot_key)
  dot_key_laws = in_order_laws (Unit {0}) (Either (Unit {0}) (Unit {0})) (sign_form sign_of.Dot) Keys (sign_laws sign_of.Dot) keys_laws refl

  led_key_laws : Lawful DotKey (led (Either (Unit {0}) (Unit {0})) sign_of.Dot (formed Keys))
  led_key_laws = led_laws (Either (Unit {0}) (Unit {0})) sign_of.Dot (formed Keys) keys_laws refl

  abbrev pub Tails : Coded SpecialTail
  Tails = one_or (sign_code sign_of.LeftBracket ∷ []) class_dims dot_key

  -- a bracket, or a point and `this` or `class`
  abbrev tail_starts : List Token → Bool
  tail_starts ts = one_of (sign_code sign_of.LeftBracket ∷ []) ts || led_starts (Either (Unit {0}) (Unit {0})) sign_of.Dot (formed Keys) ts

  abbrev special_tail : Form SpecialTail
  special_tail = retested SpecialTail (formed Tails) tail_starts (λ ts. false)

  opens_tail : (ts : List Token) (t : SpecialTail) (r : List Token) → Stands (formed Tails) ts t r → tail_starts ts ≡ true
  opens_tail ts (This t) r s =
      ⊎_elim (λ l. ⊎_elim (λ o. or_left (one_of (sign_code sign_of.LeftBracket ∷ []) ts) (led_starts (Either (Unit {0}) (Unit {0})) sign_of.Dot (formed Keys) ts) o.0) (λ o. absurd (false≢true o.1)) (l.opens ts t r s))
      (λ v. absurd (false≢true (sym (v.never t) ∙ s.1))) class_dims_law
  opens_tail ts (That t) r s =
      ⊎_elim (λ o. or_right (one_of (sign_code sign_of.LeftBracket ∷ []) ts) (led_starts (Either (Unit {0}) (Unit {0})) sign_of.Dot (formed Keys) ts) o.0) (λ o. absurd (false≢true o.1)) (led_key_laws.opens ts t r s)

  refuses_tail : (ts : List Token) → tail_starts ts ≡ false → Refuses false ts (Tails.run ts)
  refuses_tail ts e =
      let o = or_parts (one_of (sign_code sign_of.LeftBracket ∷ []) ts) (led_starts (Either (Unit {0}) (Unit {0})) sign_of.Dot (formed Keys) ts) e in
      subst (λ (m : Read SpecialTail). Refuses false ts m) (sym (cond-false (one_of (sign_code sign_of.LeftBracket ∷ []) ts) (becoming This (class_dims.run ts)) (becoming That (dot_key.run ts)) o.0))
      (refuses_becoming {B = SpecialTail} That ts (dot_key.run ts) (led_key_laws.refuses ts o.1))

  special_tail_laws : Lawful SpecialTail special_tail
  special_tail_laws =
      retested_laws SpecialTail (formed Tails) tail_starts (λ ts. false)
      (one_or_second ClassDims DotKey (sign_code sign_of.LeftBracket ∷ []) class_dims dot_key (record { solid = refl; solid' = refl; this = refl; that = refl }) class_dims_law dot_key_laws)
      (record { opens = λ ts t r s lt. opens_tail ts t r s; refuses = refuses_tail; goes_too = λ ts e. e })

  tail_meets : (ts : List Token) → tail_starts ts ≡ true → dot_word ts ≡ false
  tail_meets ts e =
      ⊎_elim (λ t. and_left (one_of (sign_code sign_of.Dot ∷ []) ts) (one_of (word_code ∷ []) (rest_of ts)) (apart_sets (sign_code sign_of.LeftBracket ∷ []) (sign_code sign_of.Dot ∷ []) refl (front_code ts) t))
      (λ t. and_right (one_of (sign_code sign_of.Dot ∷ []) ts) (one_of (word_code ∷ []) (rest_of ts)) (apart_sets Keys.starts (word_code ∷ []) refl (front_code (rest_of ts)) (and_parts (one_of (sign_code sign_of.Dot ∷ []) ts) (one_of Keys.starts (rest_of ts)) t).1))
      (or_cases (one_of (sign_code sign_of.LeftBracket ∷ []) ts) (led_starts (Either (Unit {0}) (Unit {0})) sign_of.Dot (formed Keys) ts) e)

  abbrev NamesTail : Form (List Ident × SpecialTail)
  NamesTail = pair (List Ident) SpecialTail more_names_form special_tail

  names_tail_laws : Lawful (List Ident × SpecialTail) NamesTail
  names_tail_laws = pair_laws (List Ident) SpecialTail more_names_form special_tail more_names_laws special_tail_laws tail_meets

  abbrev Named : Form NamesSpecial
  Named = pair Ident (List Ident × SpecialTail) an_ident NamesTail

  abbrev pub names_special : Coded NamesSpecial
  names_special = coded Named (word_code ∷ []) []

  twice : (b : Bool) → (b || false) ≡ true → b ≡ true
  twice true e = refl
  twice false e = e

  pub names_special_laws : Lawful NamesSpecial (formed names_special)
  names_special_laws = coded_laws NamesSpecial Named (word_code ∷ []) [] (pair_laws Ident (List Ident × SpecialTail) an_ident NamesTail ident_laws names_tail_laws (λ ts e. refl)) (λ ts e. twice (one_of (word_code ∷ []) ts) e) (λ ts e. e)

  abbrev Word : Coded (ℕ × PrimitiveWord)
  Word = coded word_form primitive_codes []

  abbrev Word_class : Coded WordClass
  Word_class = in_order Word (in_order dims_coded DotClassed)

  abbrev pub word_class : Coded WordClass
  word_class = roomy h Word_class

  pub word_class_law : Law WordClass word_class
  word_class_law =
      ⊎_elim (λ e. inr (void_room WordClass Word_class h e (λ p. no_class e)))
      (λ n. inl (lawful_room WordClass Word_class h n
      (in_order_laws (ℕ × PrimitiveWord) (ℕ × DotClass) Word (in_order dims_coded DotClassed) word_laws (in_order_laws ℕ DotClass dims_coded DotClassed dims_laws (dot_laws n) refl) refl)))
      (zero_or h)

  abbrev pub Specials : Coded Special
  Specials = one_or primitive_codes word_class names_special

  pub specials_laws : Lawful Special (formed Specials)
  specials_laws = one_or_second WordClass NamesSpecial primitive_codes word_class names_special (record { solid = refl; solid' = refl; this = refl; that = refl }) word_class_law names_special_laws

  pub told_special : (a : Special) (r : List Told) → expr_tokens (special_made a) r ≡ Specials.tell a r
  told_special (This (w, (dims, p))) r = told_literal (base_of.Primitive w.0 w.1) dims r ∙ base_tokens-Primitive w.0 w.1 (brackets dims (sign sign_of.Dot ∷ key key_of.Class ∷ r))
  told_special (That (first, (more, This (b, (dims, p))))) r =
      told_literal (base_of.Class (bare_class first more)) (suc dims) r ∙ base_tokens-Class (bare_class first more) _ ∙ told_bare first more (brackets (suc dims) (sign sign_of.Dot ∷ key key_of.Class ∷ r))
  told_special (That (first, (more, That (u, This v)))) r = expr_tokens-OuterThis first more r
  told_special (That (first, (more, That (u, That v)))) r =
      told_literal (base_of.Class (bare_class first more)) 0 r ∙ base_tokens-Class (bare_class first more) _ ∙ told_bare first more (sign sign_of.Dot ∷ key key_of.Class ∷ r)

  fit_literal : (base : BaseTree) (dims : ℕ) → base_height base ≡ 0 → base_is_bare (out-BaseTree base) ≡ true → prime_fits h (literal_type base dims) ≡ nat_le 1 h
  fit_literal base dims z b =
      fits_at h (literal_type base dims) _ _ (expr_height-ClassLiteral (roll-TypeTree (record { base = base; dims = dims })) ∙ ap suc (type_height-made base dims ∙ ap suc z)) (expr_shape-ClassLiteral (roll-TypeTree (record { base = base; dims = dims })))
      ∙ ap (λ c. nat_le 1 h && (c && true)) (base_bare base dims ∙ b) ∙ and-true (nat_le 1 h)

  fit_special : (a : Special) → prime_fits h (special_made a) ≡ Specials.fits a
  fit_special (This (w, (dims, p))) = fit_literal (base_of.Primitive w.0 w.1) dims (base_height-Primitive w.0 w.1) (ap base_is_bare (base_of.outs-Primitive w.0 w.1))
  fit_special (That (first, (more, This (b, (dims, p))))) = fit_literal (base_of.Class (bare_class first more)) (suc dims) (base_height-Class (bare_class first more) ∙ bare_height first more) (ap base_is_bare (base_of.outs-Class (bare_class first more)) ∙ class_bare first more)
  fit_special (That (first, (more, That (u, This v)))) = fits_at h (expr_of.OuterThis first more) 0 _ (expr_height-OuterThis first more) (expr_shape-OuterThis first more) ∙ and-true (nat_le 0 h) ∙ room_above h
  fit_special (That (first, (more, That (u, That v)))) = fit_literal (base_of.Class (bare_class first more)) 0 (base_height-Class (bare_class first more) ∙ bare_height first more) (ap base_is_bare (base_of.outs-Class (bare_class first more)) ∙ class_bare first more)

  abbrev pub special_fits : Expr → Bool
  special_fits e = is_special e && prime_fits h e

  abbrev pub special_coded : Coded Expr
  special_coded = record { tell = expr_tokens; fits = special_fits; run = special_run h; starts = primitive_codes ++ (word_code ∷ []); goes = []; empties = false }

  back_special : (e : Expr) → special_fits e ≡ true → (a : Special) × (special_made a ≡ e) × (Specials.fits a ≡ true)
  back_special e g =
      let f = and_parts (is_special e) (prime_fits h e) g in
      let s = and_parts (nat_le (expr_height e) (suc h)) (stands prime_level (expr_shape e)) f.1 in
      let m = made_special e (out-Expr e) refl f.0 (and_parts (expr_shape e).good (nat_le prime_level (expr_shape e).level) s.1).0 in
      (m.0, m.1, sym (fit_special m.0) ∙ ap (prime_fits h) m.1 ∙ f.1)

  pub special_laws : Lawful Expr (formed special_coded)
  unfolding special_run
  special_laws =
      made_laws Special Expr Specials special_made expr_tokens special_fits specials_laws
      (record { told = λ a r g. told_special a r; forth = λ a g. and_from (is_special (special_made a)) (prime_fits h (special_made a)) (kind_special a) (fit_special a ∙ g); back = back_special })

  -- what it is made of, where it stands
  pub special_of : (ts : List Token) (e : Expr) (r : List Token) → Stands (formed special_coded) ts e r → (a : Special) × (special_made a ≡ e) × Stands (formed Specials) ts a r
  special_of ts e r s =
      let w = back_special e s.1 in
      (w.0, w.1, (subst (λ (l : List Told). Takes false l ts r) (ap (λ (d : Expr). expr_tokens d []) (sym w.1) ∙ told_special w.0 []) s.0, w.2))
