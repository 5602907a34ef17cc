-- Bare: a cast, or an expression of the postfix level.
use Rattle.std.proofs.Common.{◌≡◌, ℕ, suc, ◌<◌, ◌≤◌, max, Bool, true, false, List, [], ◌∷◌, length, Some, refl, sym, ap, ◌∙◌, subst, ⊎_elim, ◌⊎◌, inl, inr, arith}
use Rattle.std.proofs.lemmas.Bool.{false≢true, and_parts, and_from, cases_Bool, leb-true}
use Rattle.std.specs.Prelude.{◌&&◌, ◌||◌, nat_le, not, if◌then◌else◌}
use Rattle.jc_lexer.specs.declared.token.Sign.TheVariants as sign_of
use Rattle.jc_lexer.specs.declared.token.Token.{Token}
use Rattle.jc_tree.specs.declared.types.TypeTree.{TypeTree}
use Rattle.jc_tree.specs.declared.expression.ArrayInit.{ArrayInit}
use Rattle.jc_tree.specs.declared.expression.Creation.{Creation}
use Rattle.jc_tree.specs.declared.expression.Expr.{Expr, Expr-F, out-Expr, roll-Expr, roll-out-Expr, map-Expr}
use Rattle.jc_tree.specs.declared.expression.Expr.TheVariants as expr_of
use Rattle.jc_tree.specs.declared.expression.Init.{Init}
use Rattle.jc_tree.specs.declared.expression.Operand.{Operand}
use Rattle.jc_tree.specs.declared.expression.PrefixSign.{PrefixSign}
use Rattle.jc_tree.specs.declared.expression.PrefixSign.TheVariants as prefix_of
use Rattle.jc_tree.specs.Heights.{expr_height, type_height}
use Rattle.jc_tree.proofs.HeightsOfExpressions.{expr_height-Cast}
use Rattle.jc_grammar.specs.Told.{Told, sign}
use Rattle.jc_grammar.specs.Spelling.{is_greater}
use Rattle.jc_grammar.specs.Types.{type_tokens}
use Rattle.jc_grammar.specs.Expressions.{expr_tokens}
use Rattle.jc_grammar.specs.Shapes.{Shape, CreationShape, OperandShape, stands, expr_shape, creation_shape, operand_shape, is_init, is_array, expr_shape_step, is_primitive, prefix_level, unary_level, plain_level, post_level}
use Rattle.jc_grammar.proofs.FramedTypes.{type_frames}
use Rattle.jc_grammar.proofs.ShapesOfExpressions.{expr_shape-out, expr_shape-Cast}
use Rattle.jc_grammar.proofs.Stands.{stands_looser}
use Rattle.jc_grammar.proofs.TokensOfExpressions.{expr_tokens-Cast}
use Rattle.jc_reading.specs.Kinds.{kind_code, sign_code, front_code, one_of}
use Rattle.jc_reading.specs.Reading.{Run, Either, This, That, Takes}
use Rattle.jc_reading.proofs.Steps.{takes_cut}
use Rattle.jc_reading.proofs.Codes.{some_is}
use Rattle.jc_reading.proofs.Forms.{Form, Lawful, Stands}
use Rattle.jc_reading.proofs.Rooms.{room_suc, room_max}
use Rattle.jc_reading.proofs.Signs.{sign_laws, sign_at_laws, apart_sets, all_in, within_sets}
use Rattle.jc_parse_type.proofs.TypeForms.{type_codes}
use Rattle.jc_reading.proofs.Coded.{Coded, formed, coded, coded_laws, in_order, in_order_laws, made, made_laws, widened_laws}
use Rattle.jc_reading.proofs.Depends.{depending, depending_laws}
use Rattle.jc_reading.proofs.Prefers.{preferred, preferred_laws}
use Rattle.jc_part_laws.proofs.PartForms.{sign_form, sign_at_form, type_coded, type_coded_laws}
use Rattle.jc_part_laws.proofs.ExprForms.{expr_codes, bare_codes, plain_codes}
use Rattle.jc_expr_laws.specs.LevelReading.{operand_for, CastParts, bare_made, bare_run}
use Rattle.jc_expr_laws.proofs.LevelPrefixes.{post_goes, bare_goes, bare_fits, bare_coded}
use Rattle.jc_expr_laws.proofs.LevelShapes.{exactly}
use Rattle.jc_expr_laws.proofs.PrimeFacts.{more_codes, closes_first, type_closes, no_primitive}
use Rattle.jc_expr_laws.proofs.LevelUnaries.{plain_coded, unary_coded, operand_low}

abbrev pub post_coded : ℕ → Run Expr → Coded Expr
post_coded h run = record { tell = expr_tokens; fits = λ e. nat_le (expr_height e) h && stands 14 (expr_shape e); run = run; starts = bare_codes; goes = post_goes; empties = false }

abbrev IsSign : ℕ → Token → Type 0
IsSign code t = kind_code t.kind ≡ code

abbrev operand_level : Bool → ℕ
operand_level b = if b then unary_level else plain_level

abbrev starts_for : Bool → List ℕ
starts_for true = expr_codes
starts_for false = plain_codes

-- casts are no chains of prefix operators

abbrev Layer : Type 0
Layer = Expr-F Creation Expr Init Operand ArrayInit

abbrev shaped : Layer → Shape
shaped l = expr_shape_step (map-Expr Creation Expr Init Operand ArrayInit CreationShape Shape Bool OperandShape Bool creation_shape expr_shape is_init operand_shape is_array l)

pub record IsCast (e : Expr) : Type 0 where
  pub at : ℕ
  pub ty : TypeTree
  pub operand : Expr
  pub is_it : expr_of.Cast at ty operand ≡ e

cast_layer : (e : Expr) (l : Layer) → out-Expr e ≡ l → (shaped l).level ≡ 13 → (shaped l).prefix ≡ false → IsCast e
cast_layer e (Expr-F.Cast at ty operand) q g f = record { at = at; ty = ty; operand = operand; is_it = sym (expr_of.rolls-Cast at ty operand) ∙ ap roll-Expr (sym q) ∙ roll-out-Expr e }
cast_layer e (Expr-F.Prefix first more operand) q g f = absurd (false≢true (sym f))
cast_layer e (Expr-F.Chain first []) q g f = absurd (omega (arith, g))
cast_layer e (Expr-F.Chain first (o ∷ rest)) q g f = let k = operand_low o in absurd (omega (arith, g, k))
cast_layer e _ q g f = absurd (omega (arith, g))

cast_only : (e : Expr) → stands 13 (expr_shape e) ≡ true → stands 14 (expr_shape e) ≡ false → (expr_shape e).prefix ≡ false → IsCast e
cast_only e s n f =
    let l : (expr_shape e).level ≡ 13 = exactly 13 (expr_shape e) s n in
    cast_layer e (out-Expr e) refl (sym (ap (λ (z : Shape). z.level) (expr_shape-out e)) ∙ l) (sym (ap (λ (z : Shape). z.prefix) (expr_shape-out e)) ∙ f)

prefix_loose : (s : PrefixSign) → prefix_level s ≤ 13
prefix_loose prefix_of.Plus = omega arith
prefix_loose prefix_of.Minus = omega arith
prefix_loose prefix_of.Increment = omega arith
prefix_loose prefix_of.Decrement = omega arith
prefix_loose prefix_of.Not = omega arith
prefix_loose prefix_of.Complement = omega arith

flag_layer : (l : Layer) → 14 ≤ (shaped l).level → (shaped l).prefix ≡ false
flag_layer (Expr-F.Prefix first more operand) g = let k = prefix_loose first.sign in absurd (omega (arith, g, k))
flag_layer (Expr-F.Chain first []) g = refl
flag_layer (Expr-F.Chain first (o ∷ rest)) g = refl
flag_layer _ g = refl

pub post_flag : (e : Expr) → stands 14 (expr_shape e) ≡ true → (expr_shape e).prefix ≡ false
post_flag e s =
    let h : 14 ≤ (expr_shape e).level = leb-true 14 (expr_shape e).level (and_parts (expr_shape e).good (nat_le 14 (expr_shape e).level) s).1 in
    ap (λ (z : Shape). z.prefix) (expr_shape-out e) ∙ flag_layer (out-Expr e) (subst (λ (z : Shape). 14 ≤ z.level) (expr_shape-out e) h)

module _ (k : ℕ) (unary plain post : Run Expr) where
  abbrev Typed : Coded (TypeTree × Unit {0})
  Typed = in_order (type_coded (suc k)) (sign_form sign_of.RightParen)

  abbrev operand_form : Bool → Form Expr
  operand_form b = record { tell = expr_tokens; fits = λ e. nat_le (expr_height e) (suc k) && stands (operand_level b) (expr_shape e); run = operand_for b unary plain; starts = one_of (starts_for b); goes_on = one_of bare_goes; empties = false }

  abbrev Behind : Form ((TypeTree × Unit {0}) × Expr)
  Behind = depending (TypeTree × Unit {0}) Expr (formed Typed) (λ p. operand_form (is_primitive p.0)) (one_of expr_codes) (one_of bare_goes)

  abbrev Rest : Coded ((TypeTree × Unit {0}) × Expr)
  Rest = coded Behind type_codes bare_goes

  abbrev Cast : Coded CastParts
  Cast = in_order (sign_at_form sign_of.LeftParen) Rest

  abbrev Post : Coded Expr
  Post = post_coded (suc (suc k)) post

  abbrev Bare : Coded (Either CastParts Expr)
  Bare = preferred CastParts Expr bare_goes Cast Post

  pub record Inner : Type 0 where
    pub unary_laws : Lawful Expr (formed (unary_coded (suc k) unary))
    pub plain_laws : Lawful Expr (formed (plain_coded (suc k) plain))
    pub post_laws : Lawful Expr (formed Post)

  module _ (d : Inner) where
    operand_laws : (b : Bool) → Lawful Expr (operand_form b)
    operand_laws true = d.unary_laws
    operand_laws false = d.plain_laws

    typed_laws : Lawful (TypeTree × Unit {0}) (formed Typed)
    typed_laws = in_order_laws TypeTree (Unit {0}) (type_coded (suc k)) (sign_form sign_of.RightParen) (type_coded_laws k) (sign_laws sign_of.RightParen) refl

    begun_for : (b : Bool) (ts : List Token) → one_of (starts_for b) ts ≡ true → one_of expr_codes ts ≡ true
    begun_for true ts e = e
    begun_for false ts e = within_sets plain_codes expr_codes refl (front_code ts) e

    rest_laws : Lawful ((TypeTree × Unit {0}) × Expr) (formed Rest)
    rest_laws = coded_laws ((TypeTree × Unit {0}) × Expr) Behind type_codes bare_goes
        (depending_laws (TypeTree × Unit {0}) Expr (formed Typed) (λ p. operand_form (is_primitive p.0)) (one_of expr_codes) (one_of bare_goes) typed_laws (λ p. operand_laws (is_primitive p.0))
        (record { solid = λ p. refl; begun = λ p ts e. begun_for (is_primitive p.0) ts e; going = λ p ts e. e; meet = λ ts e. refl }))
        (λ ts e. without (one_of type_codes ts) e) (λ ts e. e)
      where
        without : (b : Bool) → (b || false) ≡ true → b ≡ true
        without true e = refl
        without false e = e

    cast_laws : Lawful CastParts (formed Cast)
    cast_laws = in_order_laws ℕ ((TypeTree × Unit {0}) × Expr) (sign_at_form sign_of.LeftParen) Rest (sign_at_laws sign_of.LeftParen) rest_laws refl

    record Seen (us : List Token) (ty : TypeTree) (e : Expr) (q : List Token) : Type 0 where
      close : Token
      back : List Token
      is_close : IsSign (sign_code sign_of.RightParen) close
      typed : Stands (formed (type_coded (suc k))) us ty (close ∷ back)
      operand : Stands (operand_form (is_primitive ty)) back e q

    abbrev Longer : List Token → List Token → Type 0
    Longer q r = (length q ≤ length r) × (one_of bare_goes r ≡ true)

    seen : (us : List Token) (ty : TypeTree) (e : Expr) (q : List Token) → Takes false (type_tokens ty (sign sign_of.RightParen ∷ expr_tokens e [])) us q → (type_coded (suc k)).fits ty ≡ true → (operand_form (is_primitive ty)).fits e ≡ true → Seen us ty e q
    seen us ty e q s f g =
        let w = takes_cut false (type_tokens ty []) (sign sign_of.RightParen ∷ expr_tokens e []) us q (subst (λ (l : List Told). Takes false l us q) ((type_frames ty).at [] (sign sign_of.RightParen ∷ expr_tokens e [])) s) in
        at_close w.0 w.1 w.2
      where
        at_close : (m : List Token) → Takes false (type_tokens ty []) us m → Takes false (sign sign_of.RightParen ∷ expr_tokens e []) m q → Seen us ty e q
        at_close [] a b = absurd b
        at_close (c ∷ n) a b = record {
          close = c;
          back = n;
          is_close = ap kind_code b.0.0;
          typed = (a, f);
          operand = (subst (λ (x : Bool). Takes (x && c.touches) (expr_tokens e []) n q) (ap is_greater b.0.0) b.1, g);
        }

    begun : (b : Bool) (n : List Token) (e : Expr) (q : List Token) → Stands (operand_form b) n e q → (one_of (starts_for b) n ≡ true) × (length q < length n)
    begun b n e q s = ⊎_elim (λ o. (o.0, o.1)) (λ o. absurd (false≢true o.1)) ((operand_laws b).opens n e q s)

    some_same : (a b : List Token) → Some a ≡ Some b → a ≡ b
    some_same a b e = some_is a b e

    -- where both stand, the cast is no shorter
    longer_class : (n e' : List Token) (q r : List Token) → one_of plain_codes n ≡ true → length q < length n → n ≡ e' → (e' ≡ r) ⊎ (one_of more_codes e' ≡ true) → Longer q r
    longer_class n e' q r s lt e (inl same) =
        let nr : n ≡ r = e ∙ same in
        (let l : length n ≡ length r = ap length nr in omega (arith, l, lt), within_sets plain_codes bare_goes refl (front_code r) (subst (λ (l : List Token). one_of plain_codes l ≡ true) nr s))
    longer_class n e' q r s lt e (inr sel) =
        absurd (false≢true (sym (apart_sets plain_codes more_codes refl (front_code n) s) ∙ subst (λ (l : List Token). one_of more_codes l ≡ true) (sym e) sel))

    at_post : (b : Expr) → Post.fits b ≡ true → stands post_level (expr_shape b) ≡ true
    at_post b g = (and_parts (nat_le (expr_height b) (suc (suc k))) (stands 14 (expr_shape b)) g).1

    longer_seen : (t : Token) (us : List Token) (ty : TypeTree) (e : Expr) (q : List Token) (b : Expr) (r : List Token) (c : Bool) → is_primitive ty ≡ c → IsSign (sign_code sign_of.LeftParen) t → (w : Seen us ty e q) → Stands (formed Post) (t ∷ us) b r → Longer q r
    longer_seen t us ty e q b r true p o w s = absurd (no_primitive t us b r ty w.close w.back s.0 (at_post b s.1) o w.typed.0 w.is_close p)
    longer_seen t us ty e q b r false p o w s =
        let a = begun false w.back e q (subst (λ (x : Bool). Stands (operand_form x) w.back e q) p w.operand) in
        let z = closes_first t us b r s.0 (at_post b s.1) o in
        longer_class w.back z.0 q r a.0 a.1 (some_same w.back z.0 (sym (type_closes us ty w.close w.back w.typed.0 w.is_close) ∙ z.1)) z.2

    longer : (ts : List Token) (p : CastParts) (q : List Token) (b : Expr) (r : List Token) → Stands (formed Cast) ts p q → Stands (formed Post) ts b r → Longer q r
    longer [] p q b r s t = absurd s.0
    longer (t ∷ us) (at, ((ty, u), e)) q b r s f =
        let g = and_parts ((type_coded (suc k)).fits ty && true) ((operand_form (is_primitive ty)).fits e) s.1 in
        let h = and_parts ((type_coded (suc k)).fits ty) true g.0 in
        longer_seen t us ty e q b r (is_primitive ty) refl (ap kind_code s.0.0.0)
        (seen us ty e q (subst (λ (x : Bool). Takes (x && t.touches) (type_tokens ty (sign sign_of.RightParen ∷ expr_tokens e [])) us q) (ap is_greater s.0.0.0) s.0.1) h.0 g.1) f

    either_laws : Lawful (Either CastParts Expr) (formed Bare)
    either_laws = preferred_laws CastParts Expr bare_goes Cast Post cast_laws d.post_laws
        (record {
          solid = refl;
          solid' = refl;
          goes_first = λ r e. e;
          goes_second = λ r e. outside post_goes bare_goes r refl e;
          longer = longer;
        })
      where
        outside : (xs ys : List ℕ) (r : List Token) → all_in xs ys ≡ true → one_of ys r ≡ false → one_of xs r ≡ false
        outside xs ys r a e = ⊎_elim (λ (t : one_of xs r ≡ true). absurd (false≢true (sym e ∙ within_sets xs ys a (front_code r) t))) (λ (f : one_of xs r ≡ false). f) (cases_Bool (one_of xs r))

    told : (o : Either CastParts Expr) (r : List Told) → Bare.fits o ≡ true → expr_tokens (bare_made o) r ≡ Bare.tell o r
    told (This p) r g = expr_tokens-Cast p.0 p.1.0.0 p.1.1 r
    told (That e) r g = refl

    high : (at : ℕ) (ty : TypeTree) (e : Expr) → nat_le (expr_height (expr_of.Cast at ty e)) (suc (suc k)) ≡ (nat_le (type_height ty) (suc k) && nat_le (expr_height e) (suc k))
    high at ty e = ap (λ (n : ℕ). nat_le n (suc (suc k))) (expr_height-Cast at ty e) ∙ room_suc (max (type_height ty) (expr_height e)) (suc k) ∙ room_max (type_height ty) (expr_height e) (suc k)

    forth : (o : Either CastParts Expr) → Bare.fits o ≡ true → bare_fits (suc (suc k)) (bare_made o) ≡ true
    forth (This (at, ((ty, u), e))) g =
        let x = expr_of.Cast at ty e in
        let a = and_parts ((type_coded (suc k)).fits ty && true) ((operand_form (is_primitive ty)).fits e) g in
        let b = and_parts ((type_coded (suc k)).fits ty) true a.0 in
        let c = and_parts (nat_le (expr_height e) (suc k)) (stands (operand_level (is_primitive ty)) (expr_shape e)) a.1 in
        and_from (nat_le (expr_height x) (suc (suc k))) (stands 13 (expr_shape x) && not (expr_shape x).prefix)
        (high at ty e ∙ and_from (nat_le (type_height ty) (suc k)) (nat_le (expr_height e) (suc k)) b.0 c.0)
        (subst (λ (s : Shape). (stands 13 s && not s.prefix) ≡ true) (sym (expr_shape-Cast at ty e))
        (and_from (stands (operand_level (is_primitive ty)) (expr_shape e) && true) true (and_from (stands (operand_level (is_primitive ty)) (expr_shape e)) true c.1 refl) refl))
    forth (That e) g =
        let a = and_parts (nat_le (expr_height e) (suc (suc k))) (stands 14 (expr_shape e)) g in
        and_from (nat_le (expr_height e) (suc (suc k))) (stands 13 (expr_shape e) && not (expr_shape e).prefix) a.0
        (and_from (stands 13 (expr_shape e)) (not (expr_shape e).prefix) (stands_looser 13 14 (expr_shape e) (omega arith) a.1) (ap not (post_flag e a.1)))

    of_cast : (e : Expr) → IsCast e → nat_le (expr_height e) (suc (suc k)) ≡ true → stands 13 (expr_shape e) ≡ true → (o : Either CastParts Expr) × (bare_made o ≡ e) × (Bare.fits o ≡ true)
    of_cast e w g s =
        let h = and_parts (nat_le (type_height w.ty) (suc k)) (nat_le (expr_height w.operand) (suc k)) (sym (high w.at w.ty w.operand) ∙ ap (λ (x : Expr). nat_le (expr_height x) (suc (suc k))) w.is_it ∙ g) in
        let z : stands 13 (expr_shape (expr_of.Cast w.at w.ty w.operand)) ≡ true = ap (λ (x : Expr). stands 13 (expr_shape x)) w.is_it ∙ s in
        let c = and_parts (stands (operand_level (is_primitive w.ty)) (expr_shape w.operand)) true (subst (λ (y : Shape). stands 13 y ≡ true) (expr_shape-Cast w.at w.ty w.operand) z) in (
          This (w.at, ((w.ty, tt), w.operand)),
          w.is_it,
          and_from ((type_coded (suc k)).fits w.ty && true) ((operand_form (is_primitive w.ty)).fits w.operand) (and_from ((type_coded (suc k)).fits w.ty) true h.0 refl)
              (and_from (nat_le (expr_height w.operand) (suc k)) (stands (operand_level (is_primitive w.ty)) (expr_shape w.operand)) h.1 c.0),
        )

    not_true : (b : Bool) → not b ≡ true → b ≡ false
    not_true true e = absurd (false≢true e)
    not_true false e = refl

    back : (e : Expr) → bare_fits (suc (suc k)) e ≡ true → (o : Either CastParts Expr) × (bare_made o ≡ e) × (Bare.fits o ≡ true)
    back e g =
        let a = and_parts (nat_le (expr_height e) (suc (suc k))) (stands 13 (expr_shape e) && not (expr_shape e).prefix) g in
        let b = and_parts (stands 13 (expr_shape e)) (not (expr_shape e).prefix) a.1 in
        ⊎_elim
        (λ (t : stands 14 (expr_shape e) ≡ true). (That e, refl, and_from (nat_le (expr_height e) (suc (suc k))) (stands 14 (expr_shape e)) a.0 t))
        (λ (f : stands 14 (expr_shape e) ≡ false). of_cast e (cast_only e b.0 f (not_true (expr_shape e).prefix b.1)) a.0 b.0)
        (cases_Bool (stands 14 (expr_shape e)))

    pub bare_laws : Lawful Expr (formed (bare_coded (suc (suc k)) (bare_run (suc k) unary plain post)))
    unfolding bare_run
    bare_laws = widened_laws Expr (made (Either CastParts Expr) Expr Bare bare_made expr_tokens (bare_fits (suc (suc k)))) bare_codes bare_goes
        (made_laws (Either CastParts Expr) Expr Bare bare_made expr_tokens (bare_fits (suc (suc k))) either_laws (record { told = told; forth = forth; back = back })) refl refl
