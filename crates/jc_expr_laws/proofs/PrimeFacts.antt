-- What is known of expressions of the level of postfix operators that begin with a parenthesis.
use Rattle.std.proofs.Common.{◌≡◌, ℕ, zero, suc, ◌≤◌, Bool, true, false, List, [], ◌∷◌, map, Some, refl, sym, ap, ◌∙◌, subst, ⊎_elim, ◌⊎◌, inl, inr, arith}
use Rattle.std.proofs.lemmas.Bool.{false≢true, and_parts, le-leb, eqb-true}
use Rattle.std.specs.Prelude.{◌&&◌, ◌==◌, not, nat_le}
use Rattle.jc_lexer.specs.declared.token.Key.TheVariants as key_of
use Rattle.jc_lexer.specs.declared.token.Sign.TheVariants as sign_of
use Rattle.jc_lexer.specs.declared.token.Token.{Token}
use Rattle.jc_lexer.specs.declared.token.TokenKind.{TokenKind}
use Rattle.jc_lexer.specs.declared.token.TokenKind.TheVariants as kind_of
use Rattle.jc_tree.specs.declared.types.BaseTree.{BaseTree, BaseTree-F, out-BaseTree, roll-BaseTree, roll-out-BaseTree}
use Rattle.jc_tree.specs.declared.types.BaseTree.TheVariants as base_of
use Rattle.jc_tree.specs.declared.types.ClassTree.{ClassTree, out-ClassTree}
use Rattle.jc_tree.specs.declared.types.TypeArg.{TypeArg}
use Rattle.jc_tree.specs.declared.types.TypePart.{TypePart, out-TypePart}
use Rattle.jc_tree.specs.declared.types.PrimitiveWord.{PrimitiveWord}
use Rattle.jc_tree.specs.declared.types.PrimitiveWord.TheVariants as word_of
use Rattle.jc_tree.specs.declared.types.TypeTree.{TypeTree, out-TypeTree}
use Rattle.jc_tree.specs.declared.expression.Literal.{Literal}
use Rattle.jc_tree.specs.declared.expression.Literal.TheVariants as literal_of
use Rattle.jc_tree.specs.declared.expression.PostfixOp.{PostfixOp}
use Rattle.jc_tree.specs.declared.expression.PostfixOp.TheVariants as postfix_of
use Rattle.jc_tree.specs.declared.expression.Expr.{Expr, Expr-F, out-Expr, roll-Expr, roll-out-Expr}
use Rattle.jc_tree.specs.declared.expression.Expr.TheVariants as expr_of
use Rattle.jc_tree.specs.Heights.{expr_height}
use Rattle.jc_tree.proofs.HeightsOfExpressions.{expr_height-Field, expr_height-Call, expr_height-Index, expr_height-InnerNew, expr_height-Postfix}
use Rattle.jc_grammar.specs.Told.{Told, told, sign, sign_at, key, key_at, ident, actuals, names_after, brackets}
use Rattle.jc_grammar.specs.Types.{type_tokens, base_tokens, primitive_key, args_tokens}
use Rattle.jc_grammar.specs.Expressions.{expr_tokens, creation_tokens, literal_kind, postfix_sign}
use Rattle.jc_grammar.specs.Shapes.{Shape, stands, prime_level, post_level, any_level, all_stand, expr_shape, creation_shape, is_primitive, is_primitive_base}
use Rattle.jc_grammar.proofs.ShapesOfExpressions.{expr_shape-Paren, expr_shape-Field, expr_shape-Call, expr_shape-Index, expr_shape-InnerNew, expr_shape-Postfix}
use Rattle.jc_grammar.proofs.TokensOfExpressions.{expr_tokens-Literal, expr_tokens-This, expr_tokens-SuperField, expr_tokens-SuperCall, expr_tokens-Paren, expr_tokens-Name, expr_tokens-Invoke, expr_tokens-New, expr_tokens-ClassLiteral, expr_tokens-VoidLiteral, expr_tokens-OuterThis, expr_tokens-Field, expr_tokens-Call, expr_tokens-Index, expr_tokens-InnerNew, expr_tokens-Postfix}
use Rattle.jc_grammar.proofs.TokensOfTypes.{base_tokens-Primitive, base_tokens-Class, class_tokens-parts, part_tokens-parts, type_tokens-parts}
use Rattle.jc_reading.specs.Kinds.{kind_code, sign_code, key_code, is_in, one_of}
use Rattle.jc_reading.specs.Reading.{Takes, rest_of}
use Rattle.jc_reading.proofs.Codes.{kind_is_sign}
use Rattle.jc_part_laws.proofs.ExprForms.{expr_tall}
use Rattle.jc_expr_laws.proofs.PrimeParts.{select_layer}
use Rattle.jc_expr_laws.proofs.PrimeStarts.{plain_layer}
use Rattle.jc_expr_laws.proofs.PrimeSpecials.{special_layer}
use Rattle.jc_expr_laws.proofs.PrimeWhole.{Layer, postfix_layer, kind_of_post, prime_is_post}
use Rattle.jc_expr_laws.proofs.PrimeClosed.{Open, after_close, closes_at}
use Rattle.jc_expr_laws.proofs.PrimeLeft.{type_goes, primitive_second}
use Rattle.jc_parse_type.specs.TypeReading.{primitive_codes}
use Rattle.jc_expr_laws.proofs.PrimeClosedTrees.{expr_closed}
use Rattle.jc_expr_laws.proofs.PrimeClosedTypes.{type_closed}

abbrev pub more_codes : List ℕ
more_codes = sign_code sign_of.Dot ∷ sign_code sign_of.LeftBracket ∷ sign_code sign_of.Increment ∷ sign_code sign_of.Decrement ∷ []

-- none is open
abbrev pub none_open : Open
none_open = (0, 0)

-- behind the parenthesis that closes the first one stands what is told to follow, or a selector or postfix operator
pub record Shut (r : List Told) (us q : List Token) : Type 0 where
  pub rest : List Token
  pub flag : Bool
  pub same : after_close us none_open ≡ Some rest
  pub which : Takes flag r rest q ⊎ (one_of more_codes rest ≡ true)
  -- an expression stands behind the first one
  pub inner : Expr
  pub inner_told : List Told
  pub inner_flag : Bool
  pub begins : Takes inner_flag (expr_tokens inner inner_told) us q

-- a first token that is no parenthesis
other_first : (r told : List Told) (d : Told) (b : Bool) (t : Token) (us q : List Token) → t.kind ≡ kind_of.Sign sign_of.LeftParen → (kind_code d.kind == sign_code sign_of.LeftParen) ≡ false → Takes b (d ∷ told) (t ∷ us) q → Shut r us q
other_first r told d b t us q e f s = absurd (false≢true (sym f ∙ ap (λ (k : TokenKind). kind_code k == sign_code sign_of.LeftParen) (sym s.0.0 ∙ e)))

-- more behind one that is shut
more_behind : (r : List Told) (d : Told) (us q : List Token) → is_in more_codes (kind_code d.kind) ≡ true → Shut (d ∷ r) us q → (w : List Told) → Shut w us q
more_behind r d us q e s w = record {
  rest = s.rest;
  flag = s.flag;
  same = s.same;
  which = inr (⊎_elim (λ t. first s.rest t) (λ o. o) s.which);
  inner = s.inner;
  inner_told = s.inner_told;
  inner_flag = s.inner_flag;
  begins = s.begins;
}
  where
    first : (m : List Token) → Takes s.flag (d ∷ r) m q → one_of more_codes m ≡ true
    first [] t = absurd t
    first (k ∷ m) t = subst (λ (j : TokenKind). is_in more_codes (kind_code j) ≡ true) (sym t.0.0) e

-- a type is no parenthesis

word_no_paren : (w : PrimitiveWord) → (key_code (primitive_key w) == sign_code sign_of.LeftParen) ≡ false
word_no_paren word_of.Boolean = refl
word_no_paren word_of.Byte = refl
word_no_paren word_of.Short = refl
word_no_paren word_of.Char = refl
word_no_paren word_of.Int = refl
word_no_paren word_of.Long = refl

base_first : (r x : List Told) (base : BaseTree) (l : BaseTree-F BaseTree TypeArg ClassTree TypePart TypeTree) (b : Bool) (t : Token) (us q : List Token) → out-BaseTree base ≡ l → t.kind ≡ kind_of.Sign sign_of.LeftParen → Takes b (base_tokens base x) (t ∷ us) q → Shut r us q
base_first r x base (BaseTree-F.Primitive at w) b t us q o e s =
    let same : base_of.Primitive at w ≡ base = sym (base_of.rolls-Primitive at w) ∙ ap roll-BaseTree (sym o) ∙ roll-out-BaseTree base in
    other_first r x (key_at (primitive_key w) at) b t us q e (word_no_paren w)
    (subst (λ (l : List Told). Takes b l (t ∷ us) q) (ap (λ (c : BaseTree). base_tokens c x) (sym same) ∙ base_tokens-Primitive at w x) s)
base_first r x base (BaseTree-F.Class c) b t us q o e s =
    let same : base_of.Class c ≡ base = sym (base_of.rolls-Class c) ∙ ap roll-BaseTree (sym o) ∙ roll-out-BaseTree base in
    other_first r _ (ident (out-TypePart (out-ClassTree c).first).name) b t us q e refl
    (subst (λ (l : List Told). Takes b l (t ∷ us) q) (ap (λ (d : BaseTree). base_tokens d x) (sym same) ∙ base_tokens-Class c x ∙ class_tokens-parts c x ∙ part_tokens-parts (out-ClassTree c).first _) s)

type_first : (r x : List Told) (ty : TypeTree) (b : Bool) (t : Token) (us q : List Token) → t.kind ≡ kind_of.Sign sign_of.LeftParen → Takes b (type_tokens ty x) (t ∷ us) q → Shut r us q
type_first r x ty b t us q e s =
    base_first r _ (out-TypeTree ty).base (out-BaseTree (out-TypeTree ty).base) b t us q refl e (subst (λ (l : List Told). Takes b l (t ∷ us) q) (type_tokens-parts ty x) s)

literal_no_paren : (w : Literal) → (kind_code (literal_kind w) == sign_code sign_of.LeftParen) ≡ false
literal_no_paren (literal_of.Number v l d) = refl
literal_no_paren (literal_of.Char u) = refl
literal_no_paren (literal_of.String u) = refl
literal_no_paren (literal_of.Boolean true) = refl
literal_no_paren (literal_of.Boolean false) = refl
literal_no_paren literal_of.Null = refl

-- parentheses themselves
paren_shut : (at : ℕ) (inner : Expr) → (expr_shape inner).good ≡ true → (r : List Told) (b : Bool) (t : Token) (us q : List Token) → Takes b (sign_at sign_of.LeftParen at ∷ expr_tokens inner (sign sign_of.RightParen ∷ r)) (t ∷ us) q → Shut r us q
paren_shut at inner g r b t us q s =
    let p = (expr_closed inner g).at none_open (sign sign_of.RightParen ∷ r) _ us q s.1 in
    ends p.mid p.flag p.rest p.same
  where
    ends : (mid : List Token) (flag : Bool) → Takes flag (sign sign_of.RightParen ∷ r) mid q → after_close us none_open ≡ after_close mid none_open → Shut r us q
    ends [] flag m e = absurd m
    ends (k ∷ mid) flag m e = record { rest = mid; flag = _; same = e ∙ closes_at k mid (kind_of.Sign sign_of.RightParen) none_open m.0.0 refl; which = inl m.1; inner = inner; inner_told = sign sign_of.RightParen ∷ r; inner_flag = _; begins = s.1 }

op_more : (op : PostfixOp) → is_in more_codes (sign_code (postfix_sign op)) ≡ true
op_more postfix_of.Increment = refl
op_more postfix_of.Decrement = refl

-- an expression by its outermost node, where the smaller ones are known
module _ (n : ℕ) (b : Bool) (t : Token) (us q : List Token) (k : t.kind ≡ kind_of.Sign sign_of.LeftParen) (go : (x : Expr) → expr_height x ≤ n → stands post_level (expr_shape x) ≡ true → (r : List Told) → Takes b (expr_tokens x r) (t ∷ us) q → Shut r us q) where
  Goal : Expr → Type 0
  Goal e = expr_height e ≤ suc n → stands post_level (expr_shape e) ≡ true → (r : List Told) → Takes b (expr_tokens e r) (t ∷ us) q → Shut r us q

  rolled : {d e : Expr} → d ≡ e → Goal d → Goal e
  rolled {d} {e} p g = subst (λ (x : Expr). Goal x) p g

  shaped : (e : Expr) (s : Shape) → expr_shape e ≡ s → stands post_level (expr_shape e) ≡ true → stands post_level s ≡ true
  shaped e s p g = ap (λ (z : Shape). stands post_level z) (sym p) ∙ g

  none : (((false ≡ true) ⊎ (false ≡ true)) ⊎ ((false ≡ true) ⊎ (false ≡ true))) → ⊥
  none w = ⊎_elim (λ x. ⊎_elim (λ e. false≢true e) (λ e. false≢true e) x) (λ x. ⊎_elim (λ e. false≢true e) (λ e. false≢true e) x) w

  other : (d : Told) (told : List Told → List Told) (e : Expr) → ((r : List Told) → expr_tokens e r ≡ d ∷ told r) → (kind_code d.kind == sign_code sign_of.LeftParen) ≡ false → Goal e
  unfolding Goal
  other d told e f g le st r s = other_first r (told r) d b t us q k g (subst (λ (l : List Told). Takes b l (t ∷ us) q) (f r) s)

  -- a smaller one, and more behind it
  behind : (of_it : Expr) (d : Told) (told : List Told → List Told) (e : Expr) (m : ℕ) → ((r : List Told) → expr_tokens e r ≡ expr_tokens of_it (d ∷ told r)) → is_in more_codes (kind_code d.kind) ≡ true → expr_height e ≡ suc m → expr_height of_it ≤ m → (stands post_level (expr_shape e) ≡ true → stands post_level (expr_shape of_it) ≡ true) → Goal e
  unfolding Goal
  behind of_it d told e m f g h low st le w r s =
      more_behind (told r) d us q g (go of_it (omega (arith, h, low, le)) (st w) (d ∷ told r) (subst (λ (l : List Told). Takes b l (t ∷ us) q) (f r) s)) r

  node : (l : Layer) → ((plain_layer l ≡ true) ⊎ (special_layer l ≡ true)) ⊎ ((select_layer l ≡ true) ⊎ (postfix_layer l ≡ true)) → Goal (roll-Expr l)
  unfolding Goal
  node (Expr-F.Literal at value) w = rolled (sym (expr_of.rolls-Literal at value)) (other (told (literal_kind value) (Some at)) (λ r. r) (expr_of.Literal at value) (expr_tokens-Literal at value) (literal_no_paren value))
  node (Expr-F.This at) w = rolled (sym (expr_of.rolls-This at)) (other (key_at key_of.This at) (λ r. r) (expr_of.This at) (expr_tokens-This at) refl)
  node (Expr-F.SuperField at name) w = rolled (sym (expr_of.rolls-SuperField at name)) (other (key_at key_of.Super at) (λ r. sign sign_of.Dot ∷ ident name ∷ r) (expr_of.SuperField at name) (expr_tokens-SuperField at name) refl)
  node (Expr-F.SuperCall at args name list) w = rolled (sym (expr_of.rolls-SuperCall at args name list)) (other (key_at key_of.Super at) (λ r. sign sign_of.Dot ∷ args_tokens args (ident name ∷ actuals (map expr_tokens list) r)) (expr_of.SuperCall at args name list) (expr_tokens-SuperCall at args name list) refl)
  node (Expr-F.Name name) w = rolled (sym (expr_of.rolls-Name name)) (other (ident name) (λ r. r) (expr_of.Name name) (expr_tokens-Name name) refl)
  node (Expr-F.Invoke name list) w = rolled (sym (expr_of.rolls-Invoke name list)) (other (ident name) (λ r. actuals (map expr_tokens list) r) (expr_of.Invoke name list) (expr_tokens-Invoke name list) refl)
  node (Expr-F.New at c) w = rolled (sym (expr_of.rolls-New at c)) (other (key_at key_of.New at) (λ r. creation_tokens c r) (expr_of.New at c) (expr_tokens-New at c) refl)
  node (Expr-F.VoidLiteral at) w = rolled (sym (expr_of.rolls-VoidLiteral at)) (other (key_at key_of.Void at) (λ r. sign sign_of.Dot ∷ key key_of.Class ∷ r) (expr_of.VoidLiteral at) (expr_tokens-VoidLiteral at) refl)
  node (Expr-F.OuterThis first more) w = rolled (sym (expr_of.rolls-OuterThis first more)) (other (ident first) (λ r. names_after more (sign sign_of.Dot ∷ key key_of.This ∷ r)) (expr_of.OuterThis first more) (expr_tokens-OuterThis first more) refl)
  node (Expr-F.ClassLiteral ty) w = rolled (sym (expr_of.rolls-ClassLiteral ty)) (λ le st r s. type_first r _ ty b t us q k (subst (λ (l : List Told). Takes b l (t ∷ us) q) (expr_tokens-ClassLiteral ty r) s))
  node (Expr-F.Paren at inner) w = rolled (sym (expr_of.rolls-Paren at inner)) (λ le st r s.
      paren_shut at inner (and_parts (expr_shape inner).good (nat_le any_level (expr_shape inner).level) (and_parts (stands any_level (expr_shape inner)) true (shaped (expr_of.Paren at inner) _ (expr_shape-Paren at inner) st)).0).0 r b t us q
      (subst (λ (l : List Told). Takes b l (t ∷ us) q) (expr_tokens-Paren at inner r) s))
  node (Expr-F.Field v name) w = rolled (sym (expr_of.rolls-Field v name)) (behind v (sign sign_of.Dot) (λ r. ident name ∷ r) (expr_of.Field v name) _ (expr_tokens-Field v name) refl (expr_height-Field v name) (omega arith)
      (λ st. prime_is_post (expr_shape v) (and_parts (stands prime_level (expr_shape v)) true (shaped (expr_of.Field v name) _ (expr_shape-Field v name) st)).0))
  node (Expr-F.Call v args name list) w = rolled (sym (expr_of.rolls-Call v args name list)) (behind v (sign sign_of.Dot) (λ r. args_tokens args (ident name ∷ actuals (map expr_tokens list) r)) (expr_of.Call v args name list) _ (expr_tokens-Call v args name list) refl (expr_height-Call v args name list) (omega arith)
      (λ st. prime_is_post (expr_shape v) (and_parts (stands prime_level (expr_shape v)) (all_stand any_level (map expr_shape list)) (and_parts (stands prime_level (expr_shape v) && all_stand any_level (map expr_shape list)) true (shaped (expr_of.Call v args name list) _ (expr_shape-Call v args name list) st)).0).0))
  node (Expr-F.Index v index) w = rolled (sym (expr_of.rolls-Index v index)) (behind v (sign sign_of.LeftBracket) (λ r. expr_tokens index (sign sign_of.RightBracket ∷ r)) (expr_of.Index v index) _ (expr_tokens-Index v index) refl (expr_height-Index v index) (omega arith)
      (λ st. prime_is_post (expr_shape v) (and_parts (stands prime_level (expr_shape v)) (not (expr_shape v).sized) (and_parts (stands prime_level (expr_shape v) && not (expr_shape v).sized) (stands any_level (expr_shape index))
      (and_parts ((stands prime_level (expr_shape v) && not (expr_shape v).sized) && stands any_level (expr_shape index)) true (shaped (expr_of.Index v index) _ (expr_shape-Index v index) st)).0).0).0))
  node (Expr-F.InnerNew v c) w = rolled (sym (expr_of.rolls-InnerNew v c)) (behind v (sign sign_of.Dot) (λ r. key key_of.New ∷ creation_tokens c r) (expr_of.InnerNew v c) _ (expr_tokens-InnerNew v c) refl (expr_height-InnerNew v c) (omega arith)
      (λ st. prime_is_post (expr_shape v) (and_parts (stands prime_level (expr_shape v)) (creation_shape c).good (and_parts (stands prime_level (expr_shape v) && (creation_shape c).good) true (shaped (expr_of.InnerNew v c) _ (expr_shape-InnerNew v c) st)).0).0))
  node (Expr-F.Postfix v op) w = rolled (sym (expr_of.rolls-Postfix v op)) (behind v (sign (postfix_sign op)) (λ r. r) (expr_of.Postfix v op) _ (expr_tokens-Postfix v op) (op_more op) (expr_height-Postfix v op) (omega arith)
      (λ st. (and_parts (stands post_level (expr_shape v)) true (shaped (expr_of.Postfix v op) _ (expr_shape-Postfix v op) st)).0))
  node (Expr-F.Assign target op value) w = absurd (none w)
  node (Expr-F.Conditional test then otherwise) w = absurd (none w)
  node (Expr-F.Chain first rest) w = absurd (none w)
  node (Expr-F.Prefix first more operand) w = absurd (none w)
  node (Expr-F.Cast at ty operand) w = absurd (none w)

shut : (n : ℕ) (b : Bool) (t : Token) (us q : List Token) → t.kind ≡ kind_of.Sign sign_of.LeftParen → (e : Expr) → expr_height e ≤ n → stands post_level (expr_shape e) ≡ true → (r : List Told) → Takes b (expr_tokens e r) (t ∷ us) q → Shut r us q
unfolding Goal
shut zero b t us q k e le st r s = absurd (false≢true (sym (expr_tall e) ∙ le-leb (expr_height e) 0 le))
shut (suc n) b t us q k e le st r s =
    let g = node n b t us q k (shut n b t us q k) (out-Expr e) (kind_of_post e st) in
    subst (λ (d : Expr). Goal n b t us q k (shut n b t us q k) d) (roll-out-Expr e) g le st r s

-- behind the parenthesis that closes the first one the expression ends, or a selector or postfix operator begins
pub closes_first : (t : Token) (us : List Token) (e : Expr) (r : List Token) → Takes false (expr_tokens e []) (t ∷ us) r → stands post_level (expr_shape e) ≡ true → kind_code t.kind ≡ sign_code sign_of.LeftParen → (m : List Token) × (after_close us none_open ≡ Some m) × ((m ≡ r) ⊎ (one_of more_codes m ≡ true))
closes_first t us e r s st k =
    let x = shut (expr_height e) false t us r (kind_is_sign t.kind sign_of.LeftParen k) e (omega arith) st [] s in
    (x.rest, x.same, ⊎_elim (λ f. inl f) (λ f. inr f) x.which)

-- a type has no parentheses
pub type_closes : (us : List Token) (ty : TypeTree) (c : Token) (m : List Token) → Takes false (type_tokens ty []) us (c ∷ m) → kind_code c.kind ≡ sign_code sign_of.RightParen → after_close us none_open ≡ Some m
type_closes us ty c m s k =
    let p = (type_closed ty).at none_open [] false us (c ∷ m) s in
    p.same ∙ ap (λ (l : List Token). after_close l none_open) p.rest ∙ closes_at c m (kind_of.Sign sign_of.RightParen) none_open (kind_is_sign c.kind sign_of.RightParen k) refl

-- the keyword of a primitive type that is no array, and what follows
primitive_front : (base : BaseTree) (l : BaseTree-F BaseTree TypeArg ClassTree TypePart TypeTree) (n : ℕ) (us q : List Token) → out-BaseTree base ≡ l → (is_primitive_base l && (n == 0)) ≡ true → Takes false (base_tokens base (brackets n [])) us q → (one_of primitive_codes us ≡ true) × (q ≡ rest_of us)
primitive_front base (BaseTree-F.Class c) n us q o g s = absurd (false≢true g)
primitive_front base (BaseTree-F.Primitive at w) (suc n) us q o g s = let e : suc n ≡ 0 = eqb-true (suc n) 0 g in absurd (omega (arith, e))
primitive_front base (BaseTree-F.Primitive at w) zero us q o g s =
    let same : base_of.Primitive at w ≡ base = sym (base_of.rolls-Primitive at w) ∙ ap roll-BaseTree (sym o) ∙ roll-out-BaseTree base in
    key_front us (subst (λ (l : List Told). Takes false l us q) (ap (λ (c : BaseTree). base_tokens c []) (sym same) ∙ base_tokens-Primitive at w []) s)
  where
    word_in : (w : PrimitiveWord) → is_in primitive_codes (key_code (primitive_key w)) ≡ true
    word_in word_of.Boolean = refl
    word_in word_of.Byte = refl
    word_in word_of.Short = refl
    word_in word_of.Char = refl
    word_in word_of.Int = refl
    word_in word_of.Long = refl

    key_front : (us : List Token) → Takes false (key_at (primitive_key w) at ∷ []) us q → (one_of primitive_codes us ≡ true) × (q ≡ rest_of us)
    key_front [] s = absurd s
    key_front (k ∷ us) s = (subst (λ (j : TokenKind). is_in primitive_codes (kind_code j) ≡ true) (sym s.0.0) (word_in w), sym s.1)

-- no expression is a primitive type in parentheses, or begins with one
pub no_primitive : (t : Token) (us : List Token) (e : Expr) (r : List Token) (ty : TypeTree) (c : Token) (m : List Token) → Takes false (expr_tokens e []) (t ∷ us) r → stands post_level (expr_shape e) ≡ true → kind_code t.kind ≡ sign_code sign_of.LeftParen →
    Takes false (type_tokens ty []) us (c ∷ m) → kind_code c.kind ≡ sign_code sign_of.RightParen → is_primitive ty ≡ true → ⊥
no_primitive t us e r ty c m s st k d i g =
    let x = shut (expr_height e) false t us r (kind_is_sign t.kind sign_of.LeftParen k) e (omega arith) st [] s in
    let f = primitive_front (out-TypeTree ty).base (out-BaseTree (out-TypeTree ty).base) (out-TypeTree ty).dims us (c ∷ m) refl g (subst (λ (l : List Told). Takes false l us (c ∷ m)) (type_tokens-parts ty []) d) in
    clash us f.0 f.1 x.inner x.inner_told x.inner_flag x.begins
  where
    clash : (us : List Token) → one_of primitive_codes us ≡ true → (c ∷ m) ≡ rest_of us → (a : Expr) (x : List Told) (b : Bool) → Takes b (expr_tokens a x) us r → ⊥
    clash [] f h a x b s = false≢true f
    clash (p ∷ us) f h a x b s =
        let j = subst (λ (l : List Token). one_of type_goes l ≡ true) (sym h) (primitive_second a x b p us r s f) in
        false≢true (sym (ap (λ (n : ℕ). is_in type_goes n) i) ∙ j)
