-- An expression that begins with the keyword of a primitive type goes on with a bracket or a point.
use Rattle.std.proofs.Common.{◌≡◌, ℕ, zero, suc, ◌≤◌, Bool, true, false, List, [], ◌∷◌, map, Some, refl, sym, ap, ◌∙◌, subst, arith}
use Rattle.std.proofs.lemmas.Bool.{false≢true, le-leb}
use Rattle.jc_lexer.specs.declared.token.Key.TheVariants as key_of
use Rattle.jc_lexer.specs.declared.token.Sign.TheVariants as sign_of
use Rattle.jc_lexer.specs.declared.token.Token.{Token}
use Rattle.jc_lexer.specs.declared.token.TokenKind.{TokenKind}
use Rattle.jc_tree.specs.declared.types.BaseTree.{BaseTree, BaseTree-F, out-BaseTree, roll-BaseTree, roll-out-BaseTree}
use Rattle.jc_tree.specs.declared.types.BaseTree.TheVariants as base_of
use Rattle.jc_tree.specs.declared.types.ClassTree.{ClassTree, out-ClassTree}
use Rattle.jc_tree.specs.declared.types.TypeArg.{TypeArg}
use Rattle.jc_tree.specs.declared.types.TypePart.{TypePart, out-TypePart}
use Rattle.jc_tree.specs.declared.types.TypeTree.{TypeTree, out-TypeTree}
use Rattle.jc_tree.specs.declared.expression.Literal.{Literal}
use Rattle.jc_tree.specs.declared.expression.Literal.TheVariants as literal_of
use Rattle.jc_tree.specs.declared.expression.Expr.{Expr, Expr-F, out-Expr, roll-Expr, roll-out-Expr}
use Rattle.jc_tree.specs.declared.expression.Expr.TheVariants as expr_of
use Rattle.jc_tree.specs.Heights.{expr_height}
use Rattle.jc_tree.proofs.HeightsOfExpressions.{expr_height-Assign, expr_height-Conditional, expr_height-Chain, expr_height-Field, expr_height-Call, expr_height-Index, expr_height-InnerNew, expr_height-Postfix}
use Rattle.jc_grammar.specs.Told.{Told, each, brackets, told, sign, sign_at, key, key_at, ident, actuals, names_after}
use Rattle.jc_grammar.specs.Types.{type_tokens, base_tokens, args_tokens}
use Rattle.jc_parse_type.specs.TypeReading.{primitive_codes}
use Rattle.jc_tree.specs.declared.expression.PrefixSign.{PrefixSign}
use Rattle.jc_tree.specs.declared.expression.PrefixSign.TheVariants as prefix_of
use Rattle.jc_grammar.specs.Expressions.{assign_tokens, prefix_tokens, prefix_sign, operand_tokens, expr_tokens, creation_tokens, literal_kind, in_brackets, postfix_sign}
use Rattle.jc_grammar.proofs.TokensOfExpressions.{expr_tokens-Literal, expr_tokens-This, expr_tokens-SuperField, expr_tokens-SuperCall, expr_tokens-Paren, expr_tokens-Name, expr_tokens-Invoke, expr_tokens-New, expr_tokens-ClassLiteral, expr_tokens-VoidLiteral, expr_tokens-OuterThis, expr_tokens-Assign, expr_tokens-Conditional, expr_tokens-Chain, expr_tokens-Prefix, expr_tokens-Cast, expr_tokens-Field, expr_tokens-Call, expr_tokens-Index, expr_tokens-InnerNew, expr_tokens-Postfix}
use Rattle.jc_grammar.proofs.TokensOfTypes.{base_tokens-Primitive, base_tokens-Class, class_tokens-parts, part_tokens-parts, type_tokens-parts}
use Rattle.jc_reading.specs.Kinds.{kind_code, sign_code, is_in, one_of}
use Rattle.jc_reading.specs.Reading.{Takes}
use Rattle.jc_part_laws.proofs.ExprForms.{expr_tall}
use Rattle.jc_expr_laws.proofs.PrimeWhole.{Layer}

abbrev pub type_goes : List ℕ
type_goes = sign_code sign_of.LeftBracket ∷ sign_code sign_of.Dot ∷ []

-- a first token that is no keyword of a primitive type
other_first : (x : List Told) (d : Told) (b : Bool) (t : Token) (us q : List Token) → one_of primitive_codes (t ∷ us) ≡ true → is_in primitive_codes (kind_code d.kind) ≡ false → Takes b (d ∷ x) (t ∷ us) q → one_of type_goes us ≡ true
other_first x d b t us q e f s = absurd (false≢true (sym f ∙ ap (λ (k : TokenKind). is_in primitive_codes (kind_code k)) (sym s.0.0) ∙ e))

dims_first : (n : ℕ) (b : Bool) (x : List Told) (us q : List Token) → Takes b (brackets n (sign sign_of.Dot ∷ x)) us q → one_of type_goes us ≡ true
dims_first zero b x [] q s = absurd s
dims_first zero b x (k ∷ us) q s = subst (λ (j : TokenKind). is_in type_goes (kind_code j) ≡ true) (sym s.0.0) refl
dims_first (suc n) b x [] q s = absurd s
dims_first (suc n) b x (k ∷ us) q s = subst (λ (j : TokenKind). is_in type_goes (kind_code j) ≡ true) (sym s.0.0) refl

base_first : (n : ℕ) (x : List Told) (base : BaseTree) (l : BaseTree-F BaseTree TypeArg ClassTree TypePart TypeTree) (b : Bool) (t : Token) (us q : List Token) → out-BaseTree base ≡ l → one_of primitive_codes (t ∷ us) ≡ true → Takes b (base_tokens base (brackets n (sign sign_of.Dot ∷ x))) (t ∷ us) q → one_of type_goes us ≡ true
base_first n x base (BaseTree-F.Primitive at w) b t us q o e s =
    let same : base_of.Primitive at w ≡ base = sym (base_of.rolls-Primitive at w) ∙ ap roll-BaseTree (sym o) ∙ roll-out-BaseTree base in
    dims_first n _ x us q (subst (λ (l : List Told). Takes b l (t ∷ us) q) (ap (λ (c : BaseTree). base_tokens c (brackets n (sign sign_of.Dot ∷ x))) (sym same) ∙ base_tokens-Primitive at w (brackets n (sign sign_of.Dot ∷ x))) s).1
base_first n x base (BaseTree-F.Class c) b t us q o e s =
    let same : base_of.Class c ≡ base = sym (base_of.rolls-Class c) ∙ ap roll-BaseTree (sym o) ∙ roll-out-BaseTree base in
    other_first _ (ident (out-TypePart (out-ClassTree c).first).name) b t us q e refl
    (subst (λ (l : List Told). Takes b l (t ∷ us) q) (ap (λ (d : BaseTree). base_tokens d (brackets n (sign sign_of.Dot ∷ x))) (sym same) ∙ base_tokens-Class c (brackets n (sign sign_of.Dot ∷ x)) ∙ class_tokens-parts c (brackets n (sign sign_of.Dot ∷ x)) ∙ part_tokens-parts (out-ClassTree c).first _) s)

literal_other : (w : Literal) → is_in primitive_codes (kind_code (literal_kind w)) ≡ false
literal_other (literal_of.Number v l d) = refl
literal_other (literal_of.Char u) = refl
literal_other (literal_of.String u) = refl
literal_other (literal_of.Boolean true) = refl
literal_other (literal_of.Boolean false) = refl
literal_other literal_of.Null = refl

prefix_other : (p : PrefixSign) → is_in primitive_codes (sign_code (prefix_sign p)) ≡ false
prefix_other prefix_of.Plus = refl
prefix_other prefix_of.Minus = refl
prefix_other prefix_of.Increment = refl
prefix_other prefix_of.Decrement = refl
prefix_other prefix_of.Not = refl
prefix_other prefix_of.Complement = refl

module _ (n : ℕ) (b : Bool) (t : Token) (us q : List Token) (k : one_of primitive_codes (t ∷ us) ≡ true) (go : (x : Expr) → expr_height x ≤ n → (r : List Told) → Takes b (expr_tokens x r) (t ∷ us) q → one_of type_goes us ≡ true) where
  Goal : Expr → Type 0
  Goal e = expr_height e ≤ suc n → (r : List Told) → Takes b (expr_tokens e r) (t ∷ us) q → one_of type_goes us ≡ true

  rolled : {d e : Expr} → d ≡ e → Goal d → Goal e
  rolled {d} {e} p g = subst (λ (x : Expr). Goal x) p g

  other : (d : Told) (x : List Told → List Told) (e : Expr) → ((r : List Told) → expr_tokens e r ≡ d ∷ x r) → is_in primitive_codes (kind_code d.kind) ≡ false → Goal e
  unfolding Goal
  other d x e f g le r s = other_first (x r) d b t us q k g (subst (λ (l : List Told). Takes b l (t ∷ us) q) (f r) s)

  behind : (v : Expr) (x : List Told → List Told) (e : Expr) (m : ℕ) → ((r : List Told) → expr_tokens e r ≡ expr_tokens v (x r)) → expr_height e ≡ suc m → expr_height v ≤ m → Goal e
  unfolding Goal
  behind v x e m f h low le r s = go v (omega (arith, h, low, le)) (x r) (subst (λ (l : List Told). Takes b l (t ∷ us) q) (f r) s)

  node : (l : Layer) → Goal (roll-Expr l)
  unfolding Goal
  node (Expr-F.Literal at value) = rolled (sym (expr_of.rolls-Literal at value)) (other (told (literal_kind value) (Some at)) (λ r. r) (expr_of.Literal at value) (expr_tokens-Literal at value) (literal_other value))
  node (Expr-F.This at) = rolled (sym (expr_of.rolls-This at)) (other (key_at key_of.This at) (λ r. r) (expr_of.This at) (expr_tokens-This at) refl)
  node (Expr-F.SuperField at name) = rolled (sym (expr_of.rolls-SuperField at name)) (other (key_at key_of.Super at) (λ r. sign sign_of.Dot ∷ ident name ∷ r) (expr_of.SuperField at name) (expr_tokens-SuperField at name) refl)
  node (Expr-F.SuperCall at args name list) = rolled (sym (expr_of.rolls-SuperCall at args name list)) (other (key_at key_of.Super at) (λ r. sign sign_of.Dot ∷ args_tokens args (ident name ∷ actuals (map expr_tokens list) r)) (expr_of.SuperCall at args name list) (expr_tokens-SuperCall at args name list) refl)
  node (Expr-F.Name name) = rolled (sym (expr_of.rolls-Name name)) (other (ident name) (λ r. r) (expr_of.Name name) (expr_tokens-Name name) refl)
  node (Expr-F.Invoke name list) = rolled (sym (expr_of.rolls-Invoke name list)) (other (ident name) (λ r. actuals (map expr_tokens list) r) (expr_of.Invoke name list) (expr_tokens-Invoke name list) refl)
  node (Expr-F.New at c) = rolled (sym (expr_of.rolls-New at c)) (other (key_at key_of.New at) (λ r. creation_tokens c r) (expr_of.New at c) (expr_tokens-New at c) refl)
  node (Expr-F.VoidLiteral at) = rolled (sym (expr_of.rolls-VoidLiteral at)) (other (key_at key_of.Void at) (λ r. sign sign_of.Dot ∷ key key_of.Class ∷ r) (expr_of.VoidLiteral at) (expr_tokens-VoidLiteral at) refl)
  node (Expr-F.OuterThis first more) = rolled (sym (expr_of.rolls-OuterThis first more)) (other (ident first) (λ r. names_after more (sign sign_of.Dot ∷ key key_of.This ∷ r)) (expr_of.OuterThis first more) (expr_tokens-OuterThis first more) refl)
  node (Expr-F.ClassLiteral ty) = rolled (sym (expr_of.rolls-ClassLiteral ty)) (λ le r s.
      base_first (out-TypeTree ty).dims (key key_of.Class ∷ r) (out-TypeTree ty).base (out-BaseTree (out-TypeTree ty).base) b t us q refl k
      (subst (λ (l : List Told). Takes b l (t ∷ us) q) (expr_tokens-ClassLiteral ty r ∙ type_tokens-parts ty (sign sign_of.Dot ∷ key key_of.Class ∷ r)) s))
  node (Expr-F.Paren at inner) = rolled (sym (expr_of.rolls-Paren at inner)) (other (sign_at sign_of.LeftParen at) (λ r. expr_tokens inner (sign sign_of.RightParen ∷ r)) (expr_of.Paren at inner) (expr_tokens-Paren at inner) refl)
  node (Expr-F.Field v name) = rolled (sym (expr_of.rolls-Field v name)) (behind v (λ r. sign sign_of.Dot ∷ ident name ∷ r) (expr_of.Field v name) _ (expr_tokens-Field v name) (expr_height-Field v name) (omega arith))
  node (Expr-F.Call v args name list) = rolled (sym (expr_of.rolls-Call v args name list)) (behind v (λ r. sign sign_of.Dot ∷ args_tokens args (ident name ∷ actuals (map expr_tokens list) r)) (expr_of.Call v args name list) _ (expr_tokens-Call v args name list) (expr_height-Call v args name list) (omega arith))
  node (Expr-F.Index v index) = rolled (sym (expr_of.rolls-Index v index)) (behind v (λ r. in_brackets (expr_tokens index) r) (expr_of.Index v index) _ (expr_tokens-Index v index) (expr_height-Index v index) (omega arith))
  node (Expr-F.InnerNew v c) = rolled (sym (expr_of.rolls-InnerNew v c)) (behind v (λ r. sign sign_of.Dot ∷ key key_of.New ∷ creation_tokens c r) (expr_of.InnerNew v c) _ (expr_tokens-InnerNew v c) (expr_height-InnerNew v c) (omega arith))
  node (Expr-F.Postfix v op) = rolled (sym (expr_of.rolls-Postfix v op)) (behind v (λ r. sign (postfix_sign op) ∷ r) (expr_of.Postfix v op) _ (expr_tokens-Postfix v op) (expr_height-Postfix v op) (omega arith))
  node (Expr-F.Assign v op value) = rolled (sym (expr_of.rolls-Assign v op value)) (behind v (λ r. assign_tokens op (expr_tokens value r)) (expr_of.Assign v op value) _ (expr_tokens-Assign v op value) (expr_height-Assign v op value) (omega arith))
  node (Expr-F.Conditional v then_it else_it) = rolled (sym (expr_of.rolls-Conditional v then_it else_it)) (behind v (λ r. sign sign_of.Question ∷ expr_tokens then_it (sign sign_of.Colon ∷ expr_tokens else_it r)) (expr_of.Conditional v then_it else_it) _ (expr_tokens-Conditional v then_it else_it) (expr_height-Conditional v then_it else_it) (omega arith))
  node (Expr-F.Chain v rest) = rolled (sym (expr_of.rolls-Chain v rest)) (behind v (λ r. each (map operand_tokens rest) r) (expr_of.Chain v rest) _ (expr_tokens-Chain v rest) (expr_height-Chain v rest) (omega arith))
  node (Expr-F.Prefix first more operand) = rolled (sym (expr_of.rolls-Prefix first more operand)) (other (sign_at (prefix_sign first.sign) first.at) (λ r. prefix_tokens more (expr_tokens operand r)) (expr_of.Prefix first more operand) (expr_tokens-Prefix first more operand) (prefix_other first.sign))
  node (Expr-F.Cast at ty operand) = rolled (sym (expr_of.rolls-Cast at ty operand)) (other (sign_at sign_of.LeftParen at) (λ r. type_tokens ty (sign sign_of.RightParen ∷ expr_tokens operand r)) (expr_of.Cast at ty operand) (expr_tokens-Cast at ty operand) refl)

primitive_at : (n : ℕ) (b : Bool) (t : Token) (us q : List Token) → one_of primitive_codes (t ∷ us) ≡ true → (e : Expr) → expr_height e ≤ n → (r : List Told) → Takes b (expr_tokens e r) (t ∷ us) q → one_of type_goes us ≡ true
unfolding Goal
primitive_at zero b t us q k e le r s = absurd (false≢true (sym (expr_tall e) ∙ le-leb (expr_height e) 0 le))
primitive_at (suc n) b t us q k e le r s =
    let g = node n b t us q k (primitive_at n b t us q k) (out-Expr e) in
    subst (λ (d : Expr). Goal n b t us q k (primitive_at n b t us q k) d) (roll-out-Expr e) g le r s

-- behind the keyword of a primitive type that begins an expression stands a bracket or a point
pub primitive_second : (e : Expr) (r : List Told) (b : Bool) (t : Token) (us q : List Token) → Takes b (expr_tokens e r) (t ∷ us) q → one_of primitive_codes (t ∷ us) ≡ true → one_of type_goes us ≡ true
primitive_second e r b t us q s k = primitive_at (expr_height e) b t us q k e (omega arith) r s
