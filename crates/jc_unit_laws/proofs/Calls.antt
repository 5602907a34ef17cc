-- No expression begins with `this` or `super` and a parenthesis behind it.
use Rattle.std.proofs.Common.{◌≡◌, ℕ, Bool, true, false, List, [], ◌∷◌, map, refl, ap, ◌∙◌, subst, ⊎_elim}
use Rattle.std.proofs.lemmas.Bool.{false≢true, and_from, and_left, and_right, or_cases}
use Rattle.std.specs.Prelude.{Some, not, ◌&&◌, ◌||◌, ◌==◌}
use Rattle.jc_rules.proofs.Truths.{not_false}
use Rattle.jc_lexer.specs.declared.token.Key.TheVariants as key_of
use Rattle.jc_lexer.specs.declared.token.Token.{Token}
use Rattle.jc_tree.specs.declared.types.BaseTree.{BaseTree, BaseTree-F, out-BaseTree, map-BaseTree}
use Rattle.jc_tree.specs.declared.types.ClassTree.{ClassTree, out-ClassTree}
use Rattle.jc_tree.specs.declared.types.PrimitiveWord.{PrimitiveWord}
use Rattle.jc_tree.specs.declared.types.PrimitiveWord.TheVariants as primitive_of
use Rattle.jc_tree.specs.declared.types.TypeArg.{TypeArg}
use Rattle.jc_tree.specs.declared.types.TypePart.{TypePart}
use Rattle.jc_tree.specs.declared.types.TypeTree.{TypeTree, out-TypeTree}
use Rattle.jc_tree.specs.declared.expression.ArrayInit.{ArrayInit}
use Rattle.jc_tree.specs.declared.expression.AssignOp.{AssignOp}
use Rattle.jc_tree.specs.declared.expression.AssignOp.TheVariants as assign_of
use Rattle.jc_tree.specs.declared.expression.BinaryOp.{BinaryOp}
use Rattle.jc_tree.specs.declared.expression.BinaryOp.TheVariants as binary_of
use Rattle.jc_tree.specs.declared.expression.Creation.{Creation}
use Rattle.jc_tree.specs.declared.expression.Expr.{Expr, Expr-F, roll-Expr, map-Expr, fold-roll-Expr, ind-Expr}
use Rattle.jc_tree.specs.declared.expression.Init.{Init}
use Rattle.jc_tree.specs.declared.expression.Literal.{Literal}
use Rattle.jc_tree.specs.declared.expression.Literal.TheVariants as literal_of
use Rattle.jc_tree.specs.declared.expression.Operand.{Operand, Operand-F, out-Operand, map-Operand}
use Rattle.jc_tree.specs.declared.expression.PostfixOp.{PostfixOp}
use Rattle.jc_tree.specs.declared.expression.PostfixOp.TheVariants as postfix_of
use Rattle.jc_tree.specs.declared.expression.PrefixSign.{PrefixSign}
use Rattle.jc_tree.specs.declared.expression.PrefixSign.TheVariants as prefix_of
use Rattle.jc_grammar.specs.Told.{Spelled, Told, brackets, each, key_at, sign, sign_at, told}
use Rattle.jc_grammar.specs.Types.{arg_tokens, base_told, base_tokens, class_tokens, part_tokens, primitive_key, type_tokens}
use Rattle.jc_grammar.specs.Expressions.{array_told, array_tokens, assign_tokens, binary_tokens, creation_told, creation_tokens, expr_told, expr_tokens, init_told, init_tokens, literal_kind, operand_told, operand_tokens, postfix_sign, prefix_sign, prefix_tokens}
use Rattle.jc_grammar.proofs.TokensOfTypes.{base_tokens-out, class_tokens-parts, part_tokens-parts, type_tokens-parts}
use Rattle.jc_grammar.proofs.TokensOfExpressions.{operand_tokens-out}
use Rattle.jc_reading.specs.Kinds.{kind_code, key_code, is_in, one_of}
use Rattle.jc_reading.specs.Further.{second_is}
use Rattle.jc_reading.specs.Reading.{Takes}
use Rattle.jc_unit_laws.specs.MemberReading.{paren_codes}

abbrev pub not_paren : List Told → Bool
not_paren [] = false
not_paren (d ∷ list) = not (is_in paren_codes (kind_code d.kind))

-- the first token isn't one of this kind, or the second one is no parenthesis
abbrev pub no_call : ℕ → List Told → Bool
no_call code [] = false
no_call code (d ∷ list) = not (kind_code d.kind == code) || not_paren list

abbrev pub no_calls : List Told → Bool
no_calls list = no_call (key_code key_of.This) list && no_call (key_code key_of.Super) list

pub takes_apart : (code : ℕ) (b : Bool) (list : List Told) (ts r : List Token) → no_call code list ≡ true → Takes b list ts r → second_is code paren_codes ts ≡ false
takes_apart code b [] ts r e s = absurd (false≢true e)
takes_apart code b (d ∷ list) [] r e s = absurd s
takes_apart code b (d ∷ list) (t ∷ ts) r e s =
    ⊎_elim (λ n. and_left (kind_code t.kind == code) (one_of paren_codes ts) (ap (λ k. kind_code k == code) s.0.0 ∙ not_false (kind_code d.kind == code) n))
    (λ n. and_right (kind_code t.kind == code) (one_of paren_codes ts) (second _ list ts n s.1)) (or_cases (not (kind_code d.kind == code)) (not_paren list) e)
  where
    second : (c : Bool) (list : List Told) (ts : List Token) → not_paren list ≡ true → Takes c list ts r → one_of paren_codes ts ≡ false
    second c [] ts n s = absurd (false≢true n)
    second c (d ∷ list) [] n s = absurd s
    second c (d ∷ list) (t ∷ ts) n s = ap (λ k. is_in paren_codes (kind_code k)) s.0.0 ∙ not_false (is_in paren_codes (kind_code d.kind)) n

-- types

primitive_front : (word : PrimitiveWord) (at : ℕ) (r : List Told) → no_calls (key_at (primitive_key word) at ∷ r) ≡ true
primitive_front primitive_of.Boolean at r = refl
primitive_front primitive_of.Byte at r = refl
primitive_front primitive_of.Short at r = refl
primitive_front primitive_of.Char at r = refl
primitive_front primitive_of.Int at r = refl
primitive_front primitive_of.Long at r = refl

class_front : (class : ClassTree) (r : List Told) → no_calls (class_tokens class r) ≡ true
class_front class r = ap no_calls (class_tokens-parts class r ∙ part_tokens-parts (out-ClassTree class).first _)

base_front : (l : BaseTree-F BaseTree TypeArg ClassTree TypePart TypeTree) (r : List Told) → no_calls (base_told (map-BaseTree BaseTree TypeArg ClassTree TypePart TypeTree Spelled Spelled Spelled Spelled Spelled base_tokens arg_tokens class_tokens part_tokens type_tokens l) r) ≡ true
base_front (BaseTree-F.Primitive at word) r = primitive_front word at r
base_front (BaseTree-F.Class class) r = class_front class r

pub type_front : (ty : TypeTree) (r : List Told) → no_calls (type_tokens ty r) ≡ true
type_front ty r = ap no_calls (type_tokens-parts ty r ∙ ap (λ (s : Spelled). s (brackets (out-TypeTree ty).dims r)) (base_tokens-out (out-TypeTree ty).base)) ∙ base_front (out-BaseTree (out-TypeTree ty).base) (brackets (out-TypeTree ty).dims r)

-- what stands behind a first part of an expression is no parenthesis

assign_front : (op : AssignOp) (r : List Told) → not_paren (assign_tokens op r) ≡ true
assign_front assign_of.Plain r = refl
assign_front _ r = refl

binary_front : (op : BinaryOp) (r : List Told) → not_paren (binary_tokens op r) ≡ true
binary_front binary_of.OrElse r = refl
binary_front _ r = refl

operand_front : (l : Operand-F Creation Expr Init Operand ArrayInit) (r : List Told) → not_paren (operand_told (map-Operand Creation Expr Init Operand ArrayInit Spelled Spelled Spelled Spelled Spelled creation_tokens expr_tokens init_tokens operand_tokens array_tokens l) r) ≡ true
operand_front (Operand-F.Binary op right) r = binary_front op _
operand_front (Operand-F.InstanceOf ty) r = refl

operands_front : (rest : List Operand) (r : List Told) → not_paren r ≡ true → not_paren (each (map operand_tokens rest) r) ≡ true
operands_front [] r n = n
operands_front (o ∷ rest) r n = ap (λ (s : Spelled). not_paren (s (each (map operand_tokens rest) r))) (operand_tokens-out o) ∙ operand_front (out-Operand o) _

postfix_front : (op : PostfixOp) (r : List Told) → not_paren (sign (postfix_sign op) ∷ r) ≡ true
postfix_front postfix_of.Increment r = refl
postfix_front postfix_of.Decrement r = refl

prefix_front : (s : PrefixSign) (at : ℕ) (r : List Told) → no_calls (sign_at (prefix_sign s) at ∷ r) ≡ true
prefix_front prefix_of.Plus at r = refl
prefix_front prefix_of.Minus at r = refl
prefix_front prefix_of.Increment at r = refl
prefix_front prefix_of.Decrement at r = refl
prefix_front prefix_of.Not at r = refl
prefix_front prefix_of.Complement at r = refl

literal_front : (v : Literal) (at : ℕ) (r : List Told) → no_calls (told (literal_kind v) (Some at) ∷ r) ≡ true
literal_front (literal_of.Number value long decimal) at r = refl
literal_front (literal_of.Char unit) at r = refl
literal_front (literal_of.String units) at r = refl
literal_front (literal_of.Boolean true) at r = refl
literal_front (literal_of.Boolean false) at r = refl
literal_front literal_of.Null at r = refl

-- expressions

abbrev Apart : Expr → Type 0
Apart expr = (r : List Told) → not_paren r ≡ true → no_calls (expr_tokens expr r) ≡ true

abbrev SomeExpr : Type 0
SomeExpr = (expr : Expr) × Apart expr

abbrev SomeCreation : Type 0
SomeCreation = (creation : Creation) × Unit {0}

abbrev SomeInit : Type 0
SomeInit = (init : Init) × Unit {0}

abbrev SomeOperand : Type 0
SomeOperand = (operand : Operand) × Unit {0}

abbrev SomeArray : Type 0
SomeArray = (array : ArrayInit) × Unit {0}

abbrev plain : Expr-F SomeCreation SomeExpr SomeInit SomeOperand SomeArray → Expr-F Creation Expr Init Operand ArrayInit
plain y = map-Expr SomeCreation SomeExpr SomeInit SomeOperand SomeArray Creation Expr Init Operand ArrayInit (λ z. z.0) (λ z. z.0) (λ z. z.0) (λ z. z.0) (λ z. z.0) y

abbrev spelled : Expr-F Creation Expr Init Operand ArrayInit → Expr-F Spelled Spelled Spelled Spelled Spelled
spelled l = map-Expr Creation Expr Init Operand ArrayInit Spelled Spelled Spelled Spelled Spelled creation_tokens expr_tokens init_tokens operand_tokens array_tokens l

layer_apart : (y : Expr-F SomeCreation SomeExpr SomeInit SomeOperand SomeArray) (r : List Told) → not_paren r ≡ true → no_calls (expr_told (spelled (plain y)) r) ≡ true
layer_apart (Expr-F.Assign target op value) r n = target.1 _ (assign_front op _)
layer_apart (Expr-F.Conditional test then_it else_it) r n = test.1 _ refl
layer_apart (Expr-F.Chain first rest) r n = first.1 _ (operands_front (map (λ (z : SomeOperand). z.0) rest) r n)
layer_apart (Expr-F.Prefix first more operand) r n = prefix_front first.sign first.at (prefix_tokens more (expr_tokens operand.0 r))
layer_apart (Expr-F.Cast at ty operand) r n = refl
layer_apart (Expr-F.Postfix of_it op) r n = of_it.1 _ (postfix_front op r)
layer_apart (Expr-F.Field of_it name) r n = of_it.1 _ refl
layer_apart (Expr-F.Call of_it type_args name args) r n = of_it.1 _ refl
layer_apart (Expr-F.Index of_it index) r n = of_it.1 _ refl
layer_apart (Expr-F.InnerNew of_it creation) r n = of_it.1 _ refl
layer_apart (Expr-F.Literal at value) r n = literal_front value at r
layer_apart (Expr-F.This at) r n = and_from (not_paren r) true n refl
layer_apart (Expr-F.SuperField at name) r n = refl
layer_apart (Expr-F.SuperCall at type_args name args) r n = refl
layer_apart (Expr-F.Paren at inside) r n = refl
layer_apart (Expr-F.Name name) r n = refl
layer_apart (Expr-F.Invoke name args) r n = refl
layer_apart (Expr-F.New at creation) r n = refl
layer_apart (Expr-F.ClassLiteral ty) r n = type_front ty _
layer_apart (Expr-F.VoidLiteral at) r n = refl
layer_apart (Expr-F.OuterThis first more) r n = refl

tokens_rolled : (l : Expr-F Creation Expr Init Operand ArrayInit) → expr_tokens (roll-Expr l) ≡ expr_told (spelled l)
unfolding creation_tokens expr_tokens init_tokens operand_tokens array_tokens
tokens_rolled l = fold-roll-Expr Spelled Spelled Spelled Spelled Spelled creation_told expr_told init_told operand_told array_told l

rolled_apart : (y : Expr-F SomeCreation SomeExpr SomeInit SomeOperand SomeArray) → Apart (roll-Expr (plain y))
rolled_apart y r n = ap (λ (s : Spelled). no_calls (s r)) (tokens_rolled (plain y)) ∙ layer_apart y r n

pub expr_apart : (expr : Expr) → Apart expr
expr_apart = ind-Expr (λ _. Unit {0}) Apart (λ _. Unit {0}) (λ _. Unit {0}) (λ _. Unit {0})
    (λ x y is. tt)
    (λ x y is. subst (λ (x : Expr-F Creation Expr Init Operand ArrayInit). Apart (roll-Expr x)) is (rolled_apart y))
    (λ x y is. tt)
    (λ x y is. tt)
    (λ x y is. tt)
