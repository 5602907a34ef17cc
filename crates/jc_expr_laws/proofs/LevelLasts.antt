-- What stands at the level of shifts or tighter doesn't end with a `>`, so behind it an operator may begin with one.
use Rattle.std.proofs.Common.{◌≡◌, ℕ, zero, suc, ◌+◌, ◌<◌, ◌≤◌, Bool, true, false, List, [], ◌∷◌, ◌++◌, map, Some, refl, ap, ◌∙◌, subst, arith}
use Rattle.std.proofs.lemmas.Bool.{false≢true, and_parts, leb-true, eqb-true}
use Rattle.std.specs.Prelude.{◌&&◌, nat_le, not, ◌==◌, if◌then◌else◌}
use Rattle.std.specs.List.{list_all}
use Rattle.jc_lexer.specs.declared.token.Key.TheVariants as key_of
use Rattle.jc_lexer.specs.declared.token.Sign.TheVariants as sign_of
use Rattle.jc_tree.specs.declared.expression.ArrayInit.{ArrayInit, out-ArrayInit}
use Rattle.jc_tree.specs.declared.expression.BinaryOp.{BinaryOp}
use Rattle.jc_tree.specs.declared.expression.BinaryOp.TheVariants as binary_of
use Rattle.jc_tree.specs.declared.expression.Creation.{Creation, Creation-F, out-Creation, map-Creation}
use Rattle.jc_tree.specs.declared.expression.Expr.{Expr, Expr-F, out-Expr, map-Expr}
use Rattle.jc_tree.specs.declared.expression.Init.{Init}
use Rattle.jc_tree.specs.declared.expression.Literal.{Literal}
use Rattle.jc_tree.specs.declared.expression.Literal.TheVariants as literal_of
use Rattle.jc_tree.specs.declared.expression.Operand.{Operand, Operand-F, out-Operand, map-Operand}
use Rattle.jc_tree.specs.declared.expression.PostfixOp.{PostfixOp}
use Rattle.jc_tree.specs.declared.expression.PostfixOp.TheVariants as postfix_of
use Rattle.jc_tree.specs.declared.expression.PrefixOp.{PrefixOp}
use Rattle.jc_tree.specs.declared.expression.Skip.{Skip, out-Skip}
use Rattle.jc_tree.specs.Heights.{most, expr_step, operand_step, creation_height, expr_height, init_height, operand_height, array_height}
use Rattle.jc_tree.proofs.HeightsOfExpressions.{expr_height-out, operand_height-out}
use Rattle.jc_grammar.specs.Told.{Told, Spelled, sign, sign_at, key, ident, told, each, commas, actuals, names_after, brackets}
use Rattle.jc_grammar.specs.Spelling.{is_greater}
use Rattle.jc_grammar.specs.Expressions.{creation_told, expr_told, operand_told, literal_kind, prefix_tokens, prefix_sign, postfix_sign, in_brackets, if_there, diamond_tokens, creation_tokens, expr_tokens, init_tokens, operand_tokens, array_tokens, skip_tokens, skip_part_tokens, binary_tokens}
use Rattle.jc_grammar.specs.Types.{type_tokens, base_tokens, class_tokens, args_tokens}
use Rattle.jc_grammar.specs.Shapes.{Shape, CreationShape, OperandShape, stands, of_level, longest_types, expr_shape, creation_shape, operand_shape, is_init, is_array, expr_shape_step, operand_shape_step, is_primitive, prefix_level, binary_level, unary_level, plain_level}
use Rattle.jc_grammar.proofs.TokensOfExpressions.{creation_tokens-out, expr_tokens-out, operand_tokens-out, array_tokens-parts, skip_tokens-parts}
use Rattle.jc_grammar.proofs.ShapesOfExpressions.{expr_shape-out, operand_shape-out}
use Rattle.jc_grammar.proofs.Stands.{stands_looser}
use Rattle.jc_grammar.proofs.Framed.{Frames, all_frame, each_frames, commas_frames, names_frame, brackets_frame, if_there_frames}
use Rattle.jc_grammar.proofs.FramedTypes.{type_frames, base_frames, class_frames, args_frames}
use Rattle.jc_grammar.proofs.FramedExpressions.{skip_frames, skip_part_frames, expr_frames, init_frames, operand_frames}

-- whether the last token may touch what follows as a `>`
abbrev pub ends_open : Bool → List Told → Bool
ends_open b [] = b
ends_open b (d ∷ told) = ends_open (is_greater d.kind) told

-- it doesn't, whatever stands before
abbrev pub Silent : List Told → Type 0
Silent r = (b : Bool) → ends_open b r ≡ false

pub ends_both : (b : Bool) (x y : List Told) → ends_open b (x ++ y) ≡ ends_open (ends_open b x) y
ends_both b [] y = refl
ends_both b (d ∷ x) y = ends_both (is_greater d.kind) x y

-- what stands before it doesn't matter
pass : (f : Spelled) → Frames f → (r : List Told) → Silent r → Silent (f r)
pass f k r s b = ap (λ (l : List Told). ends_open b l) (k.at [] r) ∙ ends_both b (f []) r ∙ s (ends_open b (f []))

-- behind what is silent
behind : (f : Spelled) → Frames f → (r : List Told) → Silent (f []) → ends_open false r ≡ false → Silent (f r)
behind f k r s e b = ap (λ (l : List Told). ends_open b l) (k.at [] r) ∙ ends_both b (f []) r ∙ ap (λ (c : Bool). ends_open c r) (s b) ∙ e

front : (d : Told) (r : List Told) → Silent r → Silent (d ∷ r)
front d r s b = s (is_greater d.kind)

actuals_silent : (args : List Expr) (r : List Told) → ends_open false r ≡ false → Silent (actuals (map expr_tokens args) r)
actuals_silent args r e = front (sign sign_of.LeftParen) (commas (map expr_tokens args) (sign sign_of.RightParen ∷ r)) (pass (commas (map expr_tokens args)) (commas_frames (all_frame expr_tokens expr_frames args)) (sign sign_of.RightParen ∷ r) (λ b. e))

skip_silent : (skip : Skip) → Silent (skip_tokens skip [])
skip_silent skip b =
    ap (λ (l : List Told). ends_open b l) (skip_tokens-parts skip [])
    ∙ pass (each (map skip_part_tokens (out-Skip skip).parts)) (each_frames (all_frame skip_part_tokens skip_part_frames (out-Skip skip).parts)) (sign sign_of.RightBrace ∷ []) (λ c. refl) false

skips_end : (body : List Skip) → ends_open false (each (map skip_tokens body) []) ≡ false
skips_end [] = refl
skips_end (s ∷ body) = behind (skip_tokens s) (skip_frames s) (each (map skip_tokens body) []) (skip_silent s) (skips_end body) false

brackets_end : (n : ℕ) → ends_open false (brackets n []) ≡ false
brackets_end zero = refl
brackets_end (suc n) = brackets_end n

lengths_end : (more : List Expr) (r : List Told) → ends_open false r ≡ false → ends_open false (each (map in_brackets (map expr_tokens more)) r) ≡ false
lengths_end [] r e = e
lengths_end (x ∷ more) r e = pass (expr_tokens x) (expr_frames x) (sign sign_of.RightBracket ∷ each (map in_brackets (map expr_tokens more)) r) (λ c. lengths_end more r e) false

array_silent : (array : ArrayInit) → Silent (array_tokens array [])
array_silent array b =
    ap (λ (l : List Told). ends_open b l) (array_tokens-parts array [])
    ∙ pass (commas (map init_tokens (out-ArrayInit array).inits)) (commas_frames (all_frame init_tokens init_frames (out-ArrayInit array).inits)) (if_there (out-ArrayInit array).trailing sign_of.Comma (sign sign_of.RightBrace ∷ []))
    (pass (if_there (out-ArrayInit array).trailing sign_of.Comma) (if_there_frames (out-ArrayInit array).trailing sign_of.Comma) (sign sign_of.RightBrace ∷ []) (λ c. refl)) false

diamond_silent : (diamond : Bool) (r : List Told) → Silent r → Silent (diamond_tokens diamond r)
diamond_silent true r s = λ b. s true
diamond_silent false r s = s

abbrev CreationLayer : Type 0
CreationLayer = Creation-F Creation Expr Init Operand ArrayInit

abbrev Layer : Type 0
Layer = Expr-F Creation Expr Init Operand ArrayInit

abbrev creation_spelled : CreationLayer → List Told
creation_spelled l = creation_told (map-Creation Creation Expr Init Operand ArrayInit Spelled Spelled Spelled Spelled Spelled creation_tokens expr_tokens init_tokens operand_tokens array_tokens l) []

abbrev spelled : Layer → List Told
spelled l = expr_told (map-Expr Creation Expr Init Operand ArrayInit Spelled Spelled Spelled Spelled Spelled creation_tokens expr_tokens init_tokens operand_tokens array_tokens l) []

abbrev shaped : Layer → Shape
shaped l = expr_shape_step (map-Expr Creation Expr Init Operand ArrayInit CreationShape Shape Bool OperandShape Bool creation_shape expr_shape is_init operand_shape is_array l)

abbrev tall : Layer → ℕ
tall l = expr_step (map-Expr Creation Expr Init Operand ArrayInit ℕ ℕ ℕ ℕ ℕ creation_height expr_height init_height operand_height array_height l)

creation_layer : (l : CreationLayer) → Silent (creation_spelled l)
creation_layer (Creation-F.Object class diamond args body) =
    pass (class_tokens class) (class_frames class) (diamond_tokens diamond (actuals (map expr_tokens args) (each (map skip_tokens body) [])))
    (diamond_silent diamond (actuals (map expr_tokens args) (each (map skip_tokens body) [])) (actuals_silent args (each (map skip_tokens body) []) (skips_end body)))
creation_layer (Creation-F.Sized element first more dims) =
    pass (base_tokens element) (base_frames element) (in_brackets (expr_tokens first) (each (map in_brackets (map expr_tokens more)) (brackets dims [])))
    (λ b. pass (expr_tokens first) (expr_frames first) (sign sign_of.RightBracket ∷ each (map in_brackets (map expr_tokens more)) (brackets dims [])) (λ c. lengths_end more (brackets dims []) (brackets_end dims)) false)
creation_layer (Creation-F.Initialised element dims init) =
    pass (base_tokens element) (base_frames element) (sign sign_of.LeftBracket ∷ sign sign_of.RightBracket ∷ brackets dims (array_tokens init []))
    (λ b. pass (brackets dims) (brackets_frame dims) (array_tokens init []) (array_silent init) false)

pub creation_silent : (creation : Creation) → Silent (creation_tokens creation [])
creation_silent creation b = ap (λ (f : Spelled). ends_open b (f [])) (creation_tokens-out creation) ∙ creation_layer (out-Creation creation) b

literal_silent : (value : Literal) (at : ℕ) → Silent (told (literal_kind value) (Some at) ∷ [])
literal_silent (literal_of.Number value long decimal) at b = refl
literal_silent (literal_of.Char unit) at b = refl
literal_silent (literal_of.String units) at b = refl
literal_silent (literal_of.Boolean true) at b = refl
literal_silent (literal_of.Boolean false) at b = refl
literal_silent literal_of.Null at b = refl

postfix_silent : (op : PostfixOp) → Silent (sign (postfix_sign op) ∷ [])
postfix_silent postfix_of.Increment b = refl
postfix_silent postfix_of.Decrement b = refl

prefix_silent : (ops : List PrefixOp) (r : List Told) → Silent r → Silent (prefix_tokens ops r)
prefix_silent [] r s = s
prefix_silent (op ∷ ops) r s = front (sign_at (prefix_sign op.sign) op.at) (prefix_tokens ops r) (prefix_silent ops r s)

pub binary_silent : (op : BinaryOp) (r : List Told) → Silent r → Silent (binary_tokens op r)
binary_silent binary_of.OrElse r s b = s _
binary_silent binary_of.AndAlso r s b = s _
binary_silent binary_of.Or r s b = s _
binary_silent binary_of.Xor r s b = s _
binary_silent binary_of.And r s b = s _
binary_silent binary_of.Equal r s b = s _
binary_silent binary_of.NotEqual r s b = s _
binary_silent binary_of.Less r s b = s _
binary_silent binary_of.Greater r s b = s _
binary_silent binary_of.LessEqual r s b = s _
binary_silent binary_of.GreaterEqual r s b = s _
binary_silent binary_of.ShiftLeft r s b = s _
binary_silent binary_of.ShiftRight r s b = s _
binary_silent binary_of.ShiftRightZero r s b = s _
binary_silent binary_of.Plus r s b = s _
binary_silent binary_of.Minus r s b = s _
binary_silent binary_of.Times r s b = s _
binary_silent binary_of.Divide r s b = s _
binary_silent binary_of.Remainder r s b = s _

-- the levels of unary operators are tighter than that of shifts
looser : (level : ℕ) (e : Expr) → 9 ≤ level → stands level (expr_shape e) ≡ true → stands 9 (expr_shape e) ≡ true
looser level e h s = stands_looser 9 level (expr_shape e) h s

abbrev operand_layer : Operand-F Creation Expr Init Operand ArrayInit → OperandShape
operand_layer l = operand_shape_step (map-Operand Creation Expr Init Operand ArrayInit CreationShape Shape Bool OperandShape Bool creation_shape expr_shape is_init operand_shape is_array l)

module _ (n : ℕ) (lower : (e : Expr) → expr_height e < n → stands 9 (expr_shape e) ≡ true → Silent (expr_tokens e [])) where
  operand_at : (level : ℕ) → 9 ≤ level → (l : Operand-F Creation Expr Init Operand ArrayInit) → operand_step (map-Operand Creation Expr Init Operand ArrayInit ℕ ℕ ℕ ℕ ℕ creation_height expr_height init_height operand_height array_height l) < n → of_level level (operand_layer l) ≡ true → Silent (operand_told (map-Operand Creation Expr Init Operand ArrayInit Spelled Spelled Spelled Spelled Spelled creation_tokens expr_tokens init_tokens operand_tokens array_tokens l) [])
  operand_at level nine (Operand-F.Binary op right) h g =
      let p = and_parts (stands (binary_level op + 1) (expr_shape right)) (binary_level op == level) g in
      let e : binary_level op ≡ level = eqb-true (binary_level op) level p.1 in
      binary_silent op (expr_tokens right []) (lower right h (looser (binary_level op + 1) right (omega (arith, e, nine)) p.0))
  operand_at level nine (Operand-F.InstanceOf ty) h g =
      let e : 8 ≡ level = eqb-true 8 level (and_parts true (8 == level) g).1 in absurd (omega (arith, e, nine))

  operand_silent : (level : ℕ) → 9 ≤ level → (o : Operand) → operand_height o < n → of_level level (operand_shape o) ≡ true → Silent (operand_tokens o [])
  operand_silent level nine o h g b =
      ap (λ (f : Spelled). ends_open b (f [])) (operand_tokens-out o)
      ∙ operand_at level nine (out-Operand o) (subst (λ (k : ℕ). k < n) (operand_height-out o) h) (subst (λ (z : OperandShape). of_level level z ≡ true) (operand_shape-out o) g) b

  operands_end : (level : ℕ) → 9 ≤ level → (list : List Operand) → most (map operand_height list) < n → list_all (of_level level) (map operand_shape list) ≡ true → ends_open false (each (map operand_tokens list) []) ≡ false
  operands_end level nine [] h g = refl
  operands_end level nine (o ∷ list) h g =
      let p = and_parts (of_level level (operand_shape o)) (list_all (of_level level) (map operand_shape list)) g in
      behind (operand_tokens o) (operand_frames o) (each (map operand_tokens list) []) (operand_silent level nine o (omega arith) p.0) (operands_end level nine list (omega arith) p.1) false

  layer : (l : Layer) → tall l ≤ n → stands 9 (shaped l) ≡ true → Silent (spelled l)
  layer (Expr-F.Assign target op value) h g = absurd (false≢true (and_parts (stands 14 (expr_shape target) && stands 0 (expr_shape value)) false g).1)
  layer (Expr-F.Conditional test then_it else_it) h g = absurd (false≢true (and_parts (stands 2 (expr_shape test) && stands 0 (expr_shape then_it) && stands 1 (expr_shape else_it)) false g).1)
  layer (Expr-F.Chain first []) h g = absurd (false≢true g)
  layer (Expr-F.Chain first (o ∷ rest)) h g =
      let k = (operand_shape o).level in
      let p = and_parts (stands (k + 1) (expr_shape first) && list_all (of_level k) (map operand_shape (o ∷ rest)) && longest_types (operand_shape o) (map operand_shape rest)) (nat_le 9 k) g in
      let q = and_parts (stands (k + 1) (expr_shape first) && list_all (of_level k) (map operand_shape (o ∷ rest))) (longest_types (operand_shape o) (map operand_shape rest)) p.0 in
      let a = and_parts (stands (k + 1) (expr_shape first)) (list_all (of_level k) (map operand_shape (o ∷ rest))) q.0 in
      let z = and_parts (of_level k (operand_shape o)) (list_all (of_level k) (map operand_shape rest)) a.1 in
      let nine : 9 ≤ k = leb-true 9 k p.1 in
      pass (expr_tokens first) (expr_frames first) (each (map operand_tokens (o ∷ rest)) [])
      (behind (operand_tokens o) (operand_frames o) (each (map operand_tokens rest) []) (operand_silent k nine o (omega arith) z.0) (operands_end k nine rest (omega arith) z.1))
  layer (Expr-F.Prefix first more operand) h g =
      let p = and_parts (stands 13 (expr_shape operand) && not (expr_shape operand).prefix) (nat_le 9 (prefix_level first.sign)) g in
      let q = and_parts (stands 13 (expr_shape operand)) (not (expr_shape operand).prefix) p.0 in
      prefix_silent (first ∷ more) (expr_tokens operand []) (lower operand h (looser 13 operand (omega arith) q.0))
  layer (Expr-F.Cast at ty operand) h g = λ b.
      pass (type_tokens ty) (type_frames ty) (sign sign_of.RightParen ∷ expr_tokens operand [])
      (λ c. lower operand (omega arith) (tighter (is_primitive ty) (and_parts (stands (if is_primitive ty then unary_level else plain_level) (expr_shape operand)) true g).0) false) false
    where
      tighter : (c : Bool) → stands (if c then unary_level else plain_level) (expr_shape operand) ≡ true → stands 9 (expr_shape operand) ≡ true
      tighter true s = looser 12 operand (omega arith) s
      tighter false s = looser 13 operand (omega arith) s
  layer (Expr-F.Postfix of_it op) h g = pass (expr_tokens of_it) (expr_frames of_it) (sign (postfix_sign op) ∷ []) (postfix_silent op)
  layer (Expr-F.Field of_it name) h g = pass (expr_tokens of_it) (expr_frames of_it) (sign sign_of.Dot ∷ ident name ∷ []) (λ b. refl)
  layer (Expr-F.Call of_it type_args name args) h g =
      pass (expr_tokens of_it) (expr_frames of_it) (sign sign_of.Dot ∷ args_tokens type_args (ident name ∷ actuals (map expr_tokens args) []))
      (λ b. pass (args_tokens type_args) (args_frames type_args) (ident name ∷ actuals (map expr_tokens args) []) (λ c. actuals_silent args [] refl false) false)
  layer (Expr-F.Index of_it index) h g =
      pass (expr_tokens of_it) (expr_frames of_it) (in_brackets (expr_tokens index) []) (λ b. pass (expr_tokens index) (expr_frames index) (sign sign_of.RightBracket ∷ []) (λ c. refl) false)
  layer (Expr-F.InnerNew of_it creation) h g = pass (expr_tokens of_it) (expr_frames of_it) (sign sign_of.Dot ∷ key key_of.New ∷ creation_tokens creation []) (λ b. creation_silent creation false)
  layer (Expr-F.Literal at value) h g = literal_silent value at
  layer (Expr-F.This at) h g = λ b. refl
  layer (Expr-F.SuperField at name) h g = λ b. refl
  layer (Expr-F.SuperCall at type_args name args) h g = λ b. pass (args_tokens type_args) (args_frames type_args) (ident name ∷ actuals (map expr_tokens args) []) (λ c. actuals_silent args [] refl false) false
  layer (Expr-F.Paren at inside) h g = λ b. pass (expr_tokens inside) (expr_frames inside) (sign sign_of.RightParen ∷ []) (λ c. refl) false
  layer (Expr-F.Name name) h g = λ b. refl
  layer (Expr-F.Invoke name args) h g = λ b. actuals_silent args [] refl false
  layer (Expr-F.New at creation) h g = λ b. creation_silent creation false
  layer (Expr-F.ClassLiteral ty) h g = pass (type_tokens ty) (type_frames ty) (sign sign_of.Dot ∷ key key_of.Class ∷ []) (λ b. refl)
  layer (Expr-F.VoidLiteral at) h g = λ b. refl
  layer (Expr-F.OuterThis first more) h g = λ b. pass (names_after more) (names_frame more) (sign sign_of.Dot ∷ key key_of.This ∷ []) (λ c. refl) false

quiet : (n : ℕ) (e : Expr) → expr_height e < n → stands 9 (expr_shape e) ≡ true → Silent (expr_tokens e [])
quiet zero e h s b = absurd (omega (arith, h))
quiet (suc n) e h s b =
    ap (λ (f : Spelled). ends_open b (f [])) (expr_tokens-out e)
    ∙ layer n (quiet n) (out-Expr e) (subst (λ (k : ℕ). k ≤ n) (expr_height-out e) (omega (arith, h))) (subst (λ (z : Shape). stands 9 z ≡ true) (expr_shape-out e) s) b

pub expr_silent : (e : Expr) → stands 9 (expr_shape e) ≡ true → Silent (expr_tokens e [])
expr_silent e s = quiet (suc (expr_height e)) e (omega arith) s
