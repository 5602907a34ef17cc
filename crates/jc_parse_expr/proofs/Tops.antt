-- What the top of a tree tells of its shape.
use Rattle.std.proofs.Common.{◌≡◌, ℕ, ◌-◌, Bool, true, false, List, [], ◌∷◌, map, length, Some, None, slice_get, refl, sym, ap, ◌∙◌, subst, arith}
use Rattle.std.specs.Prelude.{nat_le, IsTrue, ◌↔◌}
use Rattle.std.proofs.lemmas.Option.{slice_get-get_or}
use Rattle.jc_tree.specs.declared.expression.BinaryOp.{BinaryOp}
use Rattle.jc_tree.specs.declared.expression.BinaryOp.TheVariants as binary_of
use Rattle.jc_tree.specs.declared.expression.PrefixSign.{PrefixSign}
use Rattle.jc_tree.specs.declared.expression.PrefixSign.TheVariants as prefix_of
use Rattle.jc_tree.specs.declared.types.TypePart.{TypePart}
use Rattle.jc_tree.specs.declared.expression.ArrayInit.{ArrayInit}
use Rattle.jc_tree.specs.declared.expression.Creation.{Creation, Creation-F, out-Creation, map-Creation}
use Rattle.jc_tree.specs.declared.expression.Creation.TheVariants as anCreation
use Rattle.jc_tree.specs.declared.expression.Expr.{Expr, Expr-F, out-Expr, map-Expr}
use Rattle.jc_tree.specs.declared.expression.Expr.TheVariants as anExpr
use Rattle.jc_tree.specs.declared.expression.Init.{Init}
use Rattle.jc_tree.specs.declared.expression.Operand.{Operand, Operand-F, out-Operand, map-Operand}
use Rattle.jc_grammar.specs.Shapes.{Shape, CreationShape, OperandShape, creation_shape, expr_shape, is_init, operand_shape, is_array, creation_shape_step, expr_shape_step, operand_shape_step, chain_shape, changes, prefix_level, binary_level, post_level, is_none, last_of}
use Rattle.jc_grammar.proofs.ShapesOfExpressions.{creation_shape-out, expr_shape-out, operand_shape-out}

abbrev CreationTop : Type 0
CreationTop = Creation-F Creation Expr Init Operand ArrayInit

abbrev Top : Type 0
Top = Expr-F Creation Expr Init Operand ArrayInit

abbrev made_shape : CreationTop → CreationShape
made_shape top = creation_shape_step (map-Creation Creation Expr Init Operand ArrayInit CreationShape Shape Bool OperandShape Bool creation_shape expr_shape is_init operand_shape is_array top)

abbrev top_shape : Top → Shape
top_shape top = expr_shape_step (map-Expr Creation Expr Init Operand ArrayInit CreationShape Shape Bool OperandShape Bool creation_shape expr_shape is_init operand_shape is_array top)

-- creations

abbrev pub makes_lengths : CreationTop → Bool
makes_lengths (Creation-F.Sized element first more dims) = true
makes_lengths _ = false

lengths_by : (top : CreationTop) → (made_shape top).sized ≡ makes_lengths top
lengths_by (Creation-F.Object class diamond actuals body) = refl
lengths_by (Creation-F.Sized element first more dims) = refl
lengths_by (Creation-F.Initialised element dims init) = refl

pub creation_sized : (node : Creation) → (creation_shape node).sized ≡ makes_lengths (out-Creation node)
creation_sized node = ap (λ (s : CreationShape). s.sized) (creation_shape-out node) ∙ lengths_by (out-Creation node)

abbrev pub makes_object : CreationTop → Bool
makes_object (Creation-F.Object class diamond actuals body) = true
makes_object _ = false

object_by : (top : CreationTop) → (made_shape top).object ≡ makes_object top
object_by (Creation-F.Object class diamond actuals body) = refl
object_by (Creation-F.Sized element first more dims) = refl
object_by (Creation-F.Initialised element dims init) = refl

pub creation_object : (node : Creation) → (creation_shape node).object ≡ makes_object (out-Creation node)
creation_object node = ap (λ (s : CreationShape). s.object) (creation_shape-out node) ∙ object_by (out-Creation node)

pub ruleset creation_sizes = (creation_sized, anCreation.outs-Object, anCreation.outs-Sized, anCreation.outs-Initialised)

pub ruleset creation_objects = (creation_object, anCreation.outs-Object, anCreation.outs-Sized, anCreation.outs-Initialised)

-- expressions

abbrev pub top_sized : Top → Bool
top_sized (Expr-F.New at creation) = (creation_shape creation).sized
top_sized (Expr-F.InnerNew of_it creation) = (creation_shape creation).sized
top_sized _ = false

chain_sized : (first : Shape) (rest : List OperandShape) → (chain_shape first rest).sized ≡ false
chain_sized first [] = refl
chain_sized first (operand ∷ rest) = refl

sized_by : (top : Top) → (top_shape top).sized ≡ top_sized top
sized_by (Expr-F.Assign target op value) = refl
sized_by (Expr-F.Conditional test then otherwise) = refl
sized_by (Expr-F.Chain first rest) = chain_sized (expr_shape first) (map operand_shape rest)
sized_by (Expr-F.Prefix first more operand) = refl
sized_by (Expr-F.Cast at ty operand) = refl
sized_by (Expr-F.Postfix of_it op) = refl
sized_by (Expr-F.Field of_it name) = refl
sized_by (Expr-F.Call of_it type_args name actuals) = refl
sized_by (Expr-F.Index of_it index) = refl
sized_by (Expr-F.InnerNew of_it creation) = refl
sized_by (Expr-F.Literal at value) = refl
sized_by (Expr-F.This at) = refl
sized_by (Expr-F.SuperField at name) = refl
sized_by (Expr-F.SuperCall at type_args name actuals) = refl
sized_by (Expr-F.Paren at inner) = refl
sized_by (Expr-F.Name name) = refl
sized_by (Expr-F.Invoke name actuals) = refl
sized_by (Expr-F.New at creation) = refl
sized_by (Expr-F.ClassLiteral ty) = refl
sized_by (Expr-F.VoidLiteral at) = refl
sized_by (Expr-F.OuterThis first more) = refl

pub sized_top : (node : Expr) → (expr_shape node).sized ≡ top_sized (out-Expr node)
sized_top node = ap (λ (s : Shape). s.sized) (expr_shape-out node) ∙ sized_by (out-Expr node)

abbrev pub top_effect : Top → Bool
top_effect (Expr-F.Assign target op value) = true
top_effect (Expr-F.Prefix first more operand) = changes first.sign
top_effect (Expr-F.Postfix of_it op) = true
top_effect (Expr-F.Call of_it type_args name actuals) = true
top_effect (Expr-F.InnerNew of_it creation) = (creation_shape creation).object
top_effect (Expr-F.SuperCall at type_args name actuals) = true
top_effect (Expr-F.Invoke name actuals) = true
top_effect (Expr-F.New at creation) = (creation_shape creation).object
top_effect _ = false

chain_effect : (first : Shape) (rest : List OperandShape) → (chain_shape first rest).effect ≡ false
chain_effect first [] = refl
chain_effect first (operand ∷ rest) = refl

effect_by : (top : Top) → (top_shape top).effect ≡ top_effect top
effect_by (Expr-F.Assign target op value) = refl
effect_by (Expr-F.Conditional test then otherwise) = refl
effect_by (Expr-F.Chain first rest) = chain_effect (expr_shape first) (map operand_shape rest)
effect_by (Expr-F.Prefix first more operand) = refl
effect_by (Expr-F.Cast at ty operand) = refl
effect_by (Expr-F.Postfix of_it op) = refl
effect_by (Expr-F.Field of_it name) = refl
effect_by (Expr-F.Call of_it type_args name actuals) = refl
effect_by (Expr-F.Index of_it index) = refl
effect_by (Expr-F.InnerNew of_it creation) = refl
effect_by (Expr-F.Literal at value) = refl
effect_by (Expr-F.This at) = refl
effect_by (Expr-F.SuperField at name) = refl
effect_by (Expr-F.SuperCall at type_args name actuals) = refl
effect_by (Expr-F.Paren at inner) = refl
effect_by (Expr-F.Name name) = refl
effect_by (Expr-F.Invoke name actuals) = refl
effect_by (Expr-F.New at creation) = refl
effect_by (Expr-F.ClassLiteral ty) = refl
effect_by (Expr-F.VoidLiteral at) = refl
effect_by (Expr-F.OuterThis first more) = refl

pub effect_top : (node : Expr) → (expr_shape node).effect ≡ top_effect (out-Expr node)
effect_top node = ap (λ (s : Shape). s.effect) (expr_shape-out node) ∙ effect_by (out-Expr node)

-- targets

abbrev pub top_target : Top → Bool
top_target (Expr-F.Assign target op value) = false
top_target (Expr-F.Conditional test then otherwise) = false
top_target (Expr-F.Chain first rest) = false
top_target (Expr-F.Prefix first more operand) = false
top_target (Expr-F.Cast at ty operand) = false
top_target _ = true

operator_loose : (op : BinaryOp) → nat_le post_level (binary_level op) ≡ false
operator_loose binary_of.OrElse = refl
operator_loose binary_of.AndAlso = refl
operator_loose binary_of.Or = refl
operator_loose binary_of.Xor = refl
operator_loose binary_of.And = refl
operator_loose binary_of.Equal = refl
operator_loose binary_of.NotEqual = refl
operator_loose binary_of.Less = refl
operator_loose binary_of.Greater = refl
operator_loose binary_of.LessEqual = refl
operator_loose binary_of.GreaterEqual = refl
operator_loose binary_of.ShiftLeft = refl
operator_loose binary_of.ShiftRight = refl
operator_loose binary_of.ShiftRightZero = refl
operator_loose binary_of.Plus = refl
operator_loose binary_of.Minus = refl
operator_loose binary_of.Times = refl
operator_loose binary_of.Divide = refl
operator_loose binary_of.Remainder = refl

operand_by : (top : Operand-F Creation Expr Init Operand ArrayInit) → nat_le post_level (operand_shape_step (map-Operand Creation Expr Init Operand ArrayInit CreationShape Shape Bool OperandShape Bool creation_shape expr_shape is_init operand_shape is_array top)).level ≡ false
operand_by (Operand-F.Binary op right) = operator_loose op
operand_by (Operand-F.InstanceOf ty) = refl

operand_loose : (operand : Operand) → nat_le post_level (operand_shape operand).level ≡ false
operand_loose operand = ap (λ (s : OperandShape). nat_le post_level s.level) (operand_shape-out operand) ∙ operand_by (out-Operand operand)

chain_loose : (first : Shape) (rest : List Operand) → nat_le post_level (chain_shape first (map operand_shape rest)).level ≡ false
chain_loose first [] = refl
chain_loose first (operand ∷ rest) = operand_loose operand

prefix_loose : (sign : PrefixSign) → nat_le post_level (prefix_level sign) ≡ false
prefix_loose prefix_of.Plus = refl
prefix_loose prefix_of.Minus = refl
prefix_loose prefix_of.Increment = refl
prefix_loose prefix_of.Decrement = refl
prefix_loose prefix_of.Not = refl
prefix_loose prefix_of.Complement = refl

target_by : (top : Top) → nat_le post_level (top_shape top).level ≡ top_target top
target_by (Expr-F.Assign target op value) = refl
target_by (Expr-F.Conditional test then otherwise) = refl
target_by (Expr-F.Chain first rest) = chain_loose (expr_shape first) rest
target_by (Expr-F.Prefix first more operand) = prefix_loose first.sign
target_by (Expr-F.Cast at ty operand) = refl
target_by (Expr-F.Postfix of_it op) = refl
target_by (Expr-F.Field of_it name) = refl
target_by (Expr-F.Call of_it type_args name actuals) = refl
target_by (Expr-F.Index of_it index) = refl
target_by (Expr-F.InnerNew of_it creation) = refl
target_by (Expr-F.Literal at value) = refl
target_by (Expr-F.This at) = refl
target_by (Expr-F.SuperField at name) = refl
target_by (Expr-F.SuperCall at type_args name actuals) = refl
target_by (Expr-F.Paren at inner) = refl
target_by (Expr-F.Name name) = refl
target_by (Expr-F.Invoke name actuals) = refl
target_by (Expr-F.New at creation) = refl
target_by (Expr-F.ClassLiteral ty) = refl
target_by (Expr-F.VoidLiteral at) = refl
target_by (Expr-F.OuterThis first more) = refl

pub target_top : (node : Expr) → nat_le post_level (expr_shape node).level ≡ top_target (out-Expr node)
target_top node = ap (λ (s : Shape). nat_le post_level s.level) (expr_shape-out node) ∙ target_by (out-Expr node)

pub ruleset outs = (anExpr.outs-Assign, anExpr.outs-Conditional, anExpr.outs-Chain, anExpr.outs-Prefix, anExpr.outs-Cast, anExpr.outs-Postfix, anExpr.outs-Field, anExpr.outs-Call, anExpr.outs-Index, anExpr.outs-InnerNew, anExpr.outs-Literal, anExpr.outs-This, anExpr.outs-SuperField, anExpr.outs-SuperCall, anExpr.outs-Paren, anExpr.outs-Name, anExpr.outs-Invoke, anExpr.outs-New, anExpr.outs-ClassLiteral, anExpr.outs-VoidLiteral, anExpr.outs-OuterThis)

pub ruleset sizes = (sized_top, outs)

pub ruleset effects = (effect_top, outs)

pub ruleset targets = (target_top, outs)

-- class types

last_at : (first : TypePart) (more : List TypePart) → slice_get (first ∷ more) (length more) ≡ Some (last_of first more)
last_at first [] = refl
last_at first (part ∷ more) = last_at part more

pub last_first : (first : TypePart) (more : List TypePart) → slice_get more (length more - 1) ≡ None → last_of first more ≡ first
last_first first [] e = refl
last_first first (part ∷ more) e = let s = slice_get-get_or (part ∷ more) (length (part ∷ more) - 1) part (omega arith) in cc

pub last_there : (first : TypePart) (more : List TypePart) (last : TypePart) → slice_get more (length more - 1) ≡ Some last → last_of first more ≡ last
last_there first [] last e = cc
last_there first (part ∷ more) last e =
    let k : length (part ∷ more) - 1 ≡ length more = omega arith in
    let s = last_at part more in
    let q : slice_get (part ∷ more) (length more) ≡ Some last = subst (λ (n : ℕ). slice_get (part ∷ more) n ≡ Some last) k e in
    cc

pub emptiness : {A : Type 0} (list : List A) (b : Bool) → (IsTrue b ↔ (list ≡ [])) → is_none list ≡ b
emptiness [] true e = refl
emptiness [] false e = sym (e.1 refl)
emptiness (a ∷ list) true e = let n = e.0 refl in cc
emptiness (a ∷ list) false e = refl
