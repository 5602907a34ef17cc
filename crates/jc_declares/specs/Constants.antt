-- Expressions that have only the forms of a constant expression (JLS 15.28). Whether one is constant is told where its names are looked up.
use Rattle.std.specs.Prelude.{ℕ, pos, ◌%◌, ◌^◌, true, false, cond, List, [], ◌∷◌, ◌++◌, codes, Option, Some, None}
use Rattle.std.specs.Int.{w32, w64, cast_signed}
use Rattle.std.specs.Str.{bytes_eq}
use Rattle.jc_tree.specs.declared.expression.ArrayInit.{ArrayInit, ArrayInit-F}
use Rattle.jc_tree.specs.declared.expression.BinaryOp.{BinaryOp}
use Rattle.jc_tree.specs.declared.expression.BinaryOp.TheVariants as binary
use Rattle.jc_tree.specs.declared.expression.Creation.{Creation, Creation-F}
use Rattle.jc_tree.specs.declared.expression.Expr.{Expr, Expr-F, fold-Expr}
use Rattle.jc_tree.specs.declared.expression.Init.{Init, Init-F, out-Init}
use Rattle.jc_tree.specs.declared.expression.Literal.{Literal}
use Rattle.jc_tree.specs.declared.expression.Literal.TheVariants as literal
use Rattle.jc_tree.specs.declared.expression.Operand.{Operand, Operand-F}
use Rattle.jc_tree.specs.declared.expression.PrefixOp.{PrefixOp}
use Rattle.jc_tree.specs.declared.expression.PrefixSign.{PrefixSign}
use Rattle.jc_tree.specs.declared.expression.PrefixSign.TheVariants as sign
use Rattle.jc_types.specs.declared.constant.Constant.{Constant}
use Rattle.jc_types.specs.declared.constant.Constant.TheVariants.{Whole, Text}
use Rattle.jc_types.specs.declared.constant.ConstantExpr.{ConstantExpr}
use Rattle.jc_types.specs.declared.constant.ConstantExpr.TheVariants as expr
use Rattle.jc_types.specs.declared.constant.ConstantPart.{ConstantPart}
use Rattle.jc_types.specs.declared.constant.ConstantType.{ConstantType}
use Rattle.jc_types.specs.declared.constant.ConstantType.TheVariants as to
use Rattle.jc_types.specs.declared.constant.Op.{Op}
use Rattle.jc_types.specs.declared.constant.Op.TheVariants as op
use Rattle.jc_types.specs.declared.form.Arg.{Arg}
use Rattle.jc_types.specs.declared.form.Primitive.TheVariants as primitive
use Rattle.jc_types.specs.declared.form.Ty.{Ty, Ty-F, out-Ty}
use Rattle.jc_declares.specs.declared.heads.Heads.{Heads}
use Rattle.jc_declares.specs.Heads.{binary_of}
use Rattle.jc_declares.specs.Looking.{Knowledge}
use Rattle.jc_declares.specs.Writing.{Reading, wrote_type}

-- an expression as a constant one, if it has the forms of one, and the parts of the name that it is, if it is one
pub record Formed : Type 0 where
  pub constant : Option ConstantExpr
  pub place : ℕ
  pub name : List (List ℕ)

-- what has no form of a constant expression and is no name; and an expression that is no name, with its form if it has one
abbrev pub unformed : Formed
unformed = record { constant = None; place = 0; name = [] }

abbrev pub formed : Option ConstantExpr → Formed
formed c = record { constant = c; place = 0; name = [] }

-- a literal (JLS 3.10): a number stands for what its bits are in its type, since the greatest one is allowed behind a minus alone
abbrev pub literal_constant : Literal → Option Constant
literal_constant (literal.Number value true decimal) = Some (Whole (cast_signed w64 value) primitive.Long)
literal_constant (literal.Number value false decimal) = Some (Whole (cast_signed w32 (value % 2 ^ 32)) primitive.Int)
literal_constant (literal.Char unit) = Some (Whole (pos unit) primitive.Char)
literal_constant (literal.String units) = Some (Text units)
literal_constant (literal.Boolean true) = Some (Whole (pos 1) primitive.Boolean)
literal_constant (literal.Boolean false) = Some (Whole (pos 0) primitive.Boolean)
literal_constant literal.Null = None

-- a literal of a constant, or nothing for null
abbrev pub as_expr : Option Constant → Option ConstantExpr
as_expr None = None
as_expr (Some c) = Some (expr.Literal c)

-- the operators between two operands (JLS 15.17 to 15.24); instanceof isn't among them
abbrev pub binary_operator : BinaryOp → Op
binary_operator binary.OrElse = op.ConditionalOr
binary_operator binary.AndAlso = op.ConditionalAnd
binary_operator binary.Or = op.Or
binary_operator binary.Xor = op.Xor
binary_operator binary.And = op.And
binary_operator binary.Equal = op.Equal
binary_operator binary.NotEqual = op.NotEqual
binary_operator binary.Less = op.Less
binary_operator binary.Greater = op.Greater
binary_operator binary.LessEqual = op.AtMost
binary_operator binary.GreaterEqual = op.AtLeast
binary_operator binary.ShiftLeft = op.ShiftLeft
binary_operator binary.ShiftRight = op.ShiftRight
binary_operator binary.ShiftRightZero = op.ShiftRightUnsigned
binary_operator binary.Plus = op.Plus
binary_operator binary.Minus = op.Minus
binary_operator binary.Times = op.Times
binary_operator binary.Divide = op.Divide
binary_operator binary.Remainder = op.Remainder

-- the prefix operators but ++ and --
abbrev pub prefix_operator : PrefixSign → Option Op
prefix_operator sign.Plus = Some op.Positive
prefix_operator sign.Minus = Some op.Negative
prefix_operator sign.Not = Some op.Not
prefix_operator sign.Complement = Some op.Complement
prefix_operator sign.Increment = None
prefix_operator sign.Decrement = None

-- from a value, if there is one; nothing otherwise
abbrev pub and_then : {X Y : Type 0} → Option X → (X → Option Y) → Option Y
and_then None f = None
and_then (Some x) f = f x

-- all of them, the outermost first, or nothing where one of them is ++ or --
abbrev pub prefix_operators : List PrefixOp → Option (List Op)
prefix_operators [] = Some []
prefix_operators (p ∷ ps) = and_then (prefix_operator p.sign) (λ o. and_then (prefix_operators ps) (λ os. Some (o ∷ os)))

-- casts to primitive types and to String alone
abbrev pub cast_at : Heads → Ty-F Arg Ty → Option ConstantType
cast_at H (Ty-F.Prim p) = Some (to.Prim p)
cast_at H (Ty-F.Class id args) = cond (bytes_eq (binary_of H id.0) (codes "java.lang.String")) (Some to.Text) None
cast_at H _ = None

-- the target of a cast, if a constant may be cast to it
abbrev pub cast_to : Heads → Ty → Option ConstantType
cast_to H t = cast_at H (out-Ty t)

-- an operator with its right operand, if they have the forms of a constant expression; nothing for instanceof
pub record Right : Type 0 where
  pub part : Option ConstantPart

-- all parts of a chain, or nothing where one of them has no constant form
abbrev pub all_parts : List Right → Option (List ConstantPart)
all_parts [] = Some []
all_parts (r ∷ rs) = and_then r.part (λ p. and_then (all_parts rs) (λ ps. Some (p ∷ ps)))

-- simple names, and names of a type and of its field
abbrev pub of_name : ℕ → ℕ → List (List ℕ) → Formed
of_name file at parts = record { constant = Some (expr.Name (record { file = file; at = at }) parts); place = at; name = parts }

-- a name with one part more; what is no name (no parts) has no constant form behind a point
abbrev pub longer_parts : ℕ → ℕ → List (List ℕ) → List ℕ → Formed
longer_parts file at [] n = unformed
longer_parts file at (p ∷ ps) n = of_name file at (p ∷ ps ++ n ∷ [])

abbrev pub longer_name : ℕ → Formed → List ℕ → Formed
longer_name file f n = longer_parts file f.place f.name n

-- forms of operators, chains, conditionals and casts: nothing as soon as one operand has no constant form (JLS 15.28)
abbrev pub prefixed : Option (List Op) → Option ConstantExpr → Option ConstantExpr
prefixed ops operand = and_then ops (λ os. and_then operand (λ e. Some (expr.Prefix os e)))

abbrev pub chained : Option ConstantExpr → Option (List ConstantPart) → Option ConstantExpr
chained first rest = and_then first (λ e. and_then rest (λ ps. Some (expr.Chain e ps)))

abbrev pub conditional : Option ConstantExpr → Option ConstantExpr → Option ConstantExpr → Option ConstantExpr
conditional test a b = and_then test (λ t. and_then a (λ x. and_then b (λ y. Some (expr.Conditional t x y))))

abbrev pub cast_formed : Option ConstantType → Option ConstantExpr → Option ConstantExpr
cast_formed target operand = and_then target (λ t. and_then operand (λ e. Some (expr.Cast t e)))

-- the step at an expression and at an operand; all forms that aren't listed, calls and assignments among them, are none of a constant
abbrev pub expr_formed : Heads → Knowledge → ℕ → Reading → Expr-F Formed Formed Formed Right Formed → Formed
expr_formed H K file r (Expr-F.Conditional test then_it else_it) = formed (conditional test.constant then_it.constant else_it.constant)
expr_formed H K file r (Expr-F.Chain first rest) = formed (chained first.constant (all_parts rest))
expr_formed H K file r (Expr-F.Prefix first more operand) = formed (prefixed (prefix_operators (first ∷ more)) operand.constant)
expr_formed H K file r (Expr-F.Cast at ty operand) = formed (cast_formed (cast_to H (wrote_type H K r ty).ty) operand.constant)
expr_formed H K file r (Expr-F.Field of_it name) = longer_name file of_it name.text
expr_formed H K file r (Expr-F.Literal at value) = formed (as_expr (literal_constant value))
expr_formed H K file r (Expr-F.Paren at inner) = formed inner.constant
expr_formed H K file r (Expr-F.Name name) = of_name file name.at (name.text ∷ [])
expr_formed H K file r _ = unformed

abbrev pub operand_formed : Operand-F Formed Formed Formed Right Formed → Right
operand_formed (Operand-F.Binary o right) =
    record { part = and_then right.constant (λ e. Some (record { op = binary_operator o; operand = e })) }
operand_formed (Operand-F.InstanceOf ty) = record { part = None }

-- creations, initialisers and array initialisers are no constant expressions
abbrev pub none_of_creation : Creation-F Formed Formed Formed Right Formed → Formed
none_of_creation node = unformed

abbrev pub none_of_init : Init-F Formed Formed Formed Right Formed → Formed
none_of_init node = unformed

abbrev pub none_of_array : ArrayInit-F Formed Formed Formed Right Formed → Formed
none_of_array node = unformed

-- an expression as a constant one, in a file and a reading, which tells the types of casts
unfoldable pub formed_expr : Heads → Knowledge → ℕ → Reading → Expr → Formed
formed_expr H K file r node =
    fold-Expr Formed Formed Formed Right Formed none_of_creation (expr_formed H K file r) none_of_init operand_formed none_of_array node

-- an initialiser: the one of an array has no constant form
abbrev pub constant_at : Heads → Knowledge → ℕ → Reading → Init-F Creation Expr Init Operand ArrayInit → Option ConstantExpr
constant_at H K file r (Init-F.Value e) = (formed_expr H K file r e).constant
constant_at H K file r (Init-F.Nested a) = None

-- the constant form of an initialiser, if it has one
abbrev pub constant_of : Heads → Knowledge → ℕ → Reading → Option Init → Option ConstantExpr
constant_of H K file r None = None
constant_of H K file r (Some i) = constant_at H K file r (out-Init i)
