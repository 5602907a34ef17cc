-- The first offsets of expressions by their parts.
use Rattle.std.proofs.Common.{ap, ◌∙◌}
use Rattle.std.specs.Prelude.{◌≡◌, Bool, List, ℕ}
use Rattle.jc_tree.specs.declared.expression.ArrayInit.{ArrayInit, fold-roll-ArrayInit, fold_out-ArrayInit, map-ArrayInit, out-ArrayInit, roll-ArrayInit}
use Rattle.jc_tree.specs.declared.expression.AssignOp.{AssignOp}
use Rattle.jc_tree.specs.declared.expression.BinaryOp.{BinaryOp}
use Rattle.jc_tree.specs.declared.expression.Creation.{Creation, Creation-F, fold_out-Creation, map-Creation, out-Creation}
use Rattle.jc_tree.specs.declared.expression.Creation.TheVariants as anCreation
use Rattle.jc_tree.specs.declared.expression.Expr.{Expr, Expr-F, fold_out-Expr, map-Expr, out-Expr}
use Rattle.jc_tree.specs.declared.expression.Expr.TheVariants as anExpr
use Rattle.jc_tree.specs.declared.expression.Init.{Init, Init-F, fold_out-Init, map-Init, out-Init}
use Rattle.jc_tree.specs.declared.expression.Init.TheVariants as anInit
use Rattle.jc_tree.specs.declared.expression.Literal.{Literal}
use Rattle.jc_tree.specs.declared.expression.Operand.{Operand, Operand-F, fold_out-Operand, map-Operand, out-Operand}
use Rattle.jc_tree.specs.declared.expression.Operand.TheVariants as anOperand
use Rattle.jc_tree.specs.declared.expression.PostfixOp.{PostfixOp}
use Rattle.jc_tree.specs.declared.expression.PrefixOp.{PrefixOp}
use Rattle.jc_tree.specs.declared.expression.Skip.{Skip}
use Rattle.jc_tree.specs.declared.name.Ident.{Ident}
use Rattle.jc_tree.specs.declared.types.BaseTree.{BaseTree}
use Rattle.jc_tree.specs.declared.types.ClassTree.{ClassTree}
use Rattle.jc_tree.specs.declared.types.TypeArg.{TypeArg}
use Rattle.jc_tree.specs.declared.types.TypeTree.{TypeTree}
use Rattle.jc_tree.specs.Offsets.{array_first, creation_first, expr_first, first_offset_of_array, first_offset_of_base, first_offset_of_class, first_offset_of_creation, first_offset_of_expr, first_offset_of_init, first_offset_of_operand, first_offset_of_type, init_first, operand_first}

pub first_offset_of_creation-out : (node : Creation) → first_offset_of_creation node ≡ creation_first (map-Creation Creation Expr Init Operand ArrayInit ℕ ℕ ℕ ℕ ℕ first_offset_of_creation first_offset_of_expr first_offset_of_init first_offset_of_operand first_offset_of_array (out-Creation node))
unfolding first_offset_of_creation first_offset_of_expr first_offset_of_init first_offset_of_operand first_offset_of_array
first_offset_of_creation-out node = fold_out-Creation ℕ ℕ ℕ ℕ ℕ creation_first expr_first init_first operand_first array_first node

first_offset_of_creation-at : (node : Creation) (l : Creation-F Creation Expr Init Operand ArrayInit) → out-Creation node ≡ l → first_offset_of_creation node ≡ creation_first (map-Creation Creation Expr Init Operand ArrayInit ℕ ℕ ℕ ℕ ℕ first_offset_of_creation first_offset_of_expr first_offset_of_init first_offset_of_operand first_offset_of_array l)
first_offset_of_creation-at node l e = first_offset_of_creation-out node ∙ ap (λ (l : Creation-F Creation Expr Init Operand ArrayInit). creation_first (map-Creation Creation Expr Init Operand ArrayInit ℕ ℕ ℕ ℕ ℕ first_offset_of_creation first_offset_of_expr first_offset_of_init first_offset_of_operand first_offset_of_array l)) e

pub first_offset_of_creation-Object : (class : ClassTree) (diamond : Bool) (actuals : List Expr) (body : List Skip) → first_offset_of_creation (anCreation.Object class diamond actuals body) ≡ first_offset_of_class class
first_offset_of_creation-Object class diamond actuals body = first_offset_of_creation-at (anCreation.Object class diamond actuals body) _ (anCreation.outs-Object class diamond actuals body)

pub first_offset_of_creation-Sized : (element : BaseTree) (first : Expr) (more : List Expr) (dims : ℕ) → first_offset_of_creation (anCreation.Sized element first more dims) ≡ first_offset_of_base element
first_offset_of_creation-Sized element first more dims = first_offset_of_creation-at (anCreation.Sized element first more dims) _ (anCreation.outs-Sized element first more dims)

pub first_offset_of_creation-Initialised : (element : BaseTree) (dims : ℕ) (init : ArrayInit) → first_offset_of_creation (anCreation.Initialised element dims init) ≡ first_offset_of_base element
first_offset_of_creation-Initialised element dims init = first_offset_of_creation-at (anCreation.Initialised element dims init) _ (anCreation.outs-Initialised element dims init)

pub first_offset_of_expr-out : (node : Expr) → first_offset_of_expr node ≡ expr_first (map-Expr Creation Expr Init Operand ArrayInit ℕ ℕ ℕ ℕ ℕ first_offset_of_creation first_offset_of_expr first_offset_of_init first_offset_of_operand first_offset_of_array (out-Expr node))
unfolding first_offset_of_creation first_offset_of_expr first_offset_of_init first_offset_of_operand first_offset_of_array
first_offset_of_expr-out node = fold_out-Expr ℕ ℕ ℕ ℕ ℕ creation_first expr_first init_first operand_first array_first node

first_offset_of_expr-at : (node : Expr) (l : Expr-F Creation Expr Init Operand ArrayInit) → out-Expr node ≡ l → first_offset_of_expr node ≡ expr_first (map-Expr Creation Expr Init Operand ArrayInit ℕ ℕ ℕ ℕ ℕ first_offset_of_creation first_offset_of_expr first_offset_of_init first_offset_of_operand first_offset_of_array l)
first_offset_of_expr-at node l e = first_offset_of_expr-out node ∙ ap (λ (l : Expr-F Creation Expr Init Operand ArrayInit). expr_first (map-Expr Creation Expr Init Operand ArrayInit ℕ ℕ ℕ ℕ ℕ first_offset_of_creation first_offset_of_expr first_offset_of_init first_offset_of_operand first_offset_of_array l)) e

pub first_offset_of_expr-Assign : (target : Expr) (op : AssignOp) (value : Expr) → first_offset_of_expr (anExpr.Assign target op value) ≡ first_offset_of_expr target
first_offset_of_expr-Assign target op value = first_offset_of_expr-at (anExpr.Assign target op value) _ (anExpr.outs-Assign target op value)

pub first_offset_of_expr-Conditional : (test : Expr) (then : Expr) (otherwise : Expr) → first_offset_of_expr (anExpr.Conditional test then otherwise) ≡ first_offset_of_expr test
first_offset_of_expr-Conditional test then otherwise = first_offset_of_expr-at (anExpr.Conditional test then otherwise) _ (anExpr.outs-Conditional test then otherwise)

pub first_offset_of_expr-Chain : (first : Expr) (rest : List Operand) → first_offset_of_expr (anExpr.Chain first rest) ≡ first_offset_of_expr first
first_offset_of_expr-Chain first rest = first_offset_of_expr-at (anExpr.Chain first rest) _ (anExpr.outs-Chain first rest)

pub first_offset_of_expr-Prefix : (first : PrefixOp) (more : List PrefixOp) (operand : Expr) → first_offset_of_expr (anExpr.Prefix first more operand) ≡ first.at
first_offset_of_expr-Prefix first more operand = first_offset_of_expr-at (anExpr.Prefix first more operand) _ (anExpr.outs-Prefix first more operand)

pub first_offset_of_expr-Cast : (at : ℕ) (ty : TypeTree) (operand : Expr) → first_offset_of_expr (anExpr.Cast at ty operand) ≡ at
first_offset_of_expr-Cast at ty operand = first_offset_of_expr-at (anExpr.Cast at ty operand) _ (anExpr.outs-Cast at ty operand)

pub first_offset_of_expr-Postfix : (of_it : Expr) (op : PostfixOp) → first_offset_of_expr (anExpr.Postfix of_it op) ≡ first_offset_of_expr of_it
first_offset_of_expr-Postfix of_it op = first_offset_of_expr-at (anExpr.Postfix of_it op) _ (anExpr.outs-Postfix of_it op)

pub first_offset_of_expr-Field : (of_it : Expr) (name : Ident) → first_offset_of_expr (anExpr.Field of_it name) ≡ first_offset_of_expr of_it
first_offset_of_expr-Field of_it name = first_offset_of_expr-at (anExpr.Field of_it name) _ (anExpr.outs-Field of_it name)

pub first_offset_of_expr-Call : (of_it : Expr) (type_args : List TypeArg) (name : Ident) (actuals : List Expr) → first_offset_of_expr (anExpr.Call of_it type_args name actuals) ≡ first_offset_of_expr of_it
first_offset_of_expr-Call of_it type_args name actuals = first_offset_of_expr-at (anExpr.Call of_it type_args name actuals) _ (anExpr.outs-Call of_it type_args name actuals)

pub first_offset_of_expr-Index : (of_it : Expr) (index : Expr) → first_offset_of_expr (anExpr.Index of_it index) ≡ first_offset_of_expr of_it
first_offset_of_expr-Index of_it index = first_offset_of_expr-at (anExpr.Index of_it index) _ (anExpr.outs-Index of_it index)

pub first_offset_of_expr-InnerNew : (of_it : Expr) (creation : Creation) → first_offset_of_expr (anExpr.InnerNew of_it creation) ≡ first_offset_of_expr of_it
first_offset_of_expr-InnerNew of_it creation = first_offset_of_expr-at (anExpr.InnerNew of_it creation) _ (anExpr.outs-InnerNew of_it creation)

pub first_offset_of_expr-Literal : (at : ℕ) (value : Literal) → first_offset_of_expr (anExpr.Literal at value) ≡ at
first_offset_of_expr-Literal at value = first_offset_of_expr-at (anExpr.Literal at value) _ (anExpr.outs-Literal at value)

pub first_offset_of_expr-This : (at : ℕ) → first_offset_of_expr (anExpr.This at) ≡ at
first_offset_of_expr-This at = first_offset_of_expr-at (anExpr.This at) _ (anExpr.outs-This at)

pub first_offset_of_expr-SuperField : (at : ℕ) (name : Ident) → first_offset_of_expr (anExpr.SuperField at name) ≡ at
first_offset_of_expr-SuperField at name = first_offset_of_expr-at (anExpr.SuperField at name) _ (anExpr.outs-SuperField at name)

pub first_offset_of_expr-SuperCall : (at : ℕ) (type_args : List TypeArg) (name : Ident) (actuals : List Expr) → first_offset_of_expr (anExpr.SuperCall at type_args name actuals) ≡ at
first_offset_of_expr-SuperCall at type_args name actuals = first_offset_of_expr-at (anExpr.SuperCall at type_args name actuals) _ (anExpr.outs-SuperCall at type_args name actuals)

pub first_offset_of_expr-Paren : (at : ℕ) (inner : Expr) → first_offset_of_expr (anExpr.Paren at inner) ≡ at
first_offset_of_expr-Paren at inner = first_offset_of_expr-at (anExpr.Paren at inner) _ (anExpr.outs-Paren at inner)

pub first_offset_of_expr-Name : (it : Ident) → first_offset_of_expr (anExpr.Name it) ≡ it.at
first_offset_of_expr-Name it = first_offset_of_expr-at (anExpr.Name it) _ (anExpr.outs-Name it)

pub first_offset_of_expr-Invoke : (name : Ident) (actuals : List Expr) → first_offset_of_expr (anExpr.Invoke name actuals) ≡ name.at
first_offset_of_expr-Invoke name actuals = first_offset_of_expr-at (anExpr.Invoke name actuals) _ (anExpr.outs-Invoke name actuals)

pub first_offset_of_expr-New : (at : ℕ) (creation : Creation) → first_offset_of_expr (anExpr.New at creation) ≡ at
first_offset_of_expr-New at creation = first_offset_of_expr-at (anExpr.New at creation) _ (anExpr.outs-New at creation)

pub first_offset_of_expr-ClassLiteral : (ty : TypeTree) → first_offset_of_expr (anExpr.ClassLiteral ty) ≡ first_offset_of_type ty
first_offset_of_expr-ClassLiteral ty = first_offset_of_expr-at (anExpr.ClassLiteral ty) _ (anExpr.outs-ClassLiteral ty)

pub first_offset_of_expr-VoidLiteral : (at : ℕ) → first_offset_of_expr (anExpr.VoidLiteral at) ≡ at
first_offset_of_expr-VoidLiteral at = first_offset_of_expr-at (anExpr.VoidLiteral at) _ (anExpr.outs-VoidLiteral at)

pub first_offset_of_expr-OuterThis : (first : Ident) (more : List Ident) → first_offset_of_expr (anExpr.OuterThis first more) ≡ first.at
first_offset_of_expr-OuterThis first more = first_offset_of_expr-at (anExpr.OuterThis first more) _ (anExpr.outs-OuterThis first more)

pub first_offset_of_init-out : (node : Init) → first_offset_of_init node ≡ init_first (map-Init Creation Expr Init Operand ArrayInit ℕ ℕ ℕ ℕ ℕ first_offset_of_creation first_offset_of_expr first_offset_of_init first_offset_of_operand first_offset_of_array (out-Init node))
unfolding first_offset_of_creation first_offset_of_expr first_offset_of_init first_offset_of_operand first_offset_of_array
first_offset_of_init-out node = fold_out-Init ℕ ℕ ℕ ℕ ℕ creation_first expr_first init_first operand_first array_first node

first_offset_of_init-at : (node : Init) (l : Init-F Creation Expr Init Operand ArrayInit) → out-Init node ≡ l → first_offset_of_init node ≡ init_first (map-Init Creation Expr Init Operand ArrayInit ℕ ℕ ℕ ℕ ℕ first_offset_of_creation first_offset_of_expr first_offset_of_init first_offset_of_operand first_offset_of_array l)
first_offset_of_init-at node l e = first_offset_of_init-out node ∙ ap (λ (l : Init-F Creation Expr Init Operand ArrayInit). init_first (map-Init Creation Expr Init Operand ArrayInit ℕ ℕ ℕ ℕ ℕ first_offset_of_creation first_offset_of_expr first_offset_of_init first_offset_of_operand first_offset_of_array l)) e

pub first_offset_of_init-Value : (it : Expr) → first_offset_of_init (anInit.Value it) ≡ first_offset_of_expr it
first_offset_of_init-Value it = first_offset_of_init-at (anInit.Value it) _ (anInit.outs-Value it)

pub first_offset_of_init-Nested : (it : ArrayInit) → first_offset_of_init (anInit.Nested it) ≡ first_offset_of_array it
first_offset_of_init-Nested it = first_offset_of_init-at (anInit.Nested it) _ (anInit.outs-Nested it)

pub first_offset_of_operand-out : (node : Operand) → first_offset_of_operand node ≡ operand_first (map-Operand Creation Expr Init Operand ArrayInit ℕ ℕ ℕ ℕ ℕ first_offset_of_creation first_offset_of_expr first_offset_of_init first_offset_of_operand first_offset_of_array (out-Operand node))
unfolding first_offset_of_creation first_offset_of_expr first_offset_of_init first_offset_of_operand first_offset_of_array
first_offset_of_operand-out node = fold_out-Operand ℕ ℕ ℕ ℕ ℕ creation_first expr_first init_first operand_first array_first node

first_offset_of_operand-at : (node : Operand) (l : Operand-F Creation Expr Init Operand ArrayInit) → out-Operand node ≡ l → first_offset_of_operand node ≡ operand_first (map-Operand Creation Expr Init Operand ArrayInit ℕ ℕ ℕ ℕ ℕ first_offset_of_creation first_offset_of_expr first_offset_of_init first_offset_of_operand first_offset_of_array l)
first_offset_of_operand-at node l e = first_offset_of_operand-out node ∙ ap (λ (l : Operand-F Creation Expr Init Operand ArrayInit). operand_first (map-Operand Creation Expr Init Operand ArrayInit ℕ ℕ ℕ ℕ ℕ first_offset_of_creation first_offset_of_expr first_offset_of_init first_offset_of_operand first_offset_of_array l)) e

pub first_offset_of_operand-Binary : (op : BinaryOp) (right : Expr) → first_offset_of_operand (anOperand.Binary op right) ≡ first_offset_of_expr right
first_offset_of_operand-Binary op right = first_offset_of_operand-at (anOperand.Binary op right) _ (anOperand.outs-Binary op right)

pub first_offset_of_operand-InstanceOf : (ty : TypeTree) → first_offset_of_operand (anOperand.InstanceOf ty) ≡ first_offset_of_type ty
first_offset_of_operand-InstanceOf ty = first_offset_of_operand-at (anOperand.InstanceOf ty) _ (anOperand.outs-InstanceOf ty)

pub first_offset_of_array-out : (node : ArrayInit) → first_offset_of_array node ≡ array_first (map-ArrayInit Creation Expr Init Operand ArrayInit ℕ ℕ ℕ ℕ ℕ first_offset_of_creation first_offset_of_expr first_offset_of_init first_offset_of_operand first_offset_of_array (out-ArrayInit node))
unfolding first_offset_of_creation first_offset_of_expr first_offset_of_init first_offset_of_operand first_offset_of_array
first_offset_of_array-out node = fold_out-ArrayInit ℕ ℕ ℕ ℕ ℕ creation_first expr_first init_first operand_first array_first node

pub first_offset_of_array-parts : (node : ArrayInit) → first_offset_of_array node ≡ (out-ArrayInit node).at
first_offset_of_array-parts node = first_offset_of_array-out node

pub first_offset_of_array-made : (at : ℕ) (inits : List Init) (trailing : Bool) → first_offset_of_array (roll-ArrayInit (record { at = at; inits = inits; trailing = trailing })) ≡ at
unfolding first_offset_of_creation first_offset_of_expr first_offset_of_init first_offset_of_operand first_offset_of_array
first_offset_of_array-made at inits trailing = fold-roll-ArrayInit ℕ ℕ ℕ ℕ ℕ creation_first expr_first init_first operand_first array_first (record { at = at; inits = inits; trailing = trailing })
