-- The types that expressions write, by their parts.
use Rattle.std.proofs.Common.{◌≡◌, ℕ, Bool, List, map, ap, ◌∙◌}
use Rattle.jc_tree.specs.declared.expression.ArrayInit.{ArrayInit, out-ArrayInit, map-ArrayInit, fold_out-ArrayInit}
use Rattle.jc_tree.specs.declared.expression.AssignOp.{AssignOp}
use Rattle.jc_tree.specs.declared.expression.BinaryOp.{BinaryOp}
use Rattle.jc_tree.specs.declared.expression.Creation.TheVariants as anCreation
use Rattle.jc_tree.specs.declared.expression.Creation.{Creation, out-Creation, map-Creation, fold_out-Creation, Creation-F}
use Rattle.jc_tree.specs.declared.expression.Expr.TheVariants as anExpr
use Rattle.jc_tree.specs.declared.expression.Expr.{Expr, out-Expr, map-Expr, fold_out-Expr, Expr-F}
use Rattle.jc_tree.specs.declared.expression.Init.TheVariants as anInit
use Rattle.jc_tree.specs.declared.expression.Init.{Init, out-Init, map-Init, fold_out-Init, Init-F}
use Rattle.jc_tree.specs.declared.expression.Literal.{Literal}
use Rattle.jc_tree.specs.declared.expression.Operand.TheVariants as anOperand
use Rattle.jc_tree.specs.declared.expression.Operand.{Operand, out-Operand, map-Operand, fold_out-Operand, Operand-F}
use Rattle.jc_tree.specs.declared.expression.PostfixOp.{PostfixOp}
use Rattle.jc_tree.specs.declared.expression.PrefixOp.{PrefixOp}
use Rattle.jc_tree.specs.declared.expression.Skip.{Skip}
use Rattle.jc_tree.specs.declared.name.Ident.{Ident}
use Rattle.jc_tree.specs.declared.types.BaseTree.{BaseTree}
use Rattle.jc_tree.specs.declared.types.ClassTree.{ClassTree}
use Rattle.jc_tree.specs.declared.types.TypeArg.TheVariants as anTypeArg
use Rattle.jc_tree.specs.declared.types.TypeArg.{TypeArg, TypeArg-F}
use Rattle.jc_tree.specs.declared.types.TypeTree.{TypeTree}
use Rattle.jc_declares.specs.Sites.{Uses, use_of_arg, use_at_arg, uses_of_creation, uses_of_expr, uses_of_init, uses_of_operand, uses_of_array, creation_uses, expr_uses, init_uses, operand_uses, array_uses}

pub arg-Exact : (ty : TypeTree) → use_of_arg (anTypeArg.Exact ty) ≡ use_at_arg (TypeArg-F.Exact ty)
arg-Exact ty = ap use_at_arg (anTypeArg.outs-Exact ty)

pub arg-Any : (at : ℕ) → use_of_arg (anTypeArg.Any at) ≡ use_at_arg (TypeArg-F.Any at)
arg-Any at = ap use_at_arg (anTypeArg.outs-Any at)

pub arg-Extends : (at : ℕ) (bound : TypeTree) → use_of_arg (anTypeArg.Extends at bound) ≡ use_at_arg (TypeArg-F.Extends at bound)
arg-Extends at bound = ap use_at_arg (anTypeArg.outs-Extends at bound)

pub arg-Super : (at : ℕ) (bound : TypeTree) → use_of_arg (anTypeArg.Super at bound) ≡ use_at_arg (TypeArg-F.Super at bound)
arg-Super at bound = ap use_at_arg (anTypeArg.outs-Super at bound)

pub ruleset args = (arg-Exact, arg-Any, arg-Extends, arg-Super)

uses_of_creation-out : (node : Creation) → uses_of_creation node ≡ creation_uses (map-Creation Creation Expr Init Operand ArrayInit Uses Uses Uses Uses Uses uses_of_creation uses_of_expr uses_of_init uses_of_operand uses_of_array (out-Creation node))
unfolding uses_of_creation uses_of_expr uses_of_init uses_of_operand uses_of_array
uses_of_creation-out node = fold_out-Creation Uses Uses Uses Uses Uses creation_uses expr_uses init_uses operand_uses array_uses node

uses_of_creation-at : (node : Creation) (l : Creation-F Creation Expr Init Operand ArrayInit) → out-Creation node ≡ l → uses_of_creation node ≡ creation_uses (map-Creation Creation Expr Init Operand ArrayInit Uses Uses Uses Uses Uses uses_of_creation uses_of_expr uses_of_init uses_of_operand uses_of_array l)
uses_of_creation-at node l e = uses_of_creation-out node ∙ ap (λ (l : Creation-F Creation Expr Init Operand ArrayInit). creation_uses (map-Creation Creation Expr Init Operand ArrayInit Uses Uses Uses Uses Uses uses_of_creation uses_of_expr uses_of_init uses_of_operand uses_of_array l)) e

pub uses_of_creation-Object : (class : ClassTree) (diamond : Bool) (actuals : List Expr) (body : List Skip) → uses_of_creation (anCreation.Object class diamond actuals body) ≡ creation_uses (Creation-F.Object class diamond (map uses_of_expr actuals) body)
uses_of_creation-Object class diamond actuals body = uses_of_creation-at (anCreation.Object class diamond actuals body) _ (anCreation.outs-Object class diamond actuals body)

pub uses_of_creation-Sized : (element : BaseTree) (first : Expr) (more : List Expr) (dims : ℕ) → uses_of_creation (anCreation.Sized element first more dims) ≡ creation_uses (Creation-F.Sized element (uses_of_expr first) (map uses_of_expr more) dims)
uses_of_creation-Sized element first more dims = uses_of_creation-at (anCreation.Sized element first more dims) _ (anCreation.outs-Sized element first more dims)

pub uses_of_creation-Initialised : (element : BaseTree) (dims : ℕ) (init : ArrayInit) → uses_of_creation (anCreation.Initialised element dims init) ≡ creation_uses (Creation-F.Initialised element dims (uses_of_array init))
uses_of_creation-Initialised element dims init = uses_of_creation-at (anCreation.Initialised element dims init) _ (anCreation.outs-Initialised element dims init)

uses_of_expr-out : (node : Expr) → uses_of_expr node ≡ expr_uses (map-Expr Creation Expr Init Operand ArrayInit Uses Uses Uses Uses Uses uses_of_creation uses_of_expr uses_of_init uses_of_operand uses_of_array (out-Expr node))
unfolding uses_of_creation uses_of_expr uses_of_init uses_of_operand uses_of_array
uses_of_expr-out node = fold_out-Expr Uses Uses Uses Uses Uses creation_uses expr_uses init_uses operand_uses array_uses node

uses_of_expr-at : (node : Expr) (l : Expr-F Creation Expr Init Operand ArrayInit) → out-Expr node ≡ l → uses_of_expr node ≡ expr_uses (map-Expr Creation Expr Init Operand ArrayInit Uses Uses Uses Uses Uses uses_of_creation uses_of_expr uses_of_init uses_of_operand uses_of_array l)
uses_of_expr-at node l e = uses_of_expr-out node ∙ ap (λ (l : Expr-F Creation Expr Init Operand ArrayInit). expr_uses (map-Expr Creation Expr Init Operand ArrayInit Uses Uses Uses Uses Uses uses_of_creation uses_of_expr uses_of_init uses_of_operand uses_of_array l)) e

pub uses_of_expr-Assign : (target : Expr) (op : AssignOp) (value : Expr) → uses_of_expr (anExpr.Assign target op value) ≡ expr_uses (Expr-F.Assign (uses_of_expr target) op (uses_of_expr value))
uses_of_expr-Assign target op value = uses_of_expr-at (anExpr.Assign target op value) _ (anExpr.outs-Assign target op value)

pub uses_of_expr-Conditional : (test : Expr) (then_it : Expr) (otherwise : Expr) → uses_of_expr (anExpr.Conditional test then_it otherwise) ≡ expr_uses (Expr-F.Conditional (uses_of_expr test) (uses_of_expr then_it) (uses_of_expr otherwise))
uses_of_expr-Conditional test then_it otherwise = uses_of_expr-at (anExpr.Conditional test then_it otherwise) _ (anExpr.outs-Conditional test then_it otherwise)

pub uses_of_expr-Chain : (first : Expr) (rest : List Operand) → uses_of_expr (anExpr.Chain first rest) ≡ expr_uses (Expr-F.Chain (uses_of_expr first) (map uses_of_operand rest))
uses_of_expr-Chain first rest = uses_of_expr-at (anExpr.Chain first rest) _ (anExpr.outs-Chain first rest)

pub uses_of_expr-Prefix : (first : PrefixOp) (more : List PrefixOp) (operand : Expr) → uses_of_expr (anExpr.Prefix first more operand) ≡ expr_uses (Expr-F.Prefix first more (uses_of_expr operand))
uses_of_expr-Prefix first more operand = uses_of_expr-at (anExpr.Prefix first more operand) _ (anExpr.outs-Prefix first more operand)

pub uses_of_expr-Cast : (at : ℕ) (ty : TypeTree) (operand : Expr) → uses_of_expr (anExpr.Cast at ty operand) ≡ expr_uses (Expr-F.Cast at ty (uses_of_expr operand))
uses_of_expr-Cast at ty operand = uses_of_expr-at (anExpr.Cast at ty operand) _ (anExpr.outs-Cast at ty operand)

pub uses_of_expr-Postfix : (of_it : Expr) (op : PostfixOp) → uses_of_expr (anExpr.Postfix of_it op) ≡ expr_uses (Expr-F.Postfix (uses_of_expr of_it) op)
uses_of_expr-Postfix of_it op = uses_of_expr-at (anExpr.Postfix of_it op) _ (anExpr.outs-Postfix of_it op)

pub uses_of_expr-Field : (of_it : Expr) (name : Ident) → uses_of_expr (anExpr.Field of_it name) ≡ expr_uses (Expr-F.Field (uses_of_expr of_it) name)
uses_of_expr-Field of_it name = uses_of_expr-at (anExpr.Field of_it name) _ (anExpr.outs-Field of_it name)

pub uses_of_expr-Call : (of_it : Expr) (type_args : List TypeArg) (name : Ident) (actuals : List Expr) → uses_of_expr (anExpr.Call of_it type_args name actuals) ≡ expr_uses (Expr-F.Call (uses_of_expr of_it) type_args name (map uses_of_expr actuals))
uses_of_expr-Call of_it type_args name actuals = uses_of_expr-at (anExpr.Call of_it type_args name actuals) _ (anExpr.outs-Call of_it type_args name actuals)

pub uses_of_expr-Index : (of_it : Expr) (index : Expr) → uses_of_expr (anExpr.Index of_it index) ≡ expr_uses (Expr-F.Index (uses_of_expr of_it) (uses_of_expr index))
uses_of_expr-Index of_it index = uses_of_expr-at (anExpr.Index of_it index) _ (anExpr.outs-Index of_it index)

pub uses_of_expr-InnerNew : (of_it : Expr) (creation : Creation) → uses_of_expr (anExpr.InnerNew of_it creation) ≡ expr_uses (Expr-F.InnerNew (uses_of_expr of_it) (uses_of_creation creation))
uses_of_expr-InnerNew of_it creation = uses_of_expr-at (anExpr.InnerNew of_it creation) _ (anExpr.outs-InnerNew of_it creation)

pub uses_of_expr-Literal : (at : ℕ) (value : Literal) → uses_of_expr (anExpr.Literal at value) ≡ expr_uses (Expr-F.Literal at value)
uses_of_expr-Literal at value = uses_of_expr-at (anExpr.Literal at value) _ (anExpr.outs-Literal at value)

pub uses_of_expr-This : (at : ℕ) → uses_of_expr (anExpr.This at) ≡ expr_uses (Expr-F.This at)
uses_of_expr-This at = uses_of_expr-at (anExpr.This at) _ (anExpr.outs-This at)

pub uses_of_expr-SuperField : (at : ℕ) (name : Ident) → uses_of_expr (anExpr.SuperField at name) ≡ expr_uses (Expr-F.SuperField at name)
uses_of_expr-SuperField at name = uses_of_expr-at (anExpr.SuperField at name) _ (anExpr.outs-SuperField at name)

pub uses_of_expr-SuperCall : (at : ℕ) (type_args : List TypeArg) (name : Ident) (actuals : List Expr) → uses_of_expr (anExpr.SuperCall at type_args name actuals) ≡ expr_uses (Expr-F.SuperCall at type_args name (map uses_of_expr actuals))
uses_of_expr-SuperCall at type_args name actuals = uses_of_expr-at (anExpr.SuperCall at type_args name actuals) _ (anExpr.outs-SuperCall at type_args name actuals)

pub uses_of_expr-Paren : (at : ℕ) (inner : Expr) → uses_of_expr (anExpr.Paren at inner) ≡ expr_uses (Expr-F.Paren at (uses_of_expr inner))
uses_of_expr-Paren at inner = uses_of_expr-at (anExpr.Paren at inner) _ (anExpr.outs-Paren at inner)

pub uses_of_expr-Name : (it : Ident) → uses_of_expr (anExpr.Name it) ≡ expr_uses (Expr-F.Name it)
uses_of_expr-Name it = uses_of_expr-at (anExpr.Name it) _ (anExpr.outs-Name it)

pub uses_of_expr-Invoke : (name : Ident) (actuals : List Expr) → uses_of_expr (anExpr.Invoke name actuals) ≡ expr_uses (Expr-F.Invoke name (map uses_of_expr actuals))
uses_of_expr-Invoke name actuals = uses_of_expr-at (anExpr.Invoke name actuals) _ (anExpr.outs-Invoke name actuals)

pub uses_of_expr-New : (at : ℕ) (creation : Creation) → uses_of_expr (anExpr.New at creation) ≡ expr_uses (Expr-F.New at (uses_of_creation creation))
uses_of_expr-New at creation = uses_of_expr-at (anExpr.New at creation) _ (anExpr.outs-New at creation)

pub uses_of_expr-ClassLiteral : (ty : TypeTree) → uses_of_expr (anExpr.ClassLiteral ty) ≡ expr_uses (Expr-F.ClassLiteral ty)
uses_of_expr-ClassLiteral ty = uses_of_expr-at (anExpr.ClassLiteral ty) _ (anExpr.outs-ClassLiteral ty)

pub uses_of_expr-VoidLiteral : (at : ℕ) → uses_of_expr (anExpr.VoidLiteral at) ≡ expr_uses (Expr-F.VoidLiteral at)
uses_of_expr-VoidLiteral at = uses_of_expr-at (anExpr.VoidLiteral at) _ (anExpr.outs-VoidLiteral at)

pub uses_of_expr-OuterThis : (first : Ident) (more : List Ident) → uses_of_expr (anExpr.OuterThis first more) ≡ expr_uses (Expr-F.OuterThis first more)
uses_of_expr-OuterThis first more = uses_of_expr-at (anExpr.OuterThis first more) _ (anExpr.outs-OuterThis first more)

uses_of_init-out : (node : Init) → uses_of_init node ≡ init_uses (map-Init Creation Expr Init Operand ArrayInit Uses Uses Uses Uses Uses uses_of_creation uses_of_expr uses_of_init uses_of_operand uses_of_array (out-Init node))
unfolding uses_of_creation uses_of_expr uses_of_init uses_of_operand uses_of_array
uses_of_init-out node = fold_out-Init Uses Uses Uses Uses Uses creation_uses expr_uses init_uses operand_uses array_uses node

uses_of_init-at : (node : Init) (l : Init-F Creation Expr Init Operand ArrayInit) → out-Init node ≡ l → uses_of_init node ≡ init_uses (map-Init Creation Expr Init Operand ArrayInit Uses Uses Uses Uses Uses uses_of_creation uses_of_expr uses_of_init uses_of_operand uses_of_array l)
uses_of_init-at node l e = uses_of_init-out node ∙ ap (λ (l : Init-F Creation Expr Init Operand ArrayInit). init_uses (map-Init Creation Expr Init Operand ArrayInit Uses Uses Uses Uses Uses uses_of_creation uses_of_expr uses_of_init uses_of_operand uses_of_array l)) e

pub uses_of_init-Value : (it : Expr) → uses_of_init (anInit.Value it) ≡ init_uses (Init-F.Value (uses_of_expr it))
uses_of_init-Value it = uses_of_init-at (anInit.Value it) _ (anInit.outs-Value it)

pub uses_of_init-Nested : (it : ArrayInit) → uses_of_init (anInit.Nested it) ≡ init_uses (Init-F.Nested (uses_of_array it))
uses_of_init-Nested it = uses_of_init-at (anInit.Nested it) _ (anInit.outs-Nested it)

uses_of_operand-out : (node : Operand) → uses_of_operand node ≡ operand_uses (map-Operand Creation Expr Init Operand ArrayInit Uses Uses Uses Uses Uses uses_of_creation uses_of_expr uses_of_init uses_of_operand uses_of_array (out-Operand node))
unfolding uses_of_creation uses_of_expr uses_of_init uses_of_operand uses_of_array
uses_of_operand-out node = fold_out-Operand Uses Uses Uses Uses Uses creation_uses expr_uses init_uses operand_uses array_uses node

uses_of_operand-at : (node : Operand) (l : Operand-F Creation Expr Init Operand ArrayInit) → out-Operand node ≡ l → uses_of_operand node ≡ operand_uses (map-Operand Creation Expr Init Operand ArrayInit Uses Uses Uses Uses Uses uses_of_creation uses_of_expr uses_of_init uses_of_operand uses_of_array l)
uses_of_operand-at node l e = uses_of_operand-out node ∙ ap (λ (l : Operand-F Creation Expr Init Operand ArrayInit). operand_uses (map-Operand Creation Expr Init Operand ArrayInit Uses Uses Uses Uses Uses uses_of_creation uses_of_expr uses_of_init uses_of_operand uses_of_array l)) e

pub uses_of_operand-Binary : (op : BinaryOp) (right : Expr) → uses_of_operand (anOperand.Binary op right) ≡ operand_uses (Operand-F.Binary op (uses_of_expr right))
uses_of_operand-Binary op right = uses_of_operand-at (anOperand.Binary op right) _ (anOperand.outs-Binary op right)

pub uses_of_operand-InstanceOf : (ty : TypeTree) → uses_of_operand (anOperand.InstanceOf ty) ≡ operand_uses (Operand-F.InstanceOf ty)
uses_of_operand-InstanceOf ty = uses_of_operand-at (anOperand.InstanceOf ty) _ (anOperand.outs-InstanceOf ty)

uses_of_array-out : (node : ArrayInit) → uses_of_array node ≡ array_uses (map-ArrayInit Creation Expr Init Operand ArrayInit Uses Uses Uses Uses Uses uses_of_creation uses_of_expr uses_of_init uses_of_operand uses_of_array (out-ArrayInit node))
unfolding uses_of_creation uses_of_expr uses_of_init uses_of_operand uses_of_array
uses_of_array-out node = fold_out-ArrayInit Uses Uses Uses Uses Uses creation_uses expr_uses init_uses operand_uses array_uses node

pub uses_of_array-parts : (node : ArrayInit) → uses_of_array node ≡ array_uses (record { at = (out-ArrayInit node).at; inits = (map uses_of_init (out-ArrayInit node).inits); trailing = (out-ArrayInit node).trailing })
uses_of_array-parts node = uses_of_array-out node

pub ruleset expressions = (uses_of_creation-Object, uses_of_creation-Sized, uses_of_creation-Initialised, uses_of_expr-Assign, uses_of_expr-Conditional, uses_of_expr-Chain, uses_of_expr-Prefix, uses_of_expr-Cast, uses_of_expr-Postfix, uses_of_expr-Field, uses_of_expr-Call, uses_of_expr-Index, uses_of_expr-InnerNew, uses_of_expr-Literal, uses_of_expr-This, uses_of_expr-SuperField, uses_of_expr-SuperCall, uses_of_expr-Paren, uses_of_expr-Name, uses_of_expr-Invoke, uses_of_expr-New, uses_of_expr-ClassLiteral, uses_of_expr-VoidLiteral, uses_of_expr-OuterThis, uses_of_init-Value, uses_of_init-Nested, uses_of_operand-Binary, uses_of_operand-InstanceOf, uses_of_array-parts)
