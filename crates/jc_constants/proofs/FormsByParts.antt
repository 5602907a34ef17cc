-- Expressions as constant ones, by their parts.
use Rattle.std.proofs.Common.{◌≡◌, ℕ, List, map, Some, None, ap, ◌∙◌}
use Rattle.jc_tree.specs.declared.expression.ArrayInit.{ArrayInit}
use Rattle.jc_tree.specs.declared.expression.AssignOp.{AssignOp}
use Rattle.jc_tree.specs.declared.expression.BinaryOp.{BinaryOp}
use Rattle.jc_tree.specs.declared.expression.Creation.{Creation}
use Rattle.jc_tree.specs.declared.expression.Expr.TheVariants as anExpr
use Rattle.jc_tree.specs.declared.expression.Expr.{Expr, out-Expr, map-Expr, fold_out-Expr, Expr-F}
use Rattle.jc_tree.specs.declared.expression.Init.TheVariants as anInit
use Rattle.jc_tree.specs.declared.expression.Init.{Init}
use Rattle.jc_tree.specs.declared.expression.Literal.{Literal}
use Rattle.jc_tree.specs.declared.expression.Operand.TheVariants as anOperand
use Rattle.jc_tree.specs.declared.expression.Operand.{Operand, out-Operand, map-Operand, fold_out-Operand, Operand-F}
use Rattle.jc_tree.specs.declared.expression.PostfixOp.{PostfixOp}
use Rattle.jc_tree.specs.declared.expression.PrefixOp.{PrefixOp}
use Rattle.jc_tree.specs.declared.name.Ident.{Ident}
use Rattle.jc_tree.specs.declared.types.TypeArg.{TypeArg}
use Rattle.jc_tree.specs.declared.types.TypeTree.{TypeTree}
use Rattle.jc_declares.specs.declared.heads.Heads.{Heads}
use Rattle.jc_declares.specs.Looking.{Knowledge}
use Rattle.jc_declares.specs.Writing.{Reading}
use Rattle.jc_declares.specs.Constants.{Formed, Right, none_of_creation, expr_formed, none_of_init, operand_formed, none_of_array, formed_expr, constant_at, constant_of}
use Rattle.jc_constants.specs.Forms.{formed_creation, formed_init, formed_operand, formed_array}

module _ (H : Heads) (K : Knowledge) (file : ℕ) (r : Reading) where
  formed_expr-out : (node : Expr) → formed_expr H K file r node ≡ expr_formed H K file r (map-Expr Creation Expr Init Operand ArrayInit Formed Formed Formed Right Formed (formed_creation H K file r) (formed_expr H K file r) (formed_init H K file r) (formed_operand H K file r) (formed_array H K file r) (out-Expr node))
  unfolding formed_creation formed_expr formed_init formed_operand formed_array
  formed_expr-out node = fold_out-Expr Formed Formed Formed Right Formed none_of_creation (expr_formed H K file r) none_of_init operand_formed none_of_array node

  formed_expr-at : (node : Expr) (l : Expr-F Creation Expr Init Operand ArrayInit) → out-Expr node ≡ l → formed_expr H K file r node ≡ expr_formed H K file r (map-Expr Creation Expr Init Operand ArrayInit Formed Formed Formed Right Formed (formed_creation H K file r) (formed_expr H K file r) (formed_init H K file r) (formed_operand H K file r) (formed_array H K file r) l)
  formed_expr-at node l e = formed_expr-out node ∙ ap (λ (l : Expr-F Creation Expr Init Operand ArrayInit). expr_formed H K file r (map-Expr Creation Expr Init Operand ArrayInit Formed Formed Formed Right Formed (formed_creation H K file r) (formed_expr H K file r) (formed_init H K file r) (formed_operand H K file r) (formed_array H K file r) l)) e

  pub formed_expr-Assign : (target : Expr) (op : AssignOp) (value : Expr) → formed_expr H K file r (anExpr.Assign target op value) ≡ expr_formed H K file r (Expr-F.Assign (formed_expr H K file r target) op (formed_expr H K file r value))
  formed_expr-Assign target op value = formed_expr-at (anExpr.Assign target op value) _ (anExpr.outs-Assign target op value)

  pub formed_expr-Conditional : (test : Expr) (then_it : Expr) (otherwise : Expr) → formed_expr H K file r (anExpr.Conditional test then_it otherwise) ≡ expr_formed H K file r (Expr-F.Conditional (formed_expr H K file r test) (formed_expr H K file r then_it) (formed_expr H K file r otherwise))
  formed_expr-Conditional test then_it otherwise = formed_expr-at (anExpr.Conditional test then_it otherwise) _ (anExpr.outs-Conditional test then_it otherwise)

  pub formed_expr-Chain : (first : Expr) (rest : List Operand) → formed_expr H K file r (anExpr.Chain first rest) ≡ expr_formed H K file r (Expr-F.Chain (formed_expr H K file r first) (map (formed_operand H K file r) rest))
  formed_expr-Chain first rest = formed_expr-at (anExpr.Chain first rest) _ (anExpr.outs-Chain first rest)

  pub formed_expr-Prefix : (first : PrefixOp) (more : List PrefixOp) (operand : Expr) → formed_expr H K file r (anExpr.Prefix first more operand) ≡ expr_formed H K file r (Expr-F.Prefix first more (formed_expr H K file r operand))
  formed_expr-Prefix first more operand = formed_expr-at (anExpr.Prefix first more operand) _ (anExpr.outs-Prefix first more operand)

  pub formed_expr-Cast : (at : ℕ) (ty : TypeTree) (operand : Expr) → formed_expr H K file r (anExpr.Cast at ty operand) ≡ expr_formed H K file r (Expr-F.Cast at ty (formed_expr H K file r operand))
  formed_expr-Cast at ty operand = formed_expr-at (anExpr.Cast at ty operand) _ (anExpr.outs-Cast at ty operand)

  pub formed_expr-Postfix : (of_it : Expr) (op : PostfixOp) → formed_expr H K file r (anExpr.Postfix of_it op) ≡ expr_formed H K file r (Expr-F.Postfix (formed_expr H K file r of_it) op)
  formed_expr-Postfix of_it op = formed_expr-at (anExpr.Postfix of_it op) _ (anExpr.outs-Postfix of_it op)

  pub formed_expr-Field : (of_it : Expr) (name : Ident) → formed_expr H K file r (anExpr.Field of_it name) ≡ expr_formed H K file r (Expr-F.Field (formed_expr H K file r of_it) name)
  formed_expr-Field of_it name = formed_expr-at (anExpr.Field of_it name) _ (anExpr.outs-Field of_it name)

  pub formed_expr-Call : (of_it : Expr) (type_args : List TypeArg) (name : Ident) (actuals : List Expr) → formed_expr H K file r (anExpr.Call of_it type_args name actuals) ≡ expr_formed H K file r (Expr-F.Call (formed_expr H K file r of_it) type_args name (map (formed_expr H K file r) actuals))
  formed_expr-Call of_it type_args name actuals = formed_expr-at (anExpr.Call of_it type_args name actuals) _ (anExpr.outs-Call of_it type_args name actuals)

  pub formed_expr-Index : (of_it : Expr) (index : Expr) → formed_expr H K file r (anExpr.Index of_it index) ≡ expr_formed H K file r (Expr-F.Index (formed_expr H K file r of_it) (formed_expr H K file r index))
  formed_expr-Index of_it index = formed_expr-at (anExpr.Index of_it index) _ (anExpr.outs-Index of_it index)

  pub formed_expr-InnerNew : (of_it : Expr) (creation : Creation) → formed_expr H K file r (anExpr.InnerNew of_it creation) ≡ expr_formed H K file r (Expr-F.InnerNew (formed_expr H K file r of_it) (formed_creation H K file r creation))
  formed_expr-InnerNew of_it creation = formed_expr-at (anExpr.InnerNew of_it creation) _ (anExpr.outs-InnerNew of_it creation)

  pub formed_expr-Literal : (at : ℕ) (value : Literal) → formed_expr H K file r (anExpr.Literal at value) ≡ expr_formed H K file r (Expr-F.Literal at value)
  formed_expr-Literal at value = formed_expr-at (anExpr.Literal at value) _ (anExpr.outs-Literal at value)

  pub formed_expr-This : (at : ℕ) → formed_expr H K file r (anExpr.This at) ≡ expr_formed H K file r (Expr-F.This at)
  formed_expr-This at = formed_expr-at (anExpr.This at) _ (anExpr.outs-This at)

  pub formed_expr-SuperField : (at : ℕ) (name : Ident) → formed_expr H K file r (anExpr.SuperField at name) ≡ expr_formed H K file r (Expr-F.SuperField at name)
  formed_expr-SuperField at name = formed_expr-at (anExpr.SuperField at name) _ (anExpr.outs-SuperField at name)

  pub formed_expr-SuperCall : (at : ℕ) (type_args : List TypeArg) (name : Ident) (actuals : List Expr) → formed_expr H K file r (anExpr.SuperCall at type_args name actuals) ≡ expr_formed H K file r (Expr-F.SuperCall at type_args name (map (formed_expr H K file r) actuals))
  formed_expr-SuperCall at type_args name actuals = formed_expr-at (anExpr.SuperCall at type_args name actuals) _ (anExpr.outs-SuperCall at type_args name actuals)

  pub formed_expr-Paren : (at : ℕ) (inner : Expr) → formed_expr H K file r (anExpr.Paren at inner) ≡ expr_formed H K file r (Expr-F.Paren at (formed_expr H K file r inner))
  formed_expr-Paren at inner = formed_expr-at (anExpr.Paren at inner) _ (anExpr.outs-Paren at inner)

  pub formed_expr-Name : (it : Ident) → formed_expr H K file r (anExpr.Name it) ≡ expr_formed H K file r (Expr-F.Name it)
  formed_expr-Name it = formed_expr-at (anExpr.Name it) _ (anExpr.outs-Name it)

  pub formed_expr-Invoke : (name : Ident) (actuals : List Expr) → formed_expr H K file r (anExpr.Invoke name actuals) ≡ expr_formed H K file r (Expr-F.Invoke name (map (formed_expr H K file r) actuals))
  formed_expr-Invoke name actuals = formed_expr-at (anExpr.Invoke name actuals) _ (anExpr.outs-Invoke name actuals)

  pub formed_expr-New : (at : ℕ) (creation : Creation) → formed_expr H K file r (anExpr.New at creation) ≡ expr_formed H K file r (Expr-F.New at (formed_creation H K file r creation))
  formed_expr-New at creation = formed_expr-at (anExpr.New at creation) _ (anExpr.outs-New at creation)

  pub formed_expr-ClassLiteral : (ty : TypeTree) → formed_expr H K file r (anExpr.ClassLiteral ty) ≡ expr_formed H K file r (Expr-F.ClassLiteral ty)
  formed_expr-ClassLiteral ty = formed_expr-at (anExpr.ClassLiteral ty) _ (anExpr.outs-ClassLiteral ty)

  pub formed_expr-VoidLiteral : (at : ℕ) → formed_expr H K file r (anExpr.VoidLiteral at) ≡ expr_formed H K file r (Expr-F.VoidLiteral at)
  formed_expr-VoidLiteral at = formed_expr-at (anExpr.VoidLiteral at) _ (anExpr.outs-VoidLiteral at)

  pub formed_expr-OuterThis : (first : Ident) (more : List Ident) → formed_expr H K file r (anExpr.OuterThis first more) ≡ expr_formed H K file r (Expr-F.OuterThis first more)
  formed_expr-OuterThis first more = formed_expr-at (anExpr.OuterThis first more) _ (anExpr.outs-OuterThis first more)

  formed_operand-out : (node : Operand) → formed_operand H K file r node ≡ operand_formed (map-Operand Creation Expr Init Operand ArrayInit Formed Formed Formed Right Formed (formed_creation H K file r) (formed_expr H K file r) (formed_init H K file r) (formed_operand H K file r) (formed_array H K file r) (out-Operand node))
  unfolding formed_creation formed_expr formed_init formed_operand formed_array
  formed_operand-out node = fold_out-Operand Formed Formed Formed Right Formed none_of_creation (expr_formed H K file r) none_of_init operand_formed none_of_array node

  formed_operand-at : (node : Operand) (l : Operand-F Creation Expr Init Operand ArrayInit) → out-Operand node ≡ l → formed_operand H K file r node ≡ operand_formed (map-Operand Creation Expr Init Operand ArrayInit Formed Formed Formed Right Formed (formed_creation H K file r) (formed_expr H K file r) (formed_init H K file r) (formed_operand H K file r) (formed_array H K file r) l)
  formed_operand-at node l e = formed_operand-out node ∙ ap (λ (l : Operand-F Creation Expr Init Operand ArrayInit). operand_formed (map-Operand Creation Expr Init Operand ArrayInit Formed Formed Formed Right Formed (formed_creation H K file r) (formed_expr H K file r) (formed_init H K file r) (formed_operand H K file r) (formed_array H K file r) l)) e

  pub formed_operand-Binary : (op : BinaryOp) (right : Expr) → formed_operand H K file r (anOperand.Binary op right) ≡ operand_formed (Operand-F.Binary op (formed_expr H K file r right))
  formed_operand-Binary op right = formed_operand-at (anOperand.Binary op right) _ (anOperand.outs-Binary op right)

  pub formed_operand-InstanceOf : (ty : TypeTree) → formed_operand H K file r (anOperand.InstanceOf ty) ≡ operand_formed (Operand-F.InstanceOf ty)
  formed_operand-InstanceOf ty = formed_operand-at (anOperand.InstanceOf ty) _ (anOperand.outs-InstanceOf ty)

  pub constant_of-Value : (it : Expr) → constant_of H K file r (Some (anInit.Value it)) ≡ (formed_expr H K file r it).constant
  constant_of-Value it = ap (constant_at H K file r) (anInit.outs-Value it)

  pub constant_of-Nested : (it : ArrayInit) → constant_of H K file r (Some (anInit.Nested it)) ≡ None
  constant_of-Nested it = ap (constant_at H K file r) (anInit.outs-Nested it)

pub ruleset expressions = (formed_expr-Assign, formed_expr-Conditional, formed_expr-Chain, formed_expr-Prefix, formed_expr-Cast, formed_expr-Postfix, formed_expr-Field, formed_expr-Call, formed_expr-Index, formed_expr-InnerNew, formed_expr-Literal, formed_expr-This, formed_expr-SuperField, formed_expr-SuperCall, formed_expr-Paren, formed_expr-Name, formed_expr-Invoke, formed_expr-New, formed_expr-ClassLiteral, formed_expr-VoidLiteral, formed_expr-OuterThis)

pub ruleset operands = (formed_operand-Binary, formed_operand-InstanceOf)

pub ruleset initialisers = (constant_of-Value, constant_of-Nested)
