-- The heights of expressions by their parts.
use Rattle.std.proofs.Common.{ap, ◌∙◌}
use Rattle.std.specs.Prelude.{◌≡◌, Bool, List, map, max, suc, ℕ}
use Rattle.jc_lexer.specs.declared.token.TokenKind.{TokenKind}
use Rattle.jc_tree.specs.declared.expression.ArrayInit.{ArrayInit, fold-roll-ArrayInit, fold_out-ArrayInit, map-ArrayInit, out-ArrayInit, roll-ArrayInit}
use Rattle.jc_tree.specs.declared.expression.AssignOp.{AssignOp}
use Rattle.jc_tree.specs.declared.expression.BinaryOp.{BinaryOp}
use Rattle.jc_tree.specs.declared.expression.Creation.{Creation, Creation-F, fold_out-Creation, map-Creation, out-Creation}
use Rattle.jc_tree.specs.declared.expression.Creation.TheVariants as anCreation
use Rattle.jc_tree.specs.declared.expression.Expr.{Expr, Expr-F, fold_out-Expr, map-Expr, out-Expr}
use Rattle.jc_tree.specs.declared.expression.Expr.TheVariants as anExpr
use Rattle.jc_tree.specs.declared.expression.Init.{Init, Init-F, fold_out-Init, map-Init, out-Init}
use Rattle.jc_tree.specs.declared.expression.Init.TheVariants as anInit
use Rattle.jc_tree.specs.declared.expression.Literal.{Literal}
use Rattle.jc_tree.specs.declared.expression.Operand.{Operand, Operand-F, fold_out-Operand, map-Operand, out-Operand}
use Rattle.jc_tree.specs.declared.expression.Operand.TheVariants as anOperand
use Rattle.jc_tree.specs.declared.expression.PostfixOp.{PostfixOp}
use Rattle.jc_tree.specs.declared.expression.PrefixOp.{PrefixOp}
use Rattle.jc_tree.specs.declared.expression.Skip.{Skip, fold-roll-Skip, fold_out-Skip, map-Skip, out-Skip, roll-Skip}
use Rattle.jc_tree.specs.declared.expression.SkipPart.{SkipPart, SkipPart-F, fold_out-SkipPart, map-SkipPart, out-SkipPart}
use Rattle.jc_tree.specs.declared.expression.SkipPart.TheVariants as anSkipPart
use Rattle.jc_tree.specs.declared.name.Ident.{Ident}
use Rattle.jc_tree.specs.declared.types.BaseTree.{BaseTree}
use Rattle.jc_tree.specs.declared.types.ClassTree.{ClassTree}
use Rattle.jc_tree.specs.declared.types.TypeArg.{TypeArg}
use Rattle.jc_tree.specs.declared.types.TypeTree.{TypeTree}
use Rattle.jc_tree.specs.Heights.{arg_height, array_height, array_step, base_height, class_height, creation_height, creation_step, expr_height, expr_step, init_height, init_step, most, operand_height, operand_step, skip_height, skip_part_height, skip_part_step, skip_step, type_height}

pub skip_part_height-out : (node : SkipPart) → skip_part_height node ≡ skip_part_step (map-SkipPart SkipPart Skip ℕ ℕ skip_part_height skip_height (out-SkipPart node))
unfolding skip_part_height skip_height
skip_part_height-out node = fold_out-SkipPart ℕ ℕ skip_part_step skip_step node

skip_part_height-at : (node : SkipPart) (l : SkipPart-F SkipPart Skip) → out-SkipPart node ≡ l → skip_part_height node ≡ skip_part_step (map-SkipPart SkipPart Skip ℕ ℕ skip_part_height skip_height l)
skip_part_height-at node l e = skip_part_height-out node ∙ ap (λ (l : SkipPart-F SkipPart Skip). skip_part_step (map-SkipPart SkipPart Skip ℕ ℕ skip_part_height skip_height l)) e

pub skip_part_height-Inner : (it : Skip) → skip_part_height (anSkipPart.Inner it) ≡ skip_height it
skip_part_height-Inner it = skip_part_height-at (anSkipPart.Inner it) _ (anSkipPart.outs-Inner it)

pub skip_part_height-Token : (it : TokenKind) → skip_part_height (anSkipPart.Token it) ≡ 0
skip_part_height-Token it = skip_part_height-at (anSkipPart.Token it) _ (anSkipPart.outs-Token it)

pub skip_height-out : (node : Skip) → skip_height node ≡ skip_step (map-Skip SkipPart Skip ℕ ℕ skip_part_height skip_height (out-Skip node))
unfolding skip_part_height skip_height
skip_height-out node = fold_out-Skip ℕ ℕ skip_part_step skip_step node

pub skip_height-parts : (node : Skip) → skip_height node ≡ suc (most (map skip_part_height (out-Skip node).parts))
skip_height-parts node = skip_height-out node

pub skip_height-made : (parts : List SkipPart) → skip_height (roll-Skip (record { parts = parts })) ≡ suc (most (map skip_part_height parts))
unfolding skip_part_height skip_height
skip_height-made parts = fold-roll-Skip ℕ ℕ skip_part_step skip_step (record { parts = parts })

pub creation_height-out : (node : Creation) → creation_height node ≡ creation_step (map-Creation Creation Expr Init Operand ArrayInit ℕ ℕ ℕ ℕ ℕ creation_height expr_height init_height operand_height array_height (out-Creation node))
unfolding creation_height expr_height init_height operand_height array_height
creation_height-out node = fold_out-Creation ℕ ℕ ℕ ℕ ℕ creation_step expr_step init_step operand_step array_step node

creation_height-at : (node : Creation) (l : Creation-F Creation Expr Init Operand ArrayInit) → out-Creation node ≡ l → creation_height node ≡ creation_step (map-Creation Creation Expr Init Operand ArrayInit ℕ ℕ ℕ ℕ ℕ creation_height expr_height init_height operand_height array_height l)
creation_height-at node l e = creation_height-out node ∙ ap (λ (l : Creation-F Creation Expr Init Operand ArrayInit). creation_step (map-Creation Creation Expr Init Operand ArrayInit ℕ ℕ ℕ ℕ ℕ creation_height expr_height init_height operand_height array_height l)) e

pub creation_height-Object : (class : ClassTree) (diamond : Bool) (actuals : List Expr) (body : List Skip) → creation_height (anCreation.Object class diamond actuals body) ≡ max (max (class_height class) (most (map expr_height actuals))) (most (map skip_height body))
creation_height-Object class diamond actuals body = creation_height-at (anCreation.Object class diamond actuals body) _ (anCreation.outs-Object class diamond actuals body)

pub creation_height-Sized : (element : BaseTree) (first : Expr) (more : List Expr) (dims : ℕ) → creation_height (anCreation.Sized element first more dims) ≡ max (max (base_height element) (expr_height first)) (most (map expr_height more))
creation_height-Sized element first more dims = creation_height-at (anCreation.Sized element first more dims) _ (anCreation.outs-Sized element first more dims)

pub creation_height-Initialised : (element : BaseTree) (dims : ℕ) (init : ArrayInit) → creation_height (anCreation.Initialised element dims init) ≡ max (base_height element) (array_height init)
creation_height-Initialised element dims init = creation_height-at (anCreation.Initialised element dims init) _ (anCreation.outs-Initialised element dims init)

pub expr_height-out : (node : Expr) → expr_height node ≡ expr_step (map-Expr Creation Expr Init Operand ArrayInit ℕ ℕ ℕ ℕ ℕ creation_height expr_height init_height operand_height array_height (out-Expr node))
unfolding creation_height expr_height init_height operand_height array_height
expr_height-out node = fold_out-Expr ℕ ℕ ℕ ℕ ℕ creation_step expr_step init_step operand_step array_step node

expr_height-at : (node : Expr) (l : Expr-F Creation Expr Init Operand ArrayInit) → out-Expr node ≡ l → expr_height node ≡ expr_step (map-Expr Creation Expr Init Operand ArrayInit ℕ ℕ ℕ ℕ ℕ creation_height expr_height init_height operand_height array_height l)
expr_height-at node l e = expr_height-out node ∙ ap (λ (l : Expr-F Creation Expr Init Operand ArrayInit). expr_step (map-Expr Creation Expr Init Operand ArrayInit ℕ ℕ ℕ ℕ ℕ creation_height expr_height init_height operand_height array_height l)) e

pub expr_height-Assign : (target : Expr) (op : AssignOp) (value : Expr) → expr_height (anExpr.Assign target op value) ≡ suc (max (expr_height target) (expr_height value))
expr_height-Assign target op value = expr_height-at (anExpr.Assign target op value) _ (anExpr.outs-Assign target op value)

pub expr_height-Conditional : (test : Expr) (then : Expr) (otherwise : Expr) → expr_height (anExpr.Conditional test then otherwise) ≡ suc (max (max (expr_height test) (expr_height then)) (expr_height otherwise))
expr_height-Conditional test then otherwise = expr_height-at (anExpr.Conditional test then otherwise) _ (anExpr.outs-Conditional test then otherwise)

pub expr_height-Chain : (first : Expr) (rest : List Operand) → expr_height (anExpr.Chain first rest) ≡ suc (max (expr_height first) (most (map operand_height rest)))
expr_height-Chain first rest = expr_height-at (anExpr.Chain first rest) _ (anExpr.outs-Chain first rest)

pub expr_height-Prefix : (first : PrefixOp) (more : List PrefixOp) (operand : Expr) → expr_height (anExpr.Prefix first more operand) ≡ suc (expr_height operand)
expr_height-Prefix first more operand = expr_height-at (anExpr.Prefix first more operand) _ (anExpr.outs-Prefix first more operand)

pub expr_height-Cast : (at : ℕ) (ty : TypeTree) (operand : Expr) → expr_height (anExpr.Cast at ty operand) ≡ suc (max (type_height ty) (expr_height operand))
expr_height-Cast at ty operand = expr_height-at (anExpr.Cast at ty operand) _ (anExpr.outs-Cast at ty operand)

pub expr_height-Postfix : (of_it : Expr) (op : PostfixOp) → expr_height (anExpr.Postfix of_it op) ≡ suc (expr_height of_it)
expr_height-Postfix of_it op = expr_height-at (anExpr.Postfix of_it op) _ (anExpr.outs-Postfix of_it op)

pub expr_height-Field : (of_it : Expr) (name : Ident) → expr_height (anExpr.Field of_it name) ≡ suc (expr_height of_it)
expr_height-Field of_it name = expr_height-at (anExpr.Field of_it name) _ (anExpr.outs-Field of_it name)

pub expr_height-Call : (of_it : Expr) (type_args : List TypeArg) (name : Ident) (actuals : List Expr) → expr_height (anExpr.Call of_it type_args name actuals) ≡ suc (max (max (expr_height of_it) (most (map arg_height type_args))) (most (map expr_height actuals)))
expr_height-Call of_it type_args name actuals = expr_height-at (anExpr.Call of_it type_args name actuals) _ (anExpr.outs-Call of_it type_args name actuals)

pub expr_height-Index : (of_it : Expr) (index : Expr) → expr_height (anExpr.Index of_it index) ≡ suc (max (expr_height of_it) (expr_height index))
expr_height-Index of_it index = expr_height-at (anExpr.Index of_it index) _ (anExpr.outs-Index of_it index)

pub expr_height-InnerNew : (of_it : Expr) (creation : Creation) → expr_height (anExpr.InnerNew of_it creation) ≡ suc (max (expr_height of_it) (creation_height creation))
expr_height-InnerNew of_it creation = expr_height-at (anExpr.InnerNew of_it creation) _ (anExpr.outs-InnerNew of_it creation)

pub expr_height-Literal : (at : ℕ) (value : Literal) → expr_height (anExpr.Literal at value) ≡ suc 0
expr_height-Literal at value = expr_height-at (anExpr.Literal at value) _ (anExpr.outs-Literal at value)

pub expr_height-This : (at : ℕ) → expr_height (anExpr.This at) ≡ suc 0
expr_height-This at = expr_height-at (anExpr.This at) _ (anExpr.outs-This at)

pub expr_height-SuperField : (at : ℕ) (name : Ident) → expr_height (anExpr.SuperField at name) ≡ suc 0
expr_height-SuperField at name = expr_height-at (anExpr.SuperField at name) _ (anExpr.outs-SuperField at name)

pub expr_height-SuperCall : (at : ℕ) (type_args : List TypeArg) (name : Ident) (actuals : List Expr) → expr_height (anExpr.SuperCall at type_args name actuals) ≡ suc (max (most (map arg_height type_args)) (most (map expr_height actuals)))
expr_height-SuperCall at type_args name actuals = expr_height-at (anExpr.SuperCall at type_args name actuals) _ (anExpr.outs-SuperCall at type_args name actuals)

pub expr_height-Paren : (at : ℕ) (inner : Expr) → expr_height (anExpr.Paren at inner) ≡ suc (expr_height inner)
expr_height-Paren at inner = expr_height-at (anExpr.Paren at inner) _ (anExpr.outs-Paren at inner)

pub expr_height-Name : (it : Ident) → expr_height (anExpr.Name it) ≡ suc 0
expr_height-Name it = expr_height-at (anExpr.Name it) _ (anExpr.outs-Name it)

pub expr_height-Invoke : (name : Ident) (actuals : List Expr) → expr_height (anExpr.Invoke name actuals) ≡ suc (most (map expr_height actuals))
expr_height-Invoke name actuals = expr_height-at (anExpr.Invoke name actuals) _ (anExpr.outs-Invoke name actuals)

pub expr_height-New : (at : ℕ) (creation : Creation) → expr_height (anExpr.New at creation) ≡ suc (creation_height creation)
expr_height-New at creation = expr_height-at (anExpr.New at creation) _ (anExpr.outs-New at creation)

pub expr_height-ClassLiteral : (ty : TypeTree) → expr_height (anExpr.ClassLiteral ty) ≡ suc (type_height ty)
expr_height-ClassLiteral ty = expr_height-at (anExpr.ClassLiteral ty) _ (anExpr.outs-ClassLiteral ty)

pub expr_height-VoidLiteral : (at : ℕ) → expr_height (anExpr.VoidLiteral at) ≡ suc 0
expr_height-VoidLiteral at = expr_height-at (anExpr.VoidLiteral at) _ (anExpr.outs-VoidLiteral at)

pub expr_height-OuterThis : (first : Ident) (more : List Ident) → expr_height (anExpr.OuterThis first more) ≡ suc 0
expr_height-OuterThis first more = expr_height-at (anExpr.OuterThis first more) _ (anExpr.outs-OuterThis first more)

pub init_height-out : (node : Init) → init_height node ≡ init_step (map-Init Creation Expr Init Operand ArrayInit ℕ ℕ ℕ ℕ ℕ creation_height expr_height init_height operand_height array_height (out-Init node))
unfolding creation_height expr_height init_height operand_height array_height
init_height-out node = fold_out-Init ℕ ℕ ℕ ℕ ℕ creation_step expr_step init_step operand_step array_step node

init_height-at : (node : Init) (l : Init-F Creation Expr Init Operand ArrayInit) → out-Init node ≡ l → init_height node ≡ init_step (map-Init Creation Expr Init Operand ArrayInit ℕ ℕ ℕ ℕ ℕ creation_height expr_height init_height operand_height array_height l)
init_height-at node l e = init_height-out node ∙ ap (λ (l : Init-F Creation Expr Init Operand ArrayInit). init_step (map-Init Creation Expr Init Operand ArrayInit ℕ ℕ ℕ ℕ ℕ creation_height expr_height init_height operand_height array_height l)) e

pub init_height-Value : (it : Expr) → init_height (anInit.Value it) ≡ expr_height it
init_height-Value it = init_height-at (anInit.Value it) _ (anInit.outs-Value it)

pub init_height-Nested : (it : ArrayInit) → init_height (anInit.Nested it) ≡ array_height it
init_height-Nested it = init_height-at (anInit.Nested it) _ (anInit.outs-Nested it)

pub operand_height-out : (node : Operand) → operand_height node ≡ operand_step (map-Operand Creation Expr Init Operand ArrayInit ℕ ℕ ℕ ℕ ℕ creation_height expr_height init_height operand_height array_height (out-Operand node))
unfolding creation_height expr_height init_height operand_height array_height
operand_height-out node = fold_out-Operand ℕ ℕ ℕ ℕ ℕ creation_step expr_step init_step operand_step array_step node

operand_height-at : (node : Operand) (l : Operand-F Creation Expr Init Operand ArrayInit) → out-Operand node ≡ l → operand_height node ≡ operand_step (map-Operand Creation Expr Init Operand ArrayInit ℕ ℕ ℕ ℕ ℕ creation_height expr_height init_height operand_height array_height l)
operand_height-at node l e = operand_height-out node ∙ ap (λ (l : Operand-F Creation Expr Init Operand ArrayInit). operand_step (map-Operand Creation Expr Init Operand ArrayInit ℕ ℕ ℕ ℕ ℕ creation_height expr_height init_height operand_height array_height l)) e

pub operand_height-Binary : (op : BinaryOp) (right : Expr) → operand_height (anOperand.Binary op right) ≡ expr_height right
operand_height-Binary op right = operand_height-at (anOperand.Binary op right) _ (anOperand.outs-Binary op right)

pub operand_height-InstanceOf : (ty : TypeTree) → operand_height (anOperand.InstanceOf ty) ≡ type_height ty
operand_height-InstanceOf ty = operand_height-at (anOperand.InstanceOf ty) _ (anOperand.outs-InstanceOf ty)

pub array_height-out : (node : ArrayInit) → array_height node ≡ array_step (map-ArrayInit Creation Expr Init Operand ArrayInit ℕ ℕ ℕ ℕ ℕ creation_height expr_height init_height operand_height array_height (out-ArrayInit node))
unfolding creation_height expr_height init_height operand_height array_height
array_height-out node = fold_out-ArrayInit ℕ ℕ ℕ ℕ ℕ creation_step expr_step init_step operand_step array_step node

pub array_height-parts : (node : ArrayInit) → array_height node ≡ suc (most (map init_height (out-ArrayInit node).inits))
array_height-parts node = array_height-out node

pub array_height-made : (at : ℕ) (inits : List Init) (trailing : Bool) → array_height (roll-ArrayInit (record { at = at; inits = inits; trailing = trailing })) ≡ suc (most (map init_height inits))
unfolding creation_height expr_height init_height operand_height array_height
array_height-made at inits trailing = fold-roll-ArrayInit ℕ ℕ ℕ ℕ ℕ creation_step expr_step init_step operand_step array_step (record { at = at; inits = inits; trailing = trailing })
