-- Which expressions the grammar has, by their parts.
use Rattle.std.proofs.Common.{ap, ◌∙◌}
use Rattle.std.specs.Prelude.{if◌then◌else◌, ◌&&◌, ◌+◌, ◌||◌, ◌≡◌, Bool, List, false, length, map, nat_le, not, true, ℕ}
use Rattle.jc_lexer.specs.declared.token.TokenKind.{TokenKind}
use Rattle.std.specs.List.{list_all}
use Rattle.jc_tree.specs.declared.expression.BinaryOp.TheVariants as binary_of
use Rattle.jc_tree.specs.declared.expression.ArrayInit.{ArrayInit, fold-roll-ArrayInit, fold_out-ArrayInit, map-ArrayInit, out-ArrayInit, roll-ArrayInit}
use Rattle.jc_tree.specs.declared.expression.AssignOp.{AssignOp}
use Rattle.jc_tree.specs.declared.expression.BinaryOp.{BinaryOp}
use Rattle.jc_tree.specs.declared.expression.Creation.{Creation, Creation-F, fold_out-Creation, map-Creation, out-Creation}
use Rattle.jc_tree.specs.declared.expression.Creation.TheVariants as anCreation
use Rattle.jc_tree.specs.declared.expression.Expr.{Expr, Expr-F, fold_out-Expr, map-Expr, out-Expr}
use Rattle.jc_tree.specs.declared.expression.Expr.TheVariants as anExpr
use Rattle.jc_tree.specs.declared.expression.Init.{Init, Init-F, fold_out-Init, map-Init, out-Init}
use Rattle.jc_tree.specs.declared.expression.Init.TheVariants as anInit
use Rattle.jc_tree.specs.declared.expression.Literal.{Literal}
use Rattle.jc_tree.specs.declared.expression.Operand.{Operand, Operand-F, fold_out-Operand, map-Operand, out-Operand}
use Rattle.jc_tree.specs.declared.expression.Operand.TheVariants as anOperand
use Rattle.jc_tree.specs.declared.expression.PostfixOp.{PostfixOp}
use Rattle.jc_tree.specs.declared.expression.PrefixOp.{PrefixOp}
use Rattle.jc_tree.specs.declared.expression.Skip.{Skip, fold-roll-Skip, fold_out-Skip, map-Skip, out-Skip, roll-Skip}
use Rattle.jc_tree.specs.declared.expression.SkipPart.{SkipPart, SkipPart-F, fold_out-SkipPart, map-SkipPart, out-SkipPart}
use Rattle.jc_tree.specs.declared.expression.SkipPart.TheVariants as anSkipPart
use Rattle.jc_tree.specs.declared.name.Ident.{Ident}
use Rattle.jc_tree.specs.declared.types.BaseTree.{BaseTree}
use Rattle.jc_tree.specs.declared.types.ClassTree.{ClassTree}
use Rattle.jc_tree.specs.declared.types.TypeArg.{TypeArg}
use Rattle.jc_tree.specs.declared.types.TypeTree.{TypeTree}
use Rattle.jc_grammar.specs.Shapes.{is_bare, is_less, takes_args, CreationShape, OperandShape, Shape, all_stand, all_true, any_level, array_step, binary_level, chain_shape, changes, conditional_level, creation_shape, creation_shape_step, ends_bare, expr_shape, expr_shape_step, init_step, instanceof_level, is_array, is_brace, is_init, is_primitive, is_skip, is_skip_part, operand_shape, operand_shape_step, plain_level, plainly, post_level, prefix_level, prime_level, skip_part_step, skip_step, stands, unary_level}

pub is_skip_part-out : (node : SkipPart) → is_skip_part node ≡ skip_part_step (map-SkipPart SkipPart Skip Bool Bool is_skip_part is_skip (out-SkipPart node))
unfolding is_skip_part is_skip
is_skip_part-out node = fold_out-SkipPart Bool Bool skip_part_step skip_step node

is_skip_part-at : (node : SkipPart) (l : SkipPart-F SkipPart Skip) → out-SkipPart node ≡ l → is_skip_part node ≡ skip_part_step (map-SkipPart SkipPart Skip Bool Bool is_skip_part is_skip l)
is_skip_part-at node l e = is_skip_part-out node ∙ ap (λ (l : SkipPart-F SkipPart Skip). skip_part_step (map-SkipPart SkipPart Skip Bool Bool is_skip_part is_skip l)) e

pub is_skip_part-Inner : (skip : Skip) → is_skip_part (anSkipPart.Inner skip) ≡ is_skip skip
is_skip_part-Inner skip = is_skip_part-at (anSkipPart.Inner skip) _ (anSkipPart.outs-Inner skip)

pub is_skip_part-Token : (kind : TokenKind) → is_skip_part (anSkipPart.Token kind) ≡ not (is_brace kind)
is_skip_part-Token kind = is_skip_part-at (anSkipPart.Token kind) _ (anSkipPart.outs-Token kind)

pub is_skip-out : (node : Skip) → is_skip node ≡ skip_step (map-Skip SkipPart Skip Bool Bool is_skip_part is_skip (out-Skip node))
unfolding is_skip_part is_skip
is_skip-out node = fold_out-Skip Bool Bool skip_part_step skip_step node

pub is_skip-parts : (node : Skip) → is_skip node ≡ all_true (map is_skip_part (out-Skip node).parts)
is_skip-parts node = is_skip-out node

pub is_skip-made : (parts : List SkipPart) → is_skip (roll-Skip (record { parts = parts })) ≡ all_true (map is_skip_part parts)
unfolding is_skip_part is_skip
is_skip-made parts = fold-roll-Skip Bool Bool skip_part_step skip_step (record { parts = parts })

pub creation_shape-out : (node : Creation) → creation_shape node ≡ creation_shape_step (map-Creation Creation Expr Init Operand ArrayInit CreationShape Shape Bool OperandShape Bool creation_shape expr_shape is_init operand_shape is_array (out-Creation node))
unfolding creation_shape expr_shape is_init operand_shape is_array
creation_shape-out node = fold_out-Creation CreationShape Shape Bool OperandShape Bool creation_shape_step expr_shape_step init_step operand_shape_step array_step node

creation_shape-at : (node : Creation) (l : Creation-F Creation Expr Init Operand ArrayInit) → out-Creation node ≡ l → creation_shape node ≡ creation_shape_step (map-Creation Creation Expr Init Operand ArrayInit CreationShape Shape Bool OperandShape Bool creation_shape expr_shape is_init operand_shape is_array l)
creation_shape-at node l e = creation_shape-out node ∙ ap (λ (l : Creation-F Creation Expr Init Operand ArrayInit). creation_shape_step (map-Creation Creation Expr Init Operand ArrayInit CreationShape Shape Bool OperandShape Bool creation_shape expr_shape is_init operand_shape is_array l)) e

pub creation_shape-Object : (class : ClassTree) (diamond : Bool) (actuals : List Expr) (body : List Skip) → creation_shape (anCreation.Object class diamond actuals body) ≡ record { good = (not diamond || ends_bare class) && all_stand any_level (map expr_shape actuals) && list_all is_skip body && nat_le (length body) 1; sized = false; object = true }
creation_shape-Object class diamond actuals body = creation_shape-at (anCreation.Object class diamond actuals body) _ (anCreation.outs-Object class diamond actuals body)

pub creation_shape-Sized : (element : BaseTree) (first : Expr) (more : List Expr) (dims : ℕ) → creation_shape (anCreation.Sized element first more dims) ≡ record { good = stands any_level (expr_shape first) && all_stand any_level (map expr_shape more); sized = true; object = false }
creation_shape-Sized element first more dims = creation_shape-at (anCreation.Sized element first more dims) _ (anCreation.outs-Sized element first more dims)

pub creation_shape-Initialised : (element : BaseTree) (dims : ℕ) (init : ArrayInit) → creation_shape (anCreation.Initialised element dims init) ≡ record { good = is_array init; sized = false; object = false }
creation_shape-Initialised element dims init = creation_shape-at (anCreation.Initialised element dims init) _ (anCreation.outs-Initialised element dims init)

pub expr_shape-out : (node : Expr) → expr_shape node ≡ expr_shape_step (map-Expr Creation Expr Init Operand ArrayInit CreationShape Shape Bool OperandShape Bool creation_shape expr_shape is_init operand_shape is_array (out-Expr node))
unfolding creation_shape expr_shape is_init operand_shape is_array
expr_shape-out node = fold_out-Expr CreationShape Shape Bool OperandShape Bool creation_shape_step expr_shape_step init_step operand_shape_step array_step node

expr_shape-at : (node : Expr) (l : Expr-F Creation Expr Init Operand ArrayInit) → out-Expr node ≡ l → expr_shape node ≡ expr_shape_step (map-Expr Creation Expr Init Operand ArrayInit CreationShape Shape Bool OperandShape Bool creation_shape expr_shape is_init operand_shape is_array l)
expr_shape-at node l e = expr_shape-out node ∙ ap (λ (l : Expr-F Creation Expr Init Operand ArrayInit). expr_shape_step (map-Expr Creation Expr Init Operand ArrayInit CreationShape Shape Bool OperandShape Bool creation_shape expr_shape is_init operand_shape is_array l)) e

pub expr_shape-Assign : (target : Expr) (op : AssignOp) (value : Expr) → expr_shape (anExpr.Assign target op value) ≡ plainly any_level (stands post_level (expr_shape target) && stands any_level (expr_shape value)) true
expr_shape-Assign target op value = expr_shape-at (anExpr.Assign target op value) _ (anExpr.outs-Assign target op value)

pub expr_shape-Conditional : (test : Expr) (then_it : Expr) (else_it : Expr) → expr_shape (anExpr.Conditional test then_it else_it) ≡ plainly conditional_level (stands (binary_level binary_of.OrElse) (expr_shape test) && stands any_level (expr_shape then_it) && stands conditional_level (expr_shape else_it)) false
expr_shape-Conditional test then_it else_it = expr_shape-at (anExpr.Conditional test then_it else_it) _ (anExpr.outs-Conditional test then_it else_it)

pub expr_shape-Chain : (first : Expr) (rest : List Operand) → expr_shape (anExpr.Chain first rest) ≡ chain_shape (expr_shape first) (map operand_shape rest)
expr_shape-Chain first rest = expr_shape-at (anExpr.Chain first rest) _ (anExpr.outs-Chain first rest)

pub expr_shape-Prefix : (first : PrefixOp) (more : List PrefixOp) (operand : Expr) → expr_shape (anExpr.Prefix first more operand) ≡ record { level = prefix_level first.sign; good = stands plain_level (expr_shape operand) && not (expr_shape operand).prefix; prefix = true; sized = false; effect = changes first.sign }
expr_shape-Prefix first more operand = expr_shape-at (anExpr.Prefix first more operand) _ (anExpr.outs-Prefix first more operand)

pub expr_shape-Cast : (at : ℕ) (ty : TypeTree) (operand : Expr) → expr_shape (anExpr.Cast at ty operand) ≡ plainly plain_level (stands (if is_primitive ty then unary_level else plain_level) (expr_shape operand)) false
expr_shape-Cast at ty operand = expr_shape-at (anExpr.Cast at ty operand) _ (anExpr.outs-Cast at ty operand)

pub expr_shape-Postfix : (of_it : Expr) (op : PostfixOp) → expr_shape (anExpr.Postfix of_it op) ≡ plainly post_level (stands post_level (expr_shape of_it)) true
expr_shape-Postfix of_it op = expr_shape-at (anExpr.Postfix of_it op) _ (anExpr.outs-Postfix of_it op)

pub expr_shape-Field : (of_it : Expr) (name : Ident) → expr_shape (anExpr.Field of_it name) ≡ plainly prime_level (stands prime_level (expr_shape of_it)) false
expr_shape-Field of_it name = expr_shape-at (anExpr.Field of_it name) _ (anExpr.outs-Field of_it name)

pub expr_shape-Call : (of_it : Expr) (type_args : List TypeArg) (name : Ident) (actuals : List Expr) → expr_shape (anExpr.Call of_it type_args name actuals) ≡ plainly prime_level (stands prime_level (expr_shape of_it) && all_stand any_level (map expr_shape actuals)) true
expr_shape-Call of_it type_args name actuals = expr_shape-at (anExpr.Call of_it type_args name actuals) _ (anExpr.outs-Call of_it type_args name actuals)

pub expr_shape-Index : (of_it : Expr) (index : Expr) → expr_shape (anExpr.Index of_it index) ≡ plainly prime_level (stands prime_level (expr_shape of_it) && not (expr_shape of_it).sized && stands any_level (expr_shape index)) false
expr_shape-Index of_it index = expr_shape-at (anExpr.Index of_it index) _ (anExpr.outs-Index of_it index)

pub expr_shape-InnerNew : (of_it : Expr) (creation : Creation) → expr_shape (anExpr.InnerNew of_it creation) ≡ record { level = prime_level; good = stands prime_level (expr_shape of_it) && (creation_shape creation).good; prefix = false; sized = (creation_shape creation).sized; effect = (creation_shape creation).object }
expr_shape-InnerNew of_it creation = expr_shape-at (anExpr.InnerNew of_it creation) _ (anExpr.outs-InnerNew of_it creation)

pub expr_shape-Literal : (at : ℕ) (value : Literal) → expr_shape (anExpr.Literal at value) ≡ plainly prime_level true false
expr_shape-Literal at value = expr_shape-at (anExpr.Literal at value) _ (anExpr.outs-Literal at value)

pub expr_shape-This : (at : ℕ) → expr_shape (anExpr.This at) ≡ plainly prime_level true false
expr_shape-This at = expr_shape-at (anExpr.This at) _ (anExpr.outs-This at)

pub expr_shape-SuperField : (at : ℕ) (name : Ident) → expr_shape (anExpr.SuperField at name) ≡ plainly prime_level true false
expr_shape-SuperField at name = expr_shape-at (anExpr.SuperField at name) _ (anExpr.outs-SuperField at name)

pub expr_shape-SuperCall : (at : ℕ) (type_args : List TypeArg) (name : Ident) (actuals : List Expr) → expr_shape (anExpr.SuperCall at type_args name actuals) ≡ plainly prime_level (all_stand any_level (map expr_shape actuals)) true
expr_shape-SuperCall at type_args name actuals = expr_shape-at (anExpr.SuperCall at type_args name actuals) _ (anExpr.outs-SuperCall at type_args name actuals)

pub expr_shape-Paren : (at : ℕ) (inner : Expr) → expr_shape (anExpr.Paren at inner) ≡ plainly prime_level (stands any_level (expr_shape inner)) false
expr_shape-Paren at inner = expr_shape-at (anExpr.Paren at inner) _ (anExpr.outs-Paren at inner)

pub expr_shape-Name : (name : Ident) → expr_shape (anExpr.Name name) ≡ plainly prime_level true false
expr_shape-Name name = expr_shape-at (anExpr.Name name) _ (anExpr.outs-Name name)

pub expr_shape-Invoke : (name : Ident) (actuals : List Expr) → expr_shape (anExpr.Invoke name actuals) ≡ plainly prime_level (all_stand any_level (map expr_shape actuals)) true
expr_shape-Invoke name actuals = expr_shape-at (anExpr.Invoke name actuals) _ (anExpr.outs-Invoke name actuals)

pub expr_shape-New : (at : ℕ) (creation : Creation) → expr_shape (anExpr.New at creation) ≡ record { level = prime_level; good = (creation_shape creation).good; prefix = false; sized = (creation_shape creation).sized; effect = (creation_shape creation).object }
expr_shape-New at creation = expr_shape-at (anExpr.New at creation) _ (anExpr.outs-New at creation)

pub expr_shape-ClassLiteral : (ty : TypeTree) → expr_shape (anExpr.ClassLiteral ty) ≡ plainly prime_level (is_bare ty) false
expr_shape-ClassLiteral ty = expr_shape-at (anExpr.ClassLiteral ty) _ (anExpr.outs-ClassLiteral ty)

pub expr_shape-VoidLiteral : (at : ℕ) → expr_shape (anExpr.VoidLiteral at) ≡ plainly prime_level true false
expr_shape-VoidLiteral at = expr_shape-at (anExpr.VoidLiteral at) _ (anExpr.outs-VoidLiteral at)

pub expr_shape-OuterThis : (first : Ident) (more : List Ident) → expr_shape (anExpr.OuterThis first more) ≡ plainly prime_level true false
expr_shape-OuterThis first more = expr_shape-at (anExpr.OuterThis first more) _ (anExpr.outs-OuterThis first more)

pub is_init-out : (node : Init) → is_init node ≡ init_step (map-Init Creation Expr Init Operand ArrayInit CreationShape Shape Bool OperandShape Bool creation_shape expr_shape is_init operand_shape is_array (out-Init node))
unfolding creation_shape expr_shape is_init operand_shape is_array
is_init-out node = fold_out-Init CreationShape Shape Bool OperandShape Bool creation_shape_step expr_shape_step init_step operand_shape_step array_step node

is_init-at : (node : Init) (l : Init-F Creation Expr Init Operand ArrayInit) → out-Init node ≡ l → is_init node ≡ init_step (map-Init Creation Expr Init Operand ArrayInit CreationShape Shape Bool OperandShape Bool creation_shape expr_shape is_init operand_shape is_array l)
is_init-at node l e = is_init-out node ∙ ap (λ (l : Init-F Creation Expr Init Operand ArrayInit). init_step (map-Init Creation Expr Init Operand ArrayInit CreationShape Shape Bool OperandShape Bool creation_shape expr_shape is_init operand_shape is_array l)) e

pub is_init-Value : (expr : Expr) → is_init (anInit.Value expr) ≡ stands any_level (expr_shape expr)
is_init-Value expr = is_init-at (anInit.Value expr) _ (anInit.outs-Value expr)

pub is_init-Nested : (array : ArrayInit) → is_init (anInit.Nested array) ≡ is_array array
is_init-Nested array = is_init-at (anInit.Nested array) _ (anInit.outs-Nested array)

pub operand_shape-out : (node : Operand) → operand_shape node ≡ operand_shape_step (map-Operand Creation Expr Init Operand ArrayInit CreationShape Shape Bool OperandShape Bool creation_shape expr_shape is_init operand_shape is_array (out-Operand node))
unfolding creation_shape expr_shape is_init operand_shape is_array
operand_shape-out node = fold_out-Operand CreationShape Shape Bool OperandShape Bool creation_shape_step expr_shape_step init_step operand_shape_step array_step node

operand_shape-at : (node : Operand) (l : Operand-F Creation Expr Init Operand ArrayInit) → out-Operand node ≡ l → operand_shape node ≡ operand_shape_step (map-Operand Creation Expr Init Operand ArrayInit CreationShape Shape Bool OperandShape Bool creation_shape expr_shape is_init operand_shape is_array l)
operand_shape-at node l e = operand_shape-out node ∙ ap (λ (l : Operand-F Creation Expr Init Operand ArrayInit). operand_shape_step (map-Operand Creation Expr Init Operand ArrayInit CreationShape Shape Bool OperandShape Bool creation_shape expr_shape is_init operand_shape is_array l)) e

pub operand_shape-Binary : (op : BinaryOp) (right : Expr) → operand_shape (anOperand.Binary op right) ≡ record { level = binary_level op; good = stands (binary_level op + 1) (expr_shape right); bare = false; less = is_less op }
operand_shape-Binary op right = operand_shape-at (anOperand.Binary op right) _ (anOperand.outs-Binary op right)

pub operand_shape-InstanceOf : (ty : TypeTree) → operand_shape (anOperand.InstanceOf ty) ≡ record { level = instanceof_level; good = true; bare = takes_args ty; less = false }
operand_shape-InstanceOf ty = operand_shape-at (anOperand.InstanceOf ty) _ (anOperand.outs-InstanceOf ty)

pub is_array-out : (node : ArrayInit) → is_array node ≡ array_step (map-ArrayInit Creation Expr Init Operand ArrayInit CreationShape Shape Bool OperandShape Bool creation_shape expr_shape is_init operand_shape is_array (out-ArrayInit node))
unfolding creation_shape expr_shape is_init operand_shape is_array
is_array-out node = fold_out-ArrayInit CreationShape Shape Bool OperandShape Bool creation_shape_step expr_shape_step init_step operand_shape_step array_step node

pub is_array-parts : (node : ArrayInit) → is_array node ≡ all_true (map is_init (out-ArrayInit node).inits)
is_array-parts node = is_array-out node

pub is_array-made : (at : ℕ) (inits : List Init) (trailing : Bool) → is_array (roll-ArrayInit (record { at = at; inits = inits; trailing = trailing })) ≡ all_true (map is_init inits)
unfolding creation_shape expr_shape is_init operand_shape is_array
is_array-made at inits trailing = fold-roll-ArrayInit CreationShape Shape Bool OperandShape Bool creation_shape_step expr_shape_step init_step operand_shape_step array_step (record { at = at; inits = inits; trailing = trailing })
