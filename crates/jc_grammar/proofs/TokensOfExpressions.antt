-- The tokens of expressions by their parts.
use Rattle.std.proofs.Common.{ap, ◌∙◌}
use Rattle.std.specs.Prelude.{◌∷◌, ◌≡◌, Bool, List, None, Some, map, ℕ}
use Rattle.jc_lexer.specs.declared.token.TokenKind.{TokenKind}
use Rattle.jc_lexer.specs.declared.token.Key.TheVariants as key_of
use Rattle.jc_lexer.specs.declared.token.Sign.TheVariants as sign_of
use Rattle.jc_tree.specs.declared.expression.ArrayInit.{ArrayInit, fold-roll-ArrayInit, fold_out-ArrayInit, map-ArrayInit, out-ArrayInit, roll-ArrayInit}
use Rattle.jc_tree.specs.declared.expression.AssignOp.{AssignOp}
use Rattle.jc_tree.specs.declared.expression.BinaryOp.{BinaryOp}
use Rattle.jc_tree.specs.declared.expression.Creation.{Creation, Creation-F, fold_out-Creation, map-Creation, out-Creation}
use Rattle.jc_tree.specs.declared.expression.Creation.TheVariants as anCreation
use Rattle.jc_tree.specs.declared.expression.Expr.{Expr, Expr-F, fold_out-Expr, map-Expr, out-Expr}
use Rattle.jc_tree.specs.declared.expression.Expr.TheVariants as anExpr
use Rattle.jc_tree.specs.declared.expression.Init.{Init, Init-F, fold_out-Init, map-Init, out-Init}
use Rattle.jc_tree.specs.declared.expression.Init.TheVariants as anInit
use Rattle.jc_tree.specs.declared.expression.Literal.{Literal}
use Rattle.jc_tree.specs.declared.expression.Operand.{Operand, Operand-F, fold_out-Operand, map-Operand, out-Operand}
use Rattle.jc_tree.specs.declared.expression.Operand.TheVariants as anOperand
use Rattle.jc_tree.specs.declared.expression.PostfixOp.{PostfixOp}
use Rattle.jc_tree.specs.declared.expression.PrefixOp.{PrefixOp}
use Rattle.jc_tree.specs.declared.expression.Skip.{Skip, fold-roll-Skip, fold_out-Skip, map-Skip, out-Skip, roll-Skip}
use Rattle.jc_tree.specs.declared.expression.SkipPart.{SkipPart, SkipPart-F, fold_out-SkipPart, map-SkipPart, out-SkipPart}
use Rattle.jc_tree.specs.declared.expression.SkipPart.TheVariants as anSkipPart
use Rattle.jc_tree.specs.declared.name.Ident.{Ident}
use Rattle.jc_tree.specs.declared.types.BaseTree.{BaseTree}
use Rattle.jc_tree.specs.declared.types.ClassTree.{ClassTree}
use Rattle.jc_tree.specs.declared.types.TypeArg.{TypeArg}
use Rattle.jc_tree.specs.declared.types.TypeTree.{TypeTree}
use Rattle.jc_grammar.specs.Expressions.{array_tokens, array_told, assign_tokens, binary_tokens, creation_tokens, creation_told, diamond_tokens, expr_tokens, expr_told, if_there, in_brackets, init_tokens, init_told, literal_kind, operand_tokens, operand_told, postfix_sign, prefix_tokens, skip_part_tokens, skip_part_told, skip_tokens, skip_told}
use Rattle.jc_grammar.specs.Told.{Spelled, Told, actuals, brackets, commas, each, ident, key, key_at, names_after, sign, sign_at, told}
use Rattle.jc_grammar.specs.Types.{args_tokens, base_tokens, class_tokens, type_tokens}

pub skip_part_tokens-out : (node : SkipPart) → skip_part_tokens node ≡ skip_part_told (map-SkipPart SkipPart Skip Spelled Spelled skip_part_tokens skip_tokens (out-SkipPart node))
unfolding skip_part_tokens skip_tokens
skip_part_tokens-out node = fold_out-SkipPart Spelled Spelled skip_part_told skip_told node

skip_part_tokens-at : (node : SkipPart) (l : SkipPart-F SkipPart Skip) → out-SkipPart node ≡ l → (r : List Told) → skip_part_tokens node r ≡ skip_part_told (map-SkipPart SkipPart Skip Spelled Spelled skip_part_tokens skip_tokens l) r
skip_part_tokens-at node l e r = ap (λ (f : Spelled). f r) (skip_part_tokens-out node ∙ ap (λ (l : SkipPart-F SkipPart Skip). skip_part_told (map-SkipPart SkipPart Skip Spelled Spelled skip_part_tokens skip_tokens l)) e)

pub skip_part_tokens-Inner : (skip : Skip) (r : List Told) → skip_part_tokens (anSkipPart.Inner skip) r ≡ skip_tokens skip r
skip_part_tokens-Inner skip = skip_part_tokens-at (anSkipPart.Inner skip) _ (anSkipPart.outs-Inner skip)

pub skip_part_tokens-Token : (kind : TokenKind) (r : List Told) → skip_part_tokens (anSkipPart.Token kind) r ≡ told kind None ∷ r
skip_part_tokens-Token kind = skip_part_tokens-at (anSkipPart.Token kind) _ (anSkipPart.outs-Token kind)

pub skip_tokens-out : (node : Skip) → skip_tokens node ≡ skip_told (map-Skip SkipPart Skip Spelled Spelled skip_part_tokens skip_tokens (out-Skip node))
unfolding skip_part_tokens skip_tokens
skip_tokens-out node = fold_out-Skip Spelled Spelled skip_part_told skip_told node

pub skip_tokens-parts : (node : Skip) (r : List Told) → skip_tokens node r ≡ sign sign_of.LeftBrace ∷ each (map skip_part_tokens (out-Skip node).parts) (sign sign_of.RightBrace ∷ r)
skip_tokens-parts node r = ap (λ (f : Spelled). f r) (skip_tokens-out node)

pub skip_tokens-made : (parts : List SkipPart) (r : List Told) → skip_tokens (roll-Skip (record { parts = parts })) r ≡ sign sign_of.LeftBrace ∷ each (map skip_part_tokens parts) (sign sign_of.RightBrace ∷ r)
unfolding skip_part_tokens skip_tokens
skip_tokens-made parts r = ap (λ (f : Spelled). f r) (fold-roll-Skip Spelled Spelled skip_part_told skip_told (record { parts = parts }))

pub creation_tokens-out : (node : Creation) → creation_tokens node ≡ creation_told (map-Creation Creation Expr Init Operand ArrayInit Spelled Spelled Spelled Spelled Spelled creation_tokens expr_tokens init_tokens operand_tokens array_tokens (out-Creation node))
unfolding creation_tokens expr_tokens init_tokens operand_tokens array_tokens
creation_tokens-out node = fold_out-Creation Spelled Spelled Spelled Spelled Spelled creation_told expr_told init_told operand_told array_told node

creation_tokens-at : (node : Creation) (l : Creation-F Creation Expr Init Operand ArrayInit) → out-Creation node ≡ l → (r : List Told) → creation_tokens node r ≡ creation_told (map-Creation Creation Expr Init Operand ArrayInit Spelled Spelled Spelled Spelled Spelled creation_tokens expr_tokens init_tokens operand_tokens array_tokens l) r
creation_tokens-at node l e r = ap (λ (f : Spelled). f r) (creation_tokens-out node ∙ ap (λ (l : Creation-F Creation Expr Init Operand ArrayInit). creation_told (map-Creation Creation Expr Init Operand ArrayInit Spelled Spelled Spelled Spelled Spelled creation_tokens expr_tokens init_tokens operand_tokens array_tokens l)) e)

pub creation_tokens-Object : (class : ClassTree) (diamond : Bool) (args : List Expr) (body : List Skip) (r : List Told) → creation_tokens (anCreation.Object class diamond args body) r ≡ class_tokens class (diamond_tokens diamond (actuals (map expr_tokens args) (each (map skip_tokens body) r)))
creation_tokens-Object class diamond args body = creation_tokens-at (anCreation.Object class diamond args body) _ (anCreation.outs-Object class diamond args body)

pub creation_tokens-Sized : (element : BaseTree) (first : Expr) (more : List Expr) (dims : ℕ) (r : List Told) → creation_tokens (anCreation.Sized element first more dims) r ≡ base_tokens element (in_brackets (expr_tokens first) (each (map in_brackets (map expr_tokens more)) (brackets dims r)))
creation_tokens-Sized element first more dims = creation_tokens-at (anCreation.Sized element first more dims) _ (anCreation.outs-Sized element first more dims)

pub creation_tokens-Initialised : (element : BaseTree) (dims : ℕ) (init : ArrayInit) (r : List Told) → creation_tokens (anCreation.Initialised element dims init) r ≡ base_tokens element (sign sign_of.LeftBracket ∷ sign sign_of.RightBracket ∷ brackets dims (array_tokens init r))
creation_tokens-Initialised element dims init = creation_tokens-at (anCreation.Initialised element dims init) _ (anCreation.outs-Initialised element dims init)

pub expr_tokens-out : (node : Expr) → expr_tokens node ≡ expr_told (map-Expr Creation Expr Init Operand ArrayInit Spelled Spelled Spelled Spelled Spelled creation_tokens expr_tokens init_tokens operand_tokens array_tokens (out-Expr node))
unfolding creation_tokens expr_tokens init_tokens operand_tokens array_tokens
expr_tokens-out node = fold_out-Expr Spelled Spelled Spelled Spelled Spelled creation_told expr_told init_told operand_told array_told node

expr_tokens-at : (node : Expr) (l : Expr-F Creation Expr Init Operand ArrayInit) → out-Expr node ≡ l → (r : List Told) → expr_tokens node r ≡ expr_told (map-Expr Creation Expr Init Operand ArrayInit Spelled Spelled Spelled Spelled Spelled creation_tokens expr_tokens init_tokens operand_tokens array_tokens l) r
expr_tokens-at node l e r = ap (λ (f : Spelled). f r) (expr_tokens-out node ∙ ap (λ (l : Expr-F Creation Expr Init Operand ArrayInit). expr_told (map-Expr Creation Expr Init Operand ArrayInit Spelled Spelled Spelled Spelled Spelled creation_tokens expr_tokens init_tokens operand_tokens array_tokens l)) e)

pub expr_tokens-Assign : (target : Expr) (op : AssignOp) (value : Expr) (r : List Told) → expr_tokens (anExpr.Assign target op value) r ≡ expr_tokens target (assign_tokens op (expr_tokens value r))
expr_tokens-Assign target op value = expr_tokens-at (anExpr.Assign target op value) _ (anExpr.outs-Assign target op value)

pub expr_tokens-Conditional : (test : Expr) (then_it : Expr) (else_it : Expr) (r : List Told) → expr_tokens (anExpr.Conditional test then_it else_it) r ≡ expr_tokens test (sign sign_of.Question ∷ expr_tokens then_it (sign sign_of.Colon ∷ expr_tokens else_it r))
expr_tokens-Conditional test then_it else_it = expr_tokens-at (anExpr.Conditional test then_it else_it) _ (anExpr.outs-Conditional test then_it else_it)

pub expr_tokens-Chain : (first : Expr) (rest : List Operand) (r : List Told) → expr_tokens (anExpr.Chain first rest) r ≡ expr_tokens first (each (map operand_tokens rest) r)
expr_tokens-Chain first rest = expr_tokens-at (anExpr.Chain first rest) _ (anExpr.outs-Chain first rest)

pub expr_tokens-Prefix : (first : PrefixOp) (more : List PrefixOp) (operand : Expr) (r : List Told) → expr_tokens (anExpr.Prefix first more operand) r ≡ prefix_tokens (first ∷ more) (expr_tokens operand r)
expr_tokens-Prefix first more operand = expr_tokens-at (anExpr.Prefix first more operand) _ (anExpr.outs-Prefix first more operand)

pub expr_tokens-Cast : (at : ℕ) (ty : TypeTree) (operand : Expr) (r : List Told) → expr_tokens (anExpr.Cast at ty operand) r ≡ sign_at sign_of.LeftParen at ∷ type_tokens ty (sign sign_of.RightParen ∷ expr_tokens operand r)
expr_tokens-Cast at ty operand = expr_tokens-at (anExpr.Cast at ty operand) _ (anExpr.outs-Cast at ty operand)

pub expr_tokens-Postfix : (of_it : Expr) (op : PostfixOp) (r : List Told) → expr_tokens (anExpr.Postfix of_it op) r ≡ expr_tokens of_it (sign (postfix_sign op) ∷ r)
expr_tokens-Postfix of_it op = expr_tokens-at (anExpr.Postfix of_it op) _ (anExpr.outs-Postfix of_it op)

pub expr_tokens-Field : (of_it : Expr) (name : Ident) (r : List Told) → expr_tokens (anExpr.Field of_it name) r ≡ expr_tokens of_it (sign sign_of.Dot ∷ ident name ∷ r)
expr_tokens-Field of_it name = expr_tokens-at (anExpr.Field of_it name) _ (anExpr.outs-Field of_it name)

pub expr_tokens-Call : (of_it : Expr) (type_args : List TypeArg) (name : Ident) (args : List Expr) (r : List Told) → expr_tokens (anExpr.Call of_it type_args name args) r ≡ expr_tokens of_it (sign sign_of.Dot ∷ args_tokens type_args (ident name ∷ actuals (map expr_tokens args) r))
expr_tokens-Call of_it type_args name args = expr_tokens-at (anExpr.Call of_it type_args name args) _ (anExpr.outs-Call of_it type_args name args)

pub expr_tokens-Index : (of_it : Expr) (index : Expr) (r : List Told) → expr_tokens (anExpr.Index of_it index) r ≡ expr_tokens of_it (in_brackets (expr_tokens index) r)
expr_tokens-Index of_it index = expr_tokens-at (anExpr.Index of_it index) _ (anExpr.outs-Index of_it index)

pub expr_tokens-InnerNew : (of_it : Expr) (creation : Creation) (r : List Told) → expr_tokens (anExpr.InnerNew of_it creation) r ≡ expr_tokens of_it (sign sign_of.Dot ∷ key key_of.New ∷ creation_tokens creation r)
expr_tokens-InnerNew of_it creation = expr_tokens-at (anExpr.InnerNew of_it creation) _ (anExpr.outs-InnerNew of_it creation)

pub expr_tokens-Literal : (at : ℕ) (value : Literal) (r : List Told) → expr_tokens (anExpr.Literal at value) r ≡ told (literal_kind value) (Some at) ∷ r
expr_tokens-Literal at value = expr_tokens-at (anExpr.Literal at value) _ (anExpr.outs-Literal at value)

pub expr_tokens-This : (at : ℕ) (r : List Told) → expr_tokens (anExpr.This at) r ≡ key_at key_of.This at ∷ r
expr_tokens-This at = expr_tokens-at (anExpr.This at) _ (anExpr.outs-This at)

pub expr_tokens-SuperField : (at : ℕ) (name : Ident) (r : List Told) → expr_tokens (anExpr.SuperField at name) r ≡ key_at key_of.Super at ∷ sign sign_of.Dot ∷ ident name ∷ r
expr_tokens-SuperField at name = expr_tokens-at (anExpr.SuperField at name) _ (anExpr.outs-SuperField at name)

pub expr_tokens-SuperCall : (at : ℕ) (type_args : List TypeArg) (name : Ident) (args : List Expr) (r : List Told) → expr_tokens (anExpr.SuperCall at type_args name args) r ≡ key_at key_of.Super at ∷ sign sign_of.Dot ∷ args_tokens type_args (ident name ∷ actuals (map expr_tokens args) r)
expr_tokens-SuperCall at type_args name args = expr_tokens-at (anExpr.SuperCall at type_args name args) _ (anExpr.outs-SuperCall at type_args name args)

pub expr_tokens-Paren : (at : ℕ) (inside : Expr) (r : List Told) → expr_tokens (anExpr.Paren at inside) r ≡ sign_at sign_of.LeftParen at ∷ expr_tokens inside (sign sign_of.RightParen ∷ r)
expr_tokens-Paren at inside = expr_tokens-at (anExpr.Paren at inside) _ (anExpr.outs-Paren at inside)

pub expr_tokens-Name : (name : Ident) (r : List Told) → expr_tokens (anExpr.Name name) r ≡ ident name ∷ r
expr_tokens-Name name = expr_tokens-at (anExpr.Name name) _ (anExpr.outs-Name name)

pub expr_tokens-Invoke : (name : Ident) (args : List Expr) (r : List Told) → expr_tokens (anExpr.Invoke name args) r ≡ ident name ∷ actuals (map expr_tokens args) r
expr_tokens-Invoke name args = expr_tokens-at (anExpr.Invoke name args) _ (anExpr.outs-Invoke name args)

pub expr_tokens-New : (at : ℕ) (creation : Creation) (r : List Told) → expr_tokens (anExpr.New at creation) r ≡ key_at key_of.New at ∷ creation_tokens creation r
expr_tokens-New at creation = expr_tokens-at (anExpr.New at creation) _ (anExpr.outs-New at creation)

pub expr_tokens-ClassLiteral : (ty : TypeTree) (r : List Told) → expr_tokens (anExpr.ClassLiteral ty) r ≡ type_tokens ty (sign sign_of.Dot ∷ key key_of.Class ∷ r)
expr_tokens-ClassLiteral ty = expr_tokens-at (anExpr.ClassLiteral ty) _ (anExpr.outs-ClassLiteral ty)

pub expr_tokens-VoidLiteral : (at : ℕ) (r : List Told) → expr_tokens (anExpr.VoidLiteral at) r ≡ key_at key_of.Void at ∷ sign sign_of.Dot ∷ key key_of.Class ∷ r
expr_tokens-VoidLiteral at = expr_tokens-at (anExpr.VoidLiteral at) _ (anExpr.outs-VoidLiteral at)

pub expr_tokens-OuterThis : (first : Ident) (more : List Ident) (r : List Told) → expr_tokens (anExpr.OuterThis first more) r ≡ ident first ∷ names_after more (sign sign_of.Dot ∷ key key_of.This ∷ r)
expr_tokens-OuterThis first more = expr_tokens-at (anExpr.OuterThis first more) _ (anExpr.outs-OuterThis first more)

pub init_tokens-out : (node : Init) → init_tokens node ≡ init_told (map-Init Creation Expr Init Operand ArrayInit Spelled Spelled Spelled Spelled Spelled creation_tokens expr_tokens init_tokens operand_tokens array_tokens (out-Init node))
unfolding creation_tokens expr_tokens init_tokens operand_tokens array_tokens
init_tokens-out node = fold_out-Init Spelled Spelled Spelled Spelled Spelled creation_told expr_told init_told operand_told array_told node

init_tokens-at : (node : Init) (l : Init-F Creation Expr Init Operand ArrayInit) → out-Init node ≡ l → (r : List Told) → init_tokens node r ≡ init_told (map-Init Creation Expr Init Operand ArrayInit Spelled Spelled Spelled Spelled Spelled creation_tokens expr_tokens init_tokens operand_tokens array_tokens l) r
init_tokens-at node l e r = ap (λ (f : Spelled). f r) (init_tokens-out node ∙ ap (λ (l : Init-F Creation Expr Init Operand ArrayInit). init_told (map-Init Creation Expr Init Operand ArrayInit Spelled Spelled Spelled Spelled Spelled creation_tokens expr_tokens init_tokens operand_tokens array_tokens l)) e)

pub init_tokens-Value : (expr : Expr) (r : List Told) → init_tokens (anInit.Value expr) r ≡ expr_tokens expr r
init_tokens-Value expr = init_tokens-at (anInit.Value expr) _ (anInit.outs-Value expr)

pub init_tokens-Nested : (array : ArrayInit) (r : List Told) → init_tokens (anInit.Nested array) r ≡ array_tokens array r
init_tokens-Nested array = init_tokens-at (anInit.Nested array) _ (anInit.outs-Nested array)

pub operand_tokens-out : (node : Operand) → operand_tokens node ≡ operand_told (map-Operand Creation Expr Init Operand ArrayInit Spelled Spelled Spelled Spelled Spelled creation_tokens expr_tokens init_tokens operand_tokens array_tokens (out-Operand node))
unfolding creation_tokens expr_tokens init_tokens operand_tokens array_tokens
operand_tokens-out node = fold_out-Operand Spelled Spelled Spelled Spelled Spelled creation_told expr_told init_told operand_told array_told node

operand_tokens-at : (node : Operand) (l : Operand-F Creation Expr Init Operand ArrayInit) → out-Operand node ≡ l → (r : List Told) → operand_tokens node r ≡ operand_told (map-Operand Creation Expr Init Operand ArrayInit Spelled Spelled Spelled Spelled Spelled creation_tokens expr_tokens init_tokens operand_tokens array_tokens l) r
operand_tokens-at node l e r = ap (λ (f : Spelled). f r) (operand_tokens-out node ∙ ap (λ (l : Operand-F Creation Expr Init Operand ArrayInit). operand_told (map-Operand Creation Expr Init Operand ArrayInit Spelled Spelled Spelled Spelled Spelled creation_tokens expr_tokens init_tokens operand_tokens array_tokens l)) e)

pub operand_tokens-Binary : (op : BinaryOp) (right : Expr) (r : List Told) → operand_tokens (anOperand.Binary op right) r ≡ binary_tokens op (expr_tokens right r)
operand_tokens-Binary op right = operand_tokens-at (anOperand.Binary op right) _ (anOperand.outs-Binary op right)

pub operand_tokens-InstanceOf : (ty : TypeTree) (r : List Told) → operand_tokens (anOperand.InstanceOf ty) r ≡ key key_of.Instanceof ∷ type_tokens ty r
operand_tokens-InstanceOf ty = operand_tokens-at (anOperand.InstanceOf ty) _ (anOperand.outs-InstanceOf ty)

pub array_tokens-out : (node : ArrayInit) → array_tokens node ≡ array_told (map-ArrayInit Creation Expr Init Operand ArrayInit Spelled Spelled Spelled Spelled Spelled creation_tokens expr_tokens init_tokens operand_tokens array_tokens (out-ArrayInit node))
unfolding creation_tokens expr_tokens init_tokens operand_tokens array_tokens
array_tokens-out node = fold_out-ArrayInit Spelled Spelled Spelled Spelled Spelled creation_told expr_told init_told operand_told array_told node

pub array_tokens-parts : (node : ArrayInit) (r : List Told) → array_tokens node r ≡ sign_at sign_of.LeftBrace (out-ArrayInit node).at ∷ commas (map init_tokens (out-ArrayInit node).inits) (if_there (out-ArrayInit node).trailing sign_of.Comma (sign sign_of.RightBrace ∷ r))
array_tokens-parts node r = ap (λ (f : Spelled). f r) (array_tokens-out node)

pub array_tokens-made : (at : ℕ) (inits : List Init) (trailing : Bool) (r : List Told) → array_tokens (roll-ArrayInit (record { at = at; inits = inits; trailing = trailing })) r ≡ sign_at sign_of.LeftBrace at ∷ commas (map init_tokens inits) (if_there trailing sign_of.Comma (sign sign_of.RightBrace ∷ r))
unfolding creation_tokens expr_tokens init_tokens operand_tokens array_tokens
array_tokens-made at inits trailing r = ap (λ (f : Spelled). f r) (fold-roll-ArrayInit Spelled Spelled Spelled Spelled Spelled creation_told expr_told init_told operand_told array_told (record { at = at; inits = inits; trailing = trailing }))
