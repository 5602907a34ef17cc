-- How deep the nodes of a tree lie in each other. A node counts one and the greatest height of what stands inside it; these are nodes: a
-- source file, a declaration of a type, a statement, an expression, a type, an array initialiser, a list in an annotation and a
-- skipped body. A chain is one node.
use Rattle.std.specs.Prelude.{ℕ, suc, min, max, map, List, [], ◌∷◌, Option, Some, None}
use Rattle.jc_tree.specs.declared.types.TypeTree.{TypeTree, TypeTree-F, fold-TypeTree}
use Rattle.jc_tree.specs.declared.types.BaseTree.{BaseTree, BaseTree-F, fold-BaseTree}
use Rattle.jc_tree.specs.declared.types.ClassTree.{ClassTree, ClassTree-F, fold-ClassTree}
use Rattle.jc_tree.specs.declared.types.TypePart.{TypePart, TypePart-F, fold-TypePart}
use Rattle.jc_tree.specs.declared.types.TypeArg.{TypeArg, TypeArg-F, fold-TypeArg}
use Rattle.jc_tree.specs.declared.expression.SkipPart.{SkipPart, SkipPart-F, fold-SkipPart}
use Rattle.jc_tree.specs.declared.expression.Skip.{Skip, Skip-F, fold-Skip}
use Rattle.jc_tree.specs.declared.expression.Expr.{Expr, Expr-F, fold-Expr, out-Expr}
use Rattle.jc_tree.specs.declared.expression.Operand.{Operand, Operand-F, fold-Operand}
use Rattle.jc_tree.specs.declared.expression.Creation.{Creation, Creation-F, fold-Creation}
use Rattle.jc_tree.specs.declared.expression.ArrayInit.{ArrayInit, ArrayInit-F, fold-ArrayInit}
use Rattle.jc_tree.specs.declared.expression.Init.{Init, Init-F, fold-Init}
use Rattle.jc_tree.specs.declared.statement.AnnotationValue.{AnnotationValue, AnnotationValue-F, fold-AnnotationValue}
use Rattle.jc_tree.specs.declared.statement.Pair.{Pair}
use Rattle.jc_tree.specs.declared.statement.Annotation.{Annotation}
use Rattle.jc_tree.specs.declared.statement.Modifier.{Modifier}
use Rattle.jc_tree.specs.declared.statement.Modifier.TheVariants as anModifier
use Rattle.jc_tree.specs.declared.statement.TypeParam.{TypeParam}
use Rattle.jc_tree.specs.declared.statement.TypeParams.{TypeParams}
use Rattle.jc_tree.specs.declared.statement.Formal.{Formal}
use Rattle.jc_tree.specs.declared.statement.Var.{Var}
use Rattle.jc_tree.specs.declared.statement.LocalVars.{LocalVars}
use Rattle.jc_tree.specs.declared.statement.ResultType.{ResultType}
use Rattle.jc_tree.specs.declared.statement.ResultType.TheVariants as anResultType
use Rattle.jc_tree.specs.declared.statement.DeclarationHead.{DeclarationHead}
use Rattle.jc_tree.specs.declared.statement.DeclarationHead.TheVariants as anDeclarationHead
use Rattle.jc_tree.specs.declared.statement.MethodHead.{MethodHead}
use Rattle.jc_tree.specs.declared.statement.ForInit.{ForInit}
use Rattle.jc_tree.specs.declared.statement.ForInit.TheVariants as anForInit
use Rattle.jc_tree.specs.declared.statement.ForHead.{ForHead}
use Rattle.jc_tree.specs.declared.statement.ForHead.TheVariants as anForHead
use Rattle.jc_tree.specs.declared.statement.Resource.{Resource}
use Rattle.jc_tree.specs.declared.statement.Resources.{Resources}
use Rattle.jc_tree.specs.declared.statement.ClauseHead.{ClauseHead}
use Rattle.jc_tree.specs.declared.statement.ClauseHead.TheVariants as anClauseHead
use Rattle.jc_tree.specs.declared.statement.Member.{Member, Member-F, fold-Member}
use Rattle.jc_tree.specs.declared.statement.Stmt.{Stmt, Stmt-F, fold-Stmt}
use Rattle.jc_tree.specs.declared.statement.Clause.{Clause, Clause-F, fold-Clause}
use Rattle.jc_tree.specs.declared.statement.Declaration.{Declaration, Declaration-F, fold-Declaration}
use Rattle.jc_tree.specs.declared.statement.TopLevel.{TopLevel}
use Rattle.jc_tree.specs.declared.statement.TopLevel.TheVariants as anTopLevel
use Rattle.jc_tree.specs.declared.statement.SourceFile.{SourceFile}

-- what a u32 holds of a number
abbrev pub capped : ℕ → ℕ
capped n = min n 4294967295

-- the greatest of the numbers
abbrev pub most : List ℕ → ℕ
most [] = 0
most (n ∷ ns) = max n (most ns)

-- the height of what is there, or 0
abbrev pub in_some : {X : Type 0} → (X → ℕ) → Option X → ℕ
in_some f None = 0
in_some f (Some x) = f x

-- the heights in types (JLS 4), each from those of its parts. A primitive type counts 0, a class type what its parts count
abbrev pub base_step : BaseTree-F ℕ ℕ ℕ ℕ ℕ → ℕ
base_step (BaseTree-F.Primitive at word) = 0
base_step (BaseTree-F.Class it) = it

-- a type argument (JLS 4.5.1) is as high as its type or its bound, and 0 where it is a question mark alone
abbrev pub arg_step : TypeArg-F ℕ ℕ ℕ ℕ ℕ → ℕ
arg_step (TypeArg-F.Exact it) = it
arg_step (TypeArg-F.Any at) = 0
arg_step (TypeArg-F.Extends at bound) = bound
arg_step (TypeArg-F.Super at bound) = bound

-- a class type (JLS 4.3) is as high as the highest of its parts
abbrev pub class_step : ClassTree-F ℕ ℕ ℕ ℕ ℕ → ℕ
class_step node = max node.first (most node.more)

-- a part of a class type is as high as the highest of its arguments, and 0 where it has none
abbrev pub part_step : TypePart-F ℕ ℕ ℕ ℕ ℕ → ℕ
part_step node = most node.args

-- a type counts one more than what stands before its brackets, and the brackets count nothing
abbrev pub type_step : TypeTree-F ℕ ℕ ℕ ℕ ℕ → ℕ
type_step node = suc node.base

-- the heights of types and of what they consist of: each folds the node by the five steps above
unfoldable pub base_height : BaseTree → ℕ
base_height node = fold-BaseTree ℕ ℕ ℕ ℕ ℕ base_step arg_step class_step part_step type_step node

unfoldable pub arg_height : TypeArg → ℕ
arg_height node = fold-TypeArg ℕ ℕ ℕ ℕ ℕ base_step arg_step class_step part_step type_step node

unfoldable pub class_height : ClassTree → ℕ
class_height node = fold-ClassTree ℕ ℕ ℕ ℕ ℕ base_step arg_step class_step part_step type_step node

unfoldable pub part_height : TypePart → ℕ
part_height node = fold-TypePart ℕ ℕ ℕ ℕ ℕ base_step arg_step class_step part_step type_step node

unfoldable pub type_height : TypeTree → ℕ
type_height node = fold-TypeTree ℕ ℕ ℕ ℕ ℕ base_step arg_step class_step part_step type_step node

-- a part of a skipped body: braces inside it are as high as a skipped body is, and a token counts 0
abbrev pub skip_part_step : SkipPart-F ℕ ℕ → ℕ
skip_part_step (SkipPart-F.Inner it) = it
skip_part_step (SkipPart-F.Token it) = 0

-- a skipped body counts one more than the highest of its parts
abbrev pub skip_step : Skip-F ℕ ℕ → ℕ
skip_step node = suc (most node.parts)

-- the heights of a part of a skipped body, and of the body: each folds the node by the two steps above
unfoldable pub skip_part_height : SkipPart → ℕ
skip_part_height node = fold-SkipPart ℕ ℕ skip_part_step skip_step node

unfoldable pub skip_height : Skip → ℕ
skip_height node = fold-Skip ℕ ℕ skip_part_step skip_step node

-- what stands behind `new` (JLS 15.9, 15.10) is as high as the highest of its type, its arguments or sizes, and its body or initialiser
abbrev pub creation_step : Creation-F ℕ ℕ ℕ ℕ ℕ → ℕ
creation_step (Creation-F.Object class diamond actuals body) = max (max (class_height class) (most actuals)) (most (map skip_height body))
creation_step (Creation-F.Sized element first more dims) = max (max (base_height element) first) (most more)
creation_step (Creation-F.Initialised element dims init) = max (base_height element) init

-- an expression (JLS 15) counts one more than the highest of what stands inside it: operands, arguments, types and type arguments.
-- All operands of a chain of binary operators lie at one level, and all operators of a prefix chain count one together
abbrev pub expr_step : Expr-F ℕ ℕ ℕ ℕ ℕ → ℕ
expr_step (Expr-F.Assign target op value) = suc (max target value)
expr_step (Expr-F.Conditional test then otherwise) = suc (max (max test then) otherwise)
expr_step (Expr-F.Chain first rest) = suc (max first (most rest))
expr_step (Expr-F.Prefix first more operand) = suc operand
expr_step (Expr-F.Cast at ty operand) = suc (max (type_height ty) operand)
expr_step (Expr-F.Postfix of_it op) = suc of_it
expr_step (Expr-F.Field of_it name) = suc of_it
expr_step (Expr-F.Call of_it type_args name actuals) = suc (max (max of_it (most (map arg_height type_args))) (most actuals))
expr_step (Expr-F.Index of_it index) = suc (max of_it index)
expr_step (Expr-F.InnerNew of_it creation) = suc (max of_it creation)
expr_step (Expr-F.Literal at value) = suc 0
expr_step (Expr-F.This at) = suc 0
expr_step (Expr-F.SuperField at name) = suc 0
expr_step (Expr-F.SuperCall at type_args name actuals) = suc (max (most (map arg_height type_args)) (most actuals))
expr_step (Expr-F.Paren at inner) = suc inner
expr_step (Expr-F.Name it) = suc 0
expr_step (Expr-F.Invoke name actuals) = suc (most actuals)
expr_step (Expr-F.New at creation) = suc creation
expr_step (Expr-F.ClassLiteral ty) = suc (type_height ty)
expr_step (Expr-F.VoidLiteral at) = suc 0
expr_step (Expr-F.OuterThis first more) = suc 0

-- a variable initialiser (JLS 8.3) is as high as its expression or its array initialiser
abbrev pub init_step : Init-F ℕ ℕ ℕ ℕ ℕ → ℕ
init_step (Init-F.Value it) = it
init_step (Init-F.Nested it) = it

-- an operand of a chain is as high as the expression on the right of its operator, or as the type behind `instanceof`
abbrev pub operand_step : Operand-F ℕ ℕ ℕ ℕ ℕ → ℕ
operand_step (Operand-F.Binary op right) = right
operand_step (Operand-F.InstanceOf ty) = type_height ty

-- an array initialiser (JLS 10.6) counts one more than the highest of its initialisers
abbrev pub array_step : ArrayInit-F ℕ ℕ ℕ ℕ ℕ → ℕ
array_step node = suc (most node.inits)

-- the heights of expressions and of what they consist of: each folds the node by the five steps above
unfoldable pub creation_height : Creation → ℕ
creation_height node = fold-Creation ℕ ℕ ℕ ℕ ℕ creation_step expr_step init_step operand_step array_step node

unfoldable pub expr_height : Expr → ℕ
expr_height node = fold-Expr ℕ ℕ ℕ ℕ ℕ creation_step expr_step init_step operand_step array_step node

unfoldable pub init_height : Init → ℕ
init_height node = fold-Init ℕ ℕ ℕ ℕ ℕ creation_step expr_step init_step operand_step array_step node

unfoldable pub operand_height : Operand → ℕ
operand_height node = fold-Operand ℕ ℕ ℕ ℕ ℕ creation_step expr_step init_step operand_step array_step node

unfoldable pub array_height : ArrayInit → ℕ
array_height node = fold-ArrayInit ℕ ℕ ℕ ℕ ℕ creation_step expr_step init_step operand_step array_step node

-- of an expression that stands as a statement: an assignment and a chain of prefix operators lie as deep as their operands
abbrev pub effect_over : Expr-F Creation Expr Init Operand ArrayInit → ℕ → ℕ
effect_over (Expr-F.Assign target op value) n = max (expr_height target) (expr_height value)
effect_over (Expr-F.Prefix first more operand) n = expr_height operand
effect_over _ n = n

-- the same by the expression alone: one that is no assignment and no chain of prefix operators is as high there as anywhere
abbrev pub effect_height : Expr → ℕ
effect_height node = effect_over (out-Expr node) (expr_height node)

-- a value in an annotation (JLS 9.7.1) is as high as its expression; a list in braces counts one more than its highest value
abbrev pub value_step : AnnotationValue-F ℕ → ℕ
value_step (AnnotationValue-F.Value it) = expr_height it
value_step (AnnotationValue-F.List at values trailing) = suc (most values)

unfoldable pub value_height : AnnotationValue → ℕ
value_height node = fold-AnnotationValue ℕ value_step node

-- a pair in an annotation is as high as its value; its name counts nothing
abbrev pub pair_height : Pair → ℕ
pair_height node = value_height node.value

-- an annotation is as high as the highest of its pairs, and 0 where it has none or no parentheses
abbrev pub annotation_height : Annotation → ℕ
annotation_height node = in_some (λ (l : List Pair). most (map pair_height l)) node.pairs

-- a modifier is as high as its annotation, and 0 where it is a keyword
abbrev pub modifier_height : Modifier → ℕ
modifier_height (anModifier.Annotation it) = annotation_height it
modifier_height (anModifier.Word at word) = 0

-- a type parameter (JLS 4.4) is as high as the highest of its bounds, and 0 where it has none; several are as high as the highest
abbrev pub param_height : TypeParam → ℕ
param_height node = most (map class_height node.bounds)

abbrev pub params_of_height : TypeParams → ℕ
params_of_height node = max (param_height node.first) (most (map param_height node.more))

-- a formal parameter (JLS 8.4.1) is as high as the highest of its modifiers and its type; its name and its brackets count nothing
abbrev pub formal_height : Formal → ℕ
formal_height node = max (most (map modifier_height node.modifiers)) (type_height node.ty)

-- a declared variable is as high as its initialiser, and 0 where it has none
abbrev pub var_height : Var → ℕ
var_height node = in_some init_height node.init

-- variables that are declared together are as high as the highest of their modifiers, their type and each variable
abbrev pub local_height : LocalVars → ℕ
local_height node = max (max (max (most (map modifier_height node.modifiers)) (type_height node.ty)) (var_height node.first)) (most (map var_height node.more))

-- the result of a method is as high as its type, and 0 where it is `void`
abbrev pub result_height : ResultType → ℕ
result_height (anResultType.Void at) = 0
result_height (anResultType.Type it) = type_height it

-- what stands before the braces of a declaration of a type (JLS 8.1, 9.1) is as high as the highest of modifiers, bounds and supertypes
abbrev pub head_height : DeclarationHead → ℕ
head_height (anDeclarationHead.Class modifiers at name params extends implements) = max (max (max (most (map modifier_height modifiers)) (most (map param_height params))) (in_some class_height extends)) (most (map class_height implements))
head_height (anDeclarationHead.Interface modifiers at name params extends) = max (max (most (map modifier_height modifiers)) (most (map param_height params))) (most (map class_height extends))
head_height (anDeclarationHead.Annotation modifiers at name) = most (map modifier_height modifiers)

-- what stands before the body of a method or a constructor (JLS 8.4, 8.8) is as high as the highest of modifiers, type parameters,
-- result, formal parameters and thrown types
abbrev pub method_height : MethodHead → ℕ
method_height node = max (max (max (max (most (map modifier_height node.modifiers)) (in_some params_of_height node.params)) (in_some result_height node.result)) (most (map formal_height node.formals))) (most (map class_height node.throws))

-- the first part of a basic `for` (JLS 14.14.1) is as high as its variables, or as the highest of its expressions as statements
abbrev pub for_init_height : ForInit → ℕ
for_init_height (anForInit.Local it) = local_height it
for_init_height (anForInit.Effects it) = most (map effect_height it)

-- what stands between the parentheses of a `for` (JLS 14.14) is as high as the highest of its parts; a test that is left out counts 0
abbrev pub for_height : ForHead → ℕ
for_height (anForHead.Basic init test update) = max (max (for_init_height init) (in_some expr_height test)) (most (map effect_height update))
for_height (anForHead.Enhanced modifiers ty name dims iterable) = max (max (most (map modifier_height modifiers)) (type_height ty)) (expr_height iterable)

-- a resource of a `try` (JLS 14.20.3) is as high as the highest of its modifiers, its type and its value
abbrev pub resource_height : Resource → ℕ
resource_height node = max (max (most (map modifier_height node.modifiers)) (type_height node.ty)) (expr_height node.value)

-- the resources of a `try` are as high as the highest of them
abbrev pub resources_of_height : Resources → ℕ
resources_of_height node = max (resource_height node.first) (most (map resource_height node.more))

-- what a part of a statement begins with: the test of an `if`, the expression of a `case`, the modifiers and types of a `catch`;
-- `default` and `finally` count 0
abbrev pub clause_head_height : ClauseHead → ℕ
clause_head_height (anClauseHead.If it) = expr_height it
clause_head_height (anClauseHead.Case it) = expr_height it
clause_head_height anClauseHead.Default = 0
clause_head_height (anClauseHead.Catch modifiers first more name) = max (max (most (map modifier_height modifiers)) (class_height first)) (most (map class_height more))
clause_head_height anClauseHead.Finally = 0

-- a member is as high as the highest of its head and its statements, or as the type that it declares; a semicolon counts 0
abbrev pub member_step : Member-F ℕ ℕ ℕ ℕ → ℕ
member_step (Member-F.Semicolon at) = 0
member_step (Member-F.Initialiser at is_static items) = most items
member_step (Member-F.Fields it) = local_height it
member_step (Member-F.Bare head) = method_height head
member_step (Member-F.Method head items) = max (method_height head) (most items)
member_step (Member-F.Nested it) = it

-- a statement (JLS 14) counts one more than the highest of its expressions, statements and parts, and a declaration of a type in a block
-- no more than it does elsewhere
abbrev pub stmt_step : Stmt-F ℕ ℕ ℕ ℕ → ℕ
stmt_step (Stmt-F.Local it) = suc (local_height it)
stmt_step (Stmt-F.Declared it) = it
stmt_step (Stmt-F.Block at items) = suc (most items)
stmt_step (Stmt-F.Empty at) = suc 0
stmt_step (Stmt-F.Effect it) = suc (effect_height it)
stmt_step (Stmt-F.Labeled label body) = suc body
stmt_step (Stmt-F.If arms otherwise) = suc (max (most arms) (most otherwise))
stmt_step (Stmt-F.While at test body) = suc (max (expr_height test) body)
stmt_step (Stmt-F.Do at body test) = suc (max body (expr_height test))
stmt_step (Stmt-F.For at head body) = suc (max (for_height head) body)
stmt_step (Stmt-F.Switch at selector groups) = suc (max (expr_height selector) (most groups))
stmt_step (Stmt-F.Return at value) = suc (in_some expr_height value)
stmt_step (Stmt-F.Break at label) = suc 0
stmt_step (Stmt-F.Continue at label) = suc 0
stmt_step (Stmt-F.Throw at value) = suc (expr_height value)
stmt_step (Stmt-F.Try at resources items clauses) = suc (max (max (in_some resources_of_height resources) (most items)) (most clauses))
stmt_step (Stmt-F.ThisCall at actuals) = suc (most (map expr_height actuals))
stmt_step (Stmt-F.SuperCall at actuals) = suc (most (map expr_height actuals))

-- a part of a statement is as high as the highest of its head and its statements: in a chain of `else if` all arms lie at one level
abbrev pub clause_step : Clause-F ℕ ℕ ℕ ℕ → ℕ
clause_step node = max (clause_head_height node.head) (most node.items)

-- a declaration of a type (JLS 8.1, 9.1) counts one more than the highest of its head and its members
abbrev pub declaration_step : Declaration-F ℕ ℕ ℕ ℕ → ℕ
declaration_step node = suc (max (head_height node.head) (most node.members))

-- the heights of members, statements, their parts and declarations of types: each folds the node by the four steps above
unfoldable pub member_height : Member → ℕ
member_height node = fold-Member ℕ ℕ ℕ ℕ member_step stmt_step clause_step declaration_step node

unfoldable pub stmt_height : Stmt → ℕ
stmt_height node = fold-Stmt ℕ ℕ ℕ ℕ member_step stmt_step clause_step declaration_step node

unfoldable pub clause_height : Clause → ℕ
clause_height node = fold-Clause ℕ ℕ ℕ ℕ member_step stmt_step clause_step declaration_step node

unfoldable pub declaration_height : Declaration → ℕ
declaration_height node = fold-Declaration ℕ ℕ ℕ ℕ member_step stmt_step clause_step declaration_step node

-- a declaration of a type at the top of a file (JLS 7.6) is as high as anywhere, and a semicolon counts 0
abbrev pub top_height : TopLevel → ℕ
top_height (anTopLevel.Declaration it) = declaration_height it
top_height (anTopLevel.Semicolon at) = 0

-- a source file counts one more than the highest of its types; its package and its imports count nothing
abbrev pub source_height : SourceFile → ℕ
source_height node = suc (most (map top_height node.types))
