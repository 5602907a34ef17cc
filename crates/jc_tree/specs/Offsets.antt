-- The offset of the first token of a tree: its own, or that of the part that it begins with.
use Rattle.std.specs.Prelude.{ℕ, List, [], ◌∷◌, map, Option, Some, None}
use Rattle.jc_tree.specs.declared.types.TypeTree.{TypeTree, TypeTree-F, fold-TypeTree}
use Rattle.jc_tree.specs.declared.types.BaseTree.{BaseTree, BaseTree-F, fold-BaseTree}
use Rattle.jc_tree.specs.declared.types.ClassTree.{ClassTree, ClassTree-F, fold-ClassTree}
use Rattle.jc_tree.specs.declared.types.TypePart.{TypePart, TypePart-F, fold-TypePart}
use Rattle.jc_tree.specs.declared.types.TypeArg.{TypeArg, TypeArg-F, fold-TypeArg}
use Rattle.jc_tree.specs.declared.expression.Expr.{Expr, Expr-F, fold-Expr}
use Rattle.jc_tree.specs.declared.expression.Operand.{Operand, Operand-F, fold-Operand}
use Rattle.jc_tree.specs.declared.expression.Creation.{Creation, Creation-F, fold-Creation}
use Rattle.jc_tree.specs.declared.expression.ArrayInit.{ArrayInit, ArrayInit-F, fold-ArrayInit}
use Rattle.jc_tree.specs.declared.expression.Init.{Init, Init-F, fold-Init}
use Rattle.jc_tree.specs.declared.statement.AnnotationValue.{AnnotationValue, AnnotationValue-F, fold-AnnotationValue}
use Rattle.jc_tree.specs.declared.statement.Modifier.{Modifier}
use Rattle.jc_tree.specs.declared.statement.Modifier.TheVariants as aModifier
use Rattle.jc_tree.specs.declared.statement.TypeParams.{TypeParams}
use Rattle.jc_tree.specs.declared.statement.Formal.{Formal}
use Rattle.jc_tree.specs.declared.statement.LocalVars.{LocalVars}
use Rattle.jc_tree.specs.declared.statement.ResultType.{ResultType}
use Rattle.jc_tree.specs.declared.statement.ResultType.TheVariants as aResultType
use Rattle.jc_tree.specs.declared.statement.DeclarationHead.{DeclarationHead}
use Rattle.jc_tree.specs.declared.statement.DeclarationHead.TheVariants as aDeclarationHead
use Rattle.jc_tree.specs.declared.statement.MethodHead.{MethodHead}
use Rattle.jc_tree.specs.declared.statement.Member.{Member, Member-F, fold-Member}
use Rattle.jc_tree.specs.declared.statement.Stmt.{Stmt, Stmt-F, fold-Stmt}
use Rattle.jc_tree.specs.declared.statement.Clause.{Clause, Clause-F, fold-Clause}
use Rattle.jc_tree.specs.declared.statement.Declaration.{Declaration, Declaration-F, fold-Declaration}
use Rattle.jc_tree.specs.declared.statement.Import.{Import}
use Rattle.jc_tree.specs.declared.statement.Package.{Package}
use Rattle.jc_tree.specs.declared.statement.TopLevel.{TopLevel}
use Rattle.jc_tree.specs.declared.statement.TopLevel.TheVariants as aTopLevel
use Rattle.jc_tree.specs.declared.statement.SourceFile.{SourceFile}

-- the first of the offsets, or the one that stands behind them
abbrev pub first_or : List ℕ → ℕ → ℕ
first_or [] next = next
first_or (at ∷ more) next = at

-- the offsets in types (JLS 4), each from those of its parts. A base type begins with its keyword or its class type
abbrev pub base_first : BaseTree-F ℕ ℕ ℕ ℕ ℕ → ℕ
base_first (BaseTree-F.Primitive at word) = at
base_first (BaseTree-F.Class it) = it

-- a type argument (JLS 4.5.1) begins with its type or with its question mark
abbrev pub arg_first : TypeArg-F ℕ ℕ ℕ ℕ ℕ → ℕ
arg_first (TypeArg-F.Exact it) = it
arg_first (TypeArg-F.Any at) = at
arg_first (TypeArg-F.Extends at bound) = at
arg_first (TypeArg-F.Super at bound) = at

-- a class type begins with its first part, a part of it with its identifier, and a type with what stands before its brackets
abbrev pub class_first : ClassTree-F ℕ ℕ ℕ ℕ ℕ → ℕ
class_first node = node.first

abbrev pub part_first : TypePart-F ℕ ℕ ℕ ℕ ℕ → ℕ
part_first node = node.name.at

abbrev pub type_first : TypeTree-F ℕ ℕ ℕ ℕ ℕ → ℕ
type_first node = node.base

-- the offsets that types and what they consist of begin at: each folds the node by the five steps above
unfoldable pub first_offset_of_base : BaseTree → ℕ
first_offset_of_base node = fold-BaseTree ℕ ℕ ℕ ℕ ℕ base_first arg_first class_first part_first type_first node

unfoldable pub first_offset_of_arg : TypeArg → ℕ
first_offset_of_arg node = fold-TypeArg ℕ ℕ ℕ ℕ ℕ base_first arg_first class_first part_first type_first node

unfoldable pub first_offset_of_class : ClassTree → ℕ
first_offset_of_class node = fold-ClassTree ℕ ℕ ℕ ℕ ℕ base_first arg_first class_first part_first type_first node

unfoldable pub first_offset_of_part : TypePart → ℕ
first_offset_of_part node = fold-TypePart ℕ ℕ ℕ ℕ ℕ base_first arg_first class_first part_first type_first node

unfoldable pub first_offset_of_type : TypeTree → ℕ
first_offset_of_type node = fold-TypeTree ℕ ℕ ℕ ℕ ℕ base_first arg_first class_first part_first type_first node

-- what stands behind `new` begins with the type that it creates, or whose elements it creates; `new` is not a part of it
abbrev pub creation_first : Creation-F ℕ ℕ ℕ ℕ ℕ → ℕ
creation_first (Creation-F.Object class diamond actuals body) = first_offset_of_class class
creation_first (Creation-F.Sized element first more dims) = first_offset_of_base element
creation_first (Creation-F.Initialised element dims init) = first_offset_of_base element

-- an expression begins with its leftmost operand, or where a token of its own stands before all operands, with that
abbrev pub expr_first : Expr-F ℕ ℕ ℕ ℕ ℕ → ℕ
expr_first (Expr-F.Assign target op value) = target
expr_first (Expr-F.Conditional test then otherwise) = test
expr_first (Expr-F.Chain first rest) = first
expr_first (Expr-F.Prefix first more operand) = first.at
expr_first (Expr-F.Cast at ty operand) = at
expr_first (Expr-F.Postfix of_it op) = of_it
expr_first (Expr-F.Field of_it name) = of_it
expr_first (Expr-F.Call of_it type_args name actuals) = of_it
expr_first (Expr-F.Index of_it index) = of_it
expr_first (Expr-F.InnerNew of_it creation) = of_it
expr_first (Expr-F.Literal at value) = at
expr_first (Expr-F.This at) = at
expr_first (Expr-F.SuperField at name) = at
expr_first (Expr-F.SuperCall at type_args name actuals) = at
expr_first (Expr-F.Paren at inner) = at
expr_first (Expr-F.Name it) = it.at
expr_first (Expr-F.Invoke name actuals) = name.at
expr_first (Expr-F.New at creation) = at
expr_first (Expr-F.ClassLiteral ty) = first_offset_of_type ty
expr_first (Expr-F.VoidLiteral at) = at
expr_first (Expr-F.OuterThis first more) = first.at

-- a variable initialiser begins with its expression or with the brace of its array initialiser
abbrev pub init_first : Init-F ℕ ℕ ℕ ℕ ℕ → ℕ
init_first (Init-F.Value it) = it
init_first (Init-F.Nested it) = it

-- an operator has no offset of its own: this is that of what stands on its right
abbrev pub operand_first : Operand-F ℕ ℕ ℕ ℕ ℕ → ℕ
operand_first (Operand-F.Binary op right) = right
operand_first (Operand-F.InstanceOf ty) = first_offset_of_type ty

-- an array initialiser begins with its left brace
abbrev pub array_first : ArrayInit-F ℕ ℕ ℕ ℕ ℕ → ℕ
array_first node = node.at

-- the offsets that expressions and what they consist of begin at: each folds the node by the five steps above
unfoldable pub first_offset_of_creation : Creation → ℕ
first_offset_of_creation node = fold-Creation ℕ ℕ ℕ ℕ ℕ creation_first expr_first init_first operand_first array_first node

unfoldable pub first_offset_of_expr : Expr → ℕ
first_offset_of_expr node = fold-Expr ℕ ℕ ℕ ℕ ℕ creation_first expr_first init_first operand_first array_first node

unfoldable pub first_offset_of_init : Init → ℕ
first_offset_of_init node = fold-Init ℕ ℕ ℕ ℕ ℕ creation_first expr_first init_first operand_first array_first node

unfoldable pub first_offset_of_operand : Operand → ℕ
first_offset_of_operand node = fold-Operand ℕ ℕ ℕ ℕ ℕ creation_first expr_first init_first operand_first array_first node

unfoldable pub first_offset_of_array : ArrayInit → ℕ
first_offset_of_array node = fold-ArrayInit ℕ ℕ ℕ ℕ ℕ creation_first expr_first init_first operand_first array_first node

-- a value in an annotation (JLS 9.7.1) begins with its expression or with the left brace of its list
abbrev pub value_first : AnnotationValue-F ℕ → ℕ
value_first (AnnotationValue-F.Value it) = first_offset_of_expr it
value_first (AnnotationValue-F.List at values trailing) = at

unfoldable pub first_offset_of_value : AnnotationValue → ℕ
first_offset_of_value node = fold-AnnotationValue ℕ value_first node

-- a modifier begins with the `@` of its annotation, or is a keyword
abbrev pub first_offset_of_modifier : Modifier → ℕ
first_offset_of_modifier (aModifier.Annotation it) = it.at
first_offset_of_modifier (aModifier.Word at word) = at

-- that of the modifiers, or where there is none of what stands behind them
abbrev pub modifiers_first : List Modifier → ℕ → ℕ
modifiers_first modifiers next = first_or (map first_offset_of_modifier modifiers) next

-- a formal parameter, and variables that are declared together, begin with their modifiers, or with their type where there are none
abbrev pub first_offset_of_formal : Formal → ℕ
first_offset_of_formal node = modifiers_first node.modifiers (first_offset_of_type node.ty)

abbrev pub first_offset_of_locals : LocalVars → ℕ
first_offset_of_locals node = modifiers_first node.modifiers (first_offset_of_type node.ty)

-- the result of a method begins with `void` or with its type
abbrev pub first_offset_of_result : ResultType → ℕ
first_offset_of_result (aResultType.Void at) = at
first_offset_of_result (aResultType.Type it) = first_offset_of_type it

-- a declaration of a type begins with its modifiers, or where there are none with its keyword, or the `@` of `@interface`
abbrev pub first_offset_of_head : DeclarationHead → ℕ
first_offset_of_head (aDeclarationHead.Class modifiers at name params extends implements) = modifiers_first modifiers at
first_offset_of_head (aDeclarationHead.Interface modifiers at name params extends) = modifiers_first modifiers at
first_offset_of_head (aDeclarationHead.Annotation modifiers at name) = modifiers_first modifiers at

-- that of the left angle bracket of type parameters, or where there are none of what stands behind them
abbrev pub params_first : Option TypeParams → ℕ → ℕ
params_first None next = next
params_first (Some params) next = params.at

-- that of a result, or in a constructor, which has none, of what stands behind it
abbrev pub result_first : Option ResultType → ℕ → ℕ
result_first None next = next
result_first (Some result) next = first_offset_of_result result

-- a method or a constructor begins with the first that there is of its modifiers, type parameters, result and name
abbrev pub first_offset_of_method : MethodHead → ℕ
first_offset_of_method node = modifiers_first node.modifiers (params_first node.params (result_first node.result node.name.at))

-- a member begins with its head; a semicolon is its own first token, and an initialiser begins with `static` or with its brace
abbrev pub member_first : Member-F ℕ ℕ ℕ ℕ → ℕ
member_first (Member-F.Semicolon at) = at
member_first (Member-F.Initialiser at is_static items) = at
member_first (Member-F.Fields it) = first_offset_of_locals it
member_first (Member-F.Bare head) = first_offset_of_method head
member_first (Member-F.Method head items) = first_offset_of_method head
member_first (Member-F.Nested it) = it

-- an `if` begins with its first part
-- (at 0 where it has none), and any other statement with a token of its own, its label, its expression or its declaration
abbrev pub stmt_first : Stmt-F ℕ ℕ ℕ ℕ → ℕ
stmt_first (Stmt-F.Local it) = first_offset_of_locals it
stmt_first (Stmt-F.Declared it) = it
stmt_first (Stmt-F.Block at items) = at
stmt_first (Stmt-F.Empty at) = at
stmt_first (Stmt-F.Effect it) = first_offset_of_expr it
stmt_first (Stmt-F.Labeled label body) = label.at
stmt_first (Stmt-F.If arms otherwise) = first_or arms 0
stmt_first (Stmt-F.While at test body) = at
stmt_first (Stmt-F.Do at body test) = at
stmt_first (Stmt-F.For at head body) = at
stmt_first (Stmt-F.Switch at selector groups) = at
stmt_first (Stmt-F.Return at value) = at
stmt_first (Stmt-F.Break at label) = at
stmt_first (Stmt-F.Continue at label) = at
stmt_first (Stmt-F.Throw at value) = at
stmt_first (Stmt-F.Try at resources items clauses) = at
stmt_first (Stmt-F.ThisCall at actuals) = at
stmt_first (Stmt-F.SuperCall at actuals) = at

-- a part of a statement begins with its keyword
abbrev pub clause_first : Clause-F ℕ ℕ ℕ ℕ → ℕ
clause_first node = node.at

-- a declaration of a type begins with its head, and so never with its braces
abbrev pub declaration_first : Declaration-F ℕ ℕ ℕ ℕ → ℕ
declaration_first node = first_offset_of_head node.head

-- the offsets that members, statements, their parts and declarations of types begin at: each folds the node by the four steps above
unfoldable pub first_offset_of_member : Member → ℕ
first_offset_of_member node = fold-Member ℕ ℕ ℕ ℕ member_first stmt_first clause_first declaration_first node

unfoldable pub first_offset_of_stmt : Stmt → ℕ
first_offset_of_stmt node = fold-Stmt ℕ ℕ ℕ ℕ member_first stmt_first clause_first declaration_first node

unfoldable pub first_offset_of_clause : Clause → ℕ
first_offset_of_clause node = fold-Clause ℕ ℕ ℕ ℕ member_first stmt_first clause_first declaration_first node

unfoldable pub first_offset_of_declaration : Declaration → ℕ
first_offset_of_declaration node = fold-Declaration ℕ ℕ ℕ ℕ member_first stmt_first clause_first declaration_first node

-- an import (JLS 7.5) begins with its keyword
abbrev pub first_offset_of_import : Import → ℕ
first_offset_of_import node = node.at

-- what stands at the top of a file (JLS 7.6) begins with its declaration of a type, or is a semicolon
abbrev pub first_offset_of_top : TopLevel → ℕ
first_offset_of_top (aTopLevel.Declaration it) = first_offset_of_declaration it
first_offset_of_top (aTopLevel.Semicolon at) = at

-- that of a package declaration (JLS 7.4.1), or where there is none of what stands behind it
abbrev pub package_first : Option Package → ℕ → ℕ
package_first None next = next
package_first (Some named) next = named.at

-- 0 where the file has no tokens
abbrev pub first_offset_of_file : SourceFile → ℕ
first_offset_of_file node =
    package_first node.package (first_or (map first_offset_of_import node.imports) (first_or (map first_offset_of_top node.types) 0))
