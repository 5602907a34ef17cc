-- What a tree tells of its tokens by its parts, level by level.
use Rattle.std.specs.Prelude.{◌∷◌, ◌≡◌, Bool, List, None, Option, Some, false, map, true, ℕ}
use Rattle.jc_lexer.specs.declared.token.TokenKind.{TokenKind}
use Rattle.jc_lexer.specs.declared.token.Key.TheVariants as key_of
use Rattle.jc_lexer.specs.declared.token.Sign.TheVariants as sign_of
use Rattle.jc_tree.specs.declared.expression.ArrayInit.{ArrayInit, out-ArrayInit}
use Rattle.jc_tree.specs.declared.expression.AssignOp.{AssignOp}
use Rattle.jc_tree.specs.declared.expression.BinaryOp.{BinaryOp}
use Rattle.jc_tree.specs.declared.expression.Creation.{Creation}
use Rattle.jc_tree.specs.declared.expression.Creation.TheVariants as anCreation
use Rattle.jc_tree.specs.declared.expression.Expr.{Expr}
use Rattle.jc_tree.specs.declared.expression.Expr.TheVariants as anExpr
use Rattle.jc_tree.specs.declared.expression.Init.TheVariants as anInit
use Rattle.jc_tree.specs.declared.expression.Literal.{Literal}
use Rattle.jc_tree.specs.declared.expression.Operand.{Operand}
use Rattle.jc_tree.specs.declared.expression.Operand.TheVariants as anOperand
use Rattle.jc_tree.specs.declared.expression.PostfixOp.{PostfixOp}
use Rattle.jc_tree.specs.declared.expression.PrefixOp.{PrefixOp}
use Rattle.jc_tree.specs.declared.expression.Skip.{Skip, out-Skip}
use Rattle.jc_tree.specs.declared.expression.SkipPart.TheVariants as anSkipPart
use Rattle.jc_tree.specs.declared.name.Ident.{Ident}
use Rattle.jc_tree.specs.declared.statement.AnnotationValue.{AnnotationValue}
use Rattle.jc_tree.specs.declared.statement.AnnotationValue.TheVariants as anAnnotationValue
use Rattle.jc_tree.specs.declared.statement.Clause.{Clause, out-Clause}
use Rattle.jc_tree.specs.declared.statement.Declaration.{Declaration, out-Declaration}
use Rattle.jc_tree.specs.declared.statement.ForHead.{ForHead}
use Rattle.jc_tree.specs.declared.statement.LocalVars.{LocalVars}
use Rattle.jc_tree.specs.declared.statement.Member.TheVariants as anMember
use Rattle.jc_tree.specs.declared.statement.MethodHead.{MethodHead}
use Rattle.jc_tree.specs.declared.statement.Resources.{Resources}
use Rattle.jc_tree.specs.declared.statement.Stmt.{Stmt}
use Rattle.jc_tree.specs.declared.statement.Stmt.TheVariants as anStmt
use Rattle.jc_tree.specs.declared.types.BaseTree.{BaseTree}
use Rattle.jc_tree.specs.declared.types.BaseTree.TheVariants as anBaseTree
use Rattle.jc_tree.specs.declared.types.ClassTree.{ClassTree, out-ClassTree}
use Rattle.jc_tree.specs.declared.types.PrimitiveWord.{PrimitiveWord}
use Rattle.jc_tree.specs.declared.types.TypeArg.{TypeArg}
use Rattle.jc_tree.specs.declared.types.TypeArg.TheVariants as anTypeArg
use Rattle.jc_tree.specs.declared.types.TypePart.{TypePart, out-TypePart}
use Rattle.jc_tree.specs.declared.types.TypeTree.{TypeTree, out-TypeTree}
use Rattle.jc_grammar.specs.Expressions.{array_tokens, assign_tokens, binary_tokens, creation_tokens, diamond_tokens, expr_tokens, if_there, in_brackets, init_tokens, literal_kind, operand_tokens, postfix_sign, prefix_tokens, skip_part_tokens, skip_tokens}
use Rattle.jc_grammar.specs.Parts.{for_tokens, head_tokens, if_some, local_tokens, method_tokens, resources_tokens, value_tokens}
use Rattle.jc_grammar.specs.Statements.{after_elses, arms_tokens, braced, braced_at, clause_tokens, clause_with, declaration_tokens, in_parens, labeled, member_tokens, stmt_tokens}
use Rattle.jc_grammar.specs.Told.{Told, actuals, after_dots, brackets, commas, each, ident, key, key_at, names_after, sign, sign_at, told}
use Rattle.jc_grammar.specs.Types.{angled, arg_tokens, args_tokens, base_tokens, class_tokens, part_tokens, primitive_key, type_tokens}

-- the tokens of each kind of node of a type, by those of its parts
pub record TypesAreTold : Type 0 where
  pub base_at_Primitive : (at : ℕ) (word : PrimitiveWord) (r : List Told) → base_tokens (anBaseTree.Primitive at word) r ≡ key_at (primitive_key word) at ∷ r
  pub base_at_Class : (class : ClassTree) (r : List Told) → base_tokens (anBaseTree.Class class) r ≡ class_tokens class r
  pub arg_at_Exact : (ty : TypeTree) (r : List Told) → arg_tokens (anTypeArg.Exact ty) r ≡ type_tokens ty r
  pub arg_at_Any : (at : ℕ) (r : List Told) → arg_tokens (anTypeArg.Any at) r ≡ sign_at sign_of.Question at ∷ r
  pub arg_at_Extends : (at : ℕ) (bound : TypeTree) (r : List Told) → arg_tokens (anTypeArg.Extends at bound) r ≡ sign_at sign_of.Question at ∷ key key_of.Extends ∷ type_tokens bound r
  pub arg_at_Super : (at : ℕ) (bound : TypeTree) (r : List Told) → arg_tokens (anTypeArg.Super at bound) r ≡ sign_at sign_of.Question at ∷ key key_of.Super ∷ type_tokens bound r
  pub classes : (node : ClassTree) (r : List Told) → class_tokens node r ≡ part_tokens (out-ClassTree node).first (after_dots (map part_tokens (out-ClassTree node).more) r)
  pub parts : (node : TypePart) (r : List Told) → part_tokens node r ≡ ident (out-TypePart node).name ∷ angled (map arg_tokens (out-TypePart node).args) r
  pub types : (node : TypeTree) (r : List Told) → type_tokens node r ≡ base_tokens (out-TypeTree node).base (brackets (out-TypeTree node).dims r)

-- the tokens of each kind of node of an expression, by those of its parts
pub record ExpressionsAreTold : Type 0 where
  pub skip_part_at_Inner : (skip : Skip) (r : List Told) → skip_part_tokens (anSkipPart.Inner skip) r ≡ skip_tokens skip r
  pub skip_part_at_Token : (kind : TokenKind) (r : List Told) → skip_part_tokens (anSkipPart.Token kind) r ≡ told kind None ∷ r
  pub skips : (node : Skip) (r : List Told) → skip_tokens node r ≡ sign sign_of.LeftBrace ∷ each (map skip_part_tokens (out-Skip node).parts) (sign sign_of.RightBrace ∷ r)
  pub creation_at_Object : (class : ClassTree) (diamond : Bool) (args : List Expr) (body : List Skip) (r : List Told) → creation_tokens (anCreation.Object class diamond args body) r ≡ class_tokens class (diamond_tokens diamond (actuals (map expr_tokens args) (each (map skip_tokens body) r)))
  pub creation_at_Sized : (element : BaseTree) (first : Expr) (more : List Expr) (dims : ℕ) (r : List Told) → creation_tokens (anCreation.Sized element first more dims) r ≡ base_tokens element (in_brackets (expr_tokens first) (each (map in_brackets (map expr_tokens more)) (brackets dims r)))
  pub creation_at_Initialised : (element : BaseTree) (dims : ℕ) (init : ArrayInit) (r : List Told) → creation_tokens (anCreation.Initialised element dims init) r ≡ base_tokens element (sign sign_of.LeftBracket ∷ sign sign_of.RightBracket ∷ brackets dims (array_tokens init r))
  pub at_Assign : (target : Expr) (op : AssignOp) (value : Expr) (r : List Told) → expr_tokens (anExpr.Assign target op value) r ≡ expr_tokens target (assign_tokens op (expr_tokens value r))
  pub at_Conditional : (test : Expr) (then_it : Expr) (else_it : Expr) (r : List Told) → expr_tokens (anExpr.Conditional test then_it else_it) r ≡ expr_tokens test (sign sign_of.Question ∷ expr_tokens then_it (sign sign_of.Colon ∷ expr_tokens else_it r))
  pub at_Chain : (first : Expr) (rest : List Operand) (r : List Told) → expr_tokens (anExpr.Chain first rest) r ≡ expr_tokens first (each (map operand_tokens rest) r)
  pub at_Prefix : (first : PrefixOp) (more : List PrefixOp) (operand : Expr) (r : List Told) → expr_tokens (anExpr.Prefix first more operand) r ≡ prefix_tokens (first ∷ more) (expr_tokens operand r)
  pub at_Cast : (at : ℕ) (ty : TypeTree) (operand : Expr) (r : List Told) → expr_tokens (anExpr.Cast at ty operand) r ≡ sign_at sign_of.LeftParen at ∷ type_tokens ty (sign sign_of.RightParen ∷ expr_tokens operand r)
  pub at_Postfix : (of_it : Expr) (op : PostfixOp) (r : List Told) → expr_tokens (anExpr.Postfix of_it op) r ≡ expr_tokens of_it (sign (postfix_sign op) ∷ r)
  pub at_Field : (of_it : Expr) (name : Ident) (r : List Told) → expr_tokens (anExpr.Field of_it name) r ≡ expr_tokens of_it (sign sign_of.Dot ∷ ident name ∷ r)
  pub at_Call : (of_it : Expr) (type_args : List TypeArg) (name : Ident) (args : List Expr) (r : List Told) → expr_tokens (anExpr.Call of_it type_args name args) r ≡ expr_tokens of_it (sign sign_of.Dot ∷ args_tokens type_args (ident name ∷ actuals (map expr_tokens args) r))
  pub at_Index : (of_it : Expr) (index : Expr) (r : List Told) → expr_tokens (anExpr.Index of_it index) r ≡ expr_tokens of_it (in_brackets (expr_tokens index) r)
  pub at_InnerNew : (of_it : Expr) (creation : Creation) (r : List Told) → expr_tokens (anExpr.InnerNew of_it creation) r ≡ expr_tokens of_it (sign sign_of.Dot ∷ key key_of.New ∷ creation_tokens creation r)
  pub at_Literal : (at : ℕ) (value : Literal) (r : List Told) → expr_tokens (anExpr.Literal at value) r ≡ told (literal_kind value) (Some at) ∷ r
  pub at_This : (at : ℕ) (r : List Told) → expr_tokens (anExpr.This at) r ≡ key_at key_of.This at ∷ r
  pub at_SuperField : (at : ℕ) (name : Ident) (r : List Told) → expr_tokens (anExpr.SuperField at name) r ≡ key_at key_of.Super at ∷ sign sign_of.Dot ∷ ident name ∷ r
  pub at_SuperCall : (at : ℕ) (type_args : List TypeArg) (name : Ident) (args : List Expr) (r : List Told) → expr_tokens (anExpr.SuperCall at type_args name args) r ≡ key_at key_of.Super at ∷ sign sign_of.Dot ∷ args_tokens type_args (ident name ∷ actuals (map expr_tokens args) r)
  pub at_Paren : (at : ℕ) (inside : Expr) (r : List Told) → expr_tokens (anExpr.Paren at inside) r ≡ sign_at sign_of.LeftParen at ∷ expr_tokens inside (sign sign_of.RightParen ∷ r)
  pub at_Name : (name : Ident) (r : List Told) → expr_tokens (anExpr.Name name) r ≡ ident name ∷ r
  pub at_Invoke : (name : Ident) (args : List Expr) (r : List Told) → expr_tokens (anExpr.Invoke name args) r ≡ ident name ∷ actuals (map expr_tokens args) r
  pub at_New : (at : ℕ) (creation : Creation) (r : List Told) → expr_tokens (anExpr.New at creation) r ≡ key_at key_of.New at ∷ creation_tokens creation r
  pub at_ClassLiteral : (ty : TypeTree) (r : List Told) → expr_tokens (anExpr.ClassLiteral ty) r ≡ type_tokens ty (sign sign_of.Dot ∷ key key_of.Class ∷ r)
  pub at_VoidLiteral : (at : ℕ) (r : List Told) → expr_tokens (anExpr.VoidLiteral at) r ≡ key_at key_of.Void at ∷ sign sign_of.Dot ∷ key key_of.Class ∷ r
  pub at_OuterThis : (first : Ident) (more : List Ident) (r : List Told) → expr_tokens (anExpr.OuterThis first more) r ≡ ident first ∷ names_after more (sign sign_of.Dot ∷ key key_of.This ∷ r)
  pub init_at_Value : (expr : Expr) (r : List Told) → init_tokens (anInit.Value expr) r ≡ expr_tokens expr r
  pub init_at_Nested : (array : ArrayInit) (r : List Told) → init_tokens (anInit.Nested array) r ≡ array_tokens array r
  pub operand_at_Binary : (op : BinaryOp) (right : Expr) (r : List Told) → operand_tokens (anOperand.Binary op right) r ≡ binary_tokens op (expr_tokens right r)
  pub operand_at_InstanceOf : (ty : TypeTree) (r : List Told) → operand_tokens (anOperand.InstanceOf ty) r ≡ key key_of.Instanceof ∷ type_tokens ty r
  pub arrays : (node : ArrayInit) (r : List Told) → array_tokens node r ≡ sign_at sign_of.LeftBrace (out-ArrayInit node).at ∷ commas (map init_tokens (out-ArrayInit node).inits) (if_there (out-ArrayInit node).trailing sign_of.Comma (sign sign_of.RightBrace ∷ r))

-- the tokens of each kind of node of annotations, members, statements, clauses and declarations, by those of their parts
pub record StatementsAreTold : Type 0 where
  pub value_at_Value : (expr : Expr) (r : List Told) → value_tokens (anAnnotationValue.Value expr) r ≡ expr_tokens expr r
  pub value_at_List : (at : ℕ) (values : List AnnotationValue) (trailing : Bool) (r : List Told) → value_tokens (anAnnotationValue.List at values trailing) r ≡ sign_at sign_of.LeftBrace at ∷ commas (map value_tokens values) (if_there trailing sign_of.Comma (sign sign_of.RightBrace ∷ r))
  pub member_at_Semicolon : (at : ℕ) (r : List Told) → member_tokens (anMember.Semicolon at) r ≡ sign_at sign_of.Semicolon at ∷ r
  pub member_at_Initialiser_static : (at : ℕ) (items : List Stmt) (r : List Told) → member_tokens (anMember.Initialiser at true items) r ≡ key_at key_of.Static at ∷ braced (map stmt_tokens items) r
  pub member_at_Initialiser_instance : (at : ℕ) (items : List Stmt) (r : List Told) → member_tokens (anMember.Initialiser at false items) r ≡ braced_at at (map stmt_tokens items) r
  pub member_at_Fields : (vars : LocalVars) (r : List Told) → member_tokens (anMember.Fields vars) r ≡ local_tokens vars (sign sign_of.Semicolon ∷ r)
  pub member_at_Bare : (head : MethodHead) (r : List Told) → member_tokens (anMember.Bare head) r ≡ method_tokens head (sign sign_of.Semicolon ∷ r)
  pub member_at_Method : (head : MethodHead) (items : List Stmt) (r : List Told) → member_tokens (anMember.Method head items) r ≡ method_tokens head (braced (map stmt_tokens items) r)
  pub member_at_Nested : (declaration : Declaration) (r : List Told) → member_tokens (anMember.Nested declaration) r ≡ declaration_tokens declaration r
  pub at_Local : (vars : LocalVars) (r : List Told) → stmt_tokens (anStmt.Local vars) r ≡ local_tokens vars (sign sign_of.Semicolon ∷ r)
  pub at_Declared : (declaration : Declaration) (r : List Told) → stmt_tokens (anStmt.Declared declaration) r ≡ declaration_tokens declaration r
  pub at_Block : (at : ℕ) (items : List Stmt) (r : List Told) → stmt_tokens (anStmt.Block at items) r ≡ braced_at at (map stmt_tokens items) r
  pub at_Empty : (at : ℕ) (r : List Told) → stmt_tokens (anStmt.Empty at) r ≡ sign_at sign_of.Semicolon at ∷ r
  pub at_Effect : (expr : Expr) (r : List Told) → stmt_tokens (anStmt.Effect expr) r ≡ expr_tokens expr (sign sign_of.Semicolon ∷ r)
  pub at_Labeled : (label : Ident) (body : Stmt) (r : List Told) → stmt_tokens (anStmt.Labeled label body) r ≡ ident label ∷ sign sign_of.Colon ∷ stmt_tokens body r
  pub at_If : (arms : List Clause) (otherwise : List Stmt) (r : List Told) → stmt_tokens (anStmt.If arms otherwise) r ≡ arms_tokens (map clause_tokens arms) (after_elses (map stmt_tokens otherwise) r)
  pub at_While : (at : ℕ) (test : Expr) (body : Stmt) (r : List Told) → stmt_tokens (anStmt.While at test body) r ≡ key_at key_of.While at ∷ in_parens test (stmt_tokens body r)
  pub at_Do : (at : ℕ) (body : Stmt) (test : Expr) (r : List Told) → stmt_tokens (anStmt.Do at body test) r ≡ key_at key_of.Do at ∷ stmt_tokens body (key key_of.While ∷ in_parens test (sign sign_of.Semicolon ∷ r))
  pub at_For : (at : ℕ) (head : ForHead) (body : Stmt) (r : List Told) → stmt_tokens (anStmt.For at head body) r ≡ key_at key_of.For at ∷ sign sign_of.LeftParen ∷ for_tokens head (sign sign_of.RightParen ∷ stmt_tokens body r)
  pub at_Switch : (at : ℕ) (selector : Expr) (groups : List Clause) (r : List Told) → stmt_tokens (anStmt.Switch at selector groups) r ≡ key_at key_of.Switch at ∷ in_parens selector (braced (map clause_tokens groups) r)
  pub at_Return : (at : ℕ) (value : Option Expr) (r : List Told) → stmt_tokens (anStmt.Return at value) r ≡ key_at key_of.Return at ∷ if_some expr_tokens value (sign sign_of.Semicolon ∷ r)
  pub at_Break : (at : ℕ) (label : Option Ident) (r : List Told) → stmt_tokens (anStmt.Break at label) r ≡ key_at key_of.Break at ∷ labeled label (sign sign_of.Semicolon ∷ r)
  pub at_Continue : (at : ℕ) (label : Option Ident) (r : List Told) → stmt_tokens (anStmt.Continue at label) r ≡ key_at key_of.Continue at ∷ labeled label (sign sign_of.Semicolon ∷ r)
  pub at_Throw : (at : ℕ) (value : Expr) (r : List Told) → stmt_tokens (anStmt.Throw at value) r ≡ key_at key_of.Throw at ∷ expr_tokens value (sign sign_of.Semicolon ∷ r)
  pub at_Try : (at : ℕ) (resources : Option Resources) (items : List Stmt) (clauses : List Clause) (r : List Told) → stmt_tokens (anStmt.Try at resources items clauses) r ≡ key_at key_of.Try at ∷ if_some resources_tokens resources (braced (map stmt_tokens items) (each (map clause_tokens clauses) r))
  pub at_ThisCall : (at : ℕ) (args : List Expr) (r : List Told) → stmt_tokens (anStmt.ThisCall at args) r ≡ key_at key_of.This at ∷ actuals (map expr_tokens args) (sign sign_of.Semicolon ∷ r)
  pub at_SuperCall : (at : ℕ) (args : List Expr) (r : List Told) → stmt_tokens (anStmt.SuperCall at args) r ≡ key_at key_of.Super at ∷ actuals (map expr_tokens args) (sign sign_of.Semicolon ∷ r)
  pub clauses : (node : Clause) (r : List Told) → clause_tokens node r ≡ clause_with (out-Clause node).head (out-Clause node).at (map stmt_tokens (out-Clause node).items) r
  pub declarations : (node : Declaration) (r : List Told) → declaration_tokens node r ≡ head_tokens (out-Declaration node).head (braced (map member_tokens (out-Declaration node).members) r)
