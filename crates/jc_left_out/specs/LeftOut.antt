-- The words and the forms of Java 7 that the language leaves out: where the first one stands in a list of tokens, or in a tree. A form
-- stands where the first token of its node does: a body behind a creation at the creation, `a.new B()` at `a`, a declaration at its
-- modifiers.
use Rattle.std.specs.Prelude.{ℕ, suc, min, nat_le, Bool, true, false, cond, not, ◌&&◌, ◌||◌, List, [], ◌∷◌, ◌++◌, map, codes, Option, Some, None}
use Rattle.std.specs.Str.{bytes_eq}
use Rattle.jc_lexer.specs.declared.token.Key.{Key}
use Rattle.jc_lexer.specs.declared.token.Key.TheVariants as key_of
use Rattle.jc_lexer.specs.declared.token.Token.{Token}
use Rattle.jc_lexer.specs.declared.token.TokenKind.{TokenKind}
use Rattle.jc_lexer.specs.declared.token.TokenKind.TheVariants as kind_of
use Rattle.jc_tree.specs.declared.expression.ArrayInit.{ArrayInit, ArrayInit-F, fold-ArrayInit}
use Rattle.jc_tree.specs.declared.expression.Creation.{Creation, Creation-F, fold-Creation, map-Creation}
use Rattle.jc_tree.specs.declared.expression.Expr.{Expr, Expr-F, fold-Expr, map-Expr}
use Rattle.jc_tree.specs.declared.expression.Init.{Init, Init-F, fold-Init}
use Rattle.jc_tree.specs.declared.expression.Operand.{Operand, Operand-F, fold-Operand}
use Rattle.jc_tree.specs.declared.statement.Annotation.{Annotation}
use Rattle.jc_tree.specs.declared.statement.AnnotationValue.{AnnotationValue, AnnotationValue-F, fold-AnnotationValue}
use Rattle.jc_tree.specs.declared.statement.Clause.{Clause, Clause-F, fold-Clause}
use Rattle.jc_tree.specs.declared.statement.ClauseHead.{ClauseHead}
use Rattle.jc_tree.specs.declared.statement.ClauseHead.TheVariants as clause_of
use Rattle.jc_tree.specs.declared.statement.Declaration.{Declaration, Declaration-F, fold-Declaration}
use Rattle.jc_tree.specs.declared.statement.DeclarationHead.{DeclarationHead}
use Rattle.jc_tree.specs.declared.statement.DeclarationHead.TheVariants as head_of
use Rattle.jc_tree.specs.declared.statement.ForHead.{ForHead}
use Rattle.jc_tree.specs.declared.statement.ForHead.TheVariants as for_of
use Rattle.jc_tree.specs.declared.statement.ForInit.{ForInit}
use Rattle.jc_tree.specs.declared.statement.ForInit.TheVariants as init_of
use Rattle.jc_tree.specs.declared.statement.Formal.{Formal}
use Rattle.jc_tree.specs.declared.statement.Import.{Import}
use Rattle.jc_tree.specs.declared.statement.LocalVars.{LocalVars}
use Rattle.jc_tree.specs.declared.statement.Member.{Member, Member-F, fold-Member}
use Rattle.jc_tree.specs.declared.statement.MethodHead.{MethodHead}
use Rattle.jc_tree.specs.declared.statement.Modifier.{Modifier}
use Rattle.jc_tree.specs.declared.statement.Modifier.TheVariants as modifier_of
use Rattle.jc_tree.specs.declared.statement.ModifierWord.TheVariants as word_of
use Rattle.jc_tree.specs.declared.statement.Pair.{Pair}
use Rattle.jc_tree.specs.declared.statement.Resource.{Resource}
use Rattle.jc_tree.specs.declared.statement.Resources.{Resources}
use Rattle.jc_tree.specs.declared.statement.ResultType.{ResultType}
use Rattle.jc_tree.specs.declared.statement.SourceFile.{SourceFile}
use Rattle.jc_tree.specs.declared.statement.Stmt.{Stmt, Stmt-F, fold-Stmt}
use Rattle.jc_tree.specs.declared.statement.TopLevel.{TopLevel}
use Rattle.jc_tree.specs.declared.statement.TopLevel.TheVariants as top_of
use Rattle.jc_tree.specs.declared.statement.TypeParams.{TypeParams}
use Rattle.jc_tree.specs.declared.statement.Var.{Var}
use Rattle.jc_tree.specs.Offsets.{creation_first, expr_first, first_offset_of_head, first_offset_of_method}

-- the first token that passes

-- a place one token further on; no place (None) stays none
abbrev pub one_further : Option ℕ → Option ℕ
one_further None = None
one_further (Some n) = Some (suc n)

-- the place of a token is how many stand before it; None where no token passes
abbrev pub first_that : (Token → Bool) → List Token → Option ℕ
first_that test [] = None
first_that test (t ∷ tokens) = cond (test t) (Some 0) (one_further (first_that test tokens))

-- words (JLS 3.9): those of floating-point types (4.2.3), of `assert` (14.10), of `strictfp` (8.1.1.3), of `synchronized` (8.4.3.6, 14.19) and
-- of enums (8.9), and outside the prelude that of `native` methods (8.4.3.4)

-- whether a keyword is left out; `prelude` tells whether the file is one of the prelude
abbrev pub is_left_out_key : Bool → Key → Bool
is_left_out_key prelude key_of.Float = true
is_left_out_key prelude key_of.Double = true
is_left_out_key prelude key_of.Assert = true
is_left_out_key prelude key_of.Strictfp = true
is_left_out_key prelude key_of.Synchronized = true
is_left_out_key prelude key_of.Enum = true
is_left_out_key prelude key_of.Native = not prelude
is_left_out_key prelude _ = false

-- no token but a keyword is left out
abbrev pub is_left_out_word : Bool → TokenKind → Bool
is_left_out_word prelude (kind_of.Key k) = is_left_out_key prelude k
is_left_out_word prelude _ = false

-- the place of the first word that is left out
abbrev pub first_left_out_word : Bool → List Token → Option ℕ
first_left_out_word prelude tokens = first_that (λ t. is_left_out_word prelude t.kind) tokens

-- forms: the offsets at which they stand

-- the offsets of several parts, one list behind the other
abbrev pub joined_all : List (List ℕ) → List ℕ
joined_all [] = []
joined_all (places ∷ more) = places ++ joined_all more

-- the offsets in what is there; none where nothing is
abbrev pub in_some_of : {X : Type 0} → (X → List ℕ) → Option X → List ℕ
in_some_of f None = []
in_some_of f (Some x) = f x

-- the offsets in each element of a list, in its order
abbrev pub in_each : {X : Type 0} → (X → List ℕ) → List X → List ℕ
in_each f list = joined_all (map f list)

-- one offset where the condition holds, and else none
abbrev pub only_if : Bool → ℕ → List ℕ
only_if true at = at ∷ []
only_if false at = []

-- of a part of an expression: where it begins, and the left-out forms in it
abbrev pub Part : Type 0
Part = ℕ × List ℕ

-- the forms in several parts, in their order
abbrev pub forms_in : List Part → List ℕ
forms_in parts = joined_all (map (λ (p : Part). p.1) parts)

-- a class body behind a creation (15.9.5)
abbrev pub creation_forms : Creation-F Part Part Part Part Part → ℕ → List ℕ
creation_forms (Creation-F.Object class diamond actuals []) at = forms_in actuals
creation_forms (Creation-F.Object class diamond actuals (skip ∷ body)) at = at ∷ forms_in actuals
creation_forms (Creation-F.Sized element first more dims) at = first.1 ++ forms_in more
creation_forms (Creation-F.Initialised element dims init) at = init.1

-- a creation of an inner class by an instance of the outer one (15.9), a class literal (15.8.2) and a qualified `this` (15.8.4)
abbrev pub expr_forms : Expr-F Part Part Part Part Part → ℕ → List ℕ
expr_forms (Expr-F.Assign target op value) at = target.1 ++ value.1
expr_forms (Expr-F.Conditional test then_it else_it) at = test.1 ++ then_it.1 ++ else_it.1
expr_forms (Expr-F.Chain first rest) at = first.1 ++ forms_in rest
expr_forms (Expr-F.Prefix first more operand) at = operand.1
expr_forms (Expr-F.Cast from ty operand) at = operand.1
expr_forms (Expr-F.Postfix of_it op) at = of_it.1
expr_forms (Expr-F.Field of_it name) at = of_it.1
expr_forms (Expr-F.Call of_it type_args name actuals) at = of_it.1 ++ forms_in actuals
expr_forms (Expr-F.Index of_it index) at = of_it.1 ++ index.1
expr_forms (Expr-F.InnerNew of_it creation) at = at ∷ of_it.1 ++ creation.1
expr_forms (Expr-F.Literal from value) at = []
expr_forms (Expr-F.This from) at = []
expr_forms (Expr-F.SuperField from name) at = []
expr_forms (Expr-F.SuperCall from type_args name actuals) at = forms_in actuals
expr_forms (Expr-F.Paren from inner) at = inner.1
expr_forms (Expr-F.Name name) at = []
expr_forms (Expr-F.Invoke name actuals) at = forms_in actuals
expr_forms (Expr-F.New from creation) at = creation.1
expr_forms (Expr-F.ClassLiteral ty) at = at ∷ []
expr_forms (Expr-F.VoidLiteral from) at = at ∷ []
expr_forms (Expr-F.OuterThis first more) at = at ∷ []

-- a node by its parts: where it begins, and the forms in it; behind `instanceof` stands no form, and 0 for where it begins
abbrev pub creation_part : Creation-F Part Part Part Part Part → Part
creation_part l = let at : ℕ = creation_first (map-Creation Part Part Part Part Part ℕ ℕ ℕ ℕ ℕ (λ p. p.0) (λ p. p.0) (λ p. p.0) (λ p. p.0) (λ p. p.0) l) in (at, creation_forms l at)

abbrev pub expr_part : Expr-F Part Part Part Part Part → Part
expr_part l = let at : ℕ = expr_first (map-Expr Part Part Part Part Part ℕ ℕ ℕ ℕ ℕ (λ p. p.0) (λ p. p.0) (λ p. p.0) (λ p. p.0) (λ p. p.0) l) in (at, expr_forms l at)

abbrev pub init_part : Init-F Part Part Part Part Part → Part
init_part (Init-F.Value it) = it
init_part (Init-F.Nested it) = it

abbrev pub operand_part : Operand-F Part Part Part Part Part → Part
operand_part (Operand-F.Binary op right) = right
operand_part (Operand-F.InstanceOf ty) = (0, [])

abbrev pub array_part : ArrayInit-F Part Part Part Part Part → Part
array_part node = (node.at, forms_in node.inits)

-- the folds of these steps
unfoldable pub part_of_creation : Creation → Part
part_of_creation node = fold-Creation Part Part Part Part Part creation_part expr_part init_part operand_part array_part node

unfoldable pub part_of_expr : Expr → Part
part_of_expr node = fold-Expr Part Part Part Part Part creation_part expr_part init_part operand_part array_part node

unfoldable pub part_of_init : Init → Part
part_of_init node = fold-Init Part Part Part Part Part creation_part expr_part init_part operand_part array_part node

unfoldable pub part_of_operand : Operand → Part
part_of_operand node = fold-Operand Part Part Part Part Part creation_part expr_part init_part operand_part array_part node

unfoldable pub part_of_array : ArrayInit → Part
part_of_array node = fold-ArrayInit Part Part Part Part Part creation_part expr_part init_part operand_part array_part node

-- the offsets of the left-out forms in an expression, and in what stands in one
abbrev pub left_out_of_creation : Creation → List ℕ
left_out_of_creation creation = (part_of_creation creation).1

abbrev pub left_out_of_expr : Expr → List ℕ
left_out_of_expr expr = (part_of_expr expr).1

abbrev pub left_out_of_init : Init → List ℕ
left_out_of_init init = (part_of_init init).1

abbrev pub left_out_of_operand : Operand → List ℕ
left_out_of_operand operand = (part_of_operand operand).1

abbrev pub left_out_of_array : ArrayInit → List ℕ
left_out_of_array array = (part_of_array array).1

-- annotations (9.6.3): all but four, by their simple names

-- the list has no elements
abbrev pub is_nothing : {X : Type 0} → List X → Bool
is_nothing [] = true
is_nothing (x ∷ list) = false

-- the simple names of the four
abbrev pub is_known_name : List ℕ → Bool
is_known_name text = bytes_eq text (codes "Override") || bytes_eq text (codes "Deprecated") || bytes_eq text (codes "SuppressWarnings") || bytes_eq text (codes "SafeVarargs")

-- one of the four, by its simple name; with a qualified name it is left out
abbrev pub is_known_annotation : Annotation → Bool
is_known_annotation a = is_nothing a.more && is_known_name a.first.text

-- the forms in a value of an annotation, be it one of the four or not; `left_out_of_value` is the fold
abbrev pub value_forms : AnnotationValue-F (List ℕ) → List ℕ
value_forms (AnnotationValue-F.Value expr) = left_out_of_expr expr
value_forms (AnnotationValue-F.List at values trailing) = joined_all values

unfoldable pub left_out_of_value : AnnotationValue → List ℕ
left_out_of_value value = fold-AnnotationValue (List ℕ) value_forms value

-- the forms in the values of an annotation, in the order of the pairs
abbrev pub left_out_of_pair : Pair → List ℕ
left_out_of_pair pair = left_out_of_value pair.value

abbrev pub left_out_of_pairs : List Pair → List ℕ
left_out_of_pairs pairs = in_each left_out_of_pair pairs

-- an annotation that is none of the four stands at its `@`; the forms in its values count as well
abbrev pub left_out_of_modifier : Modifier → List ℕ
left_out_of_modifier (modifier_of.Annotation a) = only_if (not (is_known_annotation a)) a.at ++ in_some_of left_out_of_pairs a.pairs
left_out_of_modifier (modifier_of.Word at word) = []

-- the forms in modifiers, and in those of formals
abbrev pub left_out_of_modifiers : List Modifier → List ℕ
left_out_of_modifiers modifiers = in_each left_out_of_modifier modifiers

abbrev pub left_out_of_formal : Formal → List ℕ
left_out_of_formal f = left_out_of_modifiers f.modifiers

abbrev pub left_out_of_formals : List Formal → List ℕ
left_out_of_formals formals = in_each left_out_of_formal formals

-- the forms in the initialiser of a variable, and in variables and their modifiers
abbrev pub left_out_of_var : Var → List ℕ
left_out_of_var v = in_some_of left_out_of_init v.init

abbrev pub left_out_of_locals : LocalVars → List ℕ
left_out_of_locals vars = left_out_of_modifiers vars.modifiers ++ left_out_of_var vars.first ++ in_each left_out_of_var vars.more

-- type parameters of a constructor (8.8.4)
abbrev pub constructor_params : Option ResultType → Option TypeParams → List ℕ
constructor_params (Some result) params = []
constructor_params None None = []
constructor_params None (Some params) = params.at ∷ []

-- the forms in the head of a method or of a constructor: in modifiers, type parameters and formals
abbrev pub left_out_of_method : MethodHead → List ℕ
left_out_of_method head = left_out_of_modifiers head.modifiers ++ constructor_params head.result head.params ++ left_out_of_formals head.formals

-- the forms in the head of a `for`, of both kinds
abbrev pub left_out_of_for_init : ForInit → List ℕ
left_out_of_for_init (init_of.Local vars) = left_out_of_locals vars
left_out_of_for_init (init_of.Effects effects) = in_each left_out_of_expr effects

abbrev pub left_out_of_for : ForHead → List ℕ
left_out_of_for (for_of.Basic init test update) = left_out_of_for_init init ++ in_some_of left_out_of_expr test ++ in_each left_out_of_expr update
left_out_of_for (for_of.Enhanced modifiers ty name dims iterable) = left_out_of_modifiers modifiers ++ left_out_of_expr iterable

-- the forms in resources: a `try` with them is a form itself, by `stmt_forms`
abbrev pub left_out_of_resource : Resource → List ℕ
left_out_of_resource resource = left_out_of_modifiers resource.modifiers ++ left_out_of_expr resource.value

abbrev pub left_out_of_resources : Resources → List ℕ
left_out_of_resources resources = left_out_of_resource resources.first ++ in_each left_out_of_resource resources.more

-- the forms in the head of a clause; `default` and `finally` have none
abbrev pub left_out_of_clause_head : ClauseHead → List ℕ
left_out_of_clause_head (clause_of.If test) = left_out_of_expr test
left_out_of_clause_head (clause_of.Case label) = left_out_of_expr label
left_out_of_clause_head clause_of.Default = []
left_out_of_clause_head (clause_of.Catch modifiers first more name) = left_out_of_modifiers modifiers
left_out_of_clause_head clause_of.Finally = []

-- declarations: where one begins, whether it is an inner class where it stands in a class, and the left-out forms in it

-- of a declaration: the offset of its first token, whether it is a class without `static`, and the offsets of the forms in it
pub record Declared : Type 0 where
  pub at : ℕ
  pub inner : Bool
  pub forms : List ℕ

-- `static` stands among the modifiers
abbrev pub is_static : Modifier → Bool
is_static (modifier_of.Annotation a) = false
is_static (modifier_of.Word at word_of.Static) = true
is_static (modifier_of.Word at word) = false

abbrev pub some_static : List Modifier → Bool
some_static [] = false
some_static (m ∷ modifiers) = is_static m || some_static modifiers

-- a class, and a class of this name; interfaces and annotations are none
abbrev pub is_class : DeclarationHead → Bool
is_class (head_of.Class modifiers from name params extends implements) = true
is_class (head_of.Interface modifiers from name params extends) = false
is_class (head_of.Annotation modifiers from name) = false

abbrev pub is_class_of_name : DeclarationHead → List ℕ → Bool
is_class_of_name (head_of.Class modifiers from name params extends implements) text = bytes_eq name.text text
is_class_of_name (head_of.Interface modifiers from name params extends) text = false
is_class_of_name (head_of.Annotation modifiers from name) text = false

-- what a member is, where some declarations can't have it, and where it begins: an inner class, a constructor of a name, an initialiser
pub data Standing : Type 0 where
  Anywhere : Standing
  InnerClass : ℕ → Standing
  Constructor : List ℕ → ℕ → Standing
  Initialiser : ℕ → Standing

-- an inner class in a class (8.1.3), a constructor anywhere but in the class of its name (8.8, 9.1.4), and an initialiser anywhere but in a
-- class (8.6, 8.7, 9.1.4)
abbrev pub misplaced : DeclarationHead → Standing → List ℕ
misplaced head Anywhere = []
misplaced head (InnerClass at) = only_if (is_class head) at
misplaced head (Constructor name at) = only_if (not (is_class_of_name head name)) at
misplaced head (Initialiser at) = only_if (not (is_class head)) at

-- a method has a result, and a constructor has none
abbrev pub unless_result : Option ResultType → Standing → Standing
unless_result (Some result) standing = Anywhere
unless_result None standing = standing

-- a method may stand anywhere; a constructor has its name, and the offset of its first token
abbrev pub standing_of_method : MethodHead → Standing
standing_of_method head = unless_result head.result (Constructor head.name.text (first_offset_of_method head))

-- of a member: what it is, and the forms in it that are left out wherever it stands
pub record Membered : Type 0 where
  pub standing : Standing
  pub forms : List ℕ

-- of a member of a declaration
abbrev pub counted : DeclarationHead → Membered → List ℕ
counted head m = misplaced head m.standing ++ m.forms

-- a member by its parts; a nested declaration is an inner class where it is a class without `static`
abbrev pub member_forms : Member-F Membered (List ℕ) (List ℕ) Declared → Membered
member_forms (Member-F.Semicolon at) = record { standing = Anywhere; forms = [] }
member_forms (Member-F.Initialiser at is_static items) = record { standing = Initialiser at; forms = joined_all items }
member_forms (Member-F.Fields vars) = record { standing = Anywhere; forms = left_out_of_locals vars }
member_forms (Member-F.Bare head) = record { standing = standing_of_method head; forms = left_out_of_method head }
member_forms (Member-F.Method head items) = record { standing = standing_of_method head; forms = left_out_of_method head ++ joined_all items }
member_forms (Member-F.Nested d) = record { standing = cond d.inner (InnerClass d.at) Anywhere; forms = d.forms }

-- a declaration of a type in a block (14.3), and resources (14.20.3)
abbrev pub stmt_forms : Stmt-F Membered (List ℕ) (List ℕ) Declared → List ℕ
stmt_forms (Stmt-F.Local vars) = left_out_of_locals vars
stmt_forms (Stmt-F.Declared d) = d.at ∷ d.forms
stmt_forms (Stmt-F.Block at items) = joined_all items
stmt_forms (Stmt-F.Empty at) = []
stmt_forms (Stmt-F.Effect expr) = left_out_of_expr expr
stmt_forms (Stmt-F.Labeled label body) = body
stmt_forms (Stmt-F.If arms otherwise) = joined_all arms ++ joined_all otherwise
stmt_forms (Stmt-F.While at test body) = left_out_of_expr test ++ body
stmt_forms (Stmt-F.Do at body test) = body ++ left_out_of_expr test
stmt_forms (Stmt-F.For at head body) = left_out_of_for head ++ body
stmt_forms (Stmt-F.Switch at selector groups) = left_out_of_expr selector ++ joined_all groups
stmt_forms (Stmt-F.Return at value) = in_some_of left_out_of_expr value
stmt_forms (Stmt-F.Break at label) = []
stmt_forms (Stmt-F.Continue at label) = []
stmt_forms (Stmt-F.Throw at value) = left_out_of_expr value
stmt_forms (Stmt-F.Try at None items clauses) = joined_all items ++ joined_all clauses
stmt_forms (Stmt-F.Try at (Some resources) items clauses) = at ∷ left_out_of_resources resources ++ joined_all items ++ joined_all clauses
stmt_forms (Stmt-F.ThisCall at actuals) = in_each left_out_of_expr actuals
stmt_forms (Stmt-F.SuperCall at actuals) = in_each left_out_of_expr actuals

-- the forms in the head of a clause, and then those in its statements
abbrev pub clause_forms : Clause-F Membered (List ℕ) (List ℕ) Declared → List ℕ
clause_forms clause = left_out_of_clause_head clause.head ++ joined_all clause.items

-- of an inner class, where it stands in a class (8.1.3)
abbrev pub is_inner : DeclarationHead → Bool
is_inner (head_of.Class modifiers from name params extends implements) = not (some_static modifiers)
is_inner (head_of.Interface modifiers from name params extends) = false
is_inner (head_of.Annotation modifiers from name) = false

-- a declaration of an annotation is left out (9.6)
abbrev pub head_forms : DeclarationHead → ℕ → List ℕ
head_forms (head_of.Class modifiers from name params extends implements) at = left_out_of_modifiers modifiers
head_forms (head_of.Interface modifiers from name params extends) at = left_out_of_modifiers modifiers
head_forms (head_of.Annotation modifiers from name) at = at ∷ left_out_of_modifiers modifiers

-- a declaration by its head, the offset at which it begins, and its members, of which it counts the misplaced ones
abbrev pub declared_with : DeclarationHead → ℕ → List Membered → Declared
declared_with head at members = record { at = at; inner = is_inner head; forms = head_forms head at ++ joined_all (map (counted head) members) }

-- the same of a node, as the step of the fold
abbrev pub declaration_forms : Declaration-F Membered (List ℕ) (List ℕ) Declared → Declared
declaration_forms node = declared_with node.head (first_offset_of_head node.head) node.members

-- the folds of these steps
unfoldable pub forms_of_member : Member → Membered
forms_of_member node = fold-Member Membered (List ℕ) (List ℕ) Declared member_forms stmt_forms clause_forms declaration_forms node

unfoldable pub forms_of_stmt : Stmt → List ℕ
forms_of_stmt node = fold-Stmt Membered (List ℕ) (List ℕ) Declared member_forms stmt_forms clause_forms declaration_forms node

unfoldable pub forms_of_clause : Clause → List ℕ
forms_of_clause node = fold-Clause Membered (List ℕ) (List ℕ) Declared member_forms stmt_forms clause_forms declaration_forms node

unfoldable pub forms_of_declaration : Declaration → Declared
forms_of_declaration node = fold-Declaration Membered (List ℕ) (List ℕ) Declared member_forms stmt_forms clause_forms declaration_forms node

-- the offsets of the forms in a declaration; that it may be an inner class itself is left to where it stands
abbrev pub left_out_of_declaration : Declaration → List ℕ
left_out_of_declaration d = (forms_of_declaration d).forms

-- of a member of the declaration with a head
abbrev pub left_out_of_member : DeclarationHead → Member → List ℕ
left_out_of_member head member = counted head (forms_of_member member)

-- an import of static members (7.5.3, 7.5.4)
abbrev pub left_out_of_import : Import → List ℕ
left_out_of_import i = only_if i.is_static i.at

-- the forms in a declaration; a stray `;` is none
abbrev pub left_out_of_top : TopLevel → List ℕ
left_out_of_top (top_of.Declaration d) = left_out_of_declaration d
left_out_of_top (top_of.Semicolon at) = []

-- the offsets of all left-out forms of a file
abbrev pub left_out_forms : SourceFile → List ℕ
left_out_forms file = in_each left_out_of_import file.imports ++ in_each left_out_of_top file.types

-- the lesser of two offsets, where None is no offset
abbrev pub earlier : Option ℕ → Option ℕ → Option ℕ
earlier None b = b
earlier (Some n) None = Some n
earlier (Some n) (Some m) = Some (min n m)

-- the least offset of a list; None where it is empty
abbrev pub least_of : List ℕ → Option ℕ
least_of [] = None
least_of (n ∷ list) = earlier (Some n) (least_of list)

-- how many tokens stand before an offset
abbrev pub tokens_before : List Token → ℕ → ℕ
tokens_before [] at = 0
tokens_before (t ∷ tokens) at = cond (nat_le at t.from) 0 (suc (tokens_before tokens at))

-- the place of the first token that does not begin before the offset; None where there is no offset
abbrev pub place_of : List Token → Option ℕ → Option ℕ
place_of tokens None = None
place_of tokens (Some at) = Some (tokens_before tokens at)

-- the place of the token at which the first of the forms stands
abbrev pub first_left_out_form : List Token → SourceFile → Option ℕ
first_left_out_form tokens file = place_of tokens (least_of (left_out_forms file))
