-- Small tokens and trees, worked by hand, and the first words and the forms of them that are left out.
use Rattle.std.specs.Prelude.{◌≡◌, ℕ, Bool, true, false, List, [], ◌∷◌, codes, Option, Some, None}
use Rattle.jc_lexer.specs.declared.token.Key.{Key}
use Rattle.jc_lexer.specs.declared.token.Key.TheVariants as key_of
use Rattle.jc_lexer.specs.declared.token.Token.{Token}
use Rattle.jc_lexer.specs.declared.token.TokenKind.TheVariants as kind_of
use Rattle.jc_tree.specs.declared.name.Ident.{Ident}
use Rattle.jc_tree.specs.declared.types.ClassTree.{ClassTree, roll-ClassTree}
use Rattle.jc_tree.specs.declared.types.TypePart.{TypePart, roll-TypePart}
use Rattle.jc_tree.specs.declared.expression.Creation.TheVariants as creation_of
use Rattle.jc_tree.specs.declared.expression.Expr.{Expr}
use Rattle.jc_tree.specs.declared.expression.Expr.TheVariants as expr_of
use Rattle.jc_tree.specs.declared.expression.Skip.{roll-Skip}
use Rattle.jc_tree.specs.declared.statement.Declaration.{Declaration, roll-Declaration}
use Rattle.jc_tree.specs.declared.statement.DeclarationHead.TheVariants as head_of
use Rattle.jc_tree.specs.declared.statement.Import.{Import}
use Rattle.jc_tree.specs.declared.statement.Member.{Member}
use Rattle.jc_tree.specs.declared.statement.Member.TheVariants as member_of
use Rattle.jc_tree.specs.declared.statement.MethodHead.{MethodHead}
use Rattle.jc_tree.specs.declared.statement.Modifier.{Modifier}
use Rattle.jc_tree.specs.declared.statement.Modifier.TheVariants as modifier_of
use Rattle.jc_tree.specs.declared.statement.ModifierWord.TheVariants as word_of
use Rattle.jc_tree.specs.declared.statement.ResultType.{ResultType}
use Rattle.jc_tree.specs.declared.statement.ResultType.TheVariants as result_of
use Rattle.jc_tree.specs.declared.statement.Stmt.TheVariants as stmt_of
use Rattle.jc_left_out.specs.LeftOut.{first_left_out_word, forms_of_stmt, left_out_of_declaration, left_out_of_expr, left_out_of_import, left_out_of_method, left_out_of_modifier, least_of, place_of}

-- a keyword at an offset; where it ends does not matter here
abbrev pub keyword : Key → ℕ → Token
keyword k at = record { kind = kind_of.Key k; from = at; to = at; touches = false }

-- `public native class`
abbrev pub native_source : List Token
native_source = keyword key_of.Public 0 ∷ keyword key_of.Native 7 ∷ keyword key_of.Class 14 ∷ []

-- `class enum float`
abbrev pub enum_source : List Token
enum_source = keyword key_of.Class 0 ∷ keyword key_of.Enum 6 ∷ keyword key_of.Float 11 ∷ []

-- an identifier of one letter, and a class type of that name, by the code of the letter and the offset
abbrev pub letter_at : ℕ → ℕ → Ident
letter_at code at = record { at = at; text = code ∷ [] }

abbrev pub class_at : ℕ → ℕ → ClassTree
class_at code at = let part : TypePart = roll-TypePart (record { name = letter_at code at; args = [] }) in roll-ClassTree (record { first = part; more = [] })

-- `new B()` and `new B() {}`
abbrev pub bare_new : Expr
bare_new = expr_of.New 0 (creation_of.Object (class_at 66 4) false [] [])

abbrev pub new_with_body : Expr
new_with_body = expr_of.New 0 (creation_of.Object (class_at 66 4) false [] (roll-Skip (record { parts = [] }) ∷ []))

-- `a.new B()`
abbrev pub inner_new : Expr
inner_new = expr_of.InnerNew (expr_of.Name (letter_at 97 0)) (creation_of.Object (class_at 66 6) false [] [])

-- `@X`, with a name of one part
abbrev pub marker : List ℕ → List Ident → Modifier
marker name more = modifier_of.Annotation (record { at = 0; first = record { at = 1; text = name }; more = more; pairs = None })

-- the word `static` at an offset
abbrev pub static_at : ℕ → Modifier
static_at at = modifier_of.Word at word_of.Static

-- `class A {}` with modifiers, at an offset
abbrev pub class_of : List Modifier → ℕ → List Member → Declaration
class_of modifiers at members = roll-Declaration (record { head = head_of.Class modifiers at (letter_at 65 at) [] None []; members = members })

-- `interface I` with members, at the offset 0
abbrev pub interface_of : List Member → Declaration
interface_of members = roll-Declaration (record { head = head_of.Interface [] 0 (letter_at 73 10) [] []; members = members })

-- `static @interface A {}`, with `static` at 2
abbrev pub annotation_type : Declaration
annotation_type = roll-Declaration (record { head = head_of.Annotation (static_at 2 ∷ []) 9 (letter_at 65 20); members = [] })

-- `import a.*` at the offset 3, of static members or not
abbrev pub an_import : Bool → Import
an_import is_static = record { at = 3; is_static = is_static; first = letter_at 97 10; more = []; on_demand = true }

-- `<T> X f()` and `<T> X()`
abbrev pub generic_head : Option ResultType → MethodHead
generic_head result = record { modifiers = []; params = Some (record { at = 5; first = record { name = letter_at 84 6; bounds = [] }; more = [] }); result = result; name = letter_at 88 9; formals = []; throws = [] }

-- `A() {}` and `static A() {}` with the letter, and `{}`
abbrev pub constructor_of : List Modifier → ℕ → ℕ → Member
constructor_of modifiers code at = member_of.Method (record { modifiers = modifiers; params = None; result = None; name = letter_at code at; formals = []; throws = [] }) []

-- an initialiser that is not static, at an offset
abbrev pub initialiser_at : ℕ → Member
initialiser_at at = member_of.Initialiser at false []

-- which words and forms are left out of these tokens and trees, and where they stand
pub record WorkedLeftOut : Type 0 where
  pub native_outside : first_left_out_word false native_source ≡ Some 1
  pub native_inside : first_left_out_word true native_source ≡ None
  pub enum_anywhere : first_left_out_word true enum_source ≡ Some 1
  pub void_class : left_out_of_expr (expr_of.VoidLiteral 3) ≡ 3 ∷ []
  pub outer_this : left_out_of_expr (expr_of.OuterThis (letter_at 65 2) []) ≡ 2 ∷ []
  pub creation_alone : left_out_of_expr bare_new ≡ []
  pub creation_with_body : left_out_of_expr new_with_body ≡ 4 ∷ []
  pub creation_of_inner : left_out_of_expr inner_new ≡ 0 ∷ []
  pub override_stays : left_out_of_modifier (marker (codes "Override") []) ≡ []
  pub deprecated_stays : left_out_of_modifier (marker (codes "Deprecated") []) ≡ []
  pub warnings_stay : left_out_of_modifier (marker (codes "SuppressWarnings") []) ≡ []
  pub varargs_stay : left_out_of_modifier (marker (codes "SafeVarargs") []) ≡ []
  pub other_annotation : left_out_of_modifier (marker (codes "Inherited") []) ≡ 0 ∷ []
  pub qualified_annotation : left_out_of_modifier (marker (codes "Override") (letter_at 97 10 ∷ [])) ≡ 0 ∷ []
  pub static_import : left_out_of_import (an_import true) ≡ 3 ∷ []
  pub plain_import : left_out_of_import (an_import false) ≡ []
  pub generic_constructor : left_out_of_method (generic_head None) ≡ 5 ∷ []
  pub generic_method : left_out_of_method (generic_head (Some (result_of.Void 7))) ≡ []
  -- `class A { class A {} }`, `class A { static class A {} }` and `interface I { class A {} }`
  pub inner_class : left_out_of_declaration (class_of [] 0 (member_of.Nested (class_of [] 10 []) ∷ [])) ≡ 10 ∷ []
  pub nested_class : left_out_of_declaration (class_of [] 0 (member_of.Nested (class_of (static_at 10 ∷ []) 17 []) ∷ [])) ≡ []
  pub class_in_interface : left_out_of_declaration (interface_of (member_of.Nested (class_of [] 14 []) ∷ [])) ≡ []
  pub interface_in_class : left_out_of_declaration (class_of [] 0 (member_of.Nested (interface_of []) ∷ [])) ≡ []
  -- `class A { A() {} }`, `class A { B() {} }`, `class A { static B() {} }` and `interface I { I() {} }`
  pub constructor_of_its_class : left_out_of_declaration (class_of [] 0 (constructor_of [] 65 10 ∷ [])) ≡ []
  pub constructor_of_another : left_out_of_declaration (class_of [] 0 (constructor_of [] 66 10 ∷ [])) ≡ 10 ∷ []
  pub constructor_at_its_modifier : left_out_of_declaration (class_of [] 0 (constructor_of (static_at 10 ∷ []) 66 17 ∷ [])) ≡ 10 ∷ []
  pub constructor_in_interface : left_out_of_declaration (interface_of (constructor_of [] 73 14 ∷ [])) ≡ 14 ∷ []
  -- `class A { {} }` and `interface I { {} }`
  pub initialiser_in_class : left_out_of_declaration (class_of [] 0 (initialiser_at 10 ∷ [])) ≡ []
  pub initialiser_in_interface : left_out_of_declaration (interface_of (initialiser_at 14 ∷ [])) ≡ 14 ∷ []
  pub local_class : forms_of_stmt (stmt_of.Declared (class_of [] 8 [])) ≡ 8 ∷ []
  pub declared_annotation : left_out_of_declaration annotation_type ≡ 2 ∷ []
  pub the_least : least_of (7 ∷ 3 ∷ 5 ∷ []) ≡ Some 3
  pub at_its_token : place_of enum_source (Some 11) ≡ Some 2
