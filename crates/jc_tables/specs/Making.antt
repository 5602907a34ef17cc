-- Tables with one declaration more.
use Rattle.std.specs.Prelude.{◌≡◌, ◌≢◌, ℕ, ◌&&◌, Bool, Option, Some, None, List, [], ◌∷◌, ◌++◌, length, is_none, if◌then◌else◌}
use Rattle.jc_types.specs.declared.declarations.ClassDecl.{ClassDecl}
use Rattle.jc_types.specs.declared.declarations.MethodDecl.{MethodDecl}
use Rattle.jc_types.specs.declared.declarations.FieldDecl.{FieldDecl}
use Rattle.jc_types.specs.declared.declarations.VariableDecl.{VariableDecl}
use Rattle.jc_types.specs.declared.scopes.Scope.{Scope}
use Rattle.jc_types.specs.declared.scopes.Use.{Use}
use Rattle.jc_types.specs.declared.table.Table.{Table}
use Rattle.jc_types.specs.Names.{named}
use Rattle.jc_types.specs.Tables.{class_fits, method_fits, field_fits, variable_fits, use_fits, types_zip, method_zips, written_zips}

-- a table without any declaration
abbrev pub empty : Table
empty = record { classes = []; methods = []; fields = []; variables = []; scopes = []; uses = []; index = [] }

-- a name and its place behind the others, if it isn't among them
abbrev pub indexed : List ℕ → ℕ → List (List ℕ × ℕ) → List (List ℕ × ℕ)
indexed name i names = if is_none (named name names) then names ++ (name, i) ∷ [] else names

-- the declaration comes last in its list, so that no id changes, and its binary name is in the index unless it was before
abbrev pub with_class : Table → ClassDecl → Table
with_class T c = record T { classes = T.classes ++ c ∷ []; index = indexed c.binary (length T.classes) T.index }

-- each of these puts what it is given at the end of its list; the index stays
abbrev pub with_method : Table → MethodDecl → Table
with_method T m = record T { methods = T.methods ++ m ∷ [] }

abbrev pub with_field : Table → FieldDecl → Table
with_field T f = record T { fields = T.fields ++ f ∷ [] }

abbrev pub with_variable : Table → VariableDecl → Table
with_variable T v = record T { variables = T.variables ++ v ∷ [] }

abbrev pub with_scope : Table → Scope → Table
with_scope T s = record T { scopes = T.scopes ++ s ∷ [] }

abbrev pub with_use : Table → Use → Table
with_use T u = record T { uses = T.uses ++ u ∷ [] }

-- the ids of a declaration are places in a table, and its written types have their places
abbrev pub class_stands : Table → ClassDecl → Bool
class_stands T c = class_fits T c && types_zip c.supers

-- of a method also this: there is a name for each parameter
abbrev pub method_stands : Table → MethodDecl → Bool
method_stands T m = method_fits T m && method_zips m

abbrev pub field_stands : Table → FieldDecl → Bool
field_stands T f = field_fits T f && written_zips f.ty

abbrev pub variable_stands : Table → VariableDecl → Bool
variable_stands T v = variable_fits T v && types_zip v.bounds

abbrev pub use_stands : Table → Use → Bool
use_stands T u = use_fits T u && written_zips u.ty

-- a copy of a name, if it isn't among these
abbrev pub IsNewName : List (List ℕ × ℕ) → List ℕ → Option (List ℕ) → Type 0
IsNewName names name None = named name names ≢ None
IsNewName names name (Some copy) = (copy ≡ name) × (named name names ≡ None)
