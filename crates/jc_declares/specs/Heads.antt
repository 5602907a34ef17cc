-- What names need of the declarations of a program, without their trees; and what these heads say: simple and binary names, packages, members and
-- parameters (JLS 6.1, 6.7, 7.4, 13.1). What is said of a number that is no place is empty.
use Rattle.std.specs.Prelude.{ℕ, suc, ◌==◌, Bool, true, false, cond, ◌&&◌, List, [], ◌∷◌, ◌++◌, map, codes, Option, Some, None, slice_get}
use Rattle.std.specs.Str.{bytes_eq}
use Rattle.jc_tree.specs.declared.name.Ident.{Ident}
use Rattle.jc_tree.specs.declared.statement.DeclarationHead.{DeclarationHead}
use Rattle.jc_tree.specs.declared.statement.DeclarationHead.TheVariants as head_of
use Rattle.jc_tree.specs.declared.statement.Import.{Import}
use Rattle.jc_tree.specs.declared.statement.Modifier.{Modifier}
use Rattle.jc_tree.specs.declared.statement.ModifierWord.TheVariants as word_of
use Rattle.jc_tree.specs.declared.statement.Package.{Package}
use Rattle.jc_tree.specs.declared.types.BaseTree.{BaseTree}
use Rattle.jc_tree.specs.declared.types.ClassTree.{ClassTree, ClassTree-F, out-ClassTree}
use Rattle.jc_tree.specs.declared.types.TypeArg.{TypeArg}
use Rattle.jc_tree.specs.declared.types.TypePart.{TypePart, TypePart-F, out-TypePart}
use Rattle.jc_tree.specs.declared.types.TypeTree.{TypeTree}
use Rattle.jc_tree.specs.Offsets.{first_offset_of_head, first_offset_of_class}
use Rattle.jc_types.specs.declared.declarations.Access.{Access}
use Rattle.jc_types.specs.declared.declarations.Access.TheVariants as access
use Rattle.jc_types.specs.declared.declarations.Kind.{Kind}
use Rattle.jc_types.specs.declared.declarations.Kind.TheVariants as kind
use Rattle.jc_types.specs.declared.declarations.Owner.{Owner}
use Rattle.jc_types.specs.declared.declarations.Owner.TheVariants as owner
use Rattle.jc_types.specs.Accessors.{is_interface_kind}
use Rattle.jc_declares.specs.declared.heads.ClassHead.{ClassHead}
use Rattle.jc_declares.specs.declared.heads.FieldHead.{FieldHead}
use Rattle.jc_declares.specs.declared.heads.Heads.{Heads}
use Rattle.jc_declares.specs.declared.heads.ImportHead.{ImportHead}
use Rattle.jc_declares.specs.declared.heads.MethodPlace.{MethodPlace}
use Rattle.jc_declares.specs.declared.heads.Path.{Path}
use Rattle.jc_declares.specs.declared.heads.UnitHead.{UnitHead}
use Rattle.jc_declares.specs.declared.heads.VariableHead.{VariableHead}
use Rattle.jc_declares.specs.Words.{says}
use Rattle.jc_declares.specs.Sites.{Sites, UnitSite, ClassSite, MethodSite, FieldSite, VariableSite, is_interface_head}

-- ---- from trees

-- the bytes of an identifier, and of the name in one part of a class type
abbrev pub text_of : Ident → List ℕ
text_of name = name.text

abbrev pub part_name_at : TypePart-F BaseTree TypeArg ClassTree TypePart TypeTree → List ℕ
part_name_at node = node.name.text

abbrev pub part_name : TypePart → List ℕ
part_name p = part_name_at (out-TypePart p)

-- a name of several parts at an offset; type arguments are left out
abbrev pub path_at : ℕ → ClassTree-F BaseTree TypeArg ClassTree TypePart TypeTree → Path
path_at at node = record { at = at; first = part_name node.first; more = map part_name node.more }

-- the name of a class type, without arguments
abbrev pub path_of_class : ClassTree → Path
path_of_class tree = path_at (first_offset_of_class tree) (out-ClassTree tree)

-- the parts of a name with points between them
abbrev pub with_points : List ℕ → List (List ℕ) → List ℕ
with_points first [] = first
with_points first (part ∷ more) = with_points (first ++ codes "." ++ part) more

-- the name of a package with points between its parts; empty where none is declared, which is the unnamed one (JLS 7.4.2)
abbrev pub package_name : Option Package → List ℕ
package_name None = []
package_name (Some p) = with_points p.first.text (map text_of p.more)

-- an import by its path, with whether it is on demand
abbrev pub import_head : Import → ImportHead
import_head i = record { at = i.at; path = record { at = i.first.at; first = i.first.text; more = map text_of i.more }; on_demand = i.on_demand }

-- the offset of a package declaration; 0 where none is declared
abbrev pub package_at : Option Package → ℕ
package_at (Some p) = p.at
package_at None = 0

-- what the head of a unit keeps of it
abbrev pub unit_head : UnitSite → UnitHead
unit_head u = record { file = u.file; at = package_at u.«package»; «package» = package_name u.«package»; imports = map import_head u.imports }

-- the simple name in a head, and its modifiers as they are written
abbrev pub name_in_head : DeclarationHead → List ℕ
name_in_head (head_of.Class modifiers at name params extends implements) = name.text
name_in_head (head_of.Interface modifiers at name params extends) = name.text
name_in_head (head_of.Annotation modifiers at name) = name.text

abbrev pub modifiers_in_head : DeclarationHead → List Modifier
modifiers_in_head (head_of.Class modifiers at name params extends implements) = modifiers
modifiers_in_head (head_of.Interface modifiers at name params extends) = modifiers
modifiers_in_head (head_of.Annotation modifiers at name) = modifiers

-- none or one, as a list
abbrev pub listed : {X : Type 0} → Option X → List X
listed None = []
listed (Some x) = x ∷ []

-- the superclass and the superinterfaces that it writes
abbrev pub superclass_trees : DeclarationHead → List ClassTree
superclass_trees (head_of.Class modifiers at name params extends implements) = listed extends
superclass_trees (head_of.Interface modifiers at name params extends) = []
superclass_trees (head_of.Annotation modifiers at name) = []

abbrev pub interface_trees : DeclarationHead → List ClassTree
interface_trees (head_of.Class modifiers at name params extends implements) = implements
interface_trees (head_of.Interface modifiers at name params extends) = extends
interface_trees (head_of.Annotation modifiers at name) = []

-- an annotation type is an interface too (JLS 9.6)
abbrev pub kind_of_head : DeclarationHead → Kind
kind_of_head head = cond (is_interface_head head) kind.Interface kind.Class

-- the access that words say, and package access where none does (JLS 6.6)
abbrev pub written_access : List Modifier → Access
written_access ms = cond (says word_of.Public ms) access.Public (cond (says word_of.Protected ms) access.Protected (cond (says word_of.Private ms) access.Private access.Package))

-- members of interfaces are public (JLS 9.3 to 9.5)
abbrev pub access_with : Bool → List Modifier → Access
access_with true ms = access.Public
access_with false ms = written_access ms

-- a class of a package is no member of another class
abbrev pub is_top : List ℕ → Bool
is_top [] = true
is_top (c ∷ round) = false

-- private and protected are for members alone (JLS 6.6.1): a type of a package is public, or else open to its package
abbrev pub access_of_type : Bool → Bool → List Modifier → Access
access_of_type true of_interface ms = cond (says word_of.Public ms) access.Public access.Package
access_of_type false of_interface ms = access_with of_interface ms

-- what the heads keep of a class: its place, its name, its kind and access, and the paths of the supertypes that it writes
abbrev pub class_head : ClassSite → ClassHead
class_head c =
    record {
      file = c.file;
      at = first_offset_of_head c.head;
      unit = c.unit;
      round = c.round;
      scope = c.scope;
      name = name_in_head c.head;
      kind = kind_of_head c.head;
      access = access_of_type (is_top c.round) c.of_interface (modifiers_in_head c.head);
      is_final = says word_of.Final (modifiers_in_head c.head);
      superclass = map path_of_class (superclass_trees c.head);
      interfaces = map path_of_class (interface_trees c.head);
    }

-- what the heads keep of a method, a field and a type parameter
abbrev pub method_place : MethodSite → MethodPlace
method_place m = record { class = m.class; scope = m.scope }

abbrev pub field_head : FieldSite → FieldHead
field_head f = record { class = f.class; at = f.var.name.at; name = f.var.name.text }

abbrev pub variable_head : VariableSite → VariableHead
variable_head v = record { owner = v.owner; at = v.param.name.at; name = v.param.name.text }

-- the heads of all declarations, in their order, so that the numbers stay the same
abbrev pub heads_of : Sites → Heads
heads_of S =
    record {
      units = map unit_head S.units;
      classes = map class_head S.classes;
      methods = map method_place S.methods;
      fields = map field_head S.fields;
      variables = map variable_head S.variables;
      scopes = S.scopes;
    }

-- ---- names and the numbers of what they name, in the order of the declarations

-- pairs of a name and a number; where a name stands twice, look-ups take the first
abbrev pub Named : Type 0
Named = List (List ℕ × ℕ)

-- ---- units

-- the package of a unit, and below its imports; empty where there is no such unit
abbrev pub package_in_unit : Option UnitHead → List ℕ
package_in_unit (Some u) = u.«package»
package_in_unit None = []

-- the package of a unit, which is empty for the unnamed one (JLS 7.4)
abbrev pub unit_package : Heads → ℕ → List ℕ
unit_package H u = package_in_unit (slice_get H.units u)

abbrev pub imports_in : Option UnitHead → List ImportHead
imports_in (Some u) = u.imports
imports_in None = []

abbrev pub imports_of : Heads → ℕ → List ImportHead
imports_of H u = imports_in (slice_get H.units u)

-- ---- classes

abbrev pub name_in : Option ClassHead → List ℕ
name_in (Some c) = c.name
name_in None = []

-- the simple name of class c
abbrev pub name_of : Heads → ℕ → List ℕ
name_of H c = name_in (slice_get H.classes c)

abbrev pub unit_in : Option ClassHead → ℕ
unit_in (Some c) = c.unit
unit_in None = 0

-- the unit in which class c is declared; 0 where there is no such class
abbrev pub unit_of : Heads → ℕ → ℕ
unit_of H c = unit_in (slice_get H.classes c)

-- the package of the unit in which class c is declared
abbrev pub package_of : Heads → ℕ → List ℕ
package_of H c = unit_package H (unit_of H c)

abbrev pub round_in : Option ClassHead → List ℕ
round_in (Some c) = c.round
round_in None = []

-- the classes round a class, from the innermost outwards
abbrev pub round_of : Heads → ℕ → List ℕ
round_of H c = round_in (slice_get H.classes c)

-- the last of a list behind c, and c itself where the list is empty
abbrev pub last_or : ℕ → List ℕ → ℕ
last_or c [] = c
last_or c (d ∷ ds) = last_or d ds

-- the type of the unit that a class is, or is inside of
abbrev pub top_of_class : Heads → ℕ → ℕ
top_of_class H c = last_or c (round_of H c)

abbrev pub supers_in : Option ClassHead → List Path
supers_in (Some c) = c.superclass ++ c.interfaces
supers_in None = []

-- the supertypes that it writes, the superclass first
abbrev pub supers_of : Heads → ℕ → List Path
supers_of H c = supers_in (slice_get H.classes c)

abbrev pub access_in : Option ClassHead → Access
access_in (Some c) = c.access
access_in None = access.Package

-- the access of class c; package access where there is no such class
abbrev pub access_of : Heads → ℕ → Access
access_of H c = access_in (slice_get H.classes c)

abbrev pub final_in : Option ClassHead → Bool
final_in (Some c) = c.is_final
final_in None = false

-- class c is declared final; false where there is no such class
abbrev pub is_final : Heads → ℕ → Bool
is_final H c = final_in (slice_get H.classes c)

abbrev pub interface_in : Option ClassHead → Bool
interface_in (Some c) = is_interface_kind c.kind
interface_in None = false

-- class c is an interface; false where there is no such class
abbrev pub is_interface : Heads → ℕ → Bool
is_interface H c = interface_in (slice_get H.classes c)

-- the class that it is a member of
abbrev pub is_inside : ℕ → List ℕ → Bool
is_inside c [] = false
is_inside c (d ∷ round) = c == d

-- of these classes, counted from i, those that pass, with their names
abbrev pub named_classes : (ClassHead → Bool) → ℕ → List ClassHead → Named
named_classes test i [] = []
named_classes test i (c ∷ cs) = cond (test c) ((c.name, i) ∷ []) [] ++ named_classes test (suc i) cs

-- the member types that a class declares (JLS 8.5, 9.5)
abbrev pub declared_of : Heads → ℕ → Named
declared_of H c = named_classes (λ (d : ClassHead). is_inside c d.round) 0 H.classes

-- the types that a unit and a package declare (JLS 7.6)
abbrev pub types_of_unit : Heads → ℕ → Named
types_of_unit H u = named_classes (λ (c : ClassHead). is_top c.round && (u == c.unit)) 0 H.classes

-- a unit is of the package of this name; no unit is of none
abbrev pub is_of_package : Option UnitHead → List ℕ → Bool
is_of_package None p = false
is_of_package (Some u) p = bytes_eq u.«package» p

-- the types of all units of a package, with their names
abbrev pub types_of_package : Heads → List ℕ → Named
types_of_package H p = named_classes (λ (c : ClassHead). is_top c.round && is_of_package (slice_get H.units c.unit) p) 0 H.classes

-- the names of these classes, the outermost first, with a dollar behind each
abbrev pub with_dollars : Heads → List ℕ → List ℕ
with_dollars H [] = []
with_dollars H (c ∷ round) = with_dollars H round ++ name_of H c ++ codes "$"

-- a name behind that of its package and a point; the unnamed package adds nothing
abbrev pub in_package : List ℕ → List ℕ → List ℕ
in_package [] name = name
in_package (b ∷ p) name = (b ∷ p) ++ codes "." ++ name

-- the binary name with points (JLS 13.1)
abbrev pub binary_of : Heads → ℕ → List ℕ
binary_of H c = in_package (package_of H c) (with_dollars H (round_of H c) ++ name_of H c)

-- ---- type parameters

-- the same class or the same method; a class is never a method
abbrev pub same_owner : Owner → Owner → Bool
same_owner (owner.Class c) (owner.Class d) = c.0 == d.0
same_owner (owner.Method m) (owner.Method n) = m.0 == n.0
same_owner (owner.Class c) (owner.Method n) = false
same_owner (owner.Method m) (owner.Class d) = false

-- of these type parameters, counted from i, those of an owner, with their names
abbrev pub named_variables : Owner → ℕ → List VariableHead → Named
named_variables o i [] = []
named_variables o i (v ∷ vs) = cond (same_owner o v.owner) ((v.name, i) ∷ []) [] ++ named_variables o (suc i) vs

-- the type parameters of a class and of a method, with the numbers of their variables
abbrev pub class_variables : Heads → ℕ → Named
class_variables H c = named_variables (owner.Class (record { 0 = c })) 0 H.variables

-- the type parameters of method m
abbrev pub method_variables : Heads → ℕ → Named
method_variables H m = named_variables (owner.Method (record { 0 = m })) 0 H.variables

-- the class or method that declares type variable v; nothing where there is no such variable
abbrev pub owner_in : Option VariableHead → Option Owner
owner_in (Some v) = Some v.owner
owner_in None = None

abbrev pub owner_of : Heads → ℕ → Option Owner
owner_of H v = owner_in (slice_get H.variables v)
