-- The broken rules of names that the heads of the declarations tell: types, fields and type parameters that are declared twice (301, 307), cycles (304),
-- wrong kinds of supertypes (305), imports (306, 310) and packages (308), each with the node at which it stands.
use Rattle.std.specs.Prelude.{ℕ, suc, ◌≡◌, ◌==◌, Bool, true, false, cond, not, ◌&&◌, ◌||◌, List, [], ◌∷◌, ◌++◌, codes, take, Option, Some, None, slice_get}
use Rattle.std.specs.List.{starts_with}
use Rattle.std.specs.Str.{bytes_eq}
use Rattle.jc_rules.specs.declared.rule.Refusal.{Refusal}
use Rattle.jc_types.specs.declared.declarations.Owner.{Owner}
use Rattle.jc_types.specs.declared.declarations.Owner.TheVariants as owner
use Rattle.jc_declares.specs.declared.heads.ClassHead.{ClassHead}
use Rattle.jc_declares.specs.declared.heads.FieldHead.{FieldHead}
use Rattle.jc_declares.specs.declared.heads.Heads.{Heads}
use Rattle.jc_declares.specs.declared.heads.ImportHead.{ImportHead}
use Rattle.jc_declares.specs.declared.heads.MethodPlace.{MethodPlace}
use Rattle.jc_declares.specs.declared.heads.Path.{Path}
use Rattle.jc_declares.specs.declared.heads.UnitHead.{UnitHead}
use Rattle.jc_declares.specs.declared.heads.VariableHead.{VariableHead}
use Rattle.jc_declares.specs.Heads.{is_of_package, imports_of, name_of, is_top, is_interface, is_final, owner_of, same_owner}
use Rattle.jc_declares.specs.Looking.{AClass, AVariable, Look, Knowledge, Found, InPackage, AtClass, Nowhere, imported, next_part, single_of, all_accessible, head_asker, is_own, has}
use Rattle.jc_declares.specs.Knowing.{meant_in_head, meant_class, Needs, passed_by}

-- one refusal, at an offset of a file; its last number says nothing here
abbrev pub broken_at : ℕ → ℕ → ℕ → List Refusal
broken_at rule file at = record { rule = rule; place = record { file = file; at = at }; have = 0 } ∷ []

-- these refusals where the condition is false, and none where it holds
abbrev pub unless : Bool → List Refusal → List Refusal
unless true breaks = []
unless false breaks = breaks

-- of each, with its number
abbrev pub of_each : {X : Type 0} → (ℕ → X → List Refusal) → ℕ → List X → List Refusal
of_each f i [] = []
of_each f i (x ∷ xs) = f i x ++ of_each f (suc i) xs

-- one of the list passes a test
abbrev pub some_in : {X : Type 0} → (X → Bool) → List X → Bool
some_in test [] = false
some_in test (x ∷ xs) = test x || some_in test xs

-- one of those before number i
abbrev pub some_before : {X : Type 0} → (X → Bool) → ℕ → List X → Bool
some_before test i xs = some_in test (take i xs)

-- ---- 301: a type is declared twice (JLS 7.5.1, 7.6, 8.1, 8.5)

-- members of one class, or both of no class
abbrev pub same_round : List ℕ → List ℕ → Bool
same_round [] [] = true
same_round [] (d ∷ ds) = false
same_round (c ∷ cs) [] = false
same_round (c ∷ cs) (d ∷ ds) = c == d

-- types of units of one package
abbrev pub same_package : Option UnitHead → Option UnitHead → Bool
same_package None v = false
same_package (Some u) v = is_of_package v u.«package»

-- declared in one class, or both as types of one package (JLS 7.6, 8.5)
abbrev pub same_place : Heads → ClassHead → ClassHead → Bool
same_place H c d = same_round c.round d.round && (not (is_top c.round) || same_package (slice_get H.units c.unit) (slice_get H.units d.unit))

-- a type is named like one round it
abbrev pub named_like_outer : Heads → ClassHead → Bool
named_like_outer H c = some_in (λ o. bytes_eq (name_of H o) c.name) c.round

-- another type that a single import of these imports under a name
abbrev pub other_single : Heads → List ℕ → ℕ → List ImportHead → Bool
other_single H n c [] = false
other_single H n c (i ∷ is) = some_in (λ (e : List ℕ × ℕ). bytes_eq e.0 n && not (e.1 == c)) (single_of i (imported H i)) || other_single H n c is

-- class c has the name of a class before it at the same place, of one round it, or, in a unit, of another type that a single import imports
abbrev pub is_declared_twice : Heads → ℕ → ClassHead → Bool
is_declared_twice H c s =
    some_before (λ (d : ClassHead). same_place H s d && bytes_eq s.name d.name) c H.classes || named_like_outer H s
    || (is_top s.round && other_single H s.name c (imports_of H s.unit))

abbrev pub twice_class : Heads → ℕ → ClassHead → List Refusal
twice_class H c s = unless (not (is_declared_twice H c s)) (broken_at 301 s.file s.at)

-- a single import before this one, number k of its unit, imports another type under the same name (JLS 7.5.1)
abbrev pub is_imported_twice : Heads → List ImportHead → ℕ → ImportHead → Bool
is_imported_twice H is k i = some_in (λ (e : List ℕ × ℕ). other_single H e.0 e.1 (take k is)) (single_of i (imported H i))

abbrev pub twice_import : Heads → UnitHead → ℕ → ImportHead → List Refusal
twice_import H u k i = unless (not (is_imported_twice H u.imports k i)) (broken_at 301 u.file i.at)

-- ---- 304: a class that depends on itself (JLS 8.1.4, 9.1.3)

-- b is rule 304 at a declared class that needs itself
pub record IsCycle (H : Heads) (b : Refusal) : Type 0 where
  pub class : ℕ
  pub head : ClassHead
  pub declared : slice_get H.classes class ≡ Some head
  pub cyclic : Needs H class class
  pub says : b ≡ record { rule = 304; place = record { file = head.file; at = head.at }; have = 0 }

-- ---- 305: the wrong kind of supertype (JLS 8.1.4, 8.1.5, 9.1.3)

-- a superclass is a class that isn't final
abbrev pub superclass_fits : Heads → ℕ → Look → Bool
superclass_fits H c (Some (AClass d ∷ [])) = not (is_interface H d) && not (is_final H d)
superclass_fits H c (Some (AVariable v ∷ [])) = not (is_own (owner_of H v) (Some c))
superclass_fits H c _ = true

-- a superinterface is an interface; that it is no type which stands before it in its list is asked where its arguments are read
abbrev pub interface_fits : Heads → ℕ → Look → Bool
interface_fits H c (Some (AClass d ∷ [])) = is_interface H d
interface_fits H c (Some (AVariable v ∷ [])) = not (is_own (owner_of H v) (Some c))
interface_fits H c _ = true

-- each class that a name in the head of class c names may be named there; where one can't, that is the rule that the name breaks, and its kind isn't asked
abbrev pub is_nameable : Heads → Knowledge → ℕ → Path → Bool
is_nameable H K c p = all_accessible H (head_asker H c) (passed_by H K c p)

-- what the superclass and the interfaces of a head break
abbrev pub superclass_breaks : Heads → Knowledge → ℕ → ClassHead → List Path → List Refusal
superclass_breaks H K c s [] = []
superclass_breaks H K c s (p ∷ ps) = unless (not (is_nameable H K c p) || superclass_fits H c (meant_in_head H K c p)) (broken_at 305 s.file p.at) ++ superclass_breaks H K c s ps

abbrev pub interface_breaks : Heads → Knowledge → ℕ → ClassHead → List Path → List Refusal
interface_breaks H K c s [] = []
interface_breaks H K c s (p ∷ ps) = unless (not (is_nameable H K c p) || interface_fits H c (meant_in_head H K c p)) (broken_at 305 s.file p.at) ++ interface_breaks H K c s ps

abbrev pub super_breaks : Heads → Knowledge → ℕ → ClassHead → List Refusal
super_breaks H K c s = superclass_breaks H K c s s.superclass ++ interface_breaks H K c s s.interfaces

-- ---- 306 and 310: imports (JLS 7.5)

-- a package's name is this, or longer by further parts (JLS 7.1)
abbrev pub is_within_package : List ℕ → List ℕ → Bool
is_within_package p q = bytes_eq p q || starts_with (λ a b. a == b) q (p ++ codes ".")

-- a package is one that a unit is of, or one that such a package lies in (JLS 7.4.3)
abbrev pub is_package : Heads → List ℕ → Bool
is_package H p = some_in (λ (u : UnitHead). is_within_package p u.«package») H.units

-- an import names a class, or a package where it is on demand (JLS 7.5.1, 7.5.2)
abbrev pub import_fits : Heads → ImportHead → Found → Bool
import_fits H i (AtClass c) = true
import_fits H i (InPackage p) = i.on_demand && is_package H p
import_fits H i Nowhere = false

-- the class that a canonical name names, or nothing
abbrev pub class_found : Found → List ℕ
class_found (AtClass c) = c ∷ []
class_found (InPackage p) = []
class_found Nowhere = []

-- the classes that an import names, part by part
abbrev pub classes_found : Heads → Found → List (List ℕ) → List ℕ
classes_found H f [] = []
classes_found H f (n ∷ ns) = class_found (next_part H f n) ++ classes_found H (next_part H f n) ns

-- a class that can't be named there comes before what isn't found behind it
abbrev pub import_broken : Bool → Bool → ℕ → ℕ → List Refusal
import_broken false fits file at = broken_at 310 file at
import_broken true fits file at = unless fits (broken_at 306 file at)

-- what import i of a unit breaks, with the unit itself, outside of all types, as the one who asks
abbrev pub import_breaks : Heads → UnitHead → ℕ → ImportHead → List Refusal
import_breaks H u k i =
    import_broken (all_accessible H (record { «package» = u.«package»; top = None }) (classes_found H (InPackage i.path.first) i.path.more)) (import_fits H i (imported H i)) u.file i.at

-- ---- 307: fields and type parameters of one name (JLS 8.1.2, 8.3, 8.4.4)

-- the file in which class c is declared; 0 where there is no such class
abbrev pub file_in : Option ClassHead → ℕ
file_in (Some c) = c.file
file_in None = 0

abbrev pub class_file : Heads → ℕ → ℕ
class_file H c = file_in (slice_get H.classes c)

-- field k has the name of a field of the same class before it (JLS 8.3)
abbrev pub twice_field : Heads → ℕ → FieldHead → List Refusal
twice_field H k f =
    unless (not (some_before (λ (g : FieldHead). (f.class == g.class) && bytes_eq f.name g.name) k H.fields)) (broken_at 307 (class_file H f.class) f.at)

-- the class of a method, and the file of the owner of a type parameter; 0 where there is none
abbrev pub class_in : Option MethodPlace → ℕ
class_in (Some m) = m.class
class_in None = 0

abbrev pub owner_file : Heads → Owner → ℕ
owner_file H (owner.Class c) = class_file H c.0
owner_file H (owner.Method m) = class_file H (class_in (slice_get H.methods m.0))

-- type parameter k has the name of one of the same owner before it (JLS 8.1.2, 8.4.4)
abbrev pub twice_variable : Heads → ℕ → VariableHead → List Refusal
twice_variable H k v =
    unless (not (some_before (λ (w : VariableHead). same_owner v.owner w.owner && bytes_eq v.name w.name) k H.variables)) (broken_at 307 (owner_file H v.owner) v.at)

-- ---- 308: packages. All sources are of one package (own), and of none that begins with `java`

-- the package of the first source, behind the prelude
abbrev pub first_package : List UnitHead → List ℕ
first_package [] = []
first_package (u ∷ us) = cond (u.file == 0) (first_package us) u.«package»

-- the library's units (file 0) are of any package; a source is of that of the first source, which isn't java or inside of it
abbrev pub package_fits : Heads → UnitHead → Bool
package_fits H u = (u.file == 0) || (bytes_eq u.«package» (first_package H.units) && not (is_within_package (codes "java") u.«package»))

abbrev pub package_breaks : Heads → UnitHead → List Refusal
package_breaks H u = unless (package_fits H u) (broken_at 308 u.file u.at)

-- ---- all of them but the cycles

-- what a unit, a class and all heads break: units first, then classes, fields and type parameters
abbrev pub unit_breaks : Heads → ℕ → UnitHead → List Refusal
unit_breaks H k u = package_breaks H u ++ of_each (twice_import H u) 0 u.imports ++ of_each (import_breaks H u) 0 u.imports

abbrev pub class_breaks : Heads → Knowledge → ℕ → ClassHead → List Refusal
class_breaks H K c s = twice_class H c s ++ super_breaks H K c s

abbrev pub head_breaks : Heads → Knowledge → List Refusal
head_breaks H K =
    of_each (unit_breaks H) 0 H.units ++ of_each (class_breaks H K) 0 H.classes ++ of_each (twice_field H) 0 H.fields ++ of_each (twice_variable H) 0 H.variables
