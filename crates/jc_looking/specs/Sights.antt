-- How much a look-up finds (JLS 6.5.5): a look-up's sight is one class, one variable, nothing or several types, or it asks.
use Rattle.std.specs.Prelude.{ℕ, ◌==◌, Bool, true, false, cond, List, [], ◌∷◌, ◌++◌, codes, Option, Some, None}
use Rattle.jc_types.specs.Names.{named}
use Rattle.jc_declares.specs.declared.heads.Heads.{Heads}
use Rattle.jc_declares.specs.Heads.{unit_package, imports_of, declared_of, types_of_package}
use Rattle.jc_declares.specs.Looking.{Asker, Meaning, AClass, AVariable, Look, Knowledge, Found, InPackage, AtClass, Nowhere, open_class, member}
use Rattle.jc_looking.specs.declared.scene.Sight.{Sight}
use Rattle.jc_looking.specs.declared.scene.Sight.TheVariants as sight
use Rattle.jc_imports.specs.Imported.{demands_of}

-- the sight of candidates: what they are, if they are one; two or more are several, the same ones or not
abbrev pub sight_of : List Meaning → Sight
sight_of [] = sight.Nothing
sight_of (AClass c ∷ []) = sight.Class c
sight_of (AVariable v ∷ []) = sight.Variable v
sight_of (m ∷ n ∷ ms) = sight.Several

-- the sight of a look-up, which asks where it isn't known yet what a class inherits
abbrev pub seen : Look → Sight
seen None = sight.Asks
seen (Some ms) = sight_of ms

-- a class or a variable, if there is one, and nothing otherwise
abbrev pub class_sight : Option ℕ → Sight
class_sight None = sight.Nothing
class_sight (Some c) = sight.Class c

abbrev pub variable_sight : Option ℕ → Sight
variable_sight None = sight.Nothing
variable_sight (Some v) = sight.Variable v

-- the second where the first is nothing
abbrev pub next : Sight → Sight → Sight
next sight.Nothing s = s
next sight.Asks s = sight.Asks
next (sight.Class c) s = sight.Class c
next (sight.Variable v) s = sight.Variable v
next sight.Several s = sight.Several

-- a layer with this sight decides; one that asks does too, since what it would have isn't known
abbrev pub is_found : Sight → Bool
is_found sight.Nothing = false
is_found sight.Asks = true
is_found (sight.Class c) = true
is_found (sight.Variable v) = true
is_found sight.Several = true

-- ---- several candidates of one layer

-- what was found and a class: the same one twice is one
abbrev pub with_class : Sight → ℕ → Sight
with_class sight.Nothing c = sight.Class c
with_class sight.Asks c = sight.Asks
with_class (sight.Class d) c = cond (d == c) (sight.Class d) sight.Several
with_class (sight.Variable v) c = sight.Variable v
with_class sight.Several c = sight.Several

-- all these classes, one after the other
abbrev pub gathered : Sight → List ℕ → Sight
gathered s [] = s
gathered s (c ∷ cs) = gathered (with_class s c) cs

-- the type of that name that is imported from there, if it may be named
abbrev pub open_in : Heads → Asker → List ℕ → Found → List ℕ
open_in H a n (InPackage p) = open_class H a (named n (types_of_package H p))
open_in H a n (AtClass c) = open_class H a (named n (declared_of H c))
open_in H a n Nowhere = []

-- from all these places, in their order
abbrev pub open_in_all : Heads → Asker → List ℕ → List Found → List ℕ
open_in_all H a n [] = []
open_in_all H a n (f ∷ fs) = open_in H a n f ++ open_in_all H a n fs

-- who asks in a unit outside of its types
abbrev pub unit_asker : Heads → ℕ → Asker
unit_asker H u = record { «package» = unit_package H u; top = None }

-- on demand, java.lang among them
abbrev pub on_demand_sight : Heads → ℕ → List ℕ → Sight
on_demand_sight H u n =
    gathered sight.Nothing
    (open_in_all H (unit_asker H u) n (demands_of H (imports_of H u)) ++ open_class H (unit_asker H u) (named n (types_of_package H (codes "java.lang"))))

-- ---- further parts

-- one more part: a type variable has no member types, and what is ambiguous stays so
abbrev pub part_seen : Heads → Knowledge → Sight → List ℕ → Sight
part_seen H K sight.Asks p = sight.Asks
part_seen H K sight.Nothing p = sight.Nothing
part_seen H K (sight.Class c) p = seen (member H K c p)
part_seen H K (sight.Variable v) p = sight.Nothing
part_seen H K sight.Several p = sight.Several

-- further parts, one after the other
abbrev pub parts_seen : Heads → Knowledge → List (List ℕ) → Sight → Sight
parts_seen H K [] s = s
parts_seen H K (p ∷ ps) s = parts_seen H K ps (part_seen H K s p)

-- behind the class, if there is one, and otherwise with a longer package name
abbrev pub class_or_longer : (ℕ → Sight) → Sight → Option ℕ → Sight
class_or_longer behind longer (Some c) = behind c
class_or_longer behind longer None = longer

-- further parts behind a package: from the first one on that names a type; nothing where none does
abbrev pub packages_seen : Heads → Knowledge → List ℕ → List (List ℕ) → Sight
packages_seen H K p [] = sight.Nothing
packages_seen H K p (n ∷ ns) =
    class_or_longer (λ c. parts_seen H K ns (sight.Class c)) (packages_seen H K (p ++ codes "." ++ n) ns) (named n (types_of_package H p))

-- a name whose first part is seen so
abbrev pub name_seen : Heads → Knowledge → List ℕ → List (List ℕ) → Sight → Sight
name_seen H K n ps sight.Nothing = packages_seen H K n ps
name_seen H K n ps sight.Asks = parts_seen H K ps sight.Asks
name_seen H K n ps (sight.Class c) = parts_seen H K ps (sight.Class c)
name_seen H K n ps (sight.Variable v) = parts_seen H K ps (sight.Variable v)
name_seen H K n ps sight.Several = parts_seen H K ps sight.Several

-- ---- the classes that parts name

-- the class that is seen; nothing for any other sight
abbrev pub class_in : Sight → List ℕ
class_in (sight.Class c) = c ∷ []
class_in sight.Asks = []
class_in sight.Nothing = []
class_in (sight.Variable v) = []
class_in sight.Several = []

-- the classes that a name names, part by part, behind what its first part is; and below those of one that begins with a package
abbrev pub passed_seen : Heads → Knowledge → List (List ℕ) → Sight → List ℕ
passed_seen H K [] s = class_in s
passed_seen H K (p ∷ ps) s = class_in s ++ passed_seen H K ps (part_seen H K s p)

abbrev pub passed_or_longer_seen : (ℕ → List ℕ) → List ℕ → Option ℕ → List ℕ
passed_or_longer_seen behind longer (Some c) = behind c
passed_or_longer_seen behind longer None = longer

abbrev pub passed_packages_seen : Heads → Knowledge → List ℕ → List (List ℕ) → List ℕ
passed_packages_seen H K p [] = []
passed_packages_seen H K p (n ∷ ns) =
    passed_or_longer_seen (λ c. passed_seen H K ns (sight.Class c)) (passed_packages_seen H K (p ++ codes "." ++ n) ns) (named n (types_of_package H p))

-- the classes that a name names whose first part is seen so; where that is nothing, it begins with a package
abbrev pub name_passed : Heads → Knowledge → List ℕ → List (List ℕ) → Sight → List ℕ
name_passed H K n ps sight.Nothing = passed_packages_seen H K n ps
name_passed H K n ps sight.Asks = passed_seen H K ps sight.Asks
name_passed H K n ps (sight.Class c) = passed_seen H K ps (sight.Class c)
name_passed H K n ps (sight.Variable v) = passed_seen H K ps (sight.Variable v)
name_passed H K n ps sight.Several = passed_seen H K ps sight.Several
