-- What a name of a type means where it stands (JLS 6.3, 6.4.1, 6.5.5): the candidates, layer by layer. The first layer with a candidate
-- decides. None is the answer where a class is asked of which it isn't known yet what it inherits.
use Rattle.std.specs.Prelude.{ℕ, ◌==◌, Bool, true, false, cond, ◌||◌, List, [], ◌∷◌, ◌++◌, map, codes, Option, Some, None, ◌&&◌}
use Rattle.std.specs.Str.{bytes_eq}
use Rattle.jc_types.specs.declared.declarations.Access.{Access}
use Rattle.jc_types.specs.declared.declarations.Access.TheVariants as access
use Rattle.jc_types.specs.declared.declarations.Owner.{Owner}
use Rattle.jc_types.specs.declared.declarations.Owner.TheVariants as owner
use Rattle.jc_types.specs.Names.{named}
use Rattle.jc_declares.specs.declared.heads.Heads.{Heads}
use Rattle.jc_declares.specs.declared.heads.ImportHead.{ImportHead}
use Rattle.jc_declares.specs.Heads.{Named, access_of, is_top, unit_package, imports_of, unit_of, package_of, round_of, top_of_class, declared_of, types_of_unit, types_of_package, class_variables}

-- what a name of a type means: a class or interface, or a type variable, by its number
pub data Meaning : Type 0 where
  AClass : ℕ → Meaning
  AVariable : ℕ → Meaning

-- the candidates of the layer that decides: none where the name means nothing, several where it is ambiguous; None where it isn't known yet
abbrev pub Look : Type 0
Look = Option (List Meaning)

-- of each class the member types that it inherits, by their names, or nothing where that isn't known
abbrev pub Knowledge : Type 0
Knowledge = ℕ → Option Named

-- ---- access (JLS 6.6)

-- a member or type of that access is open to one in the same package or not, inside of the same type of a unit or not (JLS 6.6.1)
abbrev pub is_open : Access → Bool → Bool → Bool
is_open access.Public same_package same_top = true
is_open access.Protected same_package same_top = same_package
is_open access.Package same_package same_top = same_package
is_open access.Private same_package same_top = same_top

-- who asks: the package, and the type of the unit inside of which the name stands, if it stands inside of one
pub record Asker : Type 0 where
  pub «package» : List ℕ
  pub top : Option ℕ

-- it is this number; None is no number
abbrev pub is_number : Option ℕ → ℕ → Bool
is_number None n = false
is_number (Some m) n = m == n

-- a class may be named there: private ones inside of the same type of a unit alone, others that aren't public in the same package
abbrev pub is_accessible : Heads → Asker → ℕ → Bool
is_accessible H a c = is_open (access_of H c) (bytes_eq (package_of H c) a.«package») (is_number a.top (top_of_class H c))

-- in the body of class c; and in its head, which is inside of the bodies of the classes round it, and so of none for a type of a unit (JLS 6.6.1: private
-- members are open in the body of the type of the unit)
abbrev pub body_asker : Heads → ℕ → Asker
body_asker H c = record { «package» = package_of H c; top = Some (top_of_class H c) }

abbrev pub head_asker : Heads → ℕ → Asker
head_asker H c = record { «package» = package_of H c; top = cond (is_top (round_of H c)) None (Some (top_of_class H c)) }

-- each of these classes may be named there
abbrev pub all_accessible : Heads → Asker → List ℕ → Bool
all_accessible H a [] = true
all_accessible H a (c ∷ cs) = is_accessible H a c && all_accessible H a cs

-- a variable of a method may be named wherever it is found; one of a class in that class alone, and not in a static place (JLS 6.3, 8.1.2, 8.5.1)
abbrev pub is_own : Option Owner → Option ℕ → Bool
is_own (Some (owner.Method m)) own = true
is_own (Some (owner.Class c)) own = is_number own c.0
is_own None own = false

-- ---- canonical names (JLS 6.7)

-- what a canonical name names: a package (or a name that may begin one), a class by its number, or nothing
pub data Found : Type 0 where
  InPackage : List ℕ → Found
  AtClass : ℕ → Found
  Nowhere : Found

-- the class, if there is one, or the package p.n
abbrev pub type_or_package : Option ℕ → List ℕ → List ℕ → Found
type_or_package (Some c) p n = AtClass c
type_or_package None p n = InPackage (p ++ codes "." ++ n)

-- the class, if there is one, or nothing
abbrev pub class_or_nowhere : Option ℕ → Found
class_or_nowhere (Some c) = AtClass c
class_or_nowhere None = Nowhere

-- a further part of a canonical name: a type of the package or else a longer package, or a member type that the class declares
abbrev pub next_part : Heads → Found → List ℕ → Found
next_part H (InPackage p) n = type_or_package (named n (types_of_package H p)) p n
next_part H (AtClass c) n = class_or_nowhere (named n (declared_of H c))
next_part H Nowhere n = Nowhere

-- all further parts, one after the other
abbrev pub next_parts : Heads → Found → List (List ℕ) → Found
next_parts H f [] = f
next_parts H f (n ∷ ns) = next_parts H (next_part H f n) ns

-- what an import names: its first part is a package, since no type of the unnamed one can be imported (JLS 7.5)
abbrev pub imported : Heads → ImportHead → Found
imported H i = next_parts H (InPackage i.path.first) i.path.more

-- ---- units

-- the last part of a name
abbrev pub last_part : List ℕ → List (List ℕ) → List ℕ
last_part n [] = n
last_part n (m ∷ ms) = last_part m ms

-- the one type that a single import imports, by its simple name; nothing where it is on demand or names no class
abbrev pub single_of : ImportHead → Found → Named
single_of i (AtClass c) = cond i.on_demand [] ((last_part i.path.first i.path.more, c) ∷ [])
single_of i (InPackage p) = []
single_of i Nowhere = []

-- the types that single imports import, by their simple names (JLS 7.5.1)
abbrev pub singles : Heads → List ImportHead → Named
singles H [] = []
singles H (i ∷ is) = single_of i (imported H i) ++ singles H is

-- the classes of a name in a list of names, of which one who asks may name them
abbrev pub open_class : Heads → Asker → Option ℕ → List ℕ
open_class H a None = []
open_class H a (Some c) = cond (is_accessible H a c) (c ∷ []) []

-- the type of this name that an import on demand imports (JLS 7.5.2), if it can be named there
abbrev pub demanded_by : Heads → Asker → List ℕ → ImportHead → Found → List ℕ
demanded_by H a n i (InPackage p) = cond i.on_demand (open_class H a (named n (types_of_package H p))) []
demanded_by H a n i (AtClass c) = cond i.on_demand (open_class H a (named n (declared_of H c))) []
demanded_by H a n i Nowhere = []

-- the types of that name that these imports on demand import
abbrev pub demanded : Heads → Asker → List ℕ → List ImportHead → List ℕ
demanded H a n [] = []
demanded H a n (i ∷ is) = demanded_by H a n i (imported H i) ++ demanded H a n is

-- a number is in a list
abbrev pub has : ℕ → List ℕ → Bool
has c [] = false
has c (d ∷ ds) = (c == d) || has c ds

-- each class once, where it is found first
abbrev pub once : List ℕ → List ℕ → List ℕ
once found [] = found
once found (c ∷ cs) = once (cond (has c found) found (found ++ c ∷ [])) cs

-- classes and variables as candidates
abbrev pub classes : List ℕ → List Meaning
classes cs = map (λ c. AClass c) cs

abbrev pub one_class : Option ℕ → List Meaning
one_class None = []
one_class (Some c) = AClass c ∷ []

abbrev pub one_variable : Option ℕ → List Meaning
one_variable None = []
one_variable (Some v) = AVariable v ∷ []

-- the first layer with a candidate decides
abbrev pub or_next : List Meaning → Look → Look
or_next [] rest = rest
or_next (m ∷ ms) rest = Some (m ∷ ms)

-- a simple name in a unit outside of its types: its single imports and own types, then the types of its package, then what it imports on demand,
-- among which is java.lang (JLS 6.4.1, 7.3)
abbrev pub in_unit : Heads → ℕ → List ℕ → Look
in_unit H u n =
    let asker : Asker = record { «package» = unit_package H u; top = None } in
    or_next (one_class (named n (singles H (imports_of H u) ++ types_of_unit H u)))
    (or_next (one_class (named n (types_of_package H (unit_package H u))))
    (Some (classes (once [] (demanded H asker n (imports_of H u) ++ open_class H asker (named n (types_of_package H (codes "java.lang"))))))))

-- ---- bodies and heads of types

-- all numbers under a name, in their order
abbrev pub all_named : List ℕ → Named → List ℕ
all_named n [] = []
all_named n (e ∷ es) = cond (bytes_eq n e.0) (e.1 ∷ []) [] ++ all_named n es

-- the inherited member types of that name, or else what lies further out (JLS 8.5)
abbrev pub inherits : List ℕ → Option Named → Look → Look
inherits n None rest = None
inherits n (Some es) rest = or_next (classes (all_named n es)) rest

-- in the body of a class, round which lies the rest
abbrev pub in_class : Heads → Knowledge → List ℕ → ℕ → Look → Look
in_class H K n c rest = or_next (one_class (named n (declared_of H c))) (or_next (one_variable (named n (class_variables H c))) (inherits n (K c) rest))

-- a simple name in the bodies of these classes, from the innermost outwards, and then in unit u
abbrev pub in_classes : Heads → Knowledge → List ℕ → ℕ → List ℕ → Look
in_classes H K n u [] = in_unit H u n
in_classes H K n u (c ∷ cs) = in_class H K n c (in_classes H K n u cs)

-- a simple name in the body of class c
abbrev pub in_body : Heads → Knowledge → ℕ → List ℕ → Look
in_body H K c n = in_classes H K n (unit_of H c) (c ∷ round_of H c)

-- and in its head: its parameters' bounds and its supertypes see its parameters, and not its members (JLS 6.3)
abbrev pub in_head : Heads → Knowledge → ℕ → List ℕ → Look
in_head H K c n = or_next (one_variable (named n (class_variables H c))) (in_classes H K n (unit_of H c) (round_of H c))

-- ---- names of several parts (JLS 6.5.2, 6.5.5.2)

-- a member type of a class, declared or inherited
abbrev pub member : Heads → Knowledge → ℕ → List ℕ → Look
member H K c n = or_next (one_class (named n (declared_of H c))) (inherits n (K c) (Some []))

-- further parts behind what the parts before them mean: a type variable has no member types, and what is ambiguous stays so
abbrev pub with_parts : Heads → Knowledge → List (List ℕ) → Look → Look
with_parts H K ps None = None
with_parts H K [] (Some ms) = Some ms
with_parts H K (p ∷ ps) (Some []) = Some []
with_parts H K (p ∷ ps) (Some (AClass c ∷ [])) = with_parts H K ps (member H K c p)
with_parts H K (p ∷ ps) (Some (AVariable v ∷ [])) = Some []
with_parts H K (p ∷ ps) (Some (m ∷ n ∷ ms)) = Some (m ∷ n ∷ ms)

-- behind the class where there is one, and otherwise with a longer package name
abbrev pub or_longer : (Look → Look) → Look → Option ℕ → Look
or_longer behind longer (Some c) = behind (Some (AClass c ∷ []))
or_longer behind longer None = longer

-- further parts behind a package
abbrev pub in_packages : Heads → Knowledge → List ℕ → List (List ℕ) → Look
in_packages H K p [] = Some []
in_packages H K p (n ∷ ns) = or_longer (with_parts H K ns) (in_packages H K (p ++ codes "." ++ n) ns) (named n (types_of_package H p))

-- where nothing of the first part's name is in scope, it is a package
abbrev pub or_package : Heads → Knowledge → List ℕ → List (List ℕ) → Look → Look
or_package H K n ps None = None
or_package H K n ps (Some []) = in_packages H K n ps
or_package H K n ps (Some (m ∷ ms)) = with_parts H K ps (Some (m ∷ ms))

-- the parts of a name, the first of which is looked up by `find`
abbrev pub look_up : Heads → Knowledge → (List ℕ → Look) → List ℕ → List (List ℕ) → Look
look_up H K find n ps = or_package H K n ps (find n)
