-- The supertypes of each class and the member types that it inherits (JLS 8.1.4, 8.1.5, 8.5, 9.1.3): a class is settled once all classes that it needs
-- are, in rounds; what no number of rounds settles needs itself, or needs what needs itself.
use Rattle.std.specs.Prelude.{ℕ, zero, suc, ◌≡◌, ◌==◌, Bool, true, false, cond, not, ◌&&◌, ◌||◌, List, [], ◌∷◌, ◌++◌, codes, length, Option, Some, None, slice_get}
use Rattle.jc_types.specs.Names.{named}
use Rattle.jc_declares.specs.declared.heads.Heads.{Heads}
use Rattle.jc_declares.specs.declared.heads.Path.{Path}
use Rattle.jc_declares.specs.Heads.{Named, access_of, round_of, supers_of, declared_of, types_of_package}
use Rattle.jc_declares.specs.Modifiers.{is_private}
use Rattle.jc_declares.specs.Looking.{body_asker, Meaning, AClass, AVariable, Look, Knowledge, is_accessible, member, in_head, look_up, has}

-- what a class that is written in the head of class c means
abbrev pub meant_in_head : Heads → Knowledge → ℕ → Path → Look
meant_in_head H K c path = look_up H K (in_head H K c) path.first path.more

-- the class that is meant, if it is exactly one class; nothing for a variable, for nothing and for several
abbrev pub meant_class : List Meaning → List ℕ
meant_class (AClass c ∷ []) = c ∷ []
meant_class _ = []

-- the class that is meant before the rest; None where one of both isn't known yet
abbrev pub and_class : Look → Option (List ℕ) → Option (List ℕ)
and_class None rest = None
and_class (Some ms) None = None
and_class (Some ms) (Some cs) = Some (meant_class ms ++ cs)

-- the classes that it writes as its supertypes, in their order, without those that mean no class
abbrev pub written_supers : Heads → Knowledge → ℕ → List Path → Option (List ℕ)
written_supers H K c [] = Some []
written_supers H K c (t ∷ ts) = and_class (meant_in_head H K c t) (written_supers H K c ts)

-- ---- inherited member types (JLS 8.5)

-- a member type that isn't private, and that the class may name
abbrev pub is_inheritable : Heads → ℕ → ℕ → Bool
is_inheritable H c m = not (is_private (access_of H m)) && is_accessible H (body_asker H c) m

-- there is a value
abbrev pub is_some : {X : Type 0} → Option X → Bool
is_some None = false
is_some (Some x) = true

-- class c is among these, under whatever name
abbrev pub has_class : ℕ → Named → Bool
has_class c [] = false
has_class c (e ∷ es) = (c == e.1) || has_class c es

-- of these member types of a supertype, those that class c inherits behind those found before: each class once, without what c hides
abbrev pub inherited_of : Heads → ℕ → Named → Named → Named
inherited_of H c found [] = found
inherited_of H c found (e ∷ es) =
    inherited_of H c (cond (is_some (named e.0 (declared_of H c)) || has_class e.1 found || not (is_inheritable H c e.1)) found (found ++ e ∷ [])) es

-- from supertype s: the member types that it declares, and then those that it inherits; None where these aren't known yet
abbrev pub with_inherited : Heads → ℕ → ℕ → Option Named → Named → Option Named
with_inherited H c s None found = None
with_inherited H c s (Some es) found = Some (inherited_of H c (inherited_of H c found (declared_of H s)) es)

-- from what was found, if it is known; None otherwise
abbrev pub or_unknown : Option Named → (Named → Option Named) → Option Named
or_unknown None f = None
or_unknown (Some found) f = f found

-- from these supertypes
abbrev pub inherited_from : Heads → Knowledge → ℕ → List ℕ → Named → Option Named
inherited_from H K c [] found = Some found
inherited_from H K c (s ∷ ss) found = or_unknown (with_inherited H c s (K s) found) (inherited_from H K c ss)

-- ---- what a class needs (JLS 8.1.4: its supertypes, and the types that qualify their names; and the classes round it)

-- the classes that a name passes, behind what its first part means: each up to the last; it ends at a variable, at nothing and at several
abbrev pub passed : Heads → Knowledge → List (List ℕ) → Look → List ℕ
passed H K ps None = []
passed H K [] (Some ms) = meant_class ms
passed H K (p ∷ ps) (Some []) = []
passed H K (p ∷ ps) (Some (AClass c ∷ [])) = c ∷ passed H K ps (member H K c p)
passed H K (p ∷ ps) (Some (AVariable v ∷ [])) = []
passed H K (p ∷ ps) (Some (m ∷ n ∷ ms)) = []

-- from a class on where a package has one of that name, and otherwise with a longer package name
abbrev pub passed_or_longer : (Look → List ℕ) → List ℕ → Option ℕ → List ℕ
passed_or_longer behind longer (Some c) = behind (Some (AClass c ∷ []))
passed_or_longer behind longer None = longer

-- the classes that a name passes whose first part is a package
abbrev pub passed_in_packages : Heads → Knowledge → List ℕ → List (List ℕ) → List ℕ
passed_in_packages H K p [] = []
passed_in_packages H K p (n ∷ ns) = passed_or_longer (passed H K ns) (passed_in_packages H K (p ++ codes "." ++ n) ns) (named n (types_of_package H p))

-- the classes that a name passes, its first part being looked up: where that means nothing it is a package; none where it isn't known
abbrev pub passed_all : Heads → Knowledge → List ℕ → List (List ℕ) → Look → List ℕ
passed_all H K n ps None = []
passed_all H K n ps (Some []) = passed_in_packages H K n ps
passed_all H K n ps (Some (m ∷ ms)) = passed H K ps (Some (m ∷ ms))

-- the classes that a name in the head of class c names, part by part
abbrev pub passed_by : Heads → Knowledge → ℕ → Path → List ℕ
passed_by H K c path = passed_all H K path.first path.more (in_head H K c path.first)

-- the classes that all these names in the head of class c name, part by part
abbrev pub passed_by_all : Heads → Knowledge → ℕ → List Path → List ℕ
passed_by_all H K c [] = []
passed_by_all H K c (t ∷ ts) = passed_by H K c t ++ passed_by_all H K c ts

-- all that class c needs: the classes round it, and those that the names of its supertypes name
abbrev pub needs : Heads → Knowledge → ℕ → List ℕ
needs H K c = round_of H c ++ passed_by_all H K c (supers_of H c)

-- ---- rounds

-- what is inherited is known of each of these classes
abbrev pub all_known : Knowledge → List ℕ → Bool
all_known K [] = true
all_known K (c ∷ cs) = is_some (K c) && all_known K cs

-- a value on a condition, and None without it
abbrev pub if_all : {X : Type 0} → Bool → Option X → Option X
if_all true x = x
if_all false x = None

-- what class c inherits from these supertypes; None where they aren't known yet
abbrev pub settled_by : Heads → Knowledge → ℕ → Option (List ℕ) → Option Named
settled_by H K c None = None
settled_by H K c (Some ss) = inherited_from H K c ss []

-- what becomes known of class c where so much is known
abbrev pub settled : Heads → Knowledge → ℕ → Option Named
settled H K c = if_all (is_some (slice_get H.classes c) && all_known K (needs H K c)) (settled_by H K c (written_supers H K c (supers_of H c)))

-- after so many rounds, in each of which every class is settled that can be
abbrev pub rounds : Heads → ℕ → Knowledge
rounds H zero = λ c. None
rounds H (suc n) = λ c. settled H (rounds H n) c

-- What is known: after as many rounds as there are classes, since a round that settles no further class is the last one that does.
unfoldable pub known : Heads → Knowledge
known H = rounds H (length H.classes)

-- the list, or the empty one
abbrev pub or_none : Option (List ℕ) → List ℕ
or_none None = []
or_none (Some cs) = cs

-- ---- cycles (JLS 8.1.4, 9.1.3)

-- class d is needed by class c, or by what it needs
pub data Needs (H : Heads) (c : ℕ) : ℕ → Type 0 where
  needed : (d : ℕ) → has d (needs H (known H) c) ≡ true → Needs H c d
  further : (d e : ℕ) → Needs H c d → has e (needs H (known H) d) ≡ true → Needs H c e
