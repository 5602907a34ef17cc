-- What is noted under the number of a package is what the package declares.
use Rattle.std.proofs.Common.{◌≡◌, ◌≤◌, ◌++◌, ℕ, suc, zero, Bool, true, false, List, [], ◌∷◌, Option, Some, None, slice_get, replicate, subst, refl, sym, ap, ◌∙◌, arith}
use Rattle.std.specs.Prelude.{cond, ◌==◌, ◌&&◌, if◌then◌else◌}
use Rattle.std.specs.Str.{bytes_eq}
use Rattle.std.proofs.lemmas.Grind.{common_steps}
use Rattle.std.proofs.lemmas.Slice.Eq.{bytes_eq-Decides}
use Rattle.jc_rules.proofs.Truths.{same_bytes, equal_numbers}
use Rattle.jc_types.specs.Names.{named}
use Rattle.jc_declares.specs.declared.heads.ClassHead.{ClassHead}
use Rattle.jc_declares.specs.declared.heads.Heads.{Heads}
use Rattle.jc_declares.specs.declared.heads.UnitHead.{UnitHead}
use Rattle.jc_declares.specs.Heads.{Named, named_classes, is_top, is_of_package, types_of_package}
use Rattle.jc_name_index.specs.Spaces.{space_named, noted_all, picked, picked_as}
use Rattle.jc_name_index.specs.Index.{as_package, package_number, in_numbered, in_unit_package, outside_in_package, as_packaged, numbered_named}
use Rattle.jc_name_index.proofs.Picked.{noted_from_empty}

bytes_same : (xs ys : List ℕ) → xs ≡ ys → bytes_eq xs ys ≡ true
bytes_same xs ys e = (bytes_eq-Decides xs ys).1 e

some_same : {a b : ℕ} → Some a ≡ Some b → a ≡ b
some_same e = ap (λ o. or_zero o) e
  where
    or_zero : Option ℕ → ℕ
    or_zero (Some k) = k
    or_zero None = 0

none_is_some : {a : ℕ} → None ≡ Some a → ⊥
none_is_some e = subst (λ o. is_none_type o) e tt
  where
    is_none_type : Option ℕ → Type 0
    is_none_type None = Unit {0}
    is_none_type (Some k) = ⊥

false_is_true : false ≡ true → ⊥
false_is_true e = subst (λ b. is_false_type b) e tt
  where
    is_false_type : Bool → Type 0
    is_false_type false = Unit {0}
    is_false_type true = ⊥

-- ---- the numbers of packages

abbrev num : List ℕ → ℕ → List UnitHead → Option ℕ
num p i us = named p (picked as_package 0 i us)

number_from_at : (b : Bool) (q : List ℕ) (j k : ℕ) (us : List UnitHead) → ((e : num q (suc j) us ≡ Some k) → suc j ≤ k) → (if b then Some j else num q (suc j) us) ≡ Some k → j ≤ k
number_from_at true q j k us h e = let s : j ≡ k = some_same e in omega arith
number_from_at false q j k us h e = let s : suc j ≤ k = h e in omega arith

number_from : (q : List ℕ) (j k : ℕ) (us : List UnitHead) → num q j us ≡ Some k → j ≤ k
number_from q j k [] e = absurd (none_is_some e)
number_from q j k (u ∷ us) e = number_from_at (bytes_eq q u.«package») q j k us (number_from q (suc j) k us) e

number_tells_at : (a b : Bool) (p q : List ℕ) (i k : ℕ) (u : UnitHead) (us : List UnitHead) → bytes_eq p u.«package» ≡ a → bytes_eq q u.«package» ≡ b
    → ((e : num p (suc i) us ≡ Some k) (f : num q (suc i) us ≡ Some k) → p ≡ q)
    → (if a then Some i else num p (suc i) us) ≡ Some k → (if b then Some i else num q (suc i) us) ≡ Some k → p ≡ q
number_tells_at true true p q i k u us ea eb h e f = same_bytes p u.«package» ea ∙ sym (same_bytes q u.«package» eb)
number_tells_at true false p q i k u us ea eb h e f =
    let s : i ≡ k = some_same e in let t : suc i ≤ k = number_from q (suc i) k us f in absurd (omega arith)
number_tells_at false true p q i k u us ea eb h e f =
    let s : i ≡ k = some_same f in let t : suc i ≤ k = number_from p (suc i) k us e in absurd (omega arith)
number_tells_at false false p q i k u us ea eb h e f = h e f

number_tells : (p q : List ℕ) (i k : ℕ) (us : List UnitHead) → num p i us ≡ Some k → num q i us ≡ Some k → p ≡ q
number_tells p q i k [] e f = absurd (none_is_some e)
number_tells p q i k (u ∷ us) e f = number_tells_at (bytes_eq p u.«package») (bytes_eq q u.«package») p q i k u us refl refl (number_tells p q (suc i) k us) e f

has_number_at : (b : Bool) (p : List ℕ) (i : ℕ) (us : List UnitHead) → b ≡ true → (if b then Some i else num p (suc i) us) ≡ None → ⊥
has_number_at true p i us e f = none_is_some (sym f)
has_number_at false p i us e f = false_is_true e

later_number_at : (b : Bool) (p : List ℕ) (i : ℕ) (us : List UnitHead) → ((f : num p (suc i) us ≡ None) → ⊥) → (if b then Some i else num p (suc i) us) ≡ None → ⊥
later_number_at true p i us h f = none_is_some (sym f)
later_number_at false p i us h f = h f

has_number : (us : List UnitHead) (j i : ℕ) (u : UnitHead) → slice_get us j ≡ Some u → num u.«package» i us ≡ None → ⊥
has_number [] j i u e f = no_unit e
  where
    is_none_type : Option UnitHead → Type 0
    is_none_type None = Unit {0}
    is_none_type (Some k) = ⊥

    no_unit : None ≡ Some u → ⊥
    no_unit e = subst (λ o. is_none_type o) e tt
has_number (v ∷ us) zero i u e f =
    has_number_at (bytes_eq u.«package» v.«package») u.«package» i us (bytes_same u.«package» v.«package» (ap (λ o. package_in o) (sym e))) f
  where
    package_in : Option UnitHead → List ℕ
    package_in (Some w) = w.«package»
    package_in None = []
has_number (v ∷ us) (suc j) i u e f = later_number_at (bytes_eq u.«package» v.«package») u.«package» i us (has_number us j (suc i) u e) f

-- ---- the types of a package

same_number : (a b : ℕ) → a ≡ b → (a == b) ≡ true
same_number a b e = grind (arith, common_steps)

some_packaged : (b c : Bool) (H : Heads) (p q : List ℕ) (k j : ℕ) (e : List ℕ × ℕ) → bytes_eq q p ≡ b → (k == j) ≡ c → package_number H p ≡ Some k → package_number H q ≡ Some j
    → cond c (e ∷ []) [] ≡ cond b (e ∷ []) []
some_packaged true true H p q k j e eb ec ep eq = refl
some_packaged false false H p q k j e eb ec ep eq = refl
some_packaged true false H p q k j e eb ec ep eq =
    let s : j ≡ k = some_same (sym eq ∙ ap (package_number H) (same_bytes q p eb) ∙ ep) in
    absurd (false_is_true (sym ec ∙ same_number k j (sym s)))
some_packaged false true H p q k j e eb ec ep eq =
    let s : q ≡ p = number_tells q p 0 k H.units (eq ∙ ap Some (sym (equal_numbers k j ec))) ep in
    absurd (false_is_true (sym eb ∙ bytes_same q p s))

none_packaged : (b : Bool) (H : Heads) (p q : List ℕ) (k : ℕ) (e : List ℕ × ℕ) → bytes_eq q p ≡ b → package_number H p ≡ Some k → package_number H q ≡ None → (let l : Named = [] in l) ≡ cond b (e ∷ []) []
none_packaged true H p q k e eb ep eq = absurd (none_is_some (sym eq ∙ ap (package_number H) (same_bytes q p eb) ∙ ep))
none_packaged false H p q k e eb ep eq = refl

number_packaged : (m : Option ℕ) (H : Heads) (p q : List ℕ) (k i : ℕ) (name : List ℕ) → package_number H p ≡ Some k → package_number H q ≡ m
    → picked_as k (in_numbered m name) i ≡ cond (bytes_eq q p) ((name, i) ∷ []) []
number_packaged None H p q k i name ep eq = none_packaged (bytes_eq q p) H p q k (name, i) refl ep eq
number_packaged (Some j) H p q k i name ep eq = some_packaged (bytes_eq q p) (k == j) H p q k j (name, i) refl refl ep eq

unit_packaged : (o : Option UnitHead) (H : Heads) (p : List ℕ) (k i : ℕ) (name : List ℕ) → package_number H p ≡ Some k
    → picked_as k (in_unit_package H o name) i ≡ cond (is_of_package o p) ((name, i) ∷ []) []
unit_packaged None H p k i name ep = refl
unit_packaged (Some u) H p k i name ep = number_packaged (package_number H u.«package») H p u.«package» k i name ep refl

one_packaged : (round : List ℕ) (H : Heads) (p : List ℕ) (k i unit : ℕ) (name : List ℕ) → package_number H p ≡ Some k
    → picked_as k (outside_in_package H round unit name) i ≡ cond (is_top round && is_of_package (slice_get H.units unit) p) ((name, i) ∷ []) []
one_packaged [] H p k i unit name ep = unit_packaged (slice_get H.units unit) H p k i name ep
one_packaged (c ∷ round) H p k i unit name ep = refl

classes_packaged : (H : Heads) (p : List ℕ) (k i : ℕ) (cs : List ClassHead) → package_number H p ≡ Some k
    → picked (as_packaged H) k i cs ≡ named_classes (λ (c : ClassHead). is_top c.round && is_of_package (slice_get H.units c.unit) p) i cs
classes_packaged H p k i [] ep = refl
classes_packaged H p k i (c ∷ cs) ep =
    ap (λ (l : Named). l ++ picked (as_packaged H) k (suc i) cs) (one_packaged c.round H p k i c.unit c.name ep)
    ∙ ap (λ (l : Named). cond (is_top c.round && is_of_package (slice_get H.units c.unit) p) ((c.name, i) ∷ []) [] ++ l) (classes_packaged H p k (suc i) cs ep)

-- ---- of no package

not_of_at : (b : Bool) (H : Heads) (p : List ℕ) (j : ℕ) (u : UnitHead) → slice_get H.units j ≡ Some u → bytes_eq u.«package» p ≡ b → package_number H p ≡ None → b ≡ false
not_of_at true H p j u eu eb ep = absurd (has_number H.units j 0 u eu (ap (package_number H) (same_bytes u.«package» p eb) ∙ ep))
not_of_at false H p j u eu eb ep = refl

not_of : (o : Option UnitHead) (H : Heads) (p : List ℕ) (j : ℕ) → slice_get H.units j ≡ o → package_number H p ≡ None → is_of_package o p ≡ false
not_of None H p j e ep = refl
not_of (Some u) H p j e ep = not_of_at (bytes_eq u.«package» p) H p j u e refl ep

no_top : (round : List ℕ) (b : Bool) → b ≡ false → (is_top round && b) ≡ false
no_top [] b e = e
no_top (c ∷ round) b e = refl

no_classes : (H : Heads) (p : List ℕ) (i : ℕ) (cs : List ClassHead) → package_number H p ≡ None
    → named_classes (λ (c : ClassHead). is_top c.round && is_of_package (slice_get H.units c.unit) p) i cs ≡ []
no_classes H p i [] ep = refl
no_classes H p i (c ∷ cs) ep =
    ap (λ (b : Bool). cond b ((c.name, i) ∷ []) [] ++ named_classes (λ (d : ClassHead). is_top d.round && is_of_package (slice_get H.units d.unit) p) (suc i) cs)
    (no_top c.round (is_of_package (slice_get H.units c.unit) p) (not_of (slice_get H.units c.unit) H p c.unit refl ep))
    ∙ no_classes H p (suc i) cs ep

-- ---- both

found_at : (m : Option ℕ) (H : Heads) (empty all : List Named) (xs : List ClassHead) (len : ℕ) → xs ≡ H.classes → empty ≡ replicate len [] → all ≡ noted_all (as_packaged H) 0 xs empty
    → (p n : List ℕ) → package_number H p ≡ m → numbered_named all m n ≡ named n (types_of_package H p)
found_at None H empty all xs len ex ee ea p n ep = sym (ap (named n) (no_classes H p 0 H.classes ep))
found_at (Some k) H empty all xs len ex ee ea p n ep =
    noted_from_empty (as_packaged H) xs H.classes empty all len ex ee ea k n ∙ ap (named n) (classes_packaged H p k 0 H.classes ep)

pub packages_named : (H : Heads) (packages empty all : List Named) (xs : List ClassHead) (len : ℕ) → ((p : List ℕ) → space_named packages 0 p ≡ package_number H p) → xs ≡ H.classes
    → empty ≡ replicate len []
    → all ≡ noted_all (as_packaged H) 0 xs empty
    → (p n : List ℕ) → numbered_named all (space_named packages 0 p) n ≡ named n (types_of_package H p)
packages_named H packages empty all xs len eq ex ee ea p n =
    ap (λ m. numbered_named all m n) (eq p) ∙ found_at (package_number H p) H empty all xs len ex ee ea p n refl
