-- Methods by the classes that declare them, and the methods of a class and of the classes above it, in the order of the table.
use Rattle.std.specs.Prelude.{◌≡◌, ◌<◌, ℕ, zero, suc, ◌==◌, nat_lt, Bool, true, ◌&&◌, ◌||◌, cond, List, [], ◌∷◌, ◌++◌, length, Option, Some, None, slice_get, slice_set, is_some, nat_eq}
use Rattle.std.specs.HashMap.{get}
use Rattle.jc_types.specs.declared.ids.ClassId.{ClassId}
use Rattle.jc_types.specs.declared.ids.MethodId.{MethodId}
use Rattle.jc_types.specs.declared.table.Table.{Table}
use Rattle.jc_judge.specs.Views.{view}
use Rattle.jc_overriding.specs.Overriding.{is_viewed, owner, same_class}
use Rattle.jc_overriding.specs.Viewing.{own_type}
use Rattle.jc_members.specs.declared.supertypes.Supertypes.{Supertypes}
use Rattle.jc_method_rules.specs.declared.owned.OwnerIndex.{OwnerIndex}

-- of n numbers from i on those that pass a test
abbrev pub picked : (ℕ → Bool) → ℕ → ℕ → List ℕ
picked test i zero = []
picked test i (suc n) = cond (test i) (i ∷ []) [] ++ picked test (suc i) n

-- ---- the methods that a class declares

-- class k declares method n; a method without a class counts as one of Object, class 0
abbrev pub is_owned : Table → ℕ → ℕ → Bool
is_owned T k n = (owner T (record { 0 = n })).0 == k

-- the methods of class k, by their numbers
abbrev pub owned : Table → ℕ → List ℕ
owned T k = picked (is_owned T k) 0 (length T.methods)

-- the methods of a group; none where there is no such group
abbrev pub numbers_in : Option (List ℕ) → List ℕ
numbers_in None = []
numbers_in (Some ns) = ns

abbrev pub numbers_at : List (List ℕ) → ℕ → List ℕ
numbers_at groups k = numbers_in (slice_get groups k)

-- with a method more of class k, which has these so far; unchanged where there is no such group
abbrev pub pushed_in : ℕ → ℕ → List (List ℕ) → Option (List ℕ) → List (List ℕ)
pushed_in k n groups None = groups
pushed_in k n groups (Some ns) = slice_set groups k (ns ++ n ∷ [])

-- with a method more of class k
abbrev pub pushed_at : ℕ → ℕ → List (List ℕ) → List (List ℕ)
pushed_at k n groups = pushed_in k n groups (slice_get groups k)

-- each class of the table has a group, with its methods
pub record IsOwnerIndex (T : Table) (index : OwnerIndex) : Type 0 where
  pub groups : length index.groups ≡ length T.classes
  pub ids : (k : ℕ) → k < length index.groups → numbers_at index.groups k ≡ owned T k

-- ---- the methods of several classes

-- the methods of these classes, class by class
abbrev pub gathered : List (List ℕ) → List ℕ → List ℕ
gathered groups [] = []
gathered groups (k ∷ ks) = numbers_at groups k ++ gathered groups ks

-- each of these classes has a group
abbrev pub all_below : ℕ → List ℕ → Bool
all_below n [] = true
all_below n (k ∷ ks) = nat_lt k n && all_below n ks

-- each number is greater than the one before it
abbrev pub ascends_from : ℕ → List ℕ → Bool
ascends_from x [] = true
ascends_from x (y ∷ ys) = nat_lt x y && ascends_from y ys

-- .. from the first on
abbrev pub ascends : List ℕ → Bool
ascends [] = true
ascends (x ∷ xs) = ascends_from x xs

-- these classes are all that the supertypes name, class k among them, and each has a group
abbrev pub are_all : OwnerIndex → Supertypes → ClassId → List ℕ → Bool
are_all index above k ks = above.is_whole && is_some (get nat_eq above.views k.0) && all_below (length index.groups) ks

-- ---- the methods of a class and of those above it

-- class k declares a method, or a class above it does
abbrev pub stands_in : Table → ClassId → MethodId → Bool
stands_in T k m = same_class (owner T m) k || is_viewed (view T (owner T m) (own_type T k))

-- .. for a method's number
abbrev pub is_standing : Table → ClassId → ℕ → Bool
is_standing T k n = stands_in T k (record { 0 = n })

-- these methods by their numbers
abbrev pub standing_numbers : Table → ClassId → List ℕ
standing_numbers T k = picked (is_standing T k) 0 (length T.methods)

-- numbers as methods
abbrev pub ids_of : List ℕ → List MethodId
ids_of [] = []
ids_of (n ∷ ns) = record { 0 = n } ∷ ids_of ns

-- the methods that class k or a class above it declares, in the order of the table
abbrev pub standing : Table → ClassId → List MethodId
standing T k = ids_of (standing_numbers T k)
