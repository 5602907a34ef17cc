-- The members of a class, name by name: whether they agree (JLS 8.4.8.4, 9.4.1).
use Rattle.std.specs.Prelude.{◌≡◌, ℕ, Bool, true, false, cond, ◌&&◌, ◌||◌, List, [], ◌∷◌, ◌++◌, Option, Some, None, nat_eq}
use Rattle.std.specs.List.{list_any}
use Rattle.jc_types.specs.declared.ids.ClassId.{ClassId}
use Rattle.jc_types.specs.declared.ids.MethodId.{MethodId}
use Rattle.jc_types.specs.declared.table.Table.{Table}
use Rattle.jc_types.specs.Accessors.{method_name_of}
use Rattle.jc_judge.specs.declared.question.Answer.{Answer}
use Rattle.jc_judge.specs.declared.question.Answer.TheVariants.{Yes, No}
use Rattle.jc_judge.specs.Trees.{both, either}
use Rattle.jc_overriding.specs.declared.view.MethodView.{MethodView}
use Rattle.jc_overriding.specs.Overriding.{has_name, members, owner, same_class}
use Rattle.jc_overriding.specs.Viewing.{own_type}
use Rattle.jc_header_rules.specs.Inheriting.{agreement, disagrees, meets, stands_for_all, with_body}
use Rattle.jc_header_rules.specs.Results.{result_answer}
use Rattle.jc_members.specs.Below.{replaces}
use Rattle.jc_members.specs.Listing.{candidate_ids, remaining_ids, views_of}
use Rattle.jc_members.specs.Named.{group_at}

-- the answer where all of these hold
abbrev pub all_answers : {X : Type 0} → (X → Answer) → List X → Answer
all_answers f [] = Yes
all_answers f (x ∷ xs) = both (f x) (all_answers f xs)

-- .. where `a` is the answer of those before these
abbrev pub all_from : {X : Type 0} → (X → Answer) → Answer → List X → Answer
all_from f a [] = a
all_from f a (x ∷ xs) = all_from f (both a (f x)) xs

-- the answer where one of these holds, or what `a` answers
abbrev pub one_from : {X : Type 0} → (X → Answer) → Answer → List X → Answer
one_from f a [] = a
one_from f a (x ∷ xs) = one_from f (either a (f x)) xs

-- whether v's result may stand for w's, where they meet
unfoldable pub stands_at : Table → ClassId → MethodView → MethodView → Answer
stands_at T k v w = cond (meets T k v w) (result_answer T v w) Yes

-- whether v meets w, whose result may stand for those of all that it meets
unfoldable pub one_at : Table → ClassId → MethodView → List MethodView → MethodView → Answer
one_at T k v all w = cond (meets T k v w) (stands_for_all T k w all) No

-- the answer where something must not hold
abbrev pub no_if : Bool → Answer
no_if b = cond b No Yes

-- two members meet, and disagree
unfoldable pub meets_badly : Table → ClassId → MethodView → MethodView → Bool
meets_badly T k v w = meets T k v w && disagrees T v w

-- a member meets one that has a body
unfoldable pub meets_with_body : Table → ClassId → MethodView → MethodView → Bool
meets_with_body T k v w = meets T k v w && with_body T w

-- a member beside all of these
abbrev pub disagrees_some : Table → ClassId → List MethodView → MethodView → Bool
disagrees_some T k all v = list_any (meets_badly T k v) all

-- a member disagrees with none of these that it meets, and a result stands for all (JLS 8.4.8.4)
unfoldable pub fitting : Table → ClassId → List MethodView → MethodView → Answer
fitting T k all v = both (no_if (disagrees_some T k all v)) (agreement T k all v)

-- whether all members of the name of method m agree
unfoldable pub name_agrees : Table → ClassId → MethodId → Answer
name_agrees T k m = all_answers (fitting T k (members T (own_type T k) (method_name_of T m))) (members T (own_type T k) (method_name_of T m))

-- of these methods those of a name
abbrev pub with_name : Table → List ℕ → List MethodId → List MethodId
with_name T name [] = []
with_name T name (m ∷ ms) = cond (has_name T name m) (m ∷ []) [] ++ with_name T name ms

-- whether the members agree that these methods of one name are in a class
unfoldable pub ids_agree : Table → ClassId → List MethodId → Answer
ids_agree T k ids =
    all_answers (fitting T k (views_of T (own_type T k) (remaining_ids T (candidate_ids T (own_type T k) ids)))) (views_of T (own_type T k) (remaining_ids T (candidate_ids T (own_type T k) ids)))

-- the answer has that of each group of methods that was seen
unfoldable pub HasSeen : Table → ClassId → List (List MethodId) → Answer → (ℕ → Bool) → Type 0
HasSeen T k groups answer seen = (g : ℕ) → seen g ≡ true → both answer (ids_agree T k (group_at groups (Some g))) ≡ answer

-- a name's group was seen; a name without a group wasn't
abbrev pub is_marked : (ℕ → Bool) → Option ℕ → Bool
is_marked seen None = false
is_marked seen (Some g) = seen g

-- with a group more
abbrev pub marked_with : (ℕ → Bool) → Option ℕ → ℕ → Bool
marked_with seen None y = seen y
marked_with seen (Some g) y = cond (nat_eq g y) true (seen y)

-- ---- names whose inherited methods are all overridden or hidden

-- of these methods those that the class declares
abbrev pub own_ids : Table → ClassId → List MethodId → List MethodId
own_ids T k [] = []
own_ids T k (m ∷ ms) = cond (same_class (owner T m) k) (m ∷ []) [] ++ own_ids T k ms

-- method w of the class overrides or hides method m
unfoldable pub own_replaces : Table → ClassId → MethodId → MethodId → Bool
own_replaces T k m w = same_class (owner T w) k && replaces T w m

-- the class declares a method, or one of these methods of it overrides or hides that
unfoldable pub is_covered : Table → ClassId → List MethodId → MethodId → Bool
is_covered T k own m = same_class (owner T m) k || list_any (own_replaces T k m) own

-- each of these methods is covered
abbrev pub all_covered : Table → ClassId → List MethodId → List MethodId → Bool
all_covered T k own [] = true
all_covered T k own (m ∷ ms) = is_covered T k own m && all_covered T k own ms

-- no method is left that the class inherits
abbrev pub are_covered : Table → ClassId → List MethodId → Bool
are_covered T k ids = all_covered T k (own_ids T k ids) ids
