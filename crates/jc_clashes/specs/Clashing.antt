-- The clashes in a class among methods of one name, by their ids (JLS 8.4.8.3).
use Rattle.std.specs.Prelude.{ℕ, ◌==◌, Bool, false, not, ◌&&◌, ◌||◌, cond, if◌then◌else◌, List, [], ◌∷◌, ◌++◌, Option, Some, None}
use Rattle.std.specs.List.{list_any}
use Rattle.jc_rules.specs.declared.rule.Place.{Place}
use Rattle.jc_rules.specs.declared.rule.Refusal.{Refusal}
use Rattle.jc_types.specs.declared.declarations.ClassDecl.{ClassDecl}
use Rattle.jc_types.specs.declared.ids.ClassId.{ClassId}
use Rattle.jc_types.specs.declared.ids.MethodId.{MethodId}
use Rattle.jc_types.specs.declared.table.Table.{Table}
use Rattle.jc_overriding.specs.declared.view.MethodView.{MethodView}
use Rattle.jc_overriding.specs.Overriding.{is_inheritable, is_method, owner, same_class}
use Rattle.jc_overriding.specs.Signatures.{subsignature}
use Rattle.jc_overriding.specs.Viewing.{class_view, own_type}
use Rattle.jc_header_rules.specs.Clashes.{clash_place_or, place_of_some}
use Rattle.jc_header_rules.specs.Inheriting.{with_body}
use Rattle.jc_header_rules.specs.Places.{broken_if}
use Rattle.jc_members.specs.Listing.{has_method}
use Rattle.jc_clashes.specs.declared.shapes.Shape.{Shape}
use Rattle.jc_clashes.specs.Erasures.{share_some}
use Rattle.jc_clashes.specs.Marks.{behind_first, first_mark}

-- class k declares method m, or may inherit it
abbrev pub belongs : Table → ClassId → MethodId → Bool
belongs T k m = is_method T m && (same_class k (owner T m) || is_inheritable T k m) && has_method T (own_type T k) m

-- one that the class has overrides or hides this method
abbrev pub is_replaced : Table → ClassId → Shape → Bool
is_replaced T k s = list_any (belongs T k) s.above

-- the method is a member of the class
abbrev pub is_member : Table → ClassId → Shape → Bool
is_member T k s = belongs T k s.id && not (is_replaced T k s)

-- of two inherited members b, whose shape is u, stands in a's place
abbrev pub settles : Table → ClassId → Shape → MethodView → MethodView → Bool
settles T k u a b = not (same_class (owner T a.id) k) && not (is_replaced T k u) && subsignature T b a && (not (with_body T a) || with_body T b)

-- as the class has both, a's signature is no subsignature of b's, and b doesn't stand in a's place
abbrev pub views_clash : Table → ClassId → Shape → Option MethodView → Option MethodView → Bool
views_clash T k u (Some a) (Some b) = not (subsignature T a b) && not (settles T k u a b)
views_clash T k u _ _ = false

-- a member of the class, and another method that it has
unfoldable pub clash_at : Table → ClassId → Shape → Shape → Bool
clash_at T k s u =
    not (s.id.0 == u.id.0) && share_some s.erasures u.erasures && belongs T k u.id && views_clash T k u (class_view T k s.id) (class_view T k u.id)

-- the first of these methods that class k declares
abbrev pub own_among : Table → ClassId → List MethodId → Option MethodId
own_among T k [] = None
own_among T k (m ∷ ms) = if same_class (owner T m) k then Some m else own_among T k ms

-- where a clash of member m with the method of a shape is told: where k declares neither, at the first method of k that overrides or hides the other
abbrev pub shape_place : Table → ClassId → Place → MethodId → Shape → Place
shape_place T k place m u = clash_place_or T k place m u.id (place_of_some T place (own_among T k u.above))

-- a member beside another method
abbrev pub pair_broken : Table → ClassId → Place → Shape → Shape → List Refusal
pair_broken T k place s u = broken_if (clash_at T k s u) 801 (shape_place T k place s.id u)

-- .. and beside each of these that isn't marked
abbrev pub beside_broken : Table → ClassId → Place → Shape → List Bool → List Shape → List Refusal
beside_broken T k place s marks [] = []
beside_broken T k place s marks (u ∷ us) = cond (first_mark marks) [] (pair_broken T k place s u) ++ beside_broken T k place s (behind_first marks) us

-- what a method overrides or hides doesn't clash with it in its own class
abbrev pub passed_over : Table → ClassId → Shape → List Bool
passed_over T k s = cond (same_class (owner T s.id) k) s.below []

-- the clashes of a method with each of `all`, if it is a member of the class
abbrev pub member_broken : Table → ClassId → Place → List Shape → Shape → List Refusal
member_broken T k place all s = cond (is_member T k s) (beside_broken T k place s (passed_over T k s) all) []

-- .. of each of these methods
abbrev pub group_broken : Table → ClassId → Place → List Shape → List Shape → List Refusal
group_broken T k place all [] = []
group_broken T k place all (s ∷ ss) = member_broken T k place all s ++ group_broken T k place all ss

-- .. of each group, which are the methods of one name
abbrev pub groups_broken : Table → ClassId → Place → List (List Shape) → List Refusal
groups_broken T k place [] = []
groups_broken T k place (g ∷ gs) = group_broken T k place g g ++ groups_broken T k place gs

-- .. in class i
abbrev pub class_clashes : Table → List (List Shape) → ℕ → ClassDecl → List Refusal
class_clashes T gs i c = groups_broken T (record { 0 = i }) c.place gs
