-- Methods of a type, by their ids.
use Rattle.std.specs.Prelude.{Bool, false, ◌&&◌, ◌||◌, cond, List, [], ◌∷◌, ◌++◌}
use Rattle.std.specs.Option.{option_to_list}
use Rattle.jc_types.specs.declared.form.Ty.{Ty}
use Rattle.jc_types.specs.declared.ids.MethodId.{MethodId}
use Rattle.jc_types.specs.declared.table.Table.{Table}
use Rattle.jc_types.specs.Accessors.{method_owner_of}
use Rattle.jc_overriding.specs.declared.view.MethodView.{MethodView}
use Rattle.jc_overriding.specs.Overriding.{is_candidate, is_viewed}
use Rattle.jc_overriding.specs.Viewing.{view_of_method, view_of_owner}
use Rattle.jc_members.specs.Below.{replaces}

-- a type has a view as the class of a method
abbrev pub has_method : Table → Ty → MethodId → Bool
has_method T t m = is_viewed (view_of_owner T t (method_owner_of T m))

-- a list of the method, where the type declares or may inherit it and its class is above the type; else the empty list
abbrev pub if_candidate : Table → Ty → MethodId → List MethodId
if_candidate T t m = cond (is_candidate T t m && has_method T t m) (m ∷ []) []

-- of these methods those that a type declares or may inherit
abbrev pub candidate_ids : Table → Ty → List MethodId → List MethodId
candidate_ids T t [] = []
candidate_ids T t (m ∷ ms) = if_candidate T t m ++ candidate_ids T t ms

-- one of these overrides or hides method m
abbrev pub replaced_by : Table → MethodId → List MethodId → Bool
replaced_by T m [] = false
replaced_by T m (w ∷ ws) = replaces T w m || replaced_by T m ws

-- of these those that none of `all` overrides or hides
abbrev pub remaining_in : Table → List MethodId → List MethodId → List MethodId
remaining_in T all [] = []
remaining_in T all (m ∷ ms) = cond (replaced_by T m all) [] (m ∷ []) ++ remaining_in T all ms

-- without those that another one of them overrides or hides
abbrev pub remaining_ids : Table → List MethodId → List MethodId
remaining_ids T all = remaining_in T all all

-- these methods as a type has them
abbrev pub views_of : Table → Ty → List MethodId → List MethodView
views_of T t [] = []
views_of T t (m ∷ ms) = option_to_list (view_of_method T t m) ++ views_of T t ms

-- ---- marks

-- marked, or overridden or hidden by method w
abbrev pub marked_by : Table → MethodId → List MethodId → List Bool → List Bool
marked_by T w [] fs = []
marked_by T w (m ∷ ms) [] = []
marked_by T w (m ∷ ms) (f ∷ fs) = (f || replaces T w m) ∷ marked_by T w ms fs

-- .. by one of these methods
abbrev pub marked_by_all : Table → List MethodId → List MethodId → List Bool → List Bool
marked_by_all T [] ms fs = fs
marked_by_all T (w ∷ ws) ms fs = marked_by_all T ws ms (marked_by T w ms fs)

-- those that aren't marked
abbrev pub kept_by : List MethodId → List Bool → List MethodId
kept_by [] fs = []
kept_by (m ∷ ms) [] = []
kept_by (m ∷ ms) (f ∷ fs) = cond f [] (m ∷ []) ++ kept_by ms fs

-- as many marks as there are methods, none of them set
abbrev pub unmarked : List MethodId → List Bool
unmarked [] = []
unmarked (m ∷ ms) = false ∷ unmarked ms
