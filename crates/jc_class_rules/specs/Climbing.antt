-- The supertypes of a class, met level by level, of each class one.
use Rattle.std.specs.Prelude.{◌≡◌, ℕ, zero, suc, Bool, false, not, ◌||◌, cond, nat_eq, List, [], ◌∷◌, ◌++◌, Option, Some, None, if◌then◌else◌}
use Rattle.jc_types.specs.declared.form.Ty.{Ty}
use Rattle.jc_types.specs.declared.ids.ClassId.{ClassId}
use Rattle.jc_types.specs.declared.table.Table.{Table}
use Rattle.jc_types.specs.Sameness.{same}
use Rattle.jc_judge.specs.Kinds.{class_of}
use Rattle.jc_judge.specs.Views.{supers}
use Rattle.jc_header_rules.specs.Inheriting.{is_of_class}

-- the first of these that is of the class of s
abbrev pub met_as : List Ty → Ty → Option Ty
met_as [] s = None
met_as (v ∷ vs) s = if is_of_class (class_of s) v then Some v else met_as vs s

-- a list of s, where none was met; else the empty list
abbrev pub new_beside : Option Ty → Ty → List Ty
new_beside None s = s ∷ []
new_beside (Some v) s = []

-- s, where none of its class was met
abbrev pub if_new : List Ty → Ty → List Ty
if_new met s = new_beside (met_as met s) s

-- a type was met, and isn't the same as s
abbrev pub differs : Option Ty → Ty → Bool
differs None s = false
differs (Some v) s = not (same s v)

-- another type of the class of s was met
abbrev pub is_other : List Ty → Ty → Bool
is_other met s = differs (met_as met s) s

-- of these types those that are met first of their classes
abbrev pub all_new : List Ty → List Ty → List Ty
all_new met [] = []
all_new met (s ∷ ss) = if_new met s ++ all_new (met ++ if_new met s) ss

-- one of these is of a class of which another type was met, among these too
abbrev pub some_other : List Ty → List Ty → Bool
some_other met [] = false
some_other met (s ∷ ss) = is_other met s || some_other (met ++ if_new met s) ss

-- the direct supertypes of these
abbrev pub all_supers : Table → List Ty → List Ty
all_supers T [] = []
all_supers T (t ∷ ts) = supers T t ++ all_supers T ts

-- in at most n steps upwards from the types of a level two different types of one class are met
unfoldable pub meets_other : Table → ℕ → List Ty → List Ty → Bool
meets_other T zero met level = false
meets_other T (suc n) met level =
    some_other met (all_supers T level) || meets_other T n (met ++ all_new met (all_supers T level)) (all_new met (all_supers T level))

-- the first of these types of each class, by the class
abbrev pub AreFirsts : (ℕ → Option Ty) → List Ty → Type 0
AreFirsts firsts met = (s : Ty) (k : ClassId) → class_of s ≡ Some k → firsts k.0 ≡ met_as met s

-- with type s, where it is of a class
abbrev pub first_with : (ℕ → Option Ty) → Option ClassId → Ty → ℕ → Option Ty
first_with firsts None s l = firsts l
first_with firsts (Some k) s l = cond (nat_eq k.0 l) (Some s) (firsts l)
