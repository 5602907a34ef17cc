-- The member types that each class declares, as lists.
use Rattle.std.specs.Prelude.{◌≡◌, ℕ, suc, List, [], ◌∷◌, ◌++◌, Option, Some, None, slice_get, slice_set}
use Rattle.jc_declares.specs.declared.heads.ClassHead.{ClassHead}
use Rattle.jc_declares.specs.declared.heads.Heads.{Heads}
use Rattle.jc_declares.specs.Heads.{Named, declared_of}
use Rattle.jc_name_index.specs.Spaces.{padded}
use Rattle.jc_name_index.specs.Index.{as_member}

-- list c; empty where there is no such list
abbrev pub list_in : Option Named → Named
list_in None = []
list_in (Some es) = es

abbrev pub list_at : List Named → ℕ → Named
list_at lists c = list_in (slice_get lists c)

-- with e at the end of list c, where there is that list; otherwise as before
abbrev pub appended_in : ℕ → List ℕ × ℕ → List Named → Option Named → List Named
appended_in c e lists None = lists
appended_in c e lists (Some es) = slice_set lists c (es ++ e ∷ [])

-- with one more at the end of list c
abbrev pub appended : ℕ → List ℕ × ℕ → List Named → List Named
appended c e lists = appended_in c e (padded c lists) (slice_get (padded c lists) c)

-- class i under its name in the list of its outer class; a type of a unit is in none
abbrev pub appended_as : Option (ℕ × List ℕ) → ℕ → List Named → List Named
appended_as None i lists = lists
appended_as (Some m) i lists = appended m.0 (m.1, i) lists

-- each of these classes, counted from i, in the list of its outer class
abbrev pub appended_all : ℕ → List ClassHead → List Named → List Named
appended_all i [] lists = lists
appended_all i (c ∷ cs) lists = appended_all (suc i) cs (appended_as (as_member c) i lists)

-- list c has the member types that class c declares, for each class
abbrev pub AreMembers : Heads → List Named → Type 0
AreMembers H lists = (c : ℕ) → list_at lists c ≡ declared_of H c
