-- The direct supertypes of classes, by number, and which classes stand below which by these.
use Rattle.std.specs.Prelude.{ℕ, zero, suc, ◌==◌, Bool, false, ◌||◌, List, [], ◌++◌, map, slice_get, option_and_then}
use Rattle.std.specs.List.{list_any, filter_map}
use Rattle.std.specs.declared.option.Option.{Option}
use Rattle.std.specs.declared.option.Option.TheVariants.{Some, None}
use Rattle.jc_class_out.specs.declared.model.ClassModel.{ClassModel}
use Rattle.jc_jvm.specs.Classes.{class_named, listed}

-- the superclass and the interfaces of a class, where the classes have them
abbrev pub supers_in : List ClassModel → ClassModel → List ℕ
supers_in classes c = listed (option_and_then (class_named classes) c.superclass) ++ filter_map (class_named classes) c.interfaces

-- those of each class, in the order of the classes
unfoldable pub all_supers : List ClassModel → List (List ℕ)
all_supers classes = map (supers_in classes) classes

-- the superclass of a class, where the classes have it
abbrev pub parent_in : List ClassModel → ClassModel → Option ℕ
parent_in classes c = option_and_then (class_named classes) c.superclass

-- that of each class, in the order of the classes
unfoldable pub all_parents : List ClassModel → List (Option ℕ)
all_parents classes = map (parent_in classes) classes

-- the direct supertypes in the row of a class; a number that is no class has none
abbrev pub supers_at : List (List ℕ) → ℕ → List ℕ
supers_at supers k = elim (slice_get supers k) [ Some row ↦ row | None ↦ [] ]

-- a class is another one or has it above itself, over at most so many steps
unfoldable pub below_by : List (List ℕ) → ℕ → ℕ → ℕ → Bool
below_by supers zero wanted k = false
below_by supers (suc n) wanted k = (k == wanted) || list_any (below_by supers n wanted) (supers_at supers k)
