-- What is known of a walk over the direct supertypes of classes, and of what it finds.
use Rattle.std.specs.Prelude.{◌≡◌, ◌⊎◌, ◌<◌, ◌+◌, ◌==◌, ℕ, Bool, true, false, List, [], ◌∷◌, ◌++◌, length, slice_get, slice_set}
use Rattle.std.specs.List.{list_any}
use Rattle.std.specs.declared.option.Option.{Option}
use Rattle.std.specs.declared.option.Option.TheVariants.{Some, None}
use Rattle.jc_heap.specs.Supers.{below_by, supers_at}

-- x is one of these numbers
abbrev pub IsIn : ℕ → List ℕ → Type 0
IsIn x [] = ⊥
IsIn x (y ∷ ys) = (x ≡ y) ⊎ IsIn x ys

-- each direct supertype is the number of a class
abbrev pub IsClosed : List (List ℕ) → Type 0
IsClosed es = (a b : ℕ) → IsIn b (supers_at es a) → b < length es

-- all that stands above a class, itself among them
abbrev pub AreAbove : List (List ℕ) → ℕ → List ℕ → Type 0
AreAbove es a found = (w : ℕ) → list_any (λ (y : ℕ). y == w) found ≡ below_by es (length es) w a

-- each class has a row, and in it all that stands above that class
pub record AllAbove (es above : List (List ℕ)) : Type 0 where
  pub count : length above ≡ length es
  pub each : (a : ℕ) (row : List ℕ) → slice_get above a ≡ Some row → AreAbove es a row

-- the mark of x is there and set
abbrev pub IsMarked : List Bool → ℕ → Type 0
IsMarked marks x = slice_get marks x ≡ Some true

-- so many marks, none of which is set
pub record IsBlank (marks : List Bool) (count : ℕ) : Type 0 where
  pub size : length marks ≡ count
  pub none : (x : ℕ) → IsMarked marks x → ⊥

-- how many marks aren't set
abbrev pub opens : List Bool → ℕ
opens [] = 0
opens (true ∷ ms) = opens ms
opens (false ∷ ms) = opens ms + 1

-- what was marked was found, once, and each is as near as its place in the list tells
pub record Walk (es : List (List ℕ)) (a : ℕ) (marks : List Bool) (found : List ℕ) : Type 0 where
  pub size : length marks ≡ length es
  pub count : opens marks + length found ≡ length es
  pub near : (j y : ℕ) → slice_get found j ≡ Some y → below_by es (j + 1) y a ≡ true
  pub lists : (x : ℕ) → IsMarked marks x → IsIn x found
  pub marked : (x : ℕ) → IsIn x found → IsMarked marks x

-- no mark was taken back, and what was found stays, with more behind it
pub record Grown (marks new : List Bool) (found more : List ℕ) : Type 0 where
  pub kept : (x : ℕ) → IsMarked marks x → IsMarked new x
  pub tail : List ℕ
  pub is_tail : more ≡ found ++ tail

-- the same, and all of xs is marked now
pub record Added (marks new : List Bool) (found more xs : List ℕ) : Type 0 where
  pub grown : Grown marks new found more
  pub all : (x : ℕ) → IsIn x xs → IsMarked new x

-- x is marked, and listed if it wasn't
abbrev pub put_by : List Bool → List Bool → List ℕ → List ℕ → ℕ → Option Bool → Type 0
put_by marks new found more x (Some true) = (new ≡ marks) × (more ≡ found)
put_by marks new found more x (Some false) = (new ≡ slice_set marks x true) × (more ≡ found ++ x ∷ [])
put_by marks new found more x None = ⊥

-- the same by the mark of x before; there has to be one
abbrev pub Put : List Bool → List Bool → List ℕ → List ℕ → ℕ → Type 0
Put marks new found more x = put_by marks new found more x (slice_get marks x)

-- where the walk over xs stands
pub record Filled (xs rest : List ℕ) (marks new : List Bool) (found more : List ℕ) : Type 0 where
  pub size : length new ≡ length marks
  pub grown : Grown marks new found more
  pub all : (x : ℕ) → IsIn x xs → IsIn x rest ⊎ IsMarked new x
  pub within : (x : ℕ) → IsIn x rest → IsIn x xs
  pub walk : (es : List (List ℕ)) (a : ℕ) → ((x : ℕ) → IsIn x xs → below_by es (length found + 1) x a ≡ true) → Walk es a marks found → Walk es a new more

-- where the search stands
pub record Searching (es : List (List ℕ)) (a : ℕ) (marks : List Bool) (found : List ℕ) (at : ℕ) : Type 0 where
  pub walk : Walk es a marks found
  pub self : IsMarked marks a
  pub done : (j y x : ℕ) → j < at → slice_get found j ≡ Some y → IsIn x (supers_at es y) → IsMarked marks x
  pub within : at < length found + 1

-- where marks are taken back
pub record Cleared (found rest : List ℕ) (marks new : List Bool) : Type 0 where
  pub size : length new ≡ length marks
  pub left : (x : ℕ) → IsMarked new x → IsIn x rest
  pub within : (x : ℕ) → IsIn x rest → IsIn x found

-- where the classes so far have what stands above them
pub record SoFar (es above : List (List ℕ)) (marks : List Bool) (classes : ℕ) : Type 0 where
  pub blank : IsBlank marks (length es)
  pub count : length above ≡ classes
  pub each : (a : ℕ) (row : List ℕ) → slice_get above a ≡ Some row → AreAbove es a row
