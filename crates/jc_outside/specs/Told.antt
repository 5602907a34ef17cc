-- What an object of the outside holds, where it tells it, and what a call does to that.
-- An object that tells nothing has None, and then nothing is said of its content.
use Rattle.std.specs.Prelude.{◌≡◌, ℕ, ◌+◌, ◌-◌, ◌^◌, ◌≤◌, min, List, [], ◌∷◌, ◌++◌, length, take, if◌then◌else◌, ⊤}
use Rattle.std.specs.Str.{bytes_eq}
use Rattle.std.specs.declared.option.Option.{Option}
use Rattle.std.specs.declared.option.Option.TheVariants.{Some, None}

-- ---- counts of faults

-- one more, but for a count that stands at its type's end
abbrev pub risen : ℕ → ℕ
risen count = min (count + 1) (2 ^ 64 - 1)

-- a count rose, or stands at its type's end
abbrev pub Rose : ℕ → ℕ → Type 0
Rose before now = risen before ≤ now

-- ---- files

-- names and bytes; of two files of one name the first counts
abbrev pub Files : Type 0
Files = List (List ℕ × List ℕ)

-- the bytes of the file of this name
abbrev pub file_at : Files → List ℕ → Option (List ℕ)
file_at [] name = None
file_at (f ∷ fs) name = if bytes_eq f.0 name then Some f.1 else file_at fs name

-- the shelf tells its files, and has none of this name
abbrev pub IsMissing : Option Files → List ℕ → Type 0
IsMissing None name = ⊥
IsMissing (Some files) name = file_at files name ≡ None

-- new is old and then, where the shelf tells its files, the bytes of the file of this name
abbrev pub Gives : Option Files → List ℕ → List ℕ → List ℕ → Type 0
Gives None name old new = ⊤
Gives (Some files) name old new = (bytes : List ℕ) × (file_at files name ≡ Some bytes) × (new ≡ old ++ bytes)

-- ---- lists that grow

-- new is old and then something
abbrev pub Extends : List ℕ → List ℕ → Type 0
Extends old new = (more : List ℕ) × (new ≡ old ++ more)

-- what is told stays
abbrev pub Stays : {A : Type 0} → Option A → Option A → Type 0
Stays None new = ⊤
Stays (Some x) new = new ≡ Some x

-- a told list gets these items at its end
abbrev pub Gets : {A : Type 0} → Option (List A) → List A → Option (List A) → Type 0
Gets None more new = ⊤
Gets (Some old) more new = new ≡ Some (old ++ more)

-- a told list gets some first part of these items at its end
abbrev pub GetsPart : {A : Type 0} → Option (List A) → List A → Option (List A) → Type 0
GetsPart None more new = ⊤
GetsPart (Some old) more new = (n : ℕ) × (n ≤ length more) × (new ≡ Some (old ++ take n more))

-- ---- lists that are taken from

-- The first byte that is left was taken, or there was none. An answer of no byte is the end: from then on
-- it is told that nothing is left, also where what was left before is not told.
abbrev pub Takes : Option (List ℕ) → Option ℕ → Option (List ℕ) → Type 0
Takes None None new = new ≡ Some []
Takes None (Some byte) new = ⊤
Takes (Some []) byte new = (byte ≡ None) × (new ≡ Some [])
Takes (Some (first ∷ rest)) byte new = (byte ≡ Some first) × (new ≡ Some rest)
