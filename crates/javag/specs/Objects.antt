-- What objects of the outside tell before a call and after it, and the texts of sources.
use Rattle.std.specs.Prelude.{◌≡◌, ◌⊎◌, ℕ, ◌+◌, List, [], ◌∷◌, take, ⊤, slice_get}
use Rattle.std.specs.declared.option.Option.{Option}
use Rattle.std.specs.declared.option.Option.TheVariants.{Some, None}
use Rattle.jc_outside.specs.Told.{Files, file_at, Rose, IsMissing, Stays, Gets, GetsPart}

-- what an object of the outside tells, and its count of faults, before a call and after it
pub record Object (A : Type 0) : Type 0 where
  pub before : Option (List A)
  pub after : Option (List A)
  pub faults_before : ℕ
  pub faults_after : ℕ

-- nothing was put
abbrev pub Unchanged : {A : Type 0} → Object A → Type 0
Unchanged object = Stays object.before object.after

-- all of this was put
abbrev pub Puts : {A : Type 0} → Object A → List A → Type 0
Puts object more = Gets object.before more object.after

-- some first part of this was put
abbrev pub PutsPart : {A : Type 0} → Object A → List A → Type 0
PutsPart object more = GetsPart object.before more object.after

-- a call failed: the count of faults rose, or stands at its type's end
abbrev pub Failed : {A : Type 0} → Object A → Type 0
Failed object = Rose object.faults_before object.faults_after

-- the last line was put, or the stream of errors failed at it, which changes no outcome
abbrev pub Closes : Object ℕ → List ℕ → Type 0
Closes err text = Puts err text ⊎ (Failed err × PutsPart err text)

-- ---- sources

-- the file has these bytes, where files are told
abbrev pub HasBytes : Option Files → List ℕ → List ℕ → Type 0
HasBytes None name bytes = ⊤
HasBytes (Some files) name bytes = file_at files name ≡ Some bytes

-- the files of these names have these texts
abbrev pub HaveTexts : Option Files → List (List ℕ) → List (List ℕ) → Type 0
HaveTexts files [] [] = ⊤
HaveTexts files (name ∷ names) (text ∷ texts) = HasBytes files name text × HaveTexts files names texts
HaveTexts files [] (text ∷ texts) = ⊥
HaveTexts files (name ∷ names) [] = ⊥

-- the sources before the one of this number were read, and it can't be
pub record IsUnread (files : Option Files) (names : List (List ℕ)) (before after number : ℕ) : Type 0 where
  pub index : ℕ
  pub counted : number ≡ index + 1
  pub texts : List (List ℕ)
  pub earlier : HaveTexts files (take index names) texts
  pub name : List ℕ
  pub named : slice_get names index ≡ Some name
  pub cause : Rose before after ⊎ IsMissing files name
