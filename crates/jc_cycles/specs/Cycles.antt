-- Classes that depend on themselves, as they are listed.
use Rattle.std.specs.Prelude.{◌≡◌, ℕ, zero, suc, Bool, true, cond, nat_lt, List, [], ◌∷◌, ◌++◌, Option, Some, None, slice_get}
use Rattle.jc_declares.specs.declared.heads.ClassHead.{ClassHead}
use Rattle.jc_declares.specs.declared.heads.Heads.{Heads}
use Rattle.jc_declares.specs.Heads.{Named}
use Rattle.jc_declares.specs.Looking.{Knowledge}
use Rattle.jc_declares.specs.Knowing.{Needs, needs}
use Rattle.jc_components.specs.Marks.{is_marked}

-- those below n
abbrev pub places : ℕ → List ℕ → List ℕ
places n [] = []
places n (c ∷ cs) = cond (nat_lt c n) (c ∷ []) [] ++ places n cs

-- a class that is known needs none that isn't
abbrev pub places_unless : Option Named → ℕ → List ℕ → List ℕ
places_unless (Some es) n cs = []
places_unless None n cs = places n cs

-- what those of the first k classes need that aren't known, as numbers below n
abbrev pub rows_below : Heads → Knowledge → ℕ → ℕ → List (List ℕ)
rows_below H K n zero = []
rows_below H K n (suc c) = rows_below H K n c ++ places_unless (K c) n (needs H K c) ∷ []

-- those of the classes are marked that depend on themselves
pub record AreCyclic (H : Heads) (marks : List Bool) : Type 0 where
  pub cyclic : (c : ℕ) → is_marked marks c ≡ true → Needs H c c
  pub marked : (c : ℕ) (s : ClassHead) → slice_get H.classes c ≡ Some s → Needs H c c → is_marked marks c ≡ true
