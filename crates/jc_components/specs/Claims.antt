-- When what is claimed of the vertices of a graph shows which of them lie on a cycle.
use Rattle.std.specs.Prelude.{◌≡◌, ◌⊎◌, ◌<◌, ℕ, true, false, List, Option, Some, None, slice_get}
use Rattle.jc_components.specs.declared.claims.Claim.{Claim}
use Rattle.jc_components.specs.Reach.{IsIn, row}

-- what is claimed of a vertex; where nothing is, it counts as one of part 0 that is on no cycle
abbrev pub claim_in : Option Claim → Claim
claim_in (Some c) = c
claim_in None = record { part = 0; is_cyclic = false; root = 0; next = 0; next_left = 0; before = 0; before_left = 0 }

abbrev pub claim_of : List Claim → ℕ → Claim
claim_of cs v = claim_in (slice_get cs v)

-- an edge leads to a later part, or on inside a part that has a cycle
abbrev pub LeadsOn : Claim → Claim → Type 0
LeadsOn c d = (c.part < d.part) ⊎ ((c.part ≡ d.part) × (c.is_cyclic ≡ true))

-- each edge to one of these vertices leads on
abbrev pub LeadOn : List Claim → Claim → List ℕ → Type 0
LeadOn cs c ws = (w : ℕ) → IsIn w ws → LeadsOn c (claim_of cs w)

-- a vertex on a cycle that has the same root as another one
pub record IsBeside (cs : List Claim) (v root : ℕ) : Type 0 where
  pub cyclic : (claim_of cs v).is_cyclic ≡ true
  pub root_of : (claim_of cs v).root ≡ root

-- a root has a neighbour beside it
pub record Closes (es : List (List ℕ)) (cs : List Claim) (v : ℕ) (c : Claim) : Type 0 where
  pub own : c.root ≡ v
  pub edge : IsIn c.next (row es v)
  pub beside : IsBeside cs c.next v

-- a step towards the root, and one from it
pub record Onward (es : List (List ℕ)) (cs : List Claim) (v : ℕ) (c : Claim) : Type 0 where
  pub edge : IsIn c.next (row es v)
  pub beside : IsBeside cs c.next c.root
  pub nearer : (claim_of cs c.next).next_left < c.next_left

-- an edge to v from a vertex beside the same root, from which fewer steps are left back to it
pub record Back (es : List (List ℕ)) (cs : List Claim) (v : ℕ) (c : Claim) : Type 0 where
  pub edge : IsIn v (row es c.before)
  pub beside : IsBeside cs c.before c.root
  pub nearer : (claim_of cs c.before).before_left < c.before_left

-- a vertex that lies on a cycle: it is a root that closes one, or has a step to its root and one from it
abbrev pub Turns : List (List ℕ) → List Claim → ℕ → Claim → Type 0
Turns es cs v c = Closes es cs v c ⊎ (Onward es cs v c × Back es cs v c)

-- what is claimed of vertex v holds beside its neighbours' claims
pub record Proper (es : List (List ℕ)) (cs : List Claim) (v : ℕ) : Type 0 where
  pub leads : LeadOn cs (claim_of cs v) (row es v)
  pub turns : (claim_of cs v).is_cyclic ≡ true → Turns es cs v (claim_of cs v)

-- .. of each of the first k vertices
abbrev pub AllProper : List (List ℕ) → List Claim → ℕ → Type 0
AllProper es cs k = (v : ℕ) → v < k → Proper es cs v
