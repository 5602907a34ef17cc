-- Candidates that stand before those that are still to be found.
use Rattle.std.proofs.Common.{◌≡◌, Option, Some, None, List, [], ◌∷◌, ◌++◌, append_assoc, refl, ap}
use Rattle.jc_resolve.specs.declared.applied.Candidate.{Candidate}
use Rattle.jc_resolve.specs.Applying.{before, put}

pub before_put : (cs : List Candidate) (c : Candidate) (more : Option (List Candidate)) → before (cs ++ (c ∷ [])) more ≡ before cs (put c more)
before_put cs c None = refl
before_put cs c (Some ds) = ap (λ (l : List Candidate). Some l) (append_assoc cs (c ∷ []) ds)

pub before_nothing : (more : Option (List Candidate)) → before [] more ≡ more
before_nothing None = refl
before_nothing (Some ds) = refl
