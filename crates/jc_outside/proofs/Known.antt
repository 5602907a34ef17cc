-- What is told of a list that grows in pieces.
use Rattle.std.proofs.Common.{ℕ, ◌+◌, List, ◌++◌, Option, Some, None, take, drop, append_assoc, ap, ◌∙◌, sym, subst}
use Rattle.std.proofs.Math.Seq.{take-add}
use Rattle.jc_outside.specs.Told.{Gets}

-- the first n of the bytes, and then k more of them, are the first n + k
pub Gets-more : (before now after : Option (List ℕ)) (bytes : List ℕ) (n k : ℕ) → Gets before (take n bytes) now → Gets now (take k (drop n bytes)) after → Gets before (take (n + k) bytes) after
Gets-more None now after bytes n k first more = tt
Gets-more (Some old) now after bytes n k first more =
    subst (λ (told : Option (List ℕ)). Gets told (take k (drop n bytes)) after) first more
    ∙ ap (λ (l : List ℕ). Some l) (append_assoc old (take n bytes) (take k (drop n bytes)))
    ∙ ap (λ (l : List ℕ). Some (old ++ l)) (sym (take-add n k bytes))
