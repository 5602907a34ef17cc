-- The loop that reads a text.
use Rattle.std.proofs.Common.{◌≡◌, ◌<◌, ◌≤◌, ◌==◌, ℕ, suc, ◌-◌, ◌+◌, true, false, List, [], ◌∷◌, ◌++◌, length, Option, Some, None, Ok, Err, option_and_then, refl, sym, ap, ◌∙◌, append_assoc, arith}
use Rattle.std.proofs.lemmas.List.{append-nil}
use Rattle.std.proofs.Math.Dec.{eqb-suc-zero}
use Rattle.jc_class_out.specs.declared.format.Flaw.{Flaw}
use Rattle.jc_class_out.specs.Reading.{or_flaw}
use Rattle.jc_class_out.specs.Texts.{unit_at, units_on}

-- the units so far, and those from here on
abbrev pub units_front : List ℕ → Option (List ℕ) → Option (List ℕ)
units_front front None = None
units_front front (Some us) = Some (front ++ us)

regroup : (front : List ℕ) (u : ℕ) (o : Option (List ℕ)) → units_front front (option_and_then (λ (us : List ℕ). Some (u ∷ us)) o) ≡ units_front (front ++ u ∷ []) o
regroup front u None = refl
regroup front u (Some us) = ap Some (simp append_assoc)

step : (n : ℕ) (rest : List ℕ) (u : ℕ) (behind : List ℕ) → unit_at rest ≡ Some (u, behind) → units_on (suc n) rest ≡ option_and_then (λ (us : List ℕ). Some (u ∷ us)) (units_on n behind)
unfolding units_on
step n [] u behind h = cc
step n (b ∷ bytes) u behind h = rw h refl

bad : (n : ℕ) (rest : List ℕ) → unit_at rest ≡ None → (length rest == 0) ≡ false → units_on (suc n) rest ≡ None
unfolding units_on
bad n [] h some = cc
bad n (b ∷ bytes) h some = rw h refl

over : (n : ℕ) (rest : List ℕ) → (length rest == 0) ≡ true → units_on n rest ≡ Some []
unfolding units_on
over n [] none = refl
over n (b ∷ bytes) none = cc (eqb-suc-zero (length bytes))

out : (rest : List ℕ) → (length rest == 0) ≡ false → units_on 0 rest ≡ None
unfolding units_on
out [] some = cc
out (b ∷ bytes) some = refl

pub units_more : (front new : List ℕ) (count i u : ℕ) (rest behind : List ℕ) (total : Option (List ℕ)) → new ≡ front ++ u ∷ [] → i < count → unit_at rest ≡ Some (u, behind)
    → units_front front (units_on (count - i) rest) ≡ total → units_front new (units_on (count - (i + 1)) behind) ≡ total
units_more front new count i u rest behind total e lt h so_far =
    let k : count - i ≡ suc (count - (i + 1)) = omega arith in
    let one : units_front front (units_on (count - i) rest) ≡ units_front (front ++ u ∷ []) (units_on (count - (i + 1)) behind) = rw k (ap (units_front front) (step (count - (i + 1)) rest u behind h) ∙ regroup front u (units_on (count - (i + 1)) behind)) in
    rw e (sym one ∙ so_far)

pub units_bad : (front : List ℕ) (count i : ℕ) (rest : List ℕ) (total : Option (List ℕ)) (e : Flaw) → i < count → unit_at rest ≡ None → (length rest == 0) ≡ false
    → units_front front (units_on (count - i) rest) ≡ total → or_flaw total e ≡ Err e
units_bad front count i rest total e lt h some so_far =
    let k : count - i ≡ suc (count - (i + 1)) = omega arith in
    let one : units_front front (units_on (count - i) rest) ≡ None = rw k (ap (units_front front) (bad (count - (i + 1)) rest h some)) in
    ap (λ (o : Option (List ℕ)). or_flaw o e) (sym so_far ∙ one)

pub units_over : (front : List ℕ) (n : ℕ) (rest : List ℕ) (total : Option (List ℕ)) (e : Flaw) → (length rest == 0) ≡ true
    → units_front front (units_on n rest) ≡ total → or_flaw total e ≡ Ok front
units_over front n rest total e none so_far =
    let one : units_front front (units_on n rest) ≡ Some front = ap (units_front front) (over n rest none) ∙ ap Some (append-nil front) in
    ap (λ (o : Option (List ℕ)). or_flaw o e) (sym so_far ∙ one)

pub units_out : (front : List ℕ) (count i : ℕ) (rest : List ℕ) (total : Option (List ℕ)) (e : Flaw) → count ≤ i → (length rest == 0) ≡ false
    → units_front front (units_on (count - i) rest) ≡ total → or_flaw total e ≡ Err e
units_out front count i rest total e le some so_far =
    let k : count - i ≡ 0 = omega arith in
    let one : units_front front (units_on (count - i) rest) ≡ None = rw k (ap (units_front front) (out rest some)) in
    ap (λ (o : Option (List ℕ)). or_flaw o e) (sym so_far ∙ one)
