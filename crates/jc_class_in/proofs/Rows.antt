-- Loops that read one part after the other.
use Rattle.std.proofs.Common.{◌≡◌, ◌<◌, ◌≤◌, ℕ, suc, ◌-◌, ◌+◌, List, [], ◌∷◌, ◌++◌, Result, Ok, Err, refl, sym, ap, ◌∙◌, append_assoc, arith}
use Rattle.std.proofs.lemmas.List.{append-nil}
use Rattle.jc_rules.specs.declared.stop.Stop.{Stop}
use Rattle.jc_rules.specs.declared.stop.Stop.TheVariants.{Refused, WantOfMemory}
use Rattle.jc_class_out.specs.declared.format.Flaw.{Flaw}
use Rattle.jc_class_out.specs.Reading.{◌>>=◌, many}
use Rattle.jc_class_in.specs.Gives.{Fails}

-- what was read so far, and what is read from here on
abbrev pub with_front : {A : Type 0} → List A → Result (List A × List ℕ) Flaw → Result (List A × List ℕ) Flaw
with_front front read = read >>= λ x. Ok (front ++ x.0, x.1)

pub regroup : {A : Type 0} (front : List A) (n : A) (read : Result (List A × List ℕ) Flaw) → with_front front (read >>= λ x. Ok (n ∷ x.0, x.1)) ≡ with_front (front ++ n ∷ []) read
regroup front n (Ok x) = ap (λ (ns : List _). Ok (ns, x.1)) (simp append_assoc)
regroup front n (Err f) = refl

-- a reader that stops, where the loop's rest is that reader and more
pub stops : {A B : Type 0} (e : Stop Flaw) (first : Result A Flaw) (rest total : Result B Flaw) → Fails e first → ((flaw : Flaw) → first ≡ Err flaw → rest ≡ Err flaw) → rest ≡ total → Fails e total
stops WantOfMemory first rest total h g so_far = tt
stops (Refused flaw) first rest total h g so_far = sym so_far ∙ g flaw h

pub many_more : {A : Type 0} (f : List ℕ → Result (A × List ℕ) Flaw) (front new : List A) (count i : ℕ) (bytes : List ℕ) (n : A) (after : List ℕ) (total : Result (List A × List ℕ) Flaw) → new ≡ front ++ n ∷ [] → i < count → f bytes ≡ Ok (n, after)
    → with_front front (many f (count - i) bytes) ≡ total → with_front new (many f (count - (i + 1)) after) ≡ total
unfolding many
many_more f front new count i bytes n after total e lt h so_far =
    let k : count - i ≡ suc (count - (i + 1)) = omega arith in
    let one : with_front front (many f (count - i) bytes) ≡ with_front (front ++ n ∷ []) (many f (count - (i + 1)) after) = rw (k, h) (regroup front n (many f (count - (i + 1)) after)) in
    rw e (sym one ∙ so_far)

pub many_stops : {A : Type 0} (f : List ℕ → Result (A × List ℕ) Flaw) (e : Stop Flaw) (front : List A) (count i : ℕ) (bytes : List ℕ) (total : Result (List A × List ℕ) Flaw) → i < count → Fails e (f bytes)
    → with_front front (many f (count - i) bytes) ≡ total → Fails e total
unfolding many
many_stops f e front count i bytes total lt h so_far =
    let k : count - i ≡ suc (count - (i + 1)) = omega arith in
    stops e (f bytes) (with_front front (many f (count - i) bytes)) total h (λ flaw is. rw (k, is) refl) so_far

pub many_done : {A : Type 0} (f : List ℕ → Result (A × List ℕ) Flaw) (front : List A) (count i : ℕ) (bytes : List ℕ) (total : Result (List A × List ℕ) Flaw) → count ≤ i → with_front front (many f (count - i) bytes) ≡ total → total ≡ Ok (front, bytes)
unfolding many
many_done f front count i bytes total le so_far =
    let k : count - i ≡ 0 = omega arith in
    let one : with_front front (many f (count - i) bytes) ≡ Ok (front, bytes) = rw k (ap (λ (ns : List _). Ok (ns, bytes)) (append-nil front)) in
    sym so_far ∙ one
