-- The loop that reads the places of a pool.
use Rattle.std.proofs.Common.{◌≡◌, ◌<◌, ◌≤◌, ℕ, suc, ◌-◌, ◌+◌, List, [], ◌∷◌, ◌++◌, Option, Some, None, Result, Ok, Err, refl, sym, ap, ◌∙◌, arith}
use Rattle.std.proofs.lemmas.List.{append-nil}
use Rattle.jc_rules.specs.declared.stop.Stop.{Stop}
use Rattle.jc_class_out.specs.declared.format.Flaw.{Flaw}
use Rattle.jc_class_out.specs.declared.format.Flaw.TheVariants.{Index}
use Rattle.jc_class_out.specs.declared.format.Slot.{Slot}
use Rattle.jc_class_out.specs.Pool.{slot_at, slots_at}
use Rattle.jc_class_in.specs.Gives.{Fails}
use Rattle.jc_class_in.proofs.Rows.{with_front, regroup, stops}

pub slots_more : (front new : List Slot) (count i : ℕ) (p : Option ℕ) (bytes : List ℕ) (n : Slot) (q : Option ℕ) (after : List ℕ) (total : Result (List Slot × List ℕ) Flaw) → new ≡ front ++ n ∷ [] → i < count → slot_at p bytes ≡ Ok (n, q, after)
    → with_front front (slots_at (count - i) p bytes) ≡ total → with_front new (slots_at (count - (i + 1)) q after) ≡ total
unfolding slots_at
slots_more front new count i p bytes n q after total e lt h so_far =
    let k : count - i ≡ suc (count - (i + 1)) = omega arith in
    let one : with_front front (slots_at (count - i) p bytes) ≡ with_front (front ++ n ∷ []) (slots_at (count - (i + 1)) q after) = rw (k, h) (regroup front n (slots_at (count - (i + 1)) q after)) in
    rw e (sym one ∙ so_far)

pub slots_stop : (e : Stop Flaw) (front : List Slot) (count i : ℕ) (p : Option ℕ) (bytes : List ℕ) (total : Result (List Slot × List ℕ) Flaw) → i < count → Fails e (slot_at p bytes)
    → with_front front (slots_at (count - i) p bytes) ≡ total → Fails e total
unfolding slots_at
slots_stop e front count i p bytes total lt h so_far =
    let k : count - i ≡ suc (count - (i + 1)) = omega arith in
    stops e (slot_at p bytes) (with_front front (slots_at (count - i) p bytes)) total h (λ flaw is. rw (k, is) refl) so_far

pub slots_done : (front : List Slot) (count i : ℕ) (bytes : List ℕ) (total : Result (List Slot × List ℕ) Flaw) → count ≤ i → with_front front (slots_at (count - i) None bytes) ≡ total → total ≡ Ok (front, bytes)
unfolding slots_at
slots_done front count i bytes total le so_far =
    let k : count - i ≡ 0 = omega arith in
    let one : with_front front (slots_at (count - i) None bytes) ≡ Ok (front, bytes) = rw k (ap (λ (ns : List Slot). Ok (ns, bytes)) (append-nil front)) in
    sym so_far ∙ one

pub slots_pending : (front : List Slot) (count i left : ℕ) (bytes : List ℕ) (total : Result (List Slot × List ℕ) Flaw) → count ≤ i → with_front front (slots_at (count - i) (Some left) bytes) ≡ total → total ≡ Err (Index left)
unfolding slots_at
slots_pending front count i left bytes total le so_far =
    let k : count - i ≡ 0 = omega arith in
    let one : with_front front (slots_at (count - i) (Some left) bytes) ≡ Err (Index left) = rw k refl in
    sym so_far ∙ one
