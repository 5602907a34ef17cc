-- The loops that read a switch.
use Rattle.std.proofs.Common.{◌≡◌, ◌<◌, ◌≤◌, ◌==◌, ℕ, ℤ, Bool, true, false, suc, ◌-◌, ◌+◌, List, [], ◌∷◌, ◌++◌, length, Option, Some, Result, Ok, refl, sym, ap, ◌∙◌, arith}
use Rattle.std.proofs.lemmas.List.{append-nil}
use Rattle.jc_rules.specs.declared.stop.Stop.{Stop}
use Rattle.jc_class_out.specs.declared.format.Flaw.{Flaw}
use Rattle.jc_class_out.specs.declared.model.SwitchCase.{SwitchCase}
use Rattle.jc_class_out.specs.Reading.{u8_at, wants}
use Rattle.jc_class_out.specs.Instructions.{case_at, cases_at, zeros_at}
use Rattle.jc_class_in.specs.Gives.{Fails}
use Rattle.jc_class_in.proofs.Rows.{with_front, regroup, stops}

pub cases_more : (at : ℕ) (front new : List SwitchCase) (count i : ℕ) (p q : Option ℤ) (bytes : List ℕ) (n : SwitchCase) (after : List ℕ) (total : Result (List SwitchCase × List ℕ) Flaw) → new ≡ front ++ n ∷ [] → q ≡ Some (n.key) → i < count → case_at at p bytes ≡ Ok (n, after)
    → with_front front (cases_at (count - i) at p bytes) ≡ total → with_front new (cases_at (count - (i + 1)) at q after) ≡ total
unfolding cases_at
cases_more at front new count i p q bytes n after total e f lt h so_far =
    let k : count - i ≡ suc (count - (i + 1)) = omega arith in
    let one : with_front front (cases_at (count - i) at p bytes) ≡ with_front (front ++ n ∷ []) (cases_at (count - (i + 1)) at (Some (n.key)) after) = rw (k, h) (regroup front n (cases_at (count - (i + 1)) at (Some (n.key)) after)) in
    rw (e, f) (sym one ∙ so_far)

pub cases_stop : (at : ℕ) (e : Stop Flaw) (front : List SwitchCase) (count i : ℕ) (p : Option ℤ) (bytes : List ℕ) (total : Result (List SwitchCase × List ℕ) Flaw) → i < count → Fails e (case_at at p bytes)
    → with_front front (cases_at (count - i) at p bytes) ≡ total → Fails e total
unfolding cases_at
cases_stop at e front count i p bytes total lt h so_far =
    let k : count - i ≡ suc (count - (i + 1)) = omega arith in
    stops e (case_at at p bytes) (with_front front (cases_at (count - i) at p bytes)) total h (λ flaw is. rw (k, is) refl) so_far

pub cases_done : (at : ℕ) (front : List SwitchCase) (count i : ℕ) (p : Option ℤ) (bytes : List ℕ) (total : Result (List SwitchCase × List ℕ) Flaw) → count ≤ i → with_front front (cases_at (count - i) at p bytes) ≡ total → total ≡ Ok (front, bytes)
unfolding cases_at
cases_done at front count i p bytes total le so_far =
    let k : count - i ≡ 0 = omega arith in
    let one : with_front front (cases_at (count - i) at p bytes) ≡ Ok (front, bytes) = rw k (ap (λ (ns : List SwitchCase). Ok (ns, bytes)) (append-nil front)) in
    sym so_far ∙ one

zeros_past : (n b left : ℕ) (bytes rest : List ℕ) → u8_at bytes ≡ Ok (b, rest) → wants (b == 0) left ≡ Ok 0 → wants (b == 0) (length bytes) ≡ Ok 0 → zeros_at (suc n) bytes ≡ zeros_at n rest
unfolding zeros_at
zeros_past n b left bytes rest h w v = rw (h, v) refl

same_wants : (b : Bool) (left other : ℕ) → wants b left ≡ Ok 0 → wants b other ≡ Ok 0
same_wants true left other h = refl
same_wants false left other h = cc

pub zeros_more : (count i b left : ℕ) (bytes rest : List ℕ) (total : Result (ℕ × List ℕ) Flaw) → i < count → u8_at bytes ≡ Ok (b, rest) → wants (b == 0) left ≡ Ok 0
    → zeros_at (count - i) bytes ≡ total → zeros_at (count - (i + 1)) rest ≡ total
zeros_more count i b left bytes rest total lt h w so_far =
    let k : count - i ≡ suc (count - (i + 1)) = omega arith in
    let one : zeros_at (count - i) bytes ≡ zeros_at (count - (i + 1)) rest = rw k (zeros_past (count - (i + 1)) b left bytes rest h w (same_wants (b == 0) left (length bytes) w)) in
    sym one ∙ so_far
