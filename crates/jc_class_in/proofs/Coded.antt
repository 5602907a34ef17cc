-- The loop that reads instructions.
use Rattle.std.proofs.Common.{◌≡◌, ◌<◌, ◌≤◌, ℕ, suc, ◌-◌, ◌+◌, true, false, List, [], ◌∷◌, ◌++◌, length, Result, Ok, Err, refl, sym, ap, ◌∙◌, arith}
use lib.Dec.{leb}
use Rattle.std.proofs.lemmas.Bool.{lt-leb, le-leb}
use Rattle.std.proofs.lemmas.List.{append-nil}
use Rattle.jc_rules.specs.declared.stop.Stop.{Stop}
use Rattle.jc_class_out.specs.declared.format.Flaw.{Flaw}
use Rattle.jc_class_out.specs.declared.format.Slot.{Slot}
use Rattle.jc_class_out.specs.declared.model.Ins.{Ins}
use Rattle.jc_class_out.specs.Instructions.{ins_at}
use Rattle.jc_class_out.specs.Code.{code_on}
use Rattle.jc_class_in.specs.Gives.{Fails}
use Rattle.jc_class_in.proofs.Rows.{with_front, regroup, stops}

pub code_more : (pool : List Slot) (start len used : ℕ) (front new : List Ins) (i : ℕ) (bytes : List ℕ) (n : Ins) (after : List ℕ) (total : Result (List Ins × List ℕ) Flaw) → new ≡ front ++ n ∷ [] → i < len → used ≡ start - length bytes → used < len → ins_at pool used bytes ≡ Ok (n, after)
    → with_front front (code_on pool start len (len - i) bytes) ≡ total → with_front new (code_on pool start len (len - (i + 1)) after) ≡ total
unfolding code_on
code_more pool start len used front new i bytes n after total e lt u more h so_far =
    let k : len - i ≡ suc (len - (i + 1)) = omega arith in
    let t : leb len (start - length bytes) ≡ false = lt-leb _ _ (omega (arith, u, more)) in
    let g : ins_at pool (start - length bytes) bytes ≡ Ok (n, after) = rw (← u) h in
    let one : with_front front (code_on pool start len (len - i) bytes) ≡ with_front (front ++ n ∷ []) (code_on pool start len (len - (i + 1)) after) = rw (k, t, g) (regroup front n (code_on pool start len (len - (i + 1)) after)) in
    rw e (sym one ∙ so_far)

pub code_stops : (pool : List Slot) (start len used : ℕ) (e : Stop Flaw) (front : List Ins) (i : ℕ) (bytes : List ℕ) (total : Result (List Ins × List ℕ) Flaw) → i < len → used ≡ start - length bytes → used < len → Fails e (ins_at pool used bytes)
    → with_front front (code_on pool start len (len - i) bytes) ≡ total → Fails e total
unfolding code_on
code_stops pool start len used e front i bytes total lt u more h so_far =
    let k : len - i ≡ suc (len - (i + 1)) = omega arith in
    let t : leb len (start - length bytes) ≡ false = lt-leb _ _ (omega (arith, u, more)) in
    stops e (ins_at pool used bytes) (with_front front (code_on pool start len (len - i) bytes)) total h
    (λ flaw is. let g : ins_at pool (start - length bytes) bytes ≡ Err flaw = rw (← u) is in rw (k, t, g) refl) so_far

pub code_over : (pool : List Slot) (start len used : ℕ) (front : List Ins) (i : ℕ) (bytes : List ℕ) (total : Result (List Ins × List ℕ) Flaw) → i < len → used ≡ start - length bytes → len ≤ used
    → with_front front (code_on pool start len (len - i) bytes) ≡ total → total ≡ Ok (front, bytes)
unfolding code_on
code_over pool start len used front i bytes total lt u le so_far =
    let k : len - i ≡ suc (len - (i + 1)) = omega arith in
    let t : leb len (start - length bytes) ≡ true = le-leb _ _ (omega (arith, u, le)) in
    let one : with_front front (code_on pool start len (len - i) bytes) ≡ Ok (front, bytes) = rw (k, t) (ap (λ (ns : List Ins). Ok (ns, bytes)) (append-nil front)) in
    sym so_far ∙ one

pub code_out : (pool : List Slot) (start len : ℕ) (front : List Ins) (i : ℕ) (bytes : List ℕ) (total : Result (List Ins × List ℕ) Flaw) → len ≤ i → with_front front (code_on pool start len (len - i) bytes) ≡ total → total ≡ Ok (front, bytes)
unfolding code_on
code_out pool start len front i bytes total le so_far =
    let k : len - i ≡ 0 = omega arith in
    let one : with_front front (code_on pool start len (len - i) bytes) ≡ Ok (front, bytes) = rw k (ap (λ (ns : List Ins). Ok (ns, bytes)) (append-nil front)) in
    sym so_far ∙ one
