-- The loop that reads frames.
use Rattle.std.proofs.Common.{◌≡◌, ◌<◌, ◌≤◌, ℕ, suc, ◌-◌, ◌+◌, Bool, List, [], ◌∷◌, ◌++◌, length, Some, Result, Ok, refl, sym, ap, ◌∙◌, arith}
use Rattle.std.specs.List.{slice_get}
use Rattle.std.proofs.lemmas.List.{append-nil, length-append}
use Rattle.jc_rules.specs.declared.stop.Stop.{Stop}
use Rattle.jc_class_out.specs.declared.format.Flaw.{Flaw}
use Rattle.jc_class_out.specs.declared.format.Slot.{Slot}
use Rattle.jc_class_out.specs.declared.model.Frame.{Frame}
use Rattle.jc_class_out.specs.declared.model.Item.{Item}
use Rattle.jc_class_out.specs.Frames.{frame_at, frames_at}
use Rattle.jc_class_in.specs.Before.{last_of, place_before, locals_before}
use Rattle.jc_class_in.specs.Gives.{Fails}
use Rattle.jc_class_in.proofs.Rows.{with_front, regroup, stops}

get_behind : (front : List Frame) (n : Frame) → slice_get (front ++ n ∷ []) (length front) ≡ Some n
get_behind [] n = refl
get_behind (f ∷ front) n = get_behind front n

last_behind : (front : List Frame) (n : Frame) → last_of (front ++ n ∷ []) ≡ Some n
last_behind front n = let l : length (front ++ n ∷ []) - 1 ≡ length front = omega (arith, length-append front (n ∷ [])) in rw l (get_behind front n)

-- the frames from here on, behind those that were read
abbrev pub frames_behind : List Slot → List Bool → List Item → ℕ → List Frame → List ℕ → Result (List Frame × List ℕ) Flaw
frames_behind pool marks entry n front bytes = frames_at pool marks n (place_before (last_of front)) (locals_before entry (last_of front)) bytes

pub frames_more : (pool : List Slot) (marks : List Bool) (entry : List Item) (front new : List Frame) (count i : ℕ) (bytes : List ℕ) (n : Frame) (after : List ℕ) (total : Result (List Frame × List ℕ) Flaw) → new ≡ front ++ n ∷ [] → i < count
    → frame_at pool marks (place_before (last_of front)) (locals_before entry (last_of front)) bytes ≡ Ok (n, after)
    → with_front front (frames_behind pool marks entry (count - i) front bytes) ≡ total → with_front new (frames_behind pool marks entry (count - (i + 1)) new after) ≡ total
unfolding frames_at
frames_more pool marks entry front new count i bytes n after total e lt h so_far =
    let k : count - i ≡ suc (count - (i + 1)) = omega arith in
    let l : last_of (front ++ n ∷ []) ≡ Some n = last_behind front n in
    let rest = frames_at pool marks (count - (i + 1)) (Some (n.at)) n.locals after in
    let one : with_front front (frames_behind pool marks entry (count - i) front bytes) ≡ with_front (front ++ n ∷ []) rest = rw (k, h) (regroup front n rest) in
    rw (e, l) (sym one ∙ so_far)

pub frames_stop : (pool : List Slot) (marks : List Bool) (entry : List Item) (e : Stop Flaw) (front : List Frame) (count i : ℕ) (bytes : List ℕ) (total : Result (List Frame × List ℕ) Flaw) → i < count
    → Fails e (frame_at pool marks (place_before (last_of front)) (locals_before entry (last_of front)) bytes)
    → with_front front (frames_behind pool marks entry (count - i) front bytes) ≡ total → Fails e total
unfolding frames_at
frames_stop pool marks entry e front count i bytes total lt h so_far =
    let k : count - i ≡ suc (count - (i + 1)) = omega arith in
    stops e (frame_at pool marks (place_before (last_of front)) (locals_before entry (last_of front)) bytes) (with_front front (frames_behind pool marks entry (count - i) front bytes)) total h (λ flaw is. rw (k, is) refl) so_far

pub frames_done : (pool : List Slot) (marks : List Bool) (entry : List Item) (front : List Frame) (count i : ℕ) (bytes : List ℕ) (total : Result (List Frame × List ℕ) Flaw) → count ≤ i
    → with_front front (frames_behind pool marks entry (count - i) front bytes) ≡ total → total ≡ Ok (front, bytes)
unfolding frames_at
frames_done pool marks entry front count i bytes total le so_far =
    let k : count - i ≡ 0 = omega arith in
    let one : with_front front (frames_behind pool marks entry (count - i) front bytes) ≡ Ok (front, bytes) = rw k (ap (λ (ns : List Frame). Ok (ns, bytes)) (append-nil front)) in
    sym so_far ∙ one
