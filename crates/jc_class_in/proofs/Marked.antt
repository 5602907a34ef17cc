-- The loops over the instructions of a code.
use Rattle.std.proofs.Common.{◌≡◌, ◌<◌, ◌≤◌, ℕ, suc, ◌-◌, ◌+◌, Bool, true, false, List, [], ◌∷◌, ◌++◌, length, drop, get_or, replicate, Result, Ok, refl, sym, ap, ◌∙◌, append_assoc, add-one, arith}
use Rattle.std.proofs.lemmas.List.{append-nil, length-append, length-replicate, drop_all}
use Rattle.std.proofs.Math.Seq.{drop-cons}
use Rattle.jc_class_out.specs.declared.format.Flaw.{Flaw}
use Rattle.jc_class_out.specs.declared.model.Ins.{Ins}
use Rattle.jc_class_out.specs.Instructions.{ins_size}
use Rattle.jc_class_out.specs.Code.{marks_from, marks_of, size_from, lands, all_land}
use Rattle.jc_class_out.proofs.CodeAgain.{length_marks}

first_of : (list : List Ins) (i : ℕ) (ins : Ins) → i < length list → ins ≡ get_or list i ins → drop i list ≡ ins ∷ drop (i + 1) list
first_of list i ins lt is = rw (add-one i) (drop-cons list i ins lt ∙ ap (λ (x : Ins). x ∷ drop (suc i) list) (sym is))

pub marks_more : (list : List Ins) (i : ℕ) (ins : Ins) (marks marked new whole : List Bool) (at size : ℕ) → i < length list → ins ≡ get_or list i ins → at ≡ length marks → size ≡ ins_size at ins → 1 ≤ size
    → marked ≡ marks ++ true ∷ [] → new ≡ marked ++ replicate (size - 1) false → marks ++ marks_from (length marks) (drop i list) ≡ whole → new ++ marks_from (length new) (drop (i + 1) list) ≡ whole
unfolding marks_from
marks_more list i ins marks marked new whole at size lt is a t some e f so_far =
    let s : size ≡ ins_size (length marks) ins = t ∙ ap (λ (x : ℕ). ins_size x ins) a in
    let gap = replicate (size - 1) false in
    let n : new ≡ marks ++ true ∷ gap = f ∙ ap (λ (x : List Bool). x ++ gap) e ∙ append_assoc marks (true ∷ []) gap in
    let l : length new ≡ length marks + ins_size (length marks) ins = omega (arith, ap length n, length-append marks (true ∷ gap), length-replicate {A = Bool} (size - 1) false, some, s) in
    let rest = marks_from (length marks + ins_size (length marks) ins) (drop (i + 1) list) in
    let one : marks ++ marks_from (length marks) (drop i list) ≡ marks ++ (true ∷ (gap ++ rest)) = rw (first_of list i ins lt is, s) refl in
    rw (l, n) (append_assoc marks (true ∷ gap) rest ∙ sym one ∙ so_far)

pub marks_done : (list : List Ins) (i : ℕ) (marks whole : List Bool) → length list ≤ i → marks ++ marks_from (length marks) (drop i list) ≡ whole → whole ≡ marks
unfolding marks_from
marks_done list i marks whole le so_far =
    let one : marks ++ marks_from (length marks) (drop i list) ≡ marks = rw (drop_all i list le) (append-nil marks) in
    sym so_far ∙ one

-- the instructions from one on take the room of that one and of the others
pub size_first : (list : List Ins) (i at : ℕ) (ins : Ins) → i < length list → ins ≡ get_or list i ins → size_from at (drop i list) ≡ ins_size at ins + size_from (at + ins_size at ins) (drop (i + 1) list)
unfolding size_from
size_first list i at ins lt is = rw (first_of list i ins lt is) refl

pub size_whole : (list : List Ins) (marks : List Bool) → marks ≡ marks_of list → 0 + size_from 0 (drop 0 list) ≡ length marks
size_whole list marks is = omega (arith, ap length is, length_marks 0 list)

land_past : (marks : List Bool) (list : List Ins) (i : ℕ) (ins : Ins) (left at : ℕ) → i < length list → ins ≡ get_or list i ins → lands marks left at ins.operand ≡ Ok 0
    → all_land marks left at (drop i list) ≡ all_land marks (left - ins_size at ins) (at + ins_size at ins) (drop (i + 1) list)
unfolding all_land
land_past marks list i ins left at lt is h = rw (first_of list i ins lt is, h) refl

pub land_more : (marks : List Bool) (list : List Ins) (i : ℕ) (ins : Ins) (left less at size : ℕ) (whole : Result ℕ Flaw) (room : ℕ) → i < length list → ins ≡ get_or list i ins → size ≡ ins_size at ins → less ≡ left - size → lands marks left at ins.operand ≡ Ok 0
    → all_land marks left at (drop i list) ≡ whole → at + size_from at (drop i list) ≡ room
    → (all_land marks less (at + size) (drop (i + 1) list) ≡ whole) × (at + size + size_from (at + size) (drop (i + 1) list) ≡ room)
land_more marks list i ins left less at size whole room lt is s l h same r =
    let one = land_past marks list i ins left at lt is h in
    let first = size_first list i at ins lt is in
    (rw (l, s) (sym one ∙ same), rw s (omega (arith, first, r)))
