-- Where instructions begin.
use Rattle.std.proofs.Common.{◌≡◌, ◌<◌, ◌≤◌, ℕ, suc, ◌+◌, ◌-◌, Bool, true, false, List, [], ◌∷◌, ◌++◌, length, drop, get_or, take, replicate, append_assoc, sym, ap, ◌∙◌, add-one, arith}
use Rattle.std.specs.Prelude.{slice_set}
use Rattle.std.proofs.lemmas.List.{drop_all, append-nil, take_more_set, replicate_more}
use Rattle.std.proofs.Math.Seq.{drop-cons}
use Rattle.std.proofs.lemmas.Bool.{and_parts}
use Rattle.jc_class_out.specs.declared.model.Ins.{Ins}
use Rattle.jc_class_out.specs.Instructions.{ins_size}
use Rattle.jc_class_out.specs.Code.{marks_from, size_from}
use Rattle.jc_class_out.specs.Fitting.{ins_fits, all_fit}

first_of : (list : List Ins) (i : ℕ) (ins : Ins) → i < length list → ins ≡ get_or list i ins → drop i list ≡ ins ∷ drop (i + 1) list
first_of list i ins lt is = rw (add-one i) (drop-cons list i ins lt ∙ ap (λ (x : Ins). x ∷ drop (suc i) list) (sym is))

-- one byte more inside an instruction
pub mark_next : (marks front : List Bool) (at place : ℕ) → at < place → place < length marks → take place marks ≡ front ++ (true ∷ replicate (place - at - 1) false)
    → take (place + 1) (slice_set marks place false) ≡ front ++ (true ∷ replicate (place + 1 - at - 1) false)
mark_next marks front at place lo hi so_far =
    let e : place + 1 - at - 1 ≡ (place - at - 1) + 1 = omega (arith, lo) in
    rw e (take_more_set marks place false hi ∙ ap (λ (x : List Bool). x ++ false ∷ []) so_far ∙ append_assoc front (true ∷ replicate (place - at - 1) false) (false ∷ []) ∙ ap (λ (x : List Bool). front ++ (true ∷ x)) (replicate_more (place - at - 1) false))

-- one instruction more is marked
pub mark_more : (list : List Ins) (i : ℕ) (ins : Ins) (at size : ℕ) (old new whole : List Bool) → i < length list → ins ≡ get_or list i ins → size ≡ ins_size at ins → take (at + size) new ≡ take at old ++ (true ∷ replicate (size - 1) false)
    → take at old ++ marks_from at (drop i list) ≡ whole → take (at + size) new ++ marks_from (at + size) (drop (i + 1) list) ≡ whole
unfolding marks_from
mark_more list i ins at size old new whole lt is s marked so_far =
    let rest = marks_from (at + ins_size at ins) (drop (i + 1) list) in
    let front = take at old in
    let one : marks_from at (drop i list) ≡ true ∷ (replicate (ins_size at ins - 1) false ++ marks_from (at + ins_size at ins) (drop (i + 1) list)) = ap (marks_from at) (first_of list i ins lt is) in
    rw (marked, s) (append_assoc front (true ∷ replicate (ins_size at ins - 1) false) rest ∙ ap (λ (x : List Bool). front ++ x) (sym one) ∙ so_far)

pub size_more : (list : List Ins) (i : ℕ) (ins : Ins) (at size total : ℕ) → i < length list → ins ≡ get_or list i ins → size ≡ ins_size at ins → at + size_from at (drop i list) ≡ total → (at + size) + size_from (at + size) (drop (i + 1) list) ≡ total
unfolding size_from
size_more list i ins at size total lt is s so_far =
    let one : size_from at (drop i list) ≡ ins_size at ins + size_from (at + ins_size at ins) (drop (i + 1) list) = ap (size_from at) (first_of list i ins lt is) in
    rw s (omega (arith, one, so_far))

pub all_marked : (list : List Ins) (i at : ℕ) (marks whole : List Bool) → length list ≤ i → take at marks ++ marks_from at (drop i list) ≡ whole → take at marks ≡ whole
unfolding marks_from
all_marked list i at marks whole le so_far = sym (append-nil (take at marks)) ∙ ap (λ (x : List Ins). take at marks ++ marks_from at x) (sym (drop_all i list le)) ∙ so_far

pub all_measured : (list : List Ins) (i at total : ℕ) → length list ≤ i → at + size_from at (drop i list) ≡ total → at ≡ total
unfolding size_from
all_measured list i at total le so_far = let e : size_from at (drop i list) ≡ 0 = ap (size_from at) (drop_all i list le) in omega (arith, e, so_far)

pub fit_more : (list : List Ins) (i : ℕ) (ins : Ins) (at : ℕ) → i < length list → ins ≡ get_or list i ins → all_fit at (drop i list) ≡ true → all_fit (at + ins_size at ins) (drop (i + 1) list) ≡ true
unfolding all_fit
fit_more list i ins at lt is h = (and_parts (ins_fits at ins) (all_fit (at + ins_size at ins) (drop (i + 1) list)) (ap (all_fit at) (sym (first_of list i ins lt is)) ∙ h)).1
