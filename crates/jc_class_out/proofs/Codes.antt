-- Code that is written one instruction after the other.
use Rattle.std.proofs.Common.{◌≡◌, ◌<◌, ◌≤◌, ℕ, suc, ◌+◌, ◌%◌, ◌^◌, List, [], ◌∷◌, ◌++◌, length, drop, get_or, refl, sym, ap, ◌∙◌, append_assoc, add-one}
use Rattle.std.proofs.lemmas.List.{append-nil, length-append, drop_all}
use Rattle.std.proofs.Math.Seq.{drop-cons}
use Rattle.jc_class_out.specs.declared.model.Ins.{Ins}
use Rattle.jc_class_out.specs.Pool.{Known}
use Rattle.jc_class_out.specs.Spelling.{spell_ins, spell_code}

pub code_goes_on : (ks : List Known) (list : List Ins) (i : ℕ) (ins : Ins) (at : ℕ) (out new whole : List ℕ) → i < length list → ins ≡ get_or list i ins → at ≡ length out → new ≡ out ++ spell_ins ks (at % 2 ^ 32) ins
    → out ++ spell_code ks (length out) (drop i list) ≡ whole → new ++ spell_code ks (length new) (drop (i + 1) list) ≡ whole
unfolding spell_code
code_goes_on ks list i ins at out new whole lt is a n so_far =
    let d : drop i list ≡ ins ∷ drop (i + 1) list = rw (add-one i) (drop-cons list i ins lt ∙ ap (λ (x : Ins). x ∷ drop (suc i) list) (sym is)) in
    let piece = spell_ins ks (at % 2 ^ 32) ins in
    let l : length new ≡ length out + length piece = ap length n ∙ length-append out piece in
    let one : out ++ spell_code ks (length out) (drop i list) ≡ out ++ (piece ++ spell_code ks (length out + length piece) (drop (i + 1) list)) = rw (d, ← a) refl in
    rw (l, n) (append_assoc out piece (spell_code ks (length out + length piece) (drop (i + 1) list)) ∙ sym one ∙ so_far)

pub code_done : (ks : List Known) (list : List Ins) (i : ℕ) (out whole : List ℕ) → length list ≤ i → out ++ spell_code ks (length out) (drop i list) ≡ whole → out ≡ whole
unfolding spell_code
code_done ks list i out whole le so_far =
    let d : drop i list ≡ [] = drop_all i list le in
    let one : out ++ spell_code ks (length out) (drop i list) ≡ out = rw d (append-nil out) in
    sym one ∙ so_far
