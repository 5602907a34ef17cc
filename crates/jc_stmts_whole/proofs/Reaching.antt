-- Initialisers one after the other: what stands behind some of them.
use Rattle.std.proofs.Common.{◌≡◌, refl, sym, ap, ◌∙◌, ℕ, ◌<◌, ◌≤◌, ◌-◌, Bool, List, [], ◌∷◌, length, get_or, take, drop, arith}
use Rattle.std.proofs.lemmas.List.{take_all}
use Rattle.jc_types.specs.declared.ids.ClassId.{ClassId}
use Rattle.jc_types.specs.declared.table.Table.{Table}
use Rattle.jc_declares.specs.declared.heads.Heads.{Heads}
use Rattle.jc_declares.specs.Looking.{Knowledge}
use Rattle.jc_stmts_spec.specs.Bodies.{Initialiser}
use Rattle.jc_stmts_spec.specs.Typed.{Parts, initialised_all}
use Rattle.jc_stmts_course.specs.declared.course.Course.{Course}
use Rattle.jc_stmts_whole.specs.Parts.{IsParts}

-- from these parts, with the rest of all initialisers left
pub record Reached (f : List Initialiser → Parts → Parts) (p : Parts) (all rest : List Initialiser) (c : Course) (list : ℕ) : Type 0 where
  pub at : Parts
  pub is : IsParts at c list
  pub same : f rest at ≡ f all p

-- a list by its first member
pub first_split : {A : Type 0} (xs : List A) (x : A) → 1 ≤ length xs → x ≡ get_or xs 0 x → xs ≡ x ∷ take (length xs - 1) (drop 1 xs)
first_split [] x h e = absurd (omega (arith, h))
first_split (y ∷ ys) x h e =
    let n : length (y ∷ ys) - 1 ≡ length ys = omega arith in
    ap (λ z. z ∷ ys) (sym e) ∙ ap (λ zs. x ∷ zs) (sym (ap (λ k. take k ys) n ∙ take_all (length ys) ys (omega arith)))

-- none is left
pub all_done : (T : Table) (H : Heads) (K : Knowledge) (k : ClassId) (s : Bool) (xs : List Initialiser) (q : Parts) → length xs < 1 → initialised_all T H K k s xs q ≡ q
all_done T H K k s [] q h = refl
all_done T H K k s (x ∷ xs) q h = absurd (omega (arith, h))
