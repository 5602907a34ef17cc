-- The least of the numbers of lists that stand together.
use Rattle.std.proofs.Common.{◌≡◌, ℕ, suc, ◌+◌, ◌<◌, min, List, [], ◌∷◌, ◌++◌, length, drop, get_or, Option, Some, None, refl, sym, ap, ◌∙◌, arith}
use Rattle.std.proofs.Common.{add-one}
use Rattle.std.proofs.Math.Seq.{drop-cons}
use Rattle.jc_left_out.specs.LeftOut.{earlier, in_each, least_of}

pub earlier_none : (a : Option ℕ) → earlier a None ≡ a
earlier_none None = refl
earlier_none (Some n) = refl

pub earlier_assoc : (a b c : Option ℕ) → earlier (earlier a b) c ≡ earlier a (earlier b c)
earlier_assoc None b c = refl
earlier_assoc (Some n) None c = refl
earlier_assoc (Some n) (Some m) None = refl
earlier_assoc (Some n) (Some m) (Some k) = ap (λ i. Some i) (least n m k)
  where
    least : (n m k : ℕ) → min (min n m) k ≡ min n (min m k)
    least n m k = omega arith

next_one : {X : Type 0} (nodes : List X) (i : ℕ) (x : X) → i < length nodes → x ≡ get_or nodes i x → drop i nodes ≡ x ∷ drop (i + 1) nodes
next_one {X = X} nodes i x lt e = rw (add-one i) (drop-cons nodes i x lt ∙ ap (λ (y : X). y ∷ drop (suc i) nodes) (sym e))

pub least_both : (xs ys : List ℕ) → least_of (xs ++ ys) ≡ earlier (least_of xs) (least_of ys)
least_both [] ys = refl
least_both (n ∷ xs) ys = ap (earlier (Some n)) (least_both xs ys) ∙ sym (earlier_assoc (Some n) (least_of xs) (least_of ys))

pub least_next : {X : Type 0} (f : X → List ℕ) (x : X) (list : List X) → least_of (in_each f (x ∷ list)) ≡ earlier (least_of (f x)) (least_of (in_each f list))
least_next f x list = least_both (f x) (in_each f list)

-- a turn of a loop over a list
pub least_turn : {X : Type 0} (f : X → List ℕ) (nodes : List X) (i : ℕ) (x : X) (first one next : Option ℕ) → i < length nodes → x ≡ get_or nodes i x → one ≡ least_of (f x) → next ≡ earlier first one → earlier first (least_of (in_each f (drop i nodes))) ≡ least_of (in_each f nodes) → earlier next (least_of (in_each f (drop (i + 1) nodes))) ≡ least_of (in_each f nodes)
least_turn {X = X} f nodes i x first one next lt e o n inv =
    ap (λ (a : Option ℕ). earlier a (least_of (in_each f (drop (i + 1) nodes)))) (n ∙ ap (earlier first) o)
    ∙ earlier_assoc first (least_of (f x)) (least_of (in_each f (drop (i + 1) nodes)))
    ∙ ap (earlier first) (sym (least_next f x (drop (i + 1) nodes)) ∙ ap (λ (l : List X). least_of (in_each f l)) (sym (next_one nodes i x lt e)))
    ∙ inv
