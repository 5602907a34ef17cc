-- Lists that are read from their last member.
use Rattle.std.proofs.Common.{◌≡◌, ◌<◌, ◌≤◌, ◌+◌, ◌-◌, ℕ, zero, suc, List, [], ◌∷◌, ◌++◌, length, reverse, drop, get_or, refl, sym, ap, ◌∙◌, arith, append_assoc}
use Rattle.std.proofs.lemmas.List.{reverse-append, drop_more}
use Rattle.jc_typed.specs.declared.nodes.Node.{Node}
use Rattle.jc_typed.specs.Trees.{Named, Operands, NoOperands, MoreOperands}
use Rattle.jc_typed.specs.Parts.{operand_of}
use Rattle.jc_assign_names.specs.declared.listed.NameAt.{NameAt}
use Rattle.jc_assign_names.specs.Lists.{AllBelow, IsNext, named_at, named_by, operands_by, operands_onto}

pub onto_more : (ns : List Node) (base : Operands) (ps : List ℕ) (p : ℕ) → operands_onto ns base (ps ++ p ∷ []) ≡ operands_onto ns (MoreOperands base (operand_of ns p)) ps
onto_more ns base [] p = refl
onto_more ns base (q ∷ ps) p = ap (λ os. MoreOperands os (operand_of ns q)) (onto_more ns base ps p)

pub below_more : (k p : ℕ) (ps : List ℕ) → AllBelow k ps → p < k → AllBelow k (ps ++ p ∷ [])
below_more k p [] b h = (h, tt)
below_more k p (q ∷ ps) b h = (b.0, below_more k p ps b.1 h)

pub below_at : (k : ℕ) (ps : List ℕ) (i d : ℕ) → AllBelow k ps → i < length ps → get_or ps i d < k
below_at k [] i d b h = absurd (omega (arith, h))
below_at k (q ∷ ps) zero d b h = b.0
below_at k (q ∷ ps) (suc i) d b h = below_at k ps i d b.1 (omega (arith, h))

-- the operand in front of those that were walked
pub next_at : (ns : List Node) (at : ℕ) (ps : List ℕ) (k : ℕ) → AllBelow at ps → 0 < k → k ≤ length ps → IsNext ns at ps k (get_or ps (k - 1) 0)
next_at ns at ps k b h w =
    let one : k - 1 + 1 ≡ k = omega (arith, h) in
    let lt : k - 1 < length ps = omega (arith, h, w) in
    record {
      next = ap (operands_by ns) (drop_more ps (k - 1) 0 lt) ∙ ap (λ j. MoreOperands (operands_by ns (drop j ps)) (operand_of ns (get_or ps (k - 1) 0))) one;
      below = below_at at ps (k - 1) 0 b lt;
    }

named_both : (xs ys : List NameAt) → named_by (xs ++ ys) ≡ named_by xs ++ named_by ys
named_both [] ys = refl
named_both (x ∷ xs) ys = ap (λ l. named_at x ∷ l) (named_both xs ys)

-- one more name in front of those that were read from the end
pub names_more : (xs : List Named) (ys : List NameAt) (n : NameAt) → xs ++ named_by (reverse (ys ++ n ∷ [])) ≡ (xs ++ named_at n ∷ []) ++ named_by (reverse ys)
names_more xs ys n = ap (λ l. xs ++ named_by l) (reverse-append ys (n ∷ [])) ∙ sym (append_assoc xs (named_at n ∷ []) (named_by (reverse ys)))

pub ruleset turned = (names_more, onto_more, below_more)
