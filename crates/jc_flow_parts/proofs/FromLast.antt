-- Lists of statements that are read from their last member.
use Rattle.std.proofs.Common.{◌≡◌, ◌<◌, ◌≤◌, ◌+◌, ◌-◌, ℕ, zero, suc, List, [], ◌∷◌, ◌++◌, length, map, reverse, drop, get_or, refl, sym, ap, ◌∙◌, arith, append_assoc}
use Rattle.std.proofs.lemmas.List.{reverse-append, drop_more}
use Rattle.jc_typed.specs.declared.nodes.Node.{Node}
use Rattle.jc_typed.specs.Trees.{Stmts, NoStmts, MoreStmts}
use Rattle.jc_typed.specs.Parts.{stmt_of}
use Rattle.jc_flow_parts.specs.Lists.{AllBelow, IsNext, stmts_by, stmts_onto}

pub onto_more : (ns : List Node) (base : Stmts) (ps : List ℕ) (p : ℕ) → stmts_onto ns base (ps ++ p ∷ []) ≡ stmts_onto ns (MoreStmts base (stmt_of ns p)) ps
onto_more ns base [] p = refl
onto_more ns base (q ∷ ps) p = ap (λ ss. MoreStmts ss (stmt_of ns q)) (onto_more ns base ps p)

pub below_more : (k p : ℕ) (ps : List ℕ) → AllBelow k ps → p < k → AllBelow k (ps ++ p ∷ [])
below_more k p [] b h = (h, tt)
below_more k p (q ∷ ps) b h = (b.0, below_more k p ps b.1 h)

pub below_at : (k : ℕ) (ps : List ℕ) (i d : ℕ) → AllBelow k ps → i < length ps → get_or ps i d < k
below_at k [] i d b h = absurd (omega (arith, h))
below_at k (q ∷ ps) zero d b h = b.0
below_at k (q ∷ ps) (suc i) d b h = below_at k ps i d b.1 (omega (arith, h))

-- the statement in front of those that were walked
pub next_at : (ns : List Node) (at : ℕ) (ps : List ℕ) (k : ℕ) → AllBelow at ps → 0 < k → k ≤ length ps → IsNext ns at ps k (get_or ps (k - 1) 0)
next_at ns at ps k b h w =
    let one : k - 1 + 1 ≡ k = omega (arith, h) in
    let lt : k - 1 < length ps = omega (arith, h, w) in
    record {
      next = ap (stmts_by ns) (drop_more ps (k - 1) 0 lt) ∙ ap (λ j. MoreStmts (stmts_by ns (drop j ps)) (stmt_of ns (get_or ps (k - 1) 0))) one;
      below = below_at at ps (k - 1) 0 b lt;
    }

-- one more type in front of those that were read from the end
pub turned_more : {A : Type 0} (xs ys : List A) (t : A) → xs ++ reverse (ys ++ t ∷ []) ≡ (xs ++ t ∷ []) ++ reverse ys
turned_more xs ys t = ap (λ l. xs ++ l) (reverse-append ys (t ∷ [])) ∙ sym (append_assoc xs (t ∷ []) (reverse ys))

pub ruleset turned = (turned_more, onto_more, below_more)
