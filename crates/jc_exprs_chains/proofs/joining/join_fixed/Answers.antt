use Rattle.std.proofs.Common.{◌≡◌, None, Some, refl, ap, sym, ◌∙◌, subst}
use Rattle.std.specs.Prelude.{IfOk}
use Rattle.jc_typed.specs.Parts.{type_of}
use Rattle.jc_exprs_nodes_spec.specs.Typeds.{fixed}
use Rattle.jc_exprs_nodes.proofs.Staying.{known_stays}
use Rattle.jc_exprs_parts_spec.specs.Chains.{Joined, Whole}
use Rattle.jc_exprs_operators.specs.Knowns.{folded_in, has_grown, known_at}
use Rattle.jc_exprs_chains.specs.Chaining.{joined_at, right_in}
use Rattle.jc_exprs_chains.proofs.Folds.{both_known, same_fixed}
use Rattle.jc_exprs_chains.proofs.joining.join_fixed.Goals as goal

pub returns-in-Same-clause-value : goal.returns-in-Same-clause-value
returns-in-Same-clause-value c =
    let T = c.args.judging.now.table.now in
    let env = c.args.judging.now.env.now.bounds in
    let old = c.args.nodes.now in
    let mid = c.fold_onto.new.nodes in
    let o = c.args.joiner.op in
    let k = c.args.joiner.taking in
    let h = c.args.head in
    let a = folded_in old c.args.left in
    let b = known_at old c.args.last.known in
    let l = c.args.last.right in
    let same : folded_in mid c.in-Same.folded ≡ a = rw c.in-Same.is at c.in_ok-folded.ensures.same in
    let type_stays : type_of mid h.ty ≡ type_of old h.ty = rw (c.in_ok-folded.ensures.grows.kept h.ty c.requires.head) refl in
    let right_stays : right_in mid l ≡ right_in old l = rw (known_stays old mid l.part.at c.in_ok-folded.ensures.grows c.requires.last.part.below.0) refl in
    let nothing = c.in_ok-folded.ensures.value ∙ ap (has_grown mid) c.in-Same.is in
    let unfolded = both_known T env o k (Whole (fixed h.start (type_of old h.ty) a)) (right_in old l) c.op_of.result a b None c.op_of.ensures refl c.requires.last.known nothing in
    let stays = same_fixed T env o k h.start (type_of old h.ty) (type_of mid h.ty) a (folded_in mid c.in-Same.folded) (right_in old l) (right_in mid l) (sym type_stays) (sym same) (sym right_stays) in
    subst (λ (x : Joined). IfOk c.join_on.result (λ j. x ≡ joined_at c.join_on.new.nodes j)) (sym (unfolded ∙ stays)) c.join_on.ensures.value

pub returns-in-More-clause-value : goal.returns-in-More-clause-value
returns-in-More-clause-value c =
    let T = c.args.judging.now.table.now in
    let env = c.args.judging.now.env.now.bounds in
    let old = c.args.nodes.now in
    let mid = c.fold_onto.new.nodes in
    let h = c.args.head in
    let a = folded_in old c.args.left in
    let b = known_at old c.args.last.known in
    let there = c.in_ok-folded.ensures.value ∙ ap (has_grown mid) c.in-More.is in
    let z = both_known T env c.args.joiner.op c.args.joiner.taking (Whole (fixed h.start (type_of old h.ty) a)) (right_in old c.args.last.right) c.op_of.result a b (Some (folded_in mid c.in-More.folded)) c.op_of.ensures refl c.requires.last.known there in
    subst (λ (x : Joined). IfOk c.fixed.result (λ j. x ≡ joined_at c.fixed.new.nodes j)) (sym z) c.fixed.ensures.value
