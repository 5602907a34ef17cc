use Rattle.std.proofs.Common.{◌≡◌, None, Some, refl, ap, sym, ◌∙◌, subst}
use Rattle.std.specs.Prelude.{IfOk}
use Rattle.jc_exprs_nodes_spec.specs.Typeds.{fixed}
use Rattle.jc_exprs_nodes.proofs.Staying.{known_stays}
use Rattle.jc_exprs_parts_spec.specs.Chains.{Joined, Whole}
use Rattle.jc_exprs_operators.specs.Knowns.{folded_in, has_folded, known_at}
use Rattle.jc_exprs_operators.specs.Takings.{result_in}
use Rattle.jc_exprs_chains.specs.Chaining.{join_with, joined_at, right_in}
use Rattle.jc_exprs_chains.proofs.Folds.{both_known}
use Rattle.jc_exprs_chains.proofs.Staying.{joined_kept}
use Rattle.jc_exprs_chains.proofs.joining.join_constants.Goals as goal

pub returns-in-Some-clause-value : goal.returns-in-Some-clause-value
returns-in-Some-clause-value c =
    let T = c.args.judging.now.table.now in
    let env = c.args.judging.now.env.now.bounds in
    let old = c.args.nodes.now in
    let mid = c.fold_known.new.nodes in
    let o = c.args.joiner.op in
    let k = c.args.joiner.taking in
    let j = joined_at old c.args.left in
    let d = folded_in mid c.in-Some.folded in
    let there = c.in_ok-folded.ensures.value ∙ ap (has_folded mid) c.in-Some.is in
    let z = both_known T env o k j (right_in old c.args.last.right) c.op_of.result (known_at old c.args.first) (known_at old c.args.last.known) (Some d) c.op_of.ensures c.requires.first c.requires.last.known there in
    let begins = ap (λ p. Whole (fixed p (result_in T k) d)) c.requires.left.start in
    subst (λ (x : Joined). IfOk c.fixed.result (λ q. x ≡ joined_at c.fixed.new.nodes q)) (sym (z ∙ begins)) c.fixed.ensures.value

pub returns-in-None-clause-value : goal.returns-in-None-clause-value
returns-in-None-clause-value c =
    let T = c.args.judging.now.table.now in
    let env = c.args.judging.now.env.now.bounds in
    let old = c.args.nodes.now in
    let mid = c.fold_known.new.nodes in
    let o = c.args.joiner.op in
    let k = c.args.joiner.taking in
    let l = c.args.last.right in
    let grows = c.in_ok-folded.ensures.grows in
    let nothing = c.in_ok-folded.ensures.value ∙ ap (has_folded mid) c.in-None.is in
    let z = both_known T env o k (joined_at old c.args.left) (right_in old l) c.op_of.result (known_at old c.args.first) (known_at old c.args.last.known) None c.op_of.ensures c.requires.first c.requires.last.known nothing in
    let right_stays : right_in mid l ≡ right_in old l = rw (known_stays old mid l.part.at grows c.requires.last.part.below.0) refl in
    let stays =
    ap (λ (x : Joined). join_with T env o k x (right_in old l)) (sym (joined_kept old mid c.args.left grows c.requires.left))
    ∙ ap (λ r. join_with T env o k (joined_at mid c.args.left) r) (sym right_stays) in
    subst (λ (x : Joined). IfOk c.join_on.result (λ q. x ≡ joined_at c.join_on.new.nodes q)) (sym (z ∙ stays)) c.join_on.ensures.value
