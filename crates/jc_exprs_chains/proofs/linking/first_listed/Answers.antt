use Rattle.std.proofs.Common.{◌≡◌, refl, ap, sym, ◌∙◌, subst}
use Rattle.std.specs.Prelude.{IfOk}
use Rattle.jc_typed.specs.Parts.{operand_of, operands_of}
use Rattle.jc_typed.proofs.Growing.{grows_both}
use Rattle.jc_exprs_nodes_spec.specs.Typeds.{one_operand}
use Rattle.jc_exprs_nodes.specs.Walks.{known}
use Rattle.jc_exprs_nodes.proofs.Staying.{known_stays, part_stays}
use Rattle.jc_exprs_operators.specs.Takings.{left_of}
use Rattle.jc_exprs_parts_spec.specs.Chains.{Joined, whole}
use Rattle.jc_exprs_chains.specs.Chaining.{joined_at, operand_for, right_in}
use Rattle.jc_exprs_chains.proofs.Firsts.{listed_by}
use Rattle.jc_exprs_chains.proofs.linking.first_listed.Goals as goal

pub returns-clause-value : goal.returns-clause-value
returns-clause-value c =
    let T = c.args.judging.now.table.now in
    let env = c.args.judging.now.env.now.bounds in
    let old = c.args.nodes.now in
    let mid = c.whole.new.nodes in
    let next = c.push_operand_to.new.nodes in
    let listed = c.push_one_operand.new.nodes in
    let new = c.push_type.new.self in
    let left = c.args.left in
    let right = c.args.right.part.at in
    let t = whole (joined_at old left) in
    let wanted = left_of c.args.joiner.taking in
    let part = c.in_ok-part.part in
    let one = c.in_ok-part.ensures.grows in
    let all = grows_both old mid new one (grows_both mid next new c.in_ok-first.ensures.grows (grows_both next listed new c.in_ok-operands.ensures.grows c.in_ok-ty.ensures.grows)) in
    let as_wanted : operand_of next c.in_ok-first.first ≡ operand_for T env (known mid part.at) wanted = rw (c.left_of.ensures, c.in_ok-first.ensures.value) refl in
    let first : operand_of next c.in_ok-first.first ≡ operand_for T env t wanted =
    as_wanted ∙ ap (λ x. operand_for T env x wanted) (sym c.in_ok-part.ensures.value) in
    let os : operands_of new c.in_ok-operands.operands ≡ one_operand (operand_for T env t wanted) =
    rw (c.in_ok-ty.ensures.grows.kept c.in_ok-operands.operands c.in_ok-operands.ensures.within) c.in_ok-operands.ensures.value ∙ ap one_operand first in
    let r : known new right ≡ known old right = known_stays old new right all c.requires.right.below.0 in
    let z = listed_by T env c.args.joiner.taking t left.start c.args.joiner.is_and (right_in old c.args.right) (known new right) (operands_of new c.in_ok-operands.operands) c.requires.left.start os r in
    subst (λ (x : Joined). IfOk c.listed.result (λ j. x ≡ joined_at c.listed.new.nodes j)) z c.listed.ensures.value

pub listed-requires-clause-right : goal.listed-requires-clause-right
listed-requires-clause-right c =
    let old = c.args.nodes.now in
    let mid = c.whole.new.nodes in
    let next = c.push_operand_to.new.nodes in
    let listed = c.push_one_operand.new.nodes in
    let new = c.push_type.new.self in
    let behind = grows_both next listed new c.in_ok-operands.ensures.grows c.in_ok-ty.ensures.grows in
    let all = grows_both old mid new c.in_ok-part.ensures.grows (grows_both mid next new c.in_ok-first.ensures.grows behind) in
    part_stays old new c.args.right.part all c.requires.right
