use Rattle.std.proofs.Common.{List, ap, sym, ◌∙◌}
use Rattle.jc_typed.specs.Parts.{as_operands, as_types}
use Rattle.jc_typed.proofs.Growing.{grows_both}
use Rattle.jc_exprs_gathering.proofs.Gathering.{all_known_stay, parts_stay}
use Rattle.jc_exprs_nodes_spec.specs.Typeds.{Typed}
use Rattle.jc_exprs_spec.specs.Calls.{arguments}
use Rattle.jc_exprs_worlds.specs.Scenes.{world_of}
use Rattle.jc_exprs_calls.proofs.Receives.{same_call}
use Rattle.jc_exprs_calls.proofs.forms.push_call_form.Goals as goal

pub push_arguments-requires : goal.push_arguments-requires
push_arguments-requires c =
    let n0 = c.args.nodes.now in
    let n1 = c.push_receiver.new.nodes in
    let n2 = c.push_type_args.new.nodes in
    parts_stay n0 n2 c.args.call.now.args.now (grows_both n0 n1 n2 c.in_ok-receiver.ensures.grows c.in_ok-type_args.ensures.grows) c.requires.args

-- each part stands where it was pushed, and the arguments were what they are before
pub returns-clause-value : goal.returns-clause-value
unfolding world_of
returns-clause-value c =
    let n0 = c.args.nodes.now in
    let n1 = c.push_receiver.new.nodes in
    let n2 = c.push_type_args.new.nodes in
    let n3 = c.push_arguments.new.nodes in
    let n4 = c.push_thrown.new.nodes in
    let g34 = c.in_ok-thrown.ensures.grows in
    let g24 = grows_both n2 n3 n4 c.in_ok-args.ensures.grows g34 in
    let g14 = grows_both n1 n2 n4 c.in_ok-type_args.ensures.grows g24 in
    let g02 = grows_both n0 n1 n2 c.in_ok-receiver.ensures.grows c.in_ok-type_args.ensures.grows in
    let r = ap as_operands (g14.kept c.in_ok-receiver.receiver c.in_ok-receiver.ensures.within) ∙ c.in_ok-receiver.ensures.value in
    let t = ap as_types (g24.kept c.in_ok-type_args.type_args c.in_ok-type_args.ensures.within) ∙ c.in_ok-type_args.ensures.value in
    let a = ap as_operands (g34.kept c.in_ok-args.args c.in_ok-args.ensures.within) ∙ c.in_ok-args.ensures.value in
    let k = all_known_stay n0 n2 c.args.call.now.args.now g02 c.requires.args in
    let b = a ∙ ap (λ (ts : List Typed). arguments c.args.scene.now.table.now c.args.env.now.bounds c.args.call.now.place ts c.args.chosen.now) k in
    same_call c.args.chosen.now.member.id c.args.chosen.now.phase (sym (c.call_kind-kind.ensures n0)) r t b c.in_ok-thrown.ensures.value c.in_ok-is_raw.ensures
