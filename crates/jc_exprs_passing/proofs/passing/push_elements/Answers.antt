use Rattle.std.proofs.Common.{◌∙◌}
use Rattle.jc_typed.specs.Parts.{operands_of}
use Rattle.jc_typed.proofs.Growing.{grows_both}
use Rattle.jc_exprs_passing.proofs.Passes.{elements_turn, parts_turn}
use Rattle.jc_exprs_passing.proofs.passing.push_elements.Goals as goal

pub loop-rest-preserved : goal.loop-rest-preserved
loop-rest-preserved c =
    let i = c.loop-rest.invariant in (
      elements_turn c.args.judging.now.table.now c.args.judging.now.env.now.bounds c.args.nodes.now c.loop-rest.nodes c.args.param.now (operands_of c.loop-rest.nodes c.loop-rest.list)
          (operands_of c.push_element.new.nodes c.in_ok-list.list) c.loop-rest.rest.now c.in-len1-up.len_at_least i.3 i.2 c.in_ok-list.ensures.value
          ∙ i.0,
      c.in_ok-list.ensures.within,
      parts_turn c.args.nodes.now c.loop-rest.rest.now c.in-len1-up.len_at_least i.2,
      grows_both c.args.nodes.now c.loop-rest.nodes c.push_element.new.nodes i.3 c.in_ok-list.ensures.grows,
    )
