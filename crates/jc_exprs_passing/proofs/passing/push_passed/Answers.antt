use Rattle.std.proofs.Common.{◌∙◌}
use Rattle.jc_typed.specs.Parts.{operands_of}
use Rattle.jc_typed.proofs.Growing.{grows_both}
use Rattle.jc_exprs_passing.proofs.Passes.{parts_turn, passed_turn}
use Rattle.jc_exprs_passing.proofs.passing.push_passed.Goals as goal

pub loop-rest-preserved : goal.loop-rest-preserved
loop-rest-preserved c =
    let i = c.loop-rest.invariant in (
      passed_turn c.args.judging.now.table.now c.args.judging.now.env.now.bounds c.args.nodes.now c.loop-rest.nodes (operands_of c.loop-rest.nodes c.loop-rest.list)
          (operands_of c.push_next.new.nodes c.in_ok-list.list) c.loop-rest.rest.now c.loop-rest.left.types.now c.behind-left.result.types.now c.loop-rest.left.declared.now
          c.behind-left.result.declared.now c.in-len1-up.len_at_least i.3 i.2 c.in_ok-list.ensures.value c.behind-left.ensures.types c.behind-left.ensures.declared
          ∙ i.0,
      c.in_ok-list.ensures.within,
      parts_turn c.args.nodes.now c.loop-rest.rest.now c.in-len1-up.len_at_least i.2,
      grows_both c.args.nodes.now c.loop-rest.nodes c.push_next.new.nodes i.3 c.in_ok-list.ensures.grows,
    )
