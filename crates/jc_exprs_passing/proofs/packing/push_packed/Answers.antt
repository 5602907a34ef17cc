use Rattle.std.proofs.Common.{sym, ◌∙◌}
use Rattle.jc_typed.specs.Parts.{operands_of}
use Rattle.jc_typed.proofs.Growing.{grows_both}
use Rattle.jc_exprs_nodes.specs.Walks.{known}
use Rattle.jc_exprs_spec.specs.Calls.{erasures_of}
use Rattle.jc_exprs_passing.proofs.Passes.{packed_empty, packed_turn, parts_turn}
use Rattle.jc_exprs_passing.proofs.packing.push_packed.Goals as goal

pub returns-in_default-rest-clause-value : goal.returns-in_default-rest-clause-value
returns-in_default-rest-clause-value c =
    let T = c.args.judging.now.table.now in
    sym (packed_empty T c.args.judging.now.env.now.bounds (known c.args.nodes.now) c.args.place (operands_of c.loop-left.nodes c.loop-left.list) c.loop-left.rest.now c.loop-left.left.types.now
    (erasures_of T c.loop-left.left.declared.now) c.in_default-rest.len_below c.in-len2-up.len_at_least)
    ∙ c.loop-left.invariant.0

pub loop-left-preserved : goal.loop-left-preserved
loop-left-preserved c =
    let i = c.loop-left.invariant in (
      packed_turn c.args.judging.now.table.now c.args.judging.now.env.now.bounds c.args.nodes.now c.loop-left.nodes c.args.place (operands_of c.loop-left.nodes c.loop-left.list)
          (operands_of c.push_next.new.nodes c.in_ok-list-2.list) c.loop-left.rest.now c.loop-left.left.types.now c.behind-left.result.types.now c.loop-left.left.declared.now
          c.behind-left.result.declared.now c.in-len2-up.len_at_least c.in-len1-up.len_at_least i.3 i.2 c.in_ok-list-2.ensures.value c.behind-left.ensures.types c.behind-left.ensures.declared
          ∙ i.0,
      c.in_ok-list-2.ensures.within,
      parts_turn c.args.nodes.now c.loop-left.rest.now c.in-len1-up.len_at_least i.2,
      grows_both c.args.nodes.now c.loop-left.nodes c.push_next.new.nodes i.3 c.in_ok-list-2.ensures.grows,
    )
