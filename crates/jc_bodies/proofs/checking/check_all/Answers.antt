use Rattle.std.proofs.Common.{◌-◌, Option, ap, arith, length}
use Rattle.std.proofs.lemmas.List.{length-replicate}
use Rattle.jc_typed.specs.declared.program.TypedMethod.{TypedMethod}
use Rattle.jc_stmts_whole.specs.Programs.{heads_in, knowledge_in}
use Rattle.jc_bodies.proofs.OneMore.{nothing_checked, one_more}
use Rattle.jc_bodies.proofs.checking.check_all.Goals as goal

pub loop-left-init : goal.loop-left-init
loop-left-init c =
    let p = c.args.program.now in
    record {
      within = omega arith;
      length = omega (arith, ap length c.in_ok-typing.ensures.slots, length-replicate {A = Option TypedMethod});
      checked = nothing_checked p.table.now (heads_in p) (knowledge_in p) c.args.bodies.now _ c.in_ok-typing.typing c.in_ok-typing.ensures.found c.in_ok-typing.ensures.slots;
    }

pub loop-left-preserved : goal.loop-left-preserved
loop-left-preserved c =
    let p = c.args.program.now in
    record {
      within = omega arith;
      length = omega (arith, c.in_ok-check_one.ensures.length, c.loop-left.invariant.length);
      checked =
          one_more p.table.now (heads_in p) (knowledge_in p) c.args.bodies.now c.in_ok-calls.calls.calls.now (c.loop-left.left - 1) c.loop-left.left c.index-bodies-left.result c.loop-left.typing c.check_one.new.typing c.in_ok-calls.ensures.calls
          c.index-bodies-left.is (omega arith) (omega arith) c.in_ok-check_one.ensures.checked c.loop-left.invariant.checked;
    }
