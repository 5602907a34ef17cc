use Rattle.std.proofs.Common.{◌∙◌}
use Rattle.jc_declares.specs.Making.{place_at}
use Rattle.jc_looking.specs.Members.{known_in}
use Rattle.jc_written.specs.At.{reading_at}
use Rattle.jc_written.proofs.Turns.{meant_turn, placed_turn}
use Rattle.jc_written.proofs.types.+types.Goals as goal

pub push_args-loop-arg-preserved : goal.push_args-loop-arg-preserved
push_args-loop-arg-preserved t c =
    let H = c.args.scene.now.declared.heads.now in let K = known_in c.args.scene.now.known.now in
    record {
      list =
          meant_turn H K (reading_at H K c.args.reading) c.args.file c.loop-arg.list c.push.new.self c.args.args.now c.loop-arg.arg-index c.arg-item.result c.in_ok-one.one c.loop-arg-test.true c.arg-item.is c.in_ok-one.ensures.arg c.in_ok-push.ensures.ok
          ∙ c.loop-arg.invariant.list;
      places =
          placed_turn H K (reading_at H K c.args.reading) c.args.file (place_at c.args.file) c.loop-arg.places c.type_arg.new.places c.args.args.now c.loop-arg.arg-index c.arg-item.result c.loop-arg-test.true c.arg-item.is c.in_ok-one.ensures.places
          ∙ c.loop-arg.invariant.places;
    }
