use Rattle.jc_evaluate.proofs.Onward.{none_left, taken_from}
use Rattle.jc_evaluate.proofs.turning.do_all.Goals as goal

pub returns-in-None : goal.returns-in-None
returns-in-None c = λ w h. c.ended.ensures c.loop-turn.run w
    (none_left c.args.program.now c.loop-turn.stack c.loop-turn.now c.loop-turn.run w c.in-None.ensures.0 (c.loop-turn.invariant w h))

pub loop-turn-preserved : goal.loop-turn-preserved
loop-turn-preserved c = λ w h. c.turn-now.ensures w (taken_from c.args.program.now c.loop-turn.stack c.pop.new.self c.in-Some.entry c.loop-turn.now c.loop-turn.run w c.in-Some.ensures (c.loop-turn.invariant w h))
