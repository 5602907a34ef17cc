use Rattle.std.proofs.Common.{◌≡◌, subst, sym}
use Rattle.jc_types.specs.declared.ids.MethodId.{MethodId}
use Rattle.jc_running.specs.Outcomes.{Val}
use Rattle.jc_pending.specs.Frames.{all_to_do, at_the_end, begun, left_to_do}
use Rattle.jc_pending.specs.Level.{nodes_of}
use Rattle.jc_evaluate.proofs.Onward.{put_behind}
use Rattle.jc_evaluate.proofs.turning.begin_behind.Goals as goal

pub returns : goal.returns
returns c = λ P r w h. c.begin.ensures P r w
    (put_behind P c.args.stack.now c.push.new.self c.args.level c.args.todo (nodes_of P c.args.deeper.method) c.args.deeper.depth c.args.task r w c.in_ok-push.ensures.ok
    (subst (λ (m : MethodId). begun P (nodes_of P m) c.args.deeper.depth c.args.task (left_to_do P (nodes_of P c.args.level.method) c.args.level.depth c.args.todo (all_to_do P at_the_end c.args.stack.now)) (Val tt r.units r.state) ≡ w)
    (sym c.requires) h))
