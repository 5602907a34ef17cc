use Rattle.std.proofs.Common.{arith, append_assoc}
use Rattle.jc_small.proofs.emitting.emit_write.Goals as goal

pub returns : goal.returns
returns c = rw (c.in_ok-push-2.ensures.ok, c.in_ok-emit_sum.ensures, c.in_ok-push.ensures.ok, c.in_ok-member.ensures, c.in_ok-member-2.ensures) (simp append_assoc)
