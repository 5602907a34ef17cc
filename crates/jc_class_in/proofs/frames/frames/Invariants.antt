use Rattle.std.proofs.Common.{◌≡◌, ◌-◌, None}
use Rattle.jc_class_out.specs.Frames.{frames_at}
use Rattle.jc_class_in.proofs.Rows.{with_front}
use Rattle.jc_class_in.proofs.Framed.{frames_behind}
use Rattle.jc_class_in.proofs.frames.frames.Given as goal

abbrev pub invariant-loop : goal.invariant-loop
invariant-loop l = with_front l.list (frames_behind l.pool l.marks l.entry (l.count - l.counter) l.list l.rest) ≡ frames_at l.pool l.marks l.count None l.entry l.bytes
