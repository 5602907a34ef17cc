use Rattle.std.proofs.Common.{◌≡◌, ◌-◌, None}
use Rattle.jc_class_out.specs.Pool.{slots_at}
use Rattle.jc_class_in.proofs.Rows.{with_front}
use Rattle.jc_class_in.proofs.entries.slots.Given as goal

abbrev pub invariant-loop : goal.invariant-loop
invariant-loop l = with_front l.slots.items (slots_at (l.count - l.counter) l.pending l.rest) ≡ slots_at l.count None l.bytes
