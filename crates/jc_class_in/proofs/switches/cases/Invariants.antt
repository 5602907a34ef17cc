use Rattle.std.proofs.Common.{◌≡◌, ◌-◌, None}
use Rattle.jc_class_out.specs.Instructions.{cases_at}
use Rattle.jc_class_in.proofs.Rows.{with_front}
use Rattle.jc_class_in.proofs.switches.cases.Given as goal

abbrev pub invariant-loop : goal.invariant-loop
invariant-loop l = with_front l.list (cases_at (l.count - l.counter) l.at l.before l.rest) ≡ cases_at l.count l.at None l.bytes
