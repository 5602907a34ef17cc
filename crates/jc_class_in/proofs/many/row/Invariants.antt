use Rattle.std.proofs.Common.{◌≡◌, ◌-◌}
use Rattle.jc_class_out.specs.Reading.{many}
use Rattle.jc_class_in.proofs.Rows.{with_front}
use Rattle.jc_class_in.proofs.many.row.Given as goal

abbrev pub invariant-loop : goal.invariant-loop
invariant-loop g l = with_front l.list (many (g.P.Part.reads l.part) (l.count - l.counter) l.rest) ≡ many (g.P.Part.reads l.part) l.count l.bytes
