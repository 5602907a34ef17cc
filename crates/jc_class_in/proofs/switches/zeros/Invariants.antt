use Rattle.std.proofs.Common.{◌≡◌, ◌-◌}
use Rattle.jc_class_out.specs.Instructions.{zeros_at}
use Rattle.jc_class_in.proofs.switches.zeros.Given as goal

abbrev pub invariant-loop : goal.invariant-loop
invariant-loop l = zeros_at (l.count - l.counter) l.rest ≡ zeros_at l.count l.bytes
