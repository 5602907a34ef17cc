use Rattle.std.proofs.Common.{◌≡◌, ◌-◌, ◌==◌, length}
use Rattle.std.specs.List.{list_any}
use Rattle.jc_jvm.specs.Classes.{line_of}
use Rattle.jc_calls.proofs.OnLine.{is_on}
use Rattle.jc_calls.proofs.members.is_on_line.Given as goal

-- what is still to come gives the answer
abbrev pub invariant-loop-done : goal.invariant-loop-done
invariant-loop-done l = is_on l.classes l.class (length l.classes - l.done) l.here ≡ list_any (λ k. k == l.class) (line_of l.classes l.current)
