use Rattle.std.proofs.Common.{◌≡◌, ◌-◌}
use Rattle.jc_waiting.proofs.Walked.{walked}
use Rattle.jc_waiting.specs.declared.alone.Uppermost.TheVariants.{Absent}
use Rattle.jc_waiting.proofs.alone.initialise_alone.Given as goal

-- the rest of the walk tells what the whole does
abbrev pub invariant-loop-walked : goal.invariant-loop-walked
invariant-loop-walked l = walked l.classes (l.steps - l.walked) l.here l.world l.uppermost ≡ walked l.classes l.steps l.class l.initial.world Absent
