use Rattle.std.proofs.Common.{◌≡◌, drop}
use Rattle.jc_calls.specs.Handled.{handled_at}
use Rattle.jc_calls.proofs.handlers.place_for.Given as goal

-- what is left gives the same place
abbrev pub invariant-loop-row : goal.invariant-loop-row
invariant-loop-row l = handled_at l.classes l.thrown l.at (drop l.row-index l.rows) ≡ handled_at l.classes l.thrown l.at l.rows
