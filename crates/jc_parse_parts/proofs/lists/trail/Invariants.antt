use Rattle.std.proofs.Common.{◌≤◌, length}
use Rattle.jc_reading.specs.Giving.{Gives}
use Rattle.jc_reading.specs.Reading.{Run, any_number}
use Rattle.jc_reading.specs.Reach.{Near, onto}
use Rattle.jc_reading.proofs.Turns.{Resumes}
use Rattle.jc_parse_parts.proofs.Growths.{led}
use Rattle.jc_parse_parts.proofs.lists.trail.Given as goal

abbrev pub invariant-turns : goal.invariant-turns
invariant-turns g l =
    (length l.rest ≤ length l.fn.tokens)
    × ((run : Run g.row.T.Denot) → Near run → ((ts : _) (r : _) → goal.F-post g l.fn.read ts r → Gives r (run ts.now)) → Resumes (onto l.fn.items l.fn.left (any_number (led l.fn.sign run) l.fn.tokens)) l.items l.left (led l.fn.sign run) l.rest)

abbrev pub decreases-turns : goal.decreases-turns
decreases-turns g l = length l.rest
