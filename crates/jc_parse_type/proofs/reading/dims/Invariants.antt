use Rattle.std.proofs.Common.{◌≡◌, ◌+◌, ◌≤◌, List, length}
use Rattle.jc_reading.specs.Reading.{any_number}
use Rattle.jc_reading.proofs.Turns.{Resumes}
use Rattle.jc_parse_type.specs.TypeReading.{bracket_run}
use Rattle.jc_parse_type.proofs.reading.dims.Given as goal

abbrev pub invariant-pairs : goal.invariant-pairs
invariant-pairs l =
    (list : List (Unit {0} × Unit {0})) × (length list ≡ l.dims) × (l.dims + length l.rest ≤ length l.fn.tokens)
    × Resumes (any_number bracket_run l.fn.tokens) list l.left bracket_run l.rest

abbrev pub decreases-pairs : goal.decreases-pairs
decreases-pairs l = length l.rest
