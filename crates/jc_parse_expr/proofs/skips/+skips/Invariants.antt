use Rattle.std.proofs.Common.{◌≡◌, ◌+◌, ◌*◌, length}
use Rattle.jc_tree.specs.Heights.{capped}
use Rattle.jc_reading.specs.Reading.{any_number}
use Rattle.jc_reading.proofs.Turns.{Resumes}
use Rattle.jc_parse_expr.specs.PrimeCode.{skip_item_run, skip_parts_height}
use Rattle.jc_parse_expr.proofs.skips.+skips.Given as goal

abbrev pub decreases-skip : goal.decreases-skip
decreases-skip l = 3 * l.height

abbrev pub decreases-skip_part : goal.decreases-skip_part
decreases-skip_part l = 3 * l.height + 1

abbrev pub decreases-skip_parts : goal.decreases-skip_parts
decreases-skip_parts l = 3 * l.height + 2

abbrev pub invariant-skip_parts-parts : goal.invariant-skip_parts-parts
invariant-skip_parts-parts l =
    Resumes (any_number (skip_item_run l.height) l.fn.tokens) l.parts l.left (skip_item_run l.height) l.rest × (l.most ≡ capped (skip_parts_height l.parts))

abbrev pub decreases-skip_parts-parts : goal.decreases-skip_parts-parts
decreases-skip_parts-parts l = length l.rest
