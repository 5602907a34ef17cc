use Rattle.std.proofs.Common.{length}
use Rattle.jc_reading.specs.Reading.{any_number}
use Rattle.jc_reading.proofs.Turns.{Resumes}
use Rattle.jc_parse_expr.specs.SpecialCode.{dot_name_run}
use Rattle.jc_parse_expr.proofs.specials.more_names.Given as goal

abbrev pub invariant-dots : goal.invariant-dots
invariant-dots l = Resumes (any_number dot_name_run l.fn.tokens) l.names l.left dot_name_run l.rest

abbrev pub decreases-dots : goal.decreases-dots
decreases-dots l = length l.rest
