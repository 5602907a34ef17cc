use Rattle.std.proofs.Common.{rules}
use Rattle.jc_reading.specs.Reading.{an_ident_at}
use Rattle.jc_reading.proofs.Nears.{near_picking}
use Rattle.jc_part_laws.specs.PartReading.{more_names_run}
use Rattle.jc_parse_parts.proofs.names.more_names.Goals as goal

pub each-requires : goal.each-requires
each-requires c κs = (search rules, (λ ts h. tt, (an_ident_at, near_picking _, λ ts r p. search rules)))

pub returns-clause-read : goal.returns-clause-read
unfolding more_names_run
returns-clause-read c = c.each.ensures.read an_ident_at (near_picking _) (λ ts r p. search rules)
