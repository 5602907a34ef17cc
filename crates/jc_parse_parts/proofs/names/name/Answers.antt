use Rattle.jc_reading.specs.Reading.{an_ident_at}
use Rattle.jc_reading.proofs.Nears.{near_picking}
use Rattle.jc_parse_parts.proofs.Insides.{shorter_by}
use Rattle.jc_parse_parts.proofs.names.name.Goals as goal

pub returns-clause-shorter : goal.returns-clause-shorter
returns-clause-shorter c = shorter_by an_ident_at c.args.tokens.now c.identifier.result (near_picking _) c.identifier.ensures
