use Rattle.jc_parse_type.specs.TypeReading.{type_run}
use Rattle.jc_parse_parts.proofs.Insides.{shorter_by}
use Rattle.jc_parse_parts.proofs.PartInsides.{type_inside}
use Rattle.jc_parse_parts.proofs.kinds.type_within.Goals as goal

pub returns-clause-shorter : goal.returns-clause-shorter
returns-clause-shorter c = shorter_by (type_run c.args.height) c.args.tokens.now c.type_within.result (type_inside c.args.height) c.type_within.ensures
