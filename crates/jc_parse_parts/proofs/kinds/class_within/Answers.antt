use Rattle.jc_parse_type.specs.TypeReading.{class_run}
use Rattle.jc_parse_parts.proofs.Insides.{shorter_by}
use Rattle.jc_parse_expr.proofs.PrimeNears.{near_class}
use Rattle.jc_parse_parts.proofs.kinds.class_within.Goals as goal

pub returns-clause-shorter : goal.returns-clause-shorter
returns-clause-shorter c = shorter_by (class_run c.args.height) c.args.tokens.now c.class_within.result (near_class c.args.height) c.class_within.ensures
