use Rattle.jc_parse_type.specs.TypeReading.{dims_run}
use Rattle.jc_parse_expr.proofs.PrimeNears.{near_dims}
use Rattle.jc_parse_parts.proofs.kinds.dims.Goals as goal
use Rattle.jc_reading.proofs.Nears.{near_left}

pub returns-clause-shorter : goal.returns-clause-shorter
returns-clause-shorter c = near_left dims_run c.args.tokens.now c.dims.result.rest.now c.dims.result.value c.dims.result.left near_dims c.dims.ensures
