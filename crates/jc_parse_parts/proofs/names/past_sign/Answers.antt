use Rattle.jc_reading.specs.Kinds.{sign_code}
use Rattle.jc_parse_parts.proofs.Insides.{shorter_rest}
use Rattle.jc_parse_parts.proofs.names.past_sign.Goals as goal

pub returns-clause-shorter : goal.returns-clause-shorter
returns-clause-shorter c = shorter_rest (sign_code c.args.sign) c.args.tokens.now c.behind_sign.result c.behind_sign.ensures.read
