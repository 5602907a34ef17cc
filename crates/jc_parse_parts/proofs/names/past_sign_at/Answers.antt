use Rattle.jc_reading.specs.Kinds.{sign_code}
use Rattle.jc_parse_parts.proofs.Insides.{shorter_place}
use Rattle.jc_parse_parts.proofs.names.past_sign_at.Goals as goal

pub returns-clause-shorter : goal.returns-clause-shorter
returns-clause-shorter c = shorter_place (sign_code c.args.sign) c.args.tokens.now c.place_of_sign.result c.place_of_sign.ensures.read
