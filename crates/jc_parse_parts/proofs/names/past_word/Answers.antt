use Rattle.jc_reading.specs.Kinds.{key_code}
use Rattle.jc_parse_parts.proofs.Insides.{shorter_rest}
use Rattle.jc_parse_parts.proofs.names.past_word.Goals as goal

pub returns-clause-shorter : goal.returns-clause-shorter
returns-clause-shorter c = shorter_rest (key_code c.args.key) c.args.tokens.now c.behind_key.result c.behind_key.ensures.read
