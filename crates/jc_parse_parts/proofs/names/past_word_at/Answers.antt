use Rattle.jc_reading.specs.Kinds.{key_code}
use Rattle.jc_parse_parts.proofs.Insides.{shorter_place}
use Rattle.jc_parse_parts.proofs.names.past_word_at.Goals as goal

pub returns-clause-shorter : goal.returns-clause-shorter
returns-clause-shorter c = shorter_place (key_code c.args.key) c.args.tokens.now c.place_of_key.result c.place_of_key.ensures.read
