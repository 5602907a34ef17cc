use Rattle.jc_type_laws.proofs.OneType.{types_differ_in_tokens}
use Rattle.jc_type_laws.proofs.types_differ_in_tokens.Goals as goal

pub returns : goal.returns
returns c = types_differ_in_tokens
