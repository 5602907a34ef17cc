use Rattle.jc_resolve_sites.proofs.Apart.{arguments_apart}
use Rattle.jc_resolve_sites.proofs.laws.arguments_are_apart.Goals as goal

pub returns : goal.returns
returns c = λ n vars by declared. arguments_apart n vars by declared
