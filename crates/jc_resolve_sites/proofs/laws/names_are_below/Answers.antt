use Rattle.jc_resolve_sites.proofs.Below.{named_below}
use Rattle.jc_resolve_sites.proofs.laws.names_are_below.Goals as goal

pub returns : goal.returns
returns c = λ n vars from t le. named_below n vars from t le
