-- What a cast goes to, by the layers of a type.
use Rattle.jc_types.proofs.Opened.{opened}

pub ruleset layers = opened
