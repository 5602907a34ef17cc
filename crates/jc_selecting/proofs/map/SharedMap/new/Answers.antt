use Rattle.std.proofs.Common.{◌+◌}
use Rattle.jc_selecting.proofs.Bits.{held_none}
use Rattle.jc_selecting.proofs.map.SharedMap.new.Goals as goal

pub returns : goal.returns
returns c = λ k. held_none (k + 1) k
