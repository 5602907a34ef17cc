use Rattle.std.proofs.Common.{◌≤◌, length, arith}
use Rattle.jc_places.proofs.Beyond.{no_catches}
use Rattle.jc_places.proofs.nodes.catches_node.Goals as goal

pub returns-else-at-len-clause-value : goal.returns-else-at-len-clause-value
returns-else-at-len-clause-value c =
    let past : length c.args.nodes.now ≤ c.args.at = omega arith in
    no_catches c.args.nodes.now c.args.at past
