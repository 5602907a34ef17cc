use Rattle.std.proofs.Common.{◌≤◌, length, arith}
use Rattle.jc_places.proofs.Beyond.{no_captures}
use Rattle.jc_places.proofs.nodes.captures_node.Goals as goal

pub returns-else-at-len-clause-value : goal.returns-else-at-len-clause-value
returns-else-at-len-clause-value c =
    let past : length c.args.nodes.now ≤ c.args.at = omega arith in
    no_captures c.args.nodes.now c.args.at past
