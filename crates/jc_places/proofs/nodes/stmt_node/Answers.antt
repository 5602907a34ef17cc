use Rattle.std.proofs.Common.{◌≤◌, length, arith}
use Rattle.jc_places.proofs.Beyond.{no_stmt}
use Rattle.jc_places.proofs.nodes.stmt_node.Goals as goal

pub returns-else-at-len : goal.returns-else-at-len
returns-else-at-len c =
    let past : length c.args.nodes.now ≤ c.args.at = omega arith in
    no_stmt c.args.nodes.now c.args.at past
