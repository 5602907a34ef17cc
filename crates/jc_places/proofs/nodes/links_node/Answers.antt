use Rattle.std.proofs.Common.{◌≤◌, length, arith}
use Rattle.jc_places.proofs.Beyond.{no_links}
use Rattle.jc_places.proofs.nodes.links_node.Goals as goal

pub returns-else-at-len-clause-value : goal.returns-else-at-len-clause-value
returns-else-at-len-clause-value c =
    let past : length c.args.nodes.now ≤ c.args.at = omega arith in
    no_links c.args.nodes.now c.args.at past
