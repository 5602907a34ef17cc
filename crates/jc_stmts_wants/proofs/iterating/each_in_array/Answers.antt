use Rattle.jc_exprs_nodes.proofs.Staying.{known_stays}
use Rattle.jc_exprs_worlds.specs.Scenes.{world_of}
use Rattle.jc_stmts_wants.proofs.iterating.each_in_array.Goals as goal

pub returns-clause-value : goal.returns-clause-value
unfolding world_of
returns-clause-value c =
    let ns = c.args.walk.now.nodes in
    let ms = c.push_array.new.nodes in
    let part = c.args.settled.part in
    let e = c.in_ok-over.ensures in
    rw (e.over.0, e.over.1, e.of, e.guards, known_stays ns ms part.at e.grows c.requires.0.below.0) at c.each_of.ensures.value
