use Rattle.jc_components.proofs.Walks.{filled_step, fill_place}
use Rattle.jc_components.proofs.searching.add_all.Goals as goal

pub add-requires : goal.add-requires
add-requires c = fill_place c.args.xs.now c.loop-rest.rest.now c.args.marks.now.items c.loop-rest.marks.items c.args.reached.now.items c.loop-rest.reached.items c.in-len1-up.len_at_least c.requires c.loop-rest.invariant

pub loop-rest-preserved : goal.loop-rest-preserved
loop-rest-preserved c = filled_step c.args.xs.now c.loop-rest.rest.now c.args.marks.now.items c.loop-rest.marks.items c.add.new.marks.items c.args.reached.now.items c.loop-rest.reached.items c.add.new.reached.items c.in-len1-up.len_at_least c.in_ok-add.ensures c.loop-rest.invariant
