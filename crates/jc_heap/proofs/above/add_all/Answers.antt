use Rattle.jc_heap.proofs.Walks.{filled_step, fill_place}
use Rattle.jc_heap.proofs.above.add_all.Goals as goal

pub add-requires : goal.add-requires
add-requires c = fill_place c.args.classes.now c.loop-rest.rest.now c.args.marks.now.items c.loop-rest.marks.items c.args.found.now.items c.loop-rest.found.items c.in-len1-up.len_at_least c.requires c.loop-rest.invariant

pub loop-rest-preserved : goal.loop-rest-preserved
loop-rest-preserved c = filled_step c.args.classes.now c.loop-rest.rest.now c.args.marks.now.items c.loop-rest.marks.items c.add.new.marks.items c.args.found.now.items c.loop-rest.found.items c.add.new.found.items c.in-len1-up.len_at_least c.in_ok-add.ensures c.loop-rest.invariant
