use Rattle.std.proofs.Common.{arith, refl}
use Rattle.jc_heap.proofs.Walks.{clear_place, cleared_step}
use Rattle.jc_heap.proofs.above.unmark.Goals as goal

pub index_mut-requires : goal.index_mut-requires
index_mut-requires c = let h = clear_place c.args.found.now c.loop-rest.rest.now c.args.marks.now.items c.loop-rest.marks.items c.in-len1-up.len_at_least c.requires.within c.loop-rest.invariant in omega (arith, h, c.loop-rest.marks.ok)

pub loop-rest-preserved : goal.loop-rest-preserved
loop-rest-preserved c = cleared_step c.args.found.now c.loop-rest.rest.now c.args.marks.now.items c.loop-rest.marks.items _ c.in-len1-up.len_at_least refl c.loop-rest.invariant
