use Rattle.std.proofs.Common.{◌-◌, drop, length, refl, arith}
use Rattle.std.proofs.lemmas.List.{take_all, length-drop}
use Rattle.jc_nests.proofs.Nested.{nest_begins, nest_more}
use Rattle.jc_nests.proofs.nests.+make_nest.Goals as goal

pub loop-made-init : goal.loop-made-init
loop-made-init t c =
    let ls = c.args.lengths.now in
    nest_begins c.args.heap.now c.make_outer.new.heap ls _ c.args.of c.with_less_dims-inner.result c.in_ok-far-in-len2-up.far _ _ (omega arith) c.in-len2-up.len_at_least
    (take_all (length ls - 1) (drop 1 ls) (omega (arith, length-drop 1 ls))) refl c.in_ok-far-in-len2-up.ensures c.with_less_dims-inner.ensures c.in_ok-make_outer-in-len2-up.ensures

pub loop-made-preserved : goal.loop-made-preserved
loop-made-preserved t c =
    nest_more c.loop-made.heap c.make_nest.new.heap _ _ c.with_less_dims-inner.result _ c.loop-made.made c.loop-made-test.true c.in_ok-make_nest-in-len2-up.ensures c.loop-made.invariant
