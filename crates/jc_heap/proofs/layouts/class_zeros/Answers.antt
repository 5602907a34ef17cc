use Rattle.std.proofs.Common.{◌∙◌, arith}
use Rattle.jc_heap.proofs.FieldLayouts.{class_zeros_are}
use Rattle.jc_heap.proofs.layouts.class_zeros.Goals as goal

pub returns : goal.returns
returns c =
    class_zeros_are c.args.classes.now c.args.class c.loop-number.found c.slice-number-items.result.now c.loop-number.number-index c.loop-number.invariant (omega arith) (c.slice-number-items.ensures ∙ c.in_ok-line.ensures)
