use Rattle.std.proofs.Common.{ℕ, List, ◌++◌, ◌∙◌, ap}
use Rattle.jc_jvm.specs.Classes.{class_named, listed}
use Rattle.jc_heap.proofs.Below.{named_more}
use Rattle.jc_heap.proofs.supers.add_interfaces.Goals as goal

pub loop-name-preserved : goal.loop-name-preserved
loop-name-preserved c =
    named_more (class_named c.args.classes.now) c.slice-name-items.result.now c.loop-name.name-index c.name-item.result c.args.found.now c.loop-name.found c.add_named.new.found
    c.loop-name-test.true c.name-item.is
    (c.in_ok-add_named.ensures ∙ ap (λ (name : List ℕ). c.loop-name.found ++ listed (class_named c.args.classes.now name)) c.slice.ensures)
    c.loop-name.invariant
