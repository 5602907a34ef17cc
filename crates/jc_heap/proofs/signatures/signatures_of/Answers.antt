use Rattle.std.proofs.Common.{List, arith, subst}
use Rattle.std.proofs.lemmas.List.{take_all}
use Rattle.jc_class_out.specs.declared.model.ClassModel.{ClassModel}
use Rattle.jc_heap.proofs.Signing.{class_added, signatures_none}
use Rattle.jc_heap.specs.Signatures.{AreSignatures, all_methods}
use Rattle.jc_heap.proofs.signatures.signatures_of.Goals as goal

pub loop-class-init : goal.loop-class-init
loop-class-init c = record { next = omega arith; numbers = signatures_none c.new-numbers.result c.new-numbers.ensures }

pub loop-class-preserved : goal.loop-class-preserved
loop-class-preserved c =
    let more = class_added c.args.classes.now c.loop-class.class-index c.class-item.result c.slice.result.now c.loop-class.next c.in_ok-next.next c.loop-class.numbers c.add_methods.new.numbers
    c.loop-class-test.true c.class-item.is c.slice.ensures c.loop-class.invariant.next c.loop-class.invariant.numbers c.in_ok-next.ensures.next c.in_ok-next.ensures.numbers in
    record { next = more.0; numbers = more.1 }

pub returns : goal.returns
returns c = subst (λ (cs : List ClassModel). AreSignatures (all_methods cs) c.loop-class.numbers) (take_all c.loop-class.class-index c.args.classes.now (omega (arith, c.loop-class-test.false))) c.loop-class.invariant.numbers
