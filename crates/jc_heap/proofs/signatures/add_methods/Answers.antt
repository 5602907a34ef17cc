use Rattle.std.proofs.Common.{◌+◌, ◌++◌, List, arith, subst, sym}
use Rattle.std.proofs.lemmas.List.{append-nil, take_all}
use Rattle.jc_class_out.specs.declared.model.MethodModel.{MethodModel}
use Rattle.jc_heap.proofs.Signing.{signatures_step}
use Rattle.jc_heap.specs.Signatures.{AreSignatures}
use Rattle.jc_heap.proofs.signatures.add_methods.Goals as goal

pub loop-method-init : goal.loop-method-init
loop-method-init c = record {
  next = omega arith;
  numbers = λ before e so. subst (λ (ms : List MethodModel). AreSignatures ms c.args.numbers.now) (sym (append-nil before)) so;
}

pub loop-method-preserved : goal.loop-method-preserved
loop-method-preserved c = record {
  next = omega (arith, c.loop-method.invariant.next, c.in_ok-next.ensures);
  numbers = λ before e so.
      signatures_step c.args.methods.now before c.loop-method.method-index c.args.from c.loop-method.next c.method-item.result c.loop-method.numbers c.add_signature.new.numbers c.slice.result.now c.slice-in-loop-method.result.now
      c.loop-method-test.true c.loop-method.invariant.next e c.method-item.is c.slice.ensures c.slice-in-loop-method.ensures (c.loop-method.invariant.numbers before e so) c.in_ok-add_signature.ensures;
}

pub returns-clause-numbers : goal.returns-clause-numbers
returns-clause-numbers c = λ before e so.
    subst (λ (ms : List MethodModel). AreSignatures (before ++ ms) c.loop-method.numbers) (take_all c.loop-method.method-index c.args.methods.now (omega (arith, c.loop-method-test.false))) (c.loop-method.invariant.numbers before e so)
