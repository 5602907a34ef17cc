use Rattle.std.proofs.Common.{◌≡◌, ◌+◌, ◌++◌, List, length, take}
use Rattle.jc_class_out.specs.declared.model.MethodModel.{MethodModel}
use Rattle.jc_heap.specs.Signatures.{AreSignatures}
use Rattle.jc_heap.proofs.signatures.add_methods.Given as goal

-- the methods so far have their numbers
abbrev pub invariant-loop-method : goal.invariant-loop-method
invariant-loop-method l = record {
  next : l.next ≡ l.from + l.method-index;
  numbers : (before : List MethodModel) → l.from ≡ length before → AreSignatures before l.initial.numbers → AreSignatures (before ++ take l.method-index l.methods) l.numbers;
}
