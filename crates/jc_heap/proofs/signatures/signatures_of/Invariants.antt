use Rattle.std.proofs.Common.{◌≡◌, length, take}
use Rattle.jc_heap.specs.Signatures.{AreSignatures, all_methods}
use Rattle.jc_heap.proofs.signatures.signatures_of.Given as goal

-- the methods of the classes so far have their numbers
abbrev pub invariant-loop-class : goal.invariant-loop-class
invariant-loop-class l = record {
  next : l.next ≡ length (all_methods (take l.class-index l.classes));
  numbers : AreSignatures (all_methods (take l.class-index l.classes)) l.numbers;
}
