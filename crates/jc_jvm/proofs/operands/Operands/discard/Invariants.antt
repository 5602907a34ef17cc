use Rattle.std.proofs.Common.{◌≡◌, drop}
use Rattle.jc_jvm.proofs.operands.Operands.discard.Given as goal

-- what is left
abbrev pub invariant-loop-taken : goal.invariant-loop-taken
invariant-loop-taken l = record {
  values : l.self.values ≡ drop l.taken l.initial.self.values;
  limit : l.self.limit ≡ l.initial.self.limit;
}
