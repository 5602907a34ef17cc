use Rattle.std.proofs.Common.{◌≡◌, ◌-◌, [], reverse}
use Rattle.jc_jvm.specs.Objects.{lengths_on}
use Rattle.jc_nests.proofs.lengths.pop_lengths.Given as goal

-- what is left gives the same
abbrev pub invariant-loop-taken : goal.invariant-loop-taken
invariant-loop-taken l = record {
  same : lengths_on (l.count - l.taken) (reverse l.found.items) l.stack.values ≡ lengths_on l.count [] l.initial.stack.values;
  limit : l.stack.limit ≡ l.initial.stack.limit;
}
