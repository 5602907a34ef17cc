use Rattle.std.proofs.Common.{◌≡◌, ◌++◌, drop}
use Rattle.jc_settling.proofs.needed.push_all.Given as goal

abbrev pub invariant-loop-class : goal.invariant-loop-class
invariant-loop-class l = l.list ++ drop l.class-index l.more ≡ l.initial.list ++ l.more
