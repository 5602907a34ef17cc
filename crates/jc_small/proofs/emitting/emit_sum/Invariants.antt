use Rattle.std.proofs.Common.{◌≡◌, ◌≤◌, drop, ◌++◌}
use Rattle.std.specs.List.{AllByRecursion}
use Rattle.jc_small.specs.ClassOf.{more_code}
use Rattle.jc_small.proofs.emitting.emit_sum.Given as goal

abbrev pub invariant-loop-n : goal.invariant-loop-n
invariant-loop-n l = record { code : l.code ++ more_code (drop l.n-index l.more) ≡ l.initial.code ++ more_code l.more; small : AllByRecursion (λ n. n ≤ 2147483647) (drop l.n-index l.more) }
