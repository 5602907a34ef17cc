use Rattle.std.proofs.Common.{◌≡◌, drop, length}
use Rattle.jc_jvm.specs.Calls.{all_of_sorts}
use Rattle.jc_calls.proofs.arguments.are_of_sorts.Given as goal

-- what is left gives the same answer
abbrev pub invariant-loop-i : goal.invariant-loop-i
invariant-loop-i l = record { same : all_of_sorts (drop l.i l.sorts) (drop l.i l.values) ≡ all_of_sorts l.sorts l.values; long : length l.sorts ≡ length l.values }
