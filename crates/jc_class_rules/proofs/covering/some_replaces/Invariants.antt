use Rattle.std.proofs.Common.{◌≡◌, length}
use Rattle.std.specs.List.{list_any}
use Rattle.jc_class_rules.specs.Grouping.{own_replaces}
use Rattle.jc_class_rules.proofs.covering.some_replaces.Given as goal

abbrev pub invariant-loop-rest : goal.invariant-loop-rest
invariant-loop-rest l = list_any (own_replaces l.table l.k l.m) l.rest ≡ list_any (own_replaces l.table l.k l.m) l.fn.own

abbrev pub decreases-loop-rest : goal.decreases-loop-rest
decreases-loop-rest l = length l.rest
