use Rattle.std.proofs.Common.{◌≡◌, length}
use Rattle.std.specs.List.{list_any}
use Rattle.jc_class_rules.specs.Grouping.{meets_badly}
use Rattle.jc_class_rules.proofs.meeting.disagrees_some.Given as goal

abbrev pub invariant-loop-rest : goal.invariant-loop-rest
invariant-loop-rest l = list_any (meets_badly l.table l.k l.v) l.rest ≡ list_any (meets_badly l.table l.k l.v) l.fn.members

abbrev pub decreases-loop-rest : goal.decreases-loop-rest
decreases-loop-rest l = length l.rest
