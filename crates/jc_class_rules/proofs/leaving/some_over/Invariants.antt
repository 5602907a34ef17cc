use Rattle.std.proofs.Common.{◌≡◌, length}
use Rattle.std.specs.List.{list_any}
use Rattle.jc_class_rules.specs.Lasting.{has_over}
use Rattle.jc_class_rules.proofs.leaving.some_over.Given as goal

abbrev pub invariant-loop-rest : goal.invariant-loop-rest
invariant-loop-rest l = list_any (has_over l.table l.k l.m) l.rest ≡ list_any (has_over l.table l.k l.m) l.fn.ids

abbrev pub decreases-loop-rest : goal.decreases-loop-rest
decreases-loop-rest l = length l.rest
