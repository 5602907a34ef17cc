use Rattle.std.proofs.Common.{◌≡◌, length}
use Rattle.std.specs.List.{list_any}
use Rattle.jc_header_rules.specs.Inheriting.{is_left_open}
use Rattle.jc_class_rules.proofs.leaving.opens_some.Given as goal

abbrev pub invariant-loop-rest : goal.invariant-loop-rest
invariant-loop-rest l = list_any (is_left_open l.table l.k) l.rest ≡ list_any (is_left_open l.table l.k) l.fn.ids

abbrev pub decreases-loop-rest : goal.decreases-loop-rest
decreases-loop-rest l = length l.rest
