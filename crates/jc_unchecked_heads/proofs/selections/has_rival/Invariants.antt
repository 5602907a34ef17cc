use Rattle.std.proofs.Common.{◌≡◌, ◌<◌, length}
use Rattle.std.specs.List.{list_any}
use Rattle.jc_unchecked_heads.specs.Asked.{is_rival}
use Rattle.jc_unchecked_heads.proofs.selections.has_rival.Given as goal

abbrev pub invariant-loop-rest : goal.invariant-loop-rest
invariant-loop-rest l = list_any (is_rival l.table l.k l.m) l.rest ≡ list_any (is_rival l.table l.k l.m) l.fn.ids

abbrev pub decreases-loop-rest : goal.decreases-loop-rest
decreases-loop-rest l = length l.rest
