use Rattle.std.proofs.Common.{◌≡◌, ◌*◌, ◌+◌, ◌++◌, length, take, map}
use Rattle.jc_lub.specs.Columns.{joined_from}
use Rattle.jc_lub.specs.Lubs.{join, joined_at}
use Rattle.jc_lub.proofs.joining.+lub.Given as goal

abbrev pub decreases-join : goal.decreases-join
decreases-join l = 16 * l.levels + 0

abbrev pub decreases-joined : goal.decreases-joined
decreases-joined l = 16 * l.levels + 1

abbrev pub decreases-joined_columns : goal.decreases-joined_columns
decreases-joined_columns l = 16 * l.levels + 2

abbrev pub decreases-joined_at : goal.decreases-joined_at
decreases-joined_at l = 16 * l.levels + 3

abbrev pub decreases-all_joined : goal.decreases-all_joined
decreases-all_joined l = 16 * l.levels + 4

abbrev pub decreases-by_supers : goal.decreases-by_supers
decreases-by_supers l = 16 * l.levels + 5

abbrev pub decreases-arrays_and_supers : goal.decreases-arrays_and_supers
decreases-arrays_and_supers l = 16 * l.levels + 6

abbrev pub decreases-unless_same : goal.decreases-unless_same
decreases-unless_same l = 16 * l.levels + 7

abbrev pub decreases-through : goal.decreases-through
decreases-through l = 16 * l.levels + 8

abbrev pub invariant-joined_columns-loop-rest : goal.invariant-joined_columns-loop-rest
invariant-joined_columns-loop-rest l = l.out ++ joined_from (join l.table l.env l.levels) l.views l.place l.rest ≡ joined_from (join l.table l.env l.levels) l.views 0 l.vars

abbrev pub decreases-joined_columns-loop-rest : goal.decreases-joined_columns-loop-rest
decreases-joined_columns-loop-rest l = length l.rest

abbrev pub invariant-all_joined-loop-i : goal.invariant-all_joined-loop-i
invariant-all_joined-loop-i l = l.out ≡ map (joined_at l.table l.env (join l.table l.env l.levels) l.types) (take l.i l.ids)
