use Rattle.std.proofs.Common.{◌≡◌, None, replicate}
use Rattle.jc_exprs_known_fields.proofs.constants.none_known.Given as goal

abbrev pub invariant-loop-field : goal.invariant-loop-field
invariant-loop-field l = l.values.items ≡ replicate l._field None
