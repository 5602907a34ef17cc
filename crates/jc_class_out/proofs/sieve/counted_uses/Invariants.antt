use Rattle.std.proofs.Common.{◌≡◌, ◌≤◌, ◌*◌}
use Rattle.std.specs.List.{filter}
use Rattle.jc_class_out.specs.Spelling.{uses}
use Rattle.jc_class_out.specs.Fitting.{places}
use Rattle.jc_class_out.proofs.Sieves.{is_below}
use Rattle.jc_class_out.proofs.sieve.counted_uses.Given as goal

abbrev pub invariant-loop-bucket : goal.invariant-loop-bucket
invariant-loop-bucket l = record { counted : l.total ≡ places (filter (is_below l.bucket) (uses l.class)); few : l.total ≤ 1024 * l.bucket }
