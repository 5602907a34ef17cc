use Rattle.std.proofs.Common.{◌≡◌, drop}
use Rattle.jc_written.specs.Trees.{last_in}
use Rattle.jc_written.proofs.breaks.last_args.Given as goal

abbrev pub invariant-loop-part : goal.invariant-loop-part
invariant-loop-part l = last_in l.last (drop l.part-index l.part-items) ≡ last_in l.initial.last l.part-items
