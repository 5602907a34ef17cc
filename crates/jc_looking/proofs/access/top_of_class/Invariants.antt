use Rattle.std.proofs.Common.{◌≡◌, drop}
use Rattle.jc_declares.specs.Heads.{last_or, round_of, top_of_class}
use Rattle.jc_looking.proofs.access.top_of_class.Given as goal

abbrev pub invariant-loop-outer : goal.invariant-loop-outer
invariant-loop-outer l = last_or l.top (drop l.outer-index (round_of l.heads l.class)) ≡ top_of_class l.heads l.class
