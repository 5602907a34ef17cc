use Rattle.std.proofs.Common.{◌≡◌, drop}
use Rattle.jc_declares.specs.Looking.{last_part}
use Rattle.jc_name_rules.proofs.singles.last_part.Given as goal

abbrev pub invariant-loop-part : goal.invariant-loop-part
invariant-loop-part l = last_part l.last (drop l.part-index l.part-items) ≡ last_part l.initial.last l.part-items
