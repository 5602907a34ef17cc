use Rattle.std.proofs.Common.{◌≡◌, drop}
use Rattle.jc_types.specs.Breaks.{least}
use Rattle.jc_declares.specs.HeadBreaks.{of_each, twice_field}
use Rattle.jc_name_rules.proofs.members.fields_broken.Given as goal

abbrev pub invariant-loop-number : goal.invariant-loop-number
invariant-loop-number l = least l.found (of_each (twice_field l.heads) l.number (drop l.number l.fields)) ≡ least l.initial.found (of_each (twice_field l.heads) 0 l.fields)
