use Rattle.std.proofs.Common.{◌≡◌, [], drop}
use Rattle.jc_name_index.specs.Spaces.{noted_all}
use Rattle.jc_name_rules.specs.Numbers.{as_field}
use Rattle.jc_name_rules.proofs.members.fields_noted.Given as goal

abbrev pub invariant-loop-number : goal.invariant-loop-number
invariant-loop-number l = noted_all as_field l.number (drop l.number l.fields) l.noted ≡ noted_all as_field 0 l.fields []
