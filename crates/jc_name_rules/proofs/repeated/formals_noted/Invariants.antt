use Rattle.std.proofs.Common.{◌≡◌, [], drop}
use Rattle.jc_name_index.specs.Spaces.{noted_all}
use Rattle.jc_name_rules.specs.Numbers.{as_formal}
use Rattle.jc_name_rules.proofs.repeated.formals_noted.Given as goal

abbrev pub invariant-loop-number : goal.invariant-loop-number
invariant-loop-number l = noted_all as_formal l.number (drop l.number l.formals) l.noted ≡ noted_all as_formal 0 l.formals []
