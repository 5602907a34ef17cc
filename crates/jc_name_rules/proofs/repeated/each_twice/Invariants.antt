use Rattle.std.proofs.Common.{◌≡◌, drop}
use Rattle.jc_types.specs.Breaks.{least}
use Rattle.jc_declares.specs.Breaks.{twice_formal}
use Rattle.jc_declares.specs.HeadBreaks.{of_each}
use Rattle.jc_name_rules.proofs.repeated.each_twice.Given as goal

abbrev pub invariant-loop-number : goal.invariant-loop-number
invariant-loop-number l = least l.found (of_each (twice_formal l.file l.formals) l.number (drop l.number l.formals)) ≡ least l.initial.found (of_each (twice_formal l.file l.formals) 0 l.formals)
