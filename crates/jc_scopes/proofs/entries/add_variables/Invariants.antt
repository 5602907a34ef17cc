use Rattle.std.proofs.Common.{◌≡◌, drop}
use Rattle.jc_declares.specs.Making.{first_names}
use Rattle.jc_scopes.specs.Entries.{variable_entries}
use Rattle.jc_scopes.proofs.entries.add_variables.Given as goal

abbrev pub invariant-loop-number : goal.invariant-loop-number
invariant-loop-number l = first_names l.names (variable_entries l.heads (drop l.number-index l.numbers)) ≡ first_names l.initial.names (variable_entries l.heads l.numbers)
