use Rattle.std.proofs.Common.{◌≡◌, drop}
use Rattle.jc_declares.specs.Making.{first_names}
use Rattle.jc_scopes.specs.Entries.{class_entries}
use Rattle.jc_scopes.proofs.entries.add_classes.Given as goal

abbrev pub invariant-loop-number : goal.invariant-loop-number
invariant-loop-number l = first_names l.names (class_entries l.heads (drop l.number-index l.numbers)) ≡ first_names l.initial.names (class_entries l.heads l.numbers)
