use Rattle.std.proofs.Common.{◌≡◌, [], drop}
use Rattle.jc_declares.specs.Making.{first_names, binaries_from}
use Rattle.jc_scopes.proofs.scopes.index_of_classes.Given as goal

abbrev pub invariant-loop-number : goal.invariant-loop-number
invariant-loop-number l = first_names l.names (binaries_from l.heads l.number (drop l.number l.heads.classes)) ≡ first_names [] (binaries_from l.heads 0 l.heads.classes)
