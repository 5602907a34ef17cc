use Rattle.std.proofs.Common.{◌≡◌, drop}
use Rattle.jc_name_index.specs.Spaces.{noted_all}
use Rattle.jc_name_index.specs.Index.{as_package}
use Rattle.jc_name_index.proofs.index.note_packages.Given as goal

abbrev pub invariant-loop-number : goal.invariant-loop-number
invariant-loop-number l = noted_all (as_package) l.number (drop l.number l.units) l.spaces ≡ noted_all (as_package) 0 l.units l.initial.spaces
