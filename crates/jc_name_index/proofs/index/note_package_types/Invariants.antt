use Rattle.std.proofs.Common.{◌≡◌, drop}
use Rattle.jc_name_index.specs.Spaces.{noted_all}
use Rattle.jc_name_index.specs.Index.{as_packaged}
use Rattle.jc_name_index.proofs.index.note_package_types.Given as goal

abbrev pub invariant-loop-number : goal.invariant-loop-number
invariant-loop-number l = noted_all (as_packaged l.heads) l.number (drop l.number l.classes) l.spaces ≡ noted_all (as_packaged l.heads) 0 l.classes l.initial.spaces
