use Rattle.std.proofs.Common.{◌≡◌, drop}
use Rattle.jc_name_index.specs.Spaces.{noted_all}
use Rattle.jc_name_index.specs.Index.{as_method_variable}
use Rattle.jc_name_index.proofs.index.note_method_variables.Given as goal

abbrev pub invariant-loop-number : goal.invariant-loop-number
invariant-loop-number l = noted_all as_method_variable l.number (drop l.number l.variables) l.spaces ≡ noted_all as_method_variable 0 l.variables l.initial.spaces
