use Rattle.std.proofs.Common.{◌≡◌, false, map, take}
use Rattle.jc_infer.specs.Naming.{any_true, names, names_in_arg}
use Rattle.jc_infer.proofs.naming.+names.Given as goal

abbrev pub invariant-some_arg_names-loop-i : goal.invariant-some_arg_names-loop-i
invariant-some_arg_names-loop-i l = any_true (map (names_in_arg l.vars) (take l.i l.args)) ≡ false

abbrev pub invariant-some_names-loop-i : goal.invariant-some_names-loop-i
invariant-some_names-loop-i l = any_true (map (names l.vars) (take l.i l.types)) ≡ false
