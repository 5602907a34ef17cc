use Rattle.std.proofs.Common.{◌≡◌, take, map}
use Rattle.jc_types.specs.declared.ids.MethodId.{MethodId}
use Rattle.jc_table.proofs.classes.method_ids.Given as goal

abbrev pub invariant-loop-number : goal.invariant-loop-number
invariant-loop-number l = l.ids ≡ map (λ n. let id : MethodId = record { 0 = n } in id) (take l.number-index l.numbers)
