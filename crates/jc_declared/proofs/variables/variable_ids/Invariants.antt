use Rattle.std.proofs.Common.{◌≡◌, take, map}
use Rattle.jc_types.specs.declared.ids.VarId.{VarId}
use Rattle.jc_declared.proofs.variables.variable_ids.Given as goal

abbrev pub invariant-loop-number : goal.invariant-loop-number
invariant-loop-number l = l.ids ≡ map (λ v. let id : VarId = record { 0 = v } in id) (take l.number-index l.numbers)
