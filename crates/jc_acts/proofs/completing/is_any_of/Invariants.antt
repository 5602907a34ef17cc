use Rattle.std.proofs.Common.{◌≡◌, length, map}
use Rattle.jc_typed.specs.Parts.{type_of, types_of}
use Rattle.jc_typed.specs.declared.program.TypedProgram.{TypedProgram}
use Rattle.jc_meaning.specs.Statements as s
use Rattle.jc_running.specs.Outcomes.{stop}
use Rattle.jc_values.specs.Idle.{idle}
use Rattle.jc_acts.proofs.completing.is_any_of.Given as goal

abbrev pub invariant-loop-rest : goal.invariant-loop-rest
invariant-loop-rest l = (program : TypedProgram) → program.table ≡ l.table → s.is_any_of program idle (λ x. stop) 0 l.e (types_of l.nodes l.types) ≡ s.is_any_of program idle (λ x. stop) 0 l.e (map (type_of l.nodes) l.rest)

abbrev pub decreases-loop-rest : goal.decreases-loop-rest
decreases-loop-rest l = length l.rest
