use Rattle.std.proofs.Common.{◌≡◌, length}
use Rattle.std.specs.Prelude.{nat_eq}
use Rattle.std.specs.HashMap.{get}
use Rattle.jc_types.specs.declared.ids.MethodId.{MethodId}
use Rattle.jc_stmts_spec.specs.Typed.{next_in}
use Rattle.jc_stmts_whole.specs.Programs.{heads_in, knowledge_in}
use Rattle.jc_stmts.specs.Targets.{or_next}
use Rattle.jc_stmts.proofs.calls.targets.Given as goal

abbrev pub invariant-loop-rest : goal.invariant-loop-rest
invariant-loop-rest l = (m : MethodId) → or_next (get nat_eq l.targets m.0) (next_in l.program.table.now (heads_in l.program) (knowledge_in l.program) l.rest m) ≡ next_in l.program.table.now (heads_in l.program) (knowledge_in l.program) l.fn.calls m

abbrev pub decreases-loop-rest : goal.decreases-loop-rest
decreases-loop-rest l = length l.rest
