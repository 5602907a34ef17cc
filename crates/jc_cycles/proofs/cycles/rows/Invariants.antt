use Rattle.std.proofs.Common.{◌≡◌}
use Rattle.jc_looking.specs.Members.{known_in}
use Rattle.jc_cycles.specs.Cycles.{rows_below}
use Rattle.jc_cycles.proofs.cycles.rows.Given as goal

abbrev pub invariant-loop-class : goal.invariant-loop-class
invariant-loop-class l = l.rows ≡ rows_below l.scene.declared.heads.now (known_in l.scene.known.now) l.count l.class
