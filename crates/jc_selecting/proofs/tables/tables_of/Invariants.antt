use Rattle.jc_selecting.specs.Found.{AreTables}
use Rattle.jc_selecting.proofs.tables.tables_of.Given as goal

abbrev pub invariant-loop-class : goal.invariant-loop-class
invariant-loop-class l = AreTables l.parents l.own l.tables.items
