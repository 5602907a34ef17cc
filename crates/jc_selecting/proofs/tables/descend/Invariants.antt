use Rattle.std.proofs.Common.{length}
use Rattle.jc_selecting.specs.Found.{AreTables}
use Rattle.jc_selecting.proofs.tables.descend.Given as goal

abbrev pub invariant-classes : goal.invariant-classes
invariant-classes l = AreTables l.parents l.own l.tables.items

abbrev pub decreases-classes : goal.decreases-classes
decreases-classes l = length l.left.items
