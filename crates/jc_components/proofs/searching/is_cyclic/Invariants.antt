use Rattle.std.proofs.Common.{◌-◌, length}
use Rattle.jc_components.specs.Reach.{Searching}
use Rattle.jc_components.proofs.searching.is_cyclic.Given as goal

abbrev pub invariant-search : goal.invariant-search
invariant-search l = Searching l.rows l.a l.marks.items l.reached.items l.at

abbrev pub decreases-search : goal.decreases-search
decreases-search l = length l.rows - l.at
