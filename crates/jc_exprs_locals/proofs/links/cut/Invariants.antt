use Rattle.std.proofs.Common.{◌≡◌, length, take}
use Rattle.std.specs.HashMap.{get_by_text}
use Rattle.jc_exprs_locals.specs.Links.{IsIndexed}
use Rattle.jc_exprs_locals.proofs.links.cut.Given as goal

abbrev pub invariant-loop-entries : goal.invariant-loop-entries
invariant-loop-entries l = (take l.size l.entries.items ≡ take l.size l.fn.entries.items) × IsIndexed l.entries.items (get_by_text l.newest)

abbrev pub decreases-loop-entries : goal.decreases-loop-entries
decreases-loop-entries l = length l.entries.items
