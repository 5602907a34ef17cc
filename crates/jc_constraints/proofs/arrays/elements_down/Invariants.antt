use Rattle.std.proofs.Common.{◌≡◌, ◌-◌}
use Rattle.jc_constraints.specs.Constraints.{down, element_for}
use Rattle.jc_constraints.proofs.arrays.elements_down.Given as goal

abbrev pub invariant-loop-i : goal.invariant-loop-i
invariant-loop-i l = down (element_for l.table l.env l.standing) (l.further - l.i) l.rest ≡ down (element_for l.table l.env l.standing) l.further (element_for l.table l.env l.standing l.t)
