use Rattle.std.proofs.Common.{◌≡◌, ◌-◌}
use Rattle.jc_clashes.specs.Spreading.{spread}
use Rattle.jc_clashes.proofs.spreading.spread.Given as goal

abbrev pub invariant-loop-step : goal.invariant-loop-step
invariant-loop-step l = spread l.belows (l.steps - l.step) l.sets ≡ spread l.belows l.steps l.fn.own
