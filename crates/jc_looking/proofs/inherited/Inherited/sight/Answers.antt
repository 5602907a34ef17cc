use Rattle.std.proofs.Common.{sym, ap}
use Rattle.jc_declares.specs.Knowing.{is_some}
use Rattle.jc_looking.proofs.Noted.{several_noted, first_noted}
use Rattle.jc_looking.proofs.inherited.Inherited.sight.Goals as goal

pub returns-in-Some : goal.returns-in-Some
returns-in-Some c =
    let e = several_noted c.args.name.now c.self.inside.members c.self.inside.firsts c.self.inside.repeated c.self.invariant (ap is_some (sym c.in-Some.ensures)) in cc

pub returns-in-None : goal.returns-in-None
returns-in-None c =
    let e = first_noted c.args.name.now c.self.inside.members c.self.inside.firsts c.self.inside.repeated c.self.invariant (ap is_some (sym c.in-None.ensures)) in cc
