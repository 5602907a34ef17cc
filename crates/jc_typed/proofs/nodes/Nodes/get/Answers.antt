use Rattle.std.proofs.Common.{ap, sym, ◌∙◌, subst}
use Rattle.jc_typed.specs.Parts.{Below, part_at}
use Rattle.jc_typed.proofs.Reading.{stands}
use Rattle.jc_typed.proofs.nodes.Nodes.get.Goals as goal

pub returns-clause-value : goal.returns-clause-value
returns-clause-value c =
    rw (← c.self.view_is) ((stands c.self.inside.nodes.items c.args.at c.index.result.now c.self.invariant.0 (rw c.self.view_is c.requires)).value ∙ ap (part_at c.self.inside.nodes.items) (sym c.index.ensures))

pub returns-clause-below : goal.returns-clause-below
returns-clause-below c =
    subst (Below c.args.at) (sym c.index.ensures) ((stands c.self.inside.nodes.items c.args.at c.index.result.now c.self.invariant.0 (rw c.self.view_is c.requires)).below)
