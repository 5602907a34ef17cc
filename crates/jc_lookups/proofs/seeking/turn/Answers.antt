use Rattle.std.proofs.Common.{◌∷◌, reverse, subst}
use Rattle.jc_lookups.specs.Searched.{Stands}
use Rattle.jc_lookups.specs.declared.seeking.Task.{Task}
use Rattle.jc_lookups.proofs.seeking.turn.Goals as goal

pub returns-in_ok-climb-in-Climb : goal.returns-in_ok-climb-in-Climb
returns-in_ok-climb-in-Climb c = λ answer stands.
    c.in_ok-climb-in-Climb.ensures c.args.name.now c.args.descriptor.now c.args.known.now.items answer
    (subst (λ (t : Task). Stands c.args.classes.now c.args.name.now c.args.descriptor.now c.args.known.now.items (t ∷ reverse c.args.tasks.now) answer) c.in-Climb.is stands)
