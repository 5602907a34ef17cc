use Rattle.std.proofs.Common.{◌≡◌, IfOk, List, subst}
use Rattle.jc_running.specs.declared.value.Value.{Value}
use Rattle.jc_acts.proofs.Locals.{defaults_from}
use Rattle.jc_acts.proofs.frames.defaults_behind.Goals as goal

pub returns-then-given-locals : goal.returns-then-given-locals
returns-then-given-locals c =
    subst (λ (vs : List Value). IfOk c.defaults.result (λ r. r ≡ vs)) (defaults_from c.args.given c.args.locals.now) c.defaults.ensures
