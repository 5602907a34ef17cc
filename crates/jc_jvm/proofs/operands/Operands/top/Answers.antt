use Rattle.jc_jvm.specs.Stacked.{Stacked}
use Rattle.std.proofs.Common.{ap}
use Rattle.jc_jvm.proofs.Units.{last_of_stack}
use Rattle.jc_jvm.proofs.operands.Operands.top.Goals as goal

pub returns-then-count-values : goal.returns-then-count-values
returns-then-count-values c =
    last_of_stack c.as_slice-values.result.now c.self.inside.values.items c.args.self.now.values c.args.count c.as_slice-values.ensures.value (ap (λ (s : Stacked). s.values) c.self.view_is) c.if-count-values.true
