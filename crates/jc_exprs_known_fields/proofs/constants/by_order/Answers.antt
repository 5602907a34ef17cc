use Rattle.std.proofs.Common.{◌≡◌, ℕ, List, Option, length, subst, ◌∙◌, arith}
use Rattle.jc_types.specs.declared.constant.Constant.{Constant}
use Rattle.jc_exprs_parts_spec.specs.Constants.{constants_within}
use Rattle.jc_exprs_known_fields.specs.Programs.{heads_in, knowledge_in}
use Rattle.jc_exprs_known_fields.specs.Rounds.{Below}
use Rattle.jc_exprs_known_fields.proofs.Settled.{all_rounds, raised_more}
use Rattle.jc_exprs_known_fields.proofs.constants.by_order.Goals as goal

pub loop-step-preserved : goal.loop-step-preserved
loop-step-preserved c =
    let p = c.args.program.now in
    record {
      count = c.in_ok-know_next.ensures.count ∙ c.loop-step.invariant.count;
      below = raised_more p.table.now (heads_in p) (knowledge_in p) c.loop-step.values.items c.know_next.new.values.items c.loop-step.step c.loop-step.invariant.below c.in_ok-know_next.ensures.raised;
    }

pub returns-clause-below : goal.returns-clause-below
returns-clause-below c =
    let p = c.args.program.now in
    let whole : c.loop-step.step ≡ length p.table.now.fields = omega arith in
    subst (λ (x : List (Option Constant)). Below c.loop-step.values.items x) (all_rounds p.table.now (heads_in p) (knowledge_in p))
    (subst (λ (n : ℕ). Below c.loop-step.values.items (constants_within p.table.now (heads_in p) (knowledge_in p) n)) whole c.loop-step.invariant.below)
