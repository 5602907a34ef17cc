use Rattle.std.proofs.Common.{◌<◌, ap, ◌∙◌, arith, length}
use Rattle.jc_types.specs.Erasing.{capped, raised, plain}
use Rattle.jc_types.proofs.Cores.{by_bounds, by_base, through, leftmost_first, leftmost_none, leftmost_empty}
use Rattle.jc_types.proofs.erasing.+erasure.Goals as goal

pub erased_within-returns : goal.erased_within-returns
erased_within-returns t c =
    c.raised.ensures ∙ ap (λ e. capped (raised c.inner_type-dims.result.1 e)) c.inner_erasure.ensures ∙ through _ _ _ _ _ _ c.inner_type-dims.ensures.reaches

pub inner_erasure-returns-in-Some : goal.inner_erasure-returns-in-Some
inner_erasure-returns-in-Some t c = c.leftmost_within.ensures ∙ by_bounds _ _ _ _ _ c.requires c.in-Some.ensures

pub inner_erasure-returns-in-None : goal.inner_erasure-returns-in-None
inner_erasure-returns-in-None t c = ap plain c.own_base.ensures ∙ by_base _ _ _ _ c.requires c.in-None.ensures

pub leftmost_within-returns-in-empty : goal.leftmost_within-returns-in-empty
leftmost_within-returns-in-empty t c = c.object.ensures ∙ leftmost_empty _ _ _ _ c.in-empty.len_below

pub leftmost_within-returns-then-steps-eq0 : goal.leftmost_within-returns-then-steps-eq0
leftmost_within-returns-then-steps-eq0 t c = c.object-then-steps-eq0.ensures ∙ leftmost_none _ _ _ _ c.if-steps-eq0.true

pub leftmost_within-returns-else-steps-eq0 : goal.leftmost_within-returns-else-steps-eq0
leftmost_within-returns-else-steps-eq0 t c =
    let more : 0 < c.args.steps = omega arith in
    let some : 0 < length c.args.bounds.now = omega (arith, c.in-len1-up.len_at_least) in
    c.erased_within.ensures ∙ leftmost_first _ _ _ _ _ more some c.first-item.is
