use Rattle.std.proofs.Common.{◌≡◌, ◌≢◌, ◌++◌, arith, rules, ap, subst, ◌∙◌}
use Rattle.jc_judge.specs.declared.question.Answer.TheVariants.{Yes, No}
use Rattle.jc_judge.specs.Asking.{question}
use Rattle.jc_judge.specs.Trees.{Answers, Proof, Refute, PartProved, PartRefuted}
use Rattle.jc_sub.proofs.Decided.{every_step, some_step, every_ends, some_ends, at_zero, at_same, at_step, at_every, if_ok_along}
use Rattle.jc_sub.proofs.answering.+below.Goals as goal

pub answer-returns-in_ok-answer-in-Every-clause-answer :
    goal.answer-returns-in_ok-answer-in-Every-clause-answer
answer-returns-in_ok-answer-in-Every-clause-answer t c =
    at_every _ _ _ _ _ _ _ _ _ _ c.in-Every.is c.in_ok-append-in-Every.ensures.ok c.slice.ensures c.in_ok-answer-in-Every.ensures.answer

pub below_at-returns-then-height-eq0-clause-answer :
    goal.below_at-returns-then-height-eq0-clause-answer
below_at-returns-then-height-eq0-clause-answer t c = at_zero _ _ _ _ _ c.if-height-eq0.true

pub below_at-returns-then-same_type-clause-answer :
    goal.below_at-returns-then-same_type-clause-answer
below_at-returns-then-same_type-clause-answer t c = at_same _ _ _ _ _ (omega arith) (search rules)

pub below_at-returns-clause-answer : goal.below_at-returns-clause-answer
below_at-returns-clause-answer t c =
    let differ : c.args.s.now ≢ c.args.t.now = search rules in
    let asked = c.in_ok-question.ensures ∙ ap (λ e. question c.args.table.now (c.args.env.now ++ e) c.args.s.now c.args.t.now) c.slice.ensures in
    if_ok_along _ _ _ (λ a. at_step _ _ _ _ c.args.height _ a (omega arith) differ asked) c.answer.ensures.answer

pub every-loop-i-preserved : goal.every-loop-i-preserved
every-loop-i-preserved t c =
    let inv = c.loop-i.invariant in
    let here = subst (λ e. Answers (PartProved (Proof c.args.table.now c.args.height (c.args.env.now ++ e)) c.index-parts-i.result) (PartRefuted (Refute c.args.table.now c.args.height (c.args.env.now ++ e)) c.index-parts-i.result) c.in_ok-next.next) inv.0 c.in_ok-next.ensures.answer in
    (c.in_ok-next.ensures.fresh ∙ inv.0, every_step _ _ _ _ _ _ _ _ (omega arith) c.index-parts-i.is c.both-answer.ensures inv.1 here)

pub some_of-loop-i-preserved : goal.some_of-loop-i-preserved
some_of-loop-i-preserved t c =
    let inv = c.loop-i.invariant in
    let here = subst (λ e. Answers (PartProved (Proof c.args.table.now c.args.height (c.args.env.now ++ e)) c.index-parts-i.result) (PartRefuted (Refute c.args.table.now c.args.height (c.args.env.now ++ e)) c.index-parts-i.result) c.in_ok-next.next) inv.0 c.in_ok-next.ensures.answer in
    (c.in_ok-next.ensures.fresh ∙ inv.0, some_step _ _ _ _ _ _ _ _ (omega arith) c.index-parts-i.is c.either-answer.ensures inv.1 here)

pub every-returns-then-eq-clause-answer : goal.every-returns-then-eq-clause-answer
every-returns-then-eq-clause-answer t c =
    let no : c.in_ok-next.next ≡ No = search rules in
    let here = subst (λ e. Answers (PartProved (Proof c.args.table.now c.args.height (c.args.env.now ++ e)) c.index-parts-i.result) (PartRefuted (Refute c.args.table.now c.args.height (c.args.env.now ++ e)) c.index-parts-i.result) c.in_ok-next.next) c.loop-i.invariant.0 c.in_ok-next.ensures.answer in
    every_ends _ _ _ _ _ _ (omega arith) c.index-parts-i.is no here

pub some_of-returns-then-eq-clause-answer : goal.some_of-returns-then-eq-clause-answer
some_of-returns-then-eq-clause-answer t c =
    let yes : c.in_ok-next.next ≡ Yes = search rules in
    let here = subst (λ e. Answers (PartProved (Proof c.args.table.now c.args.height (c.args.env.now ++ e)) c.index-parts-i.result) (PartRefuted (Refute c.args.table.now c.args.height (c.args.env.now ++ e)) c.index-parts-i.result) c.in_ok-next.next) c.loop-i.invariant.0 c.in_ok-next.ensures.answer in
    some_ends _ _ _ _ _ _ (omega arith) c.index-parts-i.is yes here
