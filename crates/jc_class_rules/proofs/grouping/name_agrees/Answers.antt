use Rattle.std.proofs.Common.{ap, ◌∙◌}
use Rattle.jc_judge.specs.declared.question.Answer.TheVariants.{Yes}
use Rattle.jc_members.specs.Listing.{remaining_ids, views_of}
use Rattle.jc_class_rules.specs.Grouping.{all_from, fitting}
use Rattle.jc_class_rules.proofs.Grouped.{name_told}
use Rattle.jc_class_rules.proofs.grouping.name_agrees.Goals as goal

pub returns : goal.returns
returns c =
    let T = c.args.table.now in
    let t = c.args.above.now.of in
    name_told T c.args.k c.args.m t c.in_ok-candidates.candidates c.in_ok-views.views c.in_ok-answer.answer c.requires.own c.in_ok-candidates.ensures
    (c.in_ok-views.ensures ∙ ap (views_of T t) (c.slice-3.ensures ∙ c.in_ok-remaining.ensures ∙ ap (remaining_ids T) c.slice-2.ensures))
    (c.in_ok-answer.ensures ∙ ap (λ vs. all_from (fitting T c.args.k vs) Yes vs) c.slice-4.ensures)
