use Rattle.std.proofs.Common.{◌&&◌, ◌++◌, append_assoc, sym, ap, ◌∙◌}
use Rattle.jc_types.specs.Breaks.{least}
use Rattle.jc_header_rules.specs.Inheriting.{agreement_broken, agreements, all_above, all_members, has_conflict, is_concrete, is_generic_throwable, leaves_open, members_disagree}
use Rattle.jc_header_rules.specs.Places.{broken_if}
use Rattle.jc_header_rules.proofs.Turning.{four}
use Rattle.jc_class_rules.proofs.Grouped.{class_joined}
use Rattle.jc_class_rules.proofs.Lasting.{agreement_least}
use Rattle.jc_class_rules.proofs.classes.class_broken_in.Goals as goal

pub returns : goal.returns
returns c =
    let T = c.args.table.now in
    let k = c.args.k in
    let d = c.args.class.now in
    let generic = is_generic_throwable T k in
    let conflict = has_conflict (all_above T k) in
    let incomplete = is_concrete T k d && leaves_open T k 0 T.methods in
    let disagree = members_disagree T k (all_members T k) in
    let agree = agreements T k (all_members T k) (all_members T k) in
    four (broken_if generic 501 d.place) (broken_if conflict 502 d.place) (broken_if incomplete 509 d.place) (broken_if disagree 511 d.place ++ agreement_broken agree d.place)
    c.args.found c.if_broken-first.result c.if_broken-second.result c.if_broken-third.result c.agreement_broken-last.result
    (c.if_broken-first.ensures ∙ ap (λ b. least c.args.found (broken_if b c.known.result d.place)) c.in_ok-generic.ensures ∙ ap (λ r. least c.args.found (broken_if generic r d.place)) c.known.ensures)
    (c.if_broken-second.ensures ∙ ap (λ b. least c.if_broken-first.result (broken_if b c.known-2.result d.place)) c.in_ok-conflict.ensures
    ∙ ap (λ r. least c.if_broken-first.result (broken_if conflict r d.place)) c.known-2.ensures)
    (c.if_broken-third.ensures ∙ ap (λ b. least c.if_broken-second.result (broken_if b c.known-3.result d.place)) c.in_ok-incomplete.ensures
    ∙ ap (λ r. least c.if_broken-second.result (broken_if incomplete r d.place)) c.known-3.ensures)
    (c.agreement_broken-last.ensures
    ∙ ap (λ a. least c.if_broken-third.result (agreement_broken a d.place)) (class_joined T k c.args.all.now c.in_ok-answer.answer c.requires.all c.in_ok-answer.ensures)
    ∙ agreement_least c.if_broken-third.result disagree agree d.place)
    ∙ ap (least c.args.found)
    (sym (append_assoc (broken_if generic 501 d.place ++ broken_if conflict 502 d.place ++ broken_if incomplete 509 d.place) (broken_if disagree 511 d.place) (agreement_broken agree d.place)))
