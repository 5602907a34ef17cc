use Rattle.std.proofs.Common.{ap, ◌∙◌}
use Rattle.jc_types.specs.Breaks.{least}
use Rattle.jc_header_rules.specs.Headers.{differ, pair_broken, says_wrongly, thrown_broken, wants_body}
use Rattle.jc_header_rules.specs.Places.{broken_if, of_each, of_written}
use Rattle.jc_header_rules.proofs.Turning.{four}
use Rattle.jc_method_rules.proofs.methods.method_broken_in.Goals as goal

pub returns : goal.returns
returns c =
    let T = c.args.table.now in
    let m = c.args.m in
    let d = c.args.method.now in
    four (of_each (pair_broken T m d.place) 0 T.methods) (broken_if (says_wrongly T m d) 510 d.place) (of_written (thrown_broken T m) d.thrown.types d.thrown.places)
    (broken_if (differ (wants_body d) d.has_body) 514 d.place) c.args.found c.in_ok-paired.paired c.if_broken-said.result c.in_ok-thrown.thrown c.if_broken-last.result
    (c.in_ok-paired.ensures ∙ ap (least c.args.found) (c.requires.enough.pairs d.place))
    (c.if_broken-said.ensures ∙ ap (λ b. least c.in_ok-paired.paired (broken_if b c.known.result d.place)) c.in_ok-wrongly.ensures
    ∙ ap (λ r. least c.in_ok-paired.paired (broken_if (says_wrongly T m d) r d.place)) c.known.ensures)
    (c.in_ok-thrown.ensures ∙ ap (λ ts. least c.if_broken-said.result (of_written (thrown_broken T m) ts c.slice-places.result.now)) c.slice-types.ensures
    ∙ ap (λ ps. least c.if_broken-said.result (of_written (thrown_broken T m) d.thrown.types ps)) c.slice-places.ensures)
    (c.if_broken-last.ensures ∙ ap (λ b. least c.in_ok-thrown.thrown (broken_if b c.known-2.result d.place)) (c.differ-differs.ensures ∙ ap (λ b. differ b d.has_body) c.wants_body.ensures)
    ∙ ap (λ r. least c.in_ok-thrown.thrown (broken_if (differ (wants_body d) d.has_body) r d.place)) c.known-2.ensures)
