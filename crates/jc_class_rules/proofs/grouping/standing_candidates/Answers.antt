use Rattle.std.proofs.Common.{ap, ◌∙◌}
use Rattle.jc_types.specs.Accessors.{method_name_of}
use Rattle.jc_members.specs.Listing.{candidate_ids}
use Rattle.jc_class_rules.specs.Grouping.{with_name}
use Rattle.jc_class_rules.proofs.Grouped.{few_told}
use Rattle.jc_class_rules.proofs.grouping.standing_candidates.Goals as goal

pub returns : goal.returns
returns c =
    let T = c.args.table.now in
    let t = c.args.above.now.of in
    few_told T c.args.k (method_name_of T c.args.m) t c.args.all.now c.in_ok-few.few c.in_ok-found.found c.requires.own c.requires.all
    (c.in_ok-few.ensures ∙ ap (λ x. with_name T x c.args.all.now) c.method_name.ensures) (c.in_ok-found.ensures ∙ ap (candidate_ids T t) c.slice.ensures)
