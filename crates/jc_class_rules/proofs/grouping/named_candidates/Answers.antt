use Rattle.std.proofs.Common.{ap, ◌∙◌}
use Rattle.jc_types.specs.Accessors.{method_name_of}
use Rattle.jc_members.specs.Listing.{candidate_ids}
use Rattle.jc_members.specs.Named.{ids_in}
use Rattle.jc_class_rules.proofs.grouping.named_candidates.Goals as goal

pub returns : goal.returns
returns c =
    let T = c.args.table.now in
    c.in_ok-found.ensures
    ∙ ap (candidate_ids T c.args.above.now.of) (c.named-named.ensures ∙ ap (ids_in c.args.index.now.names c.args.index.now.groups) c.method_name.ensures ∙ c.requires.index.ids (method_name_of T c.args.m))
