use Rattle.std.proofs.Common.{refl, ap, ◌∙◌, List}
use Rattle.jc_types.specs.Breaks.{least}
use Rattle.jc_header_rules.proofs.Turning.{one_turn}
use Rattle.jc_clashes.specs.declared.shapes.Shape.{Shape}
use Rattle.jc_clashes.specs.Clashing.{group_broken, groups_broken}
use Rattle.jc_clashes.proofs.clashing.Setting.groups_broken.Goals as goal

pub loop-rest-preserved : goal.loop-rest-preserved
loop-rest-preserved c =
    let T = c.args.self.now.table.now in
    one_turn (groups_broken T c.args.self.now.class c.args.self.now.place) (λ (g : List Shape). group_broken T c.args.self.now.class c.args.self.now.place g g) (λ x xs. refl) c.loop-rest.found c.in_ok-found.found c.loop-rest.rest.now c.group-item.result c.group-item.result c.in-len1-up.len_at_least c.group-item.is
    (c.in_ok-found.ensures ∙ ap (λ g. least c.loop-rest.found (group_broken T c.args.self.now.class c.args.self.now.place g g)) c.slice.ensures)
    ∙ c.loop-rest.invariant
