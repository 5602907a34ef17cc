use Rattle.std.proofs.Common.{refl, ◌∙◌}
use Rattle.jc_header_rules.proofs.Turning.{one_turn}
use Rattle.jc_clashes.specs.Clashing.{group_broken, member_broken}
use Rattle.jc_clashes.proofs.clashing.Setting.group_broken.Goals as goal

pub loop-rest-preserved : goal.loop-rest-preserved
loop-rest-preserved c =
    let T = c.args.self.now.table.now in
    one_turn (group_broken T c.args.self.now.class c.args.self.now.place c.args.all.now) (member_broken T c.args.self.now.class c.args.self.now.place c.args.all.now) (λ x xs. refl) c.loop-rest.found c.in_ok-found.found c.loop-rest.rest.now c.s-item.result c.s-item.result c.in-len1-up.len_at_least c.s-item.is c.in_ok-found.ensures
    ∙ c.loop-rest.invariant
