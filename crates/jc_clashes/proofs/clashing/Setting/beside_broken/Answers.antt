use Rattle.std.proofs.Common.{[], cond, ap, ◌∙◌}
use Rattle.jc_types.specs.Breaks.{least}
use Rattle.jc_clashes.specs.Clashing.{pair_broken}
use Rattle.jc_clashes.proofs.Beside.{beside_turn}
use Rattle.jc_clashes.proofs.clashing.Setting.beside_broken.Goals as goal

pub loop-rest-preserved : goal.loop-rest-preserved
loop-rest-preserved c =
    let T = c.args.self.now.table.now in
    let k = c.args.self.now.class in
    let place = c.args.self.now.place in
    beside_turn T k place c.args.s.now c.loop-rest.marks.now c.behind_first-marks.result.now c.loop-rest.found c.in_ok-found.found c.loop-rest.rest.now c.u-item.result c.u-item.result c.in-len1-up.len_at_least c.u-item.is
    c.behind_first-marks.ensures (c.in_ok-found.ensures ∙ ap (λ b. least c.loop-rest.found (cond b [] (pair_broken T k place c.args.s.now c.u-item.result))) c.first_mark.ensures)
    ∙ c.loop-rest.invariant
