use Rattle.std.proofs.Common.{◌≡◌, true, rules, sym, ap, ◌∙◌}
use Rattle.jc_method_rules.specs.Owned.{ascends}
use Rattle.jc_method_rules.proofs.Gathered.{gathered_told}
use Rattle.jc_method_rules.proofs.owned.standing_by.Goals as goal

pub returns-then-ascends : goal.returns-then-ascends
returns-then-ascends c =
    let are : c.are_all.result ≡ true = search rules in
    let up : c.ascends.result ≡ true = search rules in
    gathered_told c.args.table.now c.args.index.now c.args.above.now c.args.k c.args.classes.now c.args.numbers.items c.requires.index c.requires.known c.requires.own c.requires.classes c.requires.numbers
    (sym c.are_all.ensures ∙ are) (ap ascends (sym c.as_slice.ensures.value) ∙ sym c.ascends.ensures ∙ up)
