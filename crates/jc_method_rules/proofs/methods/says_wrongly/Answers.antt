use Rattle.std.proofs.Common.{◌≡◌, true, rules}
use Rattle.jc_method_rules.proofs.Paired.{wrongly_told}
use Rattle.jc_method_rules.proofs.methods.says_wrongly.Goals as goal

pub returns : goal.returns
returns c =
    let said : c.args.method.now.modifiers.says_override ≡ true = search rules in
    wrongly_told c.args.table.now c.args.m c.args.method.now c.args.ids.now c.in_ok-one.one c.requires.enough said c.in_ok-one.ensures
