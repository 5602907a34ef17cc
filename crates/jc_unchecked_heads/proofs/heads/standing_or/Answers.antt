use Rattle.std.proofs.Common.{◌≡◌, rules, ap, ◌∙◌}
use Rattle.jc_method_rules.specs.Owned.{standing}
use Rattle.jc_unchecked_heads.proofs.heads.standing_or.Goals as goal

pub returns-then-of-k : goal.returns-then-of-k
returns-then-of-k c =
    let same : c.args.of.0 ≡ c.args.k.0 = search rules in c.requires.last ∙ ap (λ n. standing c.args.table.now (record { 0 = n })) same
