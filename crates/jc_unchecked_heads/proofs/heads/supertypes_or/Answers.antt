use Rattle.std.proofs.Common.{◌≡◌, rules, ap, ◌∙◌}
use Rattle.jc_overriding.specs.Viewing.{own_type}
use Rattle.jc_unchecked_heads.proofs.heads.supertypes_or.Goals as goal

pub returns-then-of-k-clause-own : goal.returns-then-of-k-clause-own
returns-then-of-k-clause-own c =
    let same : c.args.of.0 ≡ c.args.k.0 = search rules in c.requires.own ∙ ap (λ n. own_type c.args.table.now (record { 0 = n })) same
