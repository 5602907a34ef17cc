use Rattle.std.proofs.lemmas.Bool.Decides.{nat_tests}
use Rattle.std.proofs.Common.{◌≡◌, ◌==◌, ℕ, arith, true, rules, sym, ap, ◌∙◌}
use Rattle.jc_types.specs.declared.ids.ClassId.{ClassId}
use Rattle.jc_overriding.specs.Overriding.{owner, same_class}
use Rattle.jc_overriding.specs.Viewing.{own_type}
use Rattle.jc_class_rules.proofs.covering.own_replaces.Goals as goal

same_id : (o k : ClassId) → same_class o k ≡ true → k ≡ o
same_id o k e = ap (λ n. record { 0 = n }) (number o.0 k.0 e)
  where
    number : (a b : ℕ) → (a == b) ≡ true → b ≡ a
    number a b e = grind (arith, nat_tests)

pub replaces_above-requires-clause-own : goal.replaces_above-requires-clause-own
replaces_above-requires-clause-own c =
    let T = c.args.table.now in
    let held : c.same_class.result ≡ true = search rules in
    let equal : same_class (owner T c.args.w) c.args.k ≡ true = ap (λ o. same_class o c.args.k) (sym c.owner.ensures) ∙ sym c.same_class.ensures ∙ held in
    c.requires.own ∙ ap (own_type T) (same_id (owner T c.args.w) c.args.k equal)
