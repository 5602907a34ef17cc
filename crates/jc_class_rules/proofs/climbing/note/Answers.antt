use Rattle.std.proofs.Common.{◌≡◌, None, [], ◌∷◌, ◌++◌, rules, sym, subst}
use Rattle.std.specs.Prelude.{nat_eq}
use Rattle.std.specs.HashMap.{get}
use Rattle.jc_class_rules.specs.Climbing.{AreFirsts, met_as}
use Rattle.jc_class_rules.proofs.Firsts.{first_more}
use Rattle.jc_class_rules.proofs.climbing.note.Goals as goal

pub returns-in_ok-push-in-None-2-clause-firsts : goal.returns-in_ok-push-in-None-2-clause-firsts
returns-in_ok-push-in-None-2-clause-firsts c =
    let none : met_as c.args.met.now c.args.s.now ≡ None = search rules in
    let pushed : c.push.new.self ≡ (c.args.met.now ++ c.args.s.now ∷ []) = search rules in
    subst (λ met. AreFirsts (λ l. get nat_eq c.put_first.new.firsts l) met) (sym pushed)
    (first_more (λ l. get nat_eq c.args.firsts.now l) (λ l. get nat_eq c.put_first.new.firsts l) c.args.met.now c.args.s.now c.requires.firsts none c.in_ok-put_first-in-None.ensures)
