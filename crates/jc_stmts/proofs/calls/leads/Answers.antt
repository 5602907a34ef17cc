use Rattle.std.proofs.Common.{◌≡◌, ap, sym, ◌∙◌, ℕ, suc, ◌-◌, ◌==◌, Bool, false, Option, arith}
use Rattle.std.proofs.lemmas.Bool.Decides.{nat_tests}
use Rattle.jc_types.specs.declared.ids.MethodId.{MethodId}
use Rattle.jc_stmts_spec.specs.Typed.{leads}
use Rattle.jc_stmts.specs.Targets.{next_of}
use Rattle.jc_stmts.proofs.Leading.{leads_on}
use Rattle.jc_stmts.proofs.calls.leads.Goals as goal

pub loop-at-preserved : goal.loop-at-preserved
loop-at-preserved c =
    let f = next_of c.args.calls.now in
    let n = c.loop-at.left in
    let k = c.in-Some.method in
    let m = c.args.to in
    let less : n ≡ suc (n - 1) = omega arith in
    let other : (k.0 == m.0) ≡ false = grind (arith, nat_tests) in
    ap (λ (x : Option MethodId). leads f (n - 1) x m) c.next_of-at.ensures ∙ sym (leads_on f n (n - 1) k m less other) ∙ ap (λ (x : Option MethodId). leads f n x m) (sym c.in-Some.is) ∙ c.loop-at.invariant
