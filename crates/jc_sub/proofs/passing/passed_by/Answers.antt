use Rattle.std.proofs.Common.{◌≡◌, true, Some, length, map, slice_get, sym, arith, rules}
use Rattle.std.proofs.lemmas.Bool.{ltb-true}
use Rattle.jc_types.specs.Accessors.{vars_of}
use Rattle.jc_types.specs.Reifying.{counted}
use Rattle.jc_types.specs.Substitution.{is_row}
use Rattle.jc_types.specs.declared.form.Ty.TheVariants.{Class}
use Rattle.jc_judge.specs.Meeting.{are_exact}
use Rattle.jc_judge.specs.Views.{class_supers}
use Rattle.jc_sub.specs.Reaching.{own_arg}
use Rattle.jc_sub.proofs.Passed.{passed_on, if_some_along, told_at}
use Rattle.jc_sub.proofs.passing.passed_by.Goals as goal

pub returns-in-Some : goal.returns-in-Some
returns-in-Some c =
    let T = c.args.table.now in
    let id = c.args.id in
    let args = c.args.args.now in
    let vars = c.class_vars-vars.result.now in
    let t = c.in-Some.declared.now in
    let many : length args ≡ length vars = omega arith in
    let exact : are_exact args ≡ true = search rules in
    let row : is_row vars ≡ true = search rules in
    let at : Some t ≡ slice_get c.class_supers.result.now c.args.i = told_at _ _ _ (ltb-true _ _ (sym c.in-Some.ensures.lookup.0)) c.in-Some.ensures.lookup.1 in
    if_some_along c.own_class.result (λ k. t ≡ Class k (map own_arg vars)) (λ k. slice_get (class_supers T id (counted (vars_of T id) args)) c.args.i ≡ Some (Class k args))
    (passed_on T id args vars c.class_supers.result.now c.args.i t c.class_vars-vars.ensures c.class_supers.ensures many exact row at) c.own_class.ensures
