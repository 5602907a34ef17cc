use Rattle.std.proofs.Common.{◌≡◌, ◌<◌, ◌-◌, length, false, arith, rules, sym, ap, subst, ◌∙◌}
use Rattle.jc_judge.specs.Kinds.{class_of}
use Rattle.jc_judge.specs.Views.{view_within, first_of, is_class, supers}
use Rattle.jc_sub.specs.Reaching.{WayIs, IsWay, follow}
use Rattle.jc_sub.proofs.Reached.{led_view}
use Rattle.jc_sub.proofs.Ups.{view_up}
use Rattle.jc_sub.proofs.views.+view.Goals as goal

pub view_up-returns : goal.view_up-returns
view_up-returns t c =
    let some : 0 < c.args.steps = omega arith in
    let no : is_class c.args.k (class_of c.args.t.now) ≡ false = search rules in
    let up : view_within c.args.table.now c.args.steps c.args.k c.args.t.now ≡ first_of (view_within c.args.table.now (c.args.steps - 1) c.args.k) (supers c.args.table.now c.args.t.now) = view_up _ _ _ _ some no in
    let same : c.slice.result.now ≡ supers c.args.table.now c.args.t.now = search rules in
    rw (up, ← same) c.first_view.ensures

pub view_along-returns-then-len-steps : goal.view_along-returns-then-len-steps
view_along-returns-then-len-steps t c =
    let T = c.args.table.now in
    let k = c.args.k in
    let found : IsWay T k c.args.from.0 c.in-Found.turns k.0 = subst (λ w. WayIs T k c.args.from.0 w) c.in-Found.is c.requires.way in
    let few : length c.in-Found.turns < c.args.steps = search rules in
    let whole : view_within T c.args.steps k c.args.t.now ≡ follow T c.slice.result.now c.args.t.now =
    sym (ap (λ fs. follow T fs c.args.t.now) c.slice.ensures ∙ led_view T k c.args.from _ c.args.steps c.args.t.now found c.requires.class few) in
    rw whole c.follow.ensures
