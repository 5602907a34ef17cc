use Rattle.std.proofs.Common.{◌≡◌, ap, sym, ◌∙◌, subst, length}
use Rattle.std.specs.Prelude.{IfOk, OnOk}
use Rattle.jc_typed.proofs.Growing.{grows_both}
use Rattle.jc_exprs_nodes_spec.specs.Told.{Ran, Run, ran}
use Rattle.jc_exprs_nodes_spec.specs.Typeds.{Typed}
use Rattle.jc_exprs_nodes.specs.Laws.{with_more}
use Rattle.jc_exprs_nodes.specs.Walks.{AllBelow, has, now}
use Rattle.jc_exprs_nodes.proofs.Staying.{has_stays}
use Rattle.jc_exprs_gathering.specs.Gathered.{has_all, has_operand, has_operands}
use Rattle.jc_exprs_gathering.proofs.Gathering.{all_more, all_stay, below_more, below_stays, operands_more, operands_stay, ran_every}
use Rattle.jc_exprs_starts.specs.Wanted.{wanted_in}
use Rattle.jc_exprs_starts.proofs.Staying.{wanted_stays}
use Rattle.jc_exprs_worlds.specs.Scenes.{world_of}
use Rattle.jc_exprs_worlds.proofs.Told.{table_told}
use Rattle.jc_exprs_forms.specs.Forms.{starts}
use Rattle.jc_exprs_calls.specs.Placing.{has_before}
use Rattle.jc_tree.specs.declared.expression.Expr.TheVariants as anExpr
use Rattle.jc_exprs.specs.Rests.{chosen_behind}
use Rattle.jc_exprs_chains.specs.Chaining.{has_signed}
use Rattle.jc_tree.specs.declared.expression.PrefixOp.{PrefixOp}
use Rattle.jc_exprs.specs.Signing.{last_signs}
use Rattle.jc_typed.specs.Parts.{Grows}
use Rattle.jc_exprs_located.specs.Locations.{LocatedBelow}
use Rattle.jc_exprs.proofs.Others.{located_through, meant_through, negated_value}
use Rattle.jc_exprs.proofs.Through.{call_through, chosen_through, conditional_through, element_through, this_through}
use Rattle.jc_exprs.proofs.Turns.{given_end, given_turn, on_ok, prefixed_through, typed_turn}
use Rattle.jc_exprs_forms.specs.Forms.{giving, givings}
use Rattle.jc_exprs.proofs.+expressions.Goals as goal

pub branches::branched-returns-clause-state : goal.branches::branched-returns-clause-state
branches::branched-returns-clause-state t c =
    let n = c.args.walk.now.nodes in
    let m = c.typed.new.walk.nodes in
    let g = c.in_ok-second.ensures.grows in
    let z = chosen_through (world_of c.args.methods.now.scene.now) c.args.methods.now.scene.now.table.now (table_told c.args.methods.now.scene.now) (has n c.args.before.test) (has m c.args.before.test) (has n c.args.before.first) (has m c.args.before.first) c.args.before.from
    c.args.second.now (now c.args.walk.now) (now c.typed.new.walk) (has m c.in_ok-second.second) (has_stays n m c.args.before.test g c.requires.test) (has_stays n m c.args.before.first g c.requires.first) c.in_ok-second.ensures.state
    c.in_ok-second.ensures.value in
    subst (λ (r : Ran Typed). OnOk c.chosen_or.result (r.state ≡ now c.chosen_or.new.walk)) (sym z) c.chosen_or.ensures.state

pub branches::branched-returns-clause-value : goal.branches::branched-returns-clause-value
branches::branched-returns-clause-value t c =
    let n = c.args.walk.now.nodes in
    let m = c.typed.new.walk.nodes in
    let g = c.in_ok-second.ensures.grows in
    let z = chosen_through (world_of c.args.methods.now.scene.now) c.args.methods.now.scene.now.table.now (table_told c.args.methods.now.scene.now) (has n c.args.before.test) (has m c.args.before.test) (has n c.args.before.first) (has m c.args.before.first) c.args.before.from
    c.args.second.now (now c.args.walk.now) (now c.typed.new.walk) (has m c.in_ok-second.second) (has_stays n m c.args.before.test g c.requires.test) (has_stays n m c.args.before.first g c.requires.first) c.in_ok-second.ensures.state
    c.in_ok-second.ensures.value in
    subst (λ (r : Ran Typed). IfOk c.chosen_or.result (λ at. r.has ≡ has c.chosen_or.new.walk.nodes at)) (sym z) c.chosen_or.ensures.value

pub lists::typed_onto-loop-e-preserved : goal.lists::typed_onto-loop-e-preserved
lists::typed_onto-loop-e-preserved t c =
    let n = c.loop-e.walk.nodes in
    let m = c.typed.new.walk.nodes in
    let g = c.in_ok-at.ensures.grows in
    let i = c.loop-e.invariant in
    let more : has_all m c.push.new.self ≡ with_more (has_all n c.loop-e.ats) (has m c.in_ok-at.at) =
    ap (has_all m) c.in_ok-push.ensures.ok ∙ all_more m c.loop-e.ats c.in_ok-at.at ∙ ap (λ o. with_more o (has m c.in_ok-at.at)) (all_stay n m c.loop-e.ats g i.below) in
    record {
      walks = typed_turn (world_of c.args.methods.now.scene.now) c.args.es.now c.loop-e.e-index c.e-item.result (has_all n c.loop-e.ats) (has_all m c.push.new.self) (now c.loop-e.walk) (now c.typed.new.walk) (has m c.in_ok-at.at) _ c.loop-e-test.true c.e-item.is
          c.in_ok-at.ensures.state c.in_ok-at.ensures.value more i.walks;
      below = subst (AllBelow (length m)) (sym c.in_ok-push.ensures.ok) (below_more (length m) c.loop-e.ats c.in_ok-at.at (below_stays n m c.loop-e.ats g i.below) c.in_ok-at.ensures.within);
      grows = grows_both c.args.walk.now.nodes n m i.grows g;
    }

pub initialisers::given_all-loop-init-preserved : goal.initialisers::given_all-loop-init-preserved
initialisers::given_all-loop-init-preserved t c =
    let n = c.args.walk.now.nodes in
    let p = c.loop-init.walk.nodes in
    let m = c.given.new.walk.nodes in
    let g = c.in_ok-at.ensures.grows in
    let i = c.loop-init.invariant in
    let v = wanted_in n c.args.wanted in
    let same : wanted_in p c.args.wanted ≡ v = wanted_stays n p c.args.wanted i.grows c.requires.wanted in
    let more : has_operands m c.push.new.self ≡ with_more (has_operands p c.loop-init.ats) (has_operand m c.in_ok-at.at) =
    ap (has_operands m) c.in_ok-push.ensures.ok ∙ operands_more m c.loop-init.ats c.in_ok-at.at ∙ ap (λ o. with_more o (has_operand m c.in_ok-at.at)) (operands_stay p m c.loop-init.ats g i.below) in
    record {
      walks = given_turn (world_of c.args.methods.now.scene.now) v c.args.inits.now c.loop-init.init-index c.init-item.result (has_operands p c.loop-init.ats) (has_operands m c.push.new.self) (now c.loop-init.walk) (now c.given.new.walk) (has_operand m c.in_ok-at.at) _
          c.loop-init-test.true c.init-item.is
          (subst (λ w. (ran (giving (world_of c.args.methods.now.scene.now) w c.init-item.result) (now c.loop-init.walk)).state ≡ now c.given.new.walk) same c.in_ok-at.ensures.state)
          (subst (λ w. (ran (giving (world_of c.args.methods.now.scene.now) w c.init-item.result) (now c.loop-init.walk)).has ≡ has_operand m c.in_ok-at.at) same c.in_ok-at.ensures.value) more i.walks;
      below = subst (AllBelow (length m)) (sym c.in_ok-push.ensures.ok) (below_more (length m) c.loop-init.ats c.in_ok-at.at (below_stays p m c.loop-init.ats g i.below) c.in_ok-at.ensures.within);
      grows = grows_both n p m i.grows g;
    }

pub initialisers::given_all-returns-clause-state : goal.initialisers::given_all-returns-clause-state
initialisers::given_all-returns-clause-state t c =
    let v = wanted_in c.args.walk.now.nodes c.args.wanted in
    let z = ran_every (givings (world_of c.args.methods.now.scene.now) v c.args.inits.now) (now c.args.walk.now) ∙ given_end (world_of c.args.methods.now.scene.now) v c.args.inits.now c.loop-init.init-index (has_operands c.loop-init.walk.nodes c.loop-init.ats) (now c.loop-init.walk) _ c.loop-init-test.false c.loop-init.invariant.walks in
    ap (λ r. r.state) z

pub initialisers::given_all-returns-clause-value : goal.initialisers::given_all-returns-clause-value
initialisers::given_all-returns-clause-value t c =
    let v = wanted_in c.args.walk.now.nodes c.args.wanted in
    let z = ran_every (givings (world_of c.args.methods.now.scene.now) v c.args.inits.now) (now c.args.walk.now) ∙ given_end (world_of c.args.methods.now.scene.now) v c.args.inits.now c.loop-init.init-index (has_operands c.loop-init.walk.nodes c.loop-init.ats) (now c.loop-init.walk) _ c.loop-init-test.false c.loop-init.invariant.walks in
    ap (λ r. r.has) z

pub signs::prefixed-returns-clause-state : goal.signs::prefixed-returns-clause-state
signs::prefixed-returns-clause-state t c =
    let o = c.operator_at-last.ensures in
    let z = prefixed_through (world_of c.args.methods.now.scene.now) c.args.first c.args.more.now c.args.operand.now (now c.args.walk.now) (now c.signed_innermost.new.walk) (now c.signed_all.new.walk) (has_signed c.signed_innermost.new.walk.nodes c.in_ok-innermost.innermost)
    (has_signed c.signed_all.new.walk.nodes c.in_ok-signs.signs) (subst (λ (p : PrefixOp). (ran (last_signs (world_of c.args.methods.now.scene.now) p c.args.operand.now) (now c.args.walk.now)).state ≡ now c.signed_innermost.new.walk) o c.in_ok-innermost.ensures.state)
    (subst (λ (p : PrefixOp). (ran (last_signs (world_of c.args.methods.now.scene.now) p c.args.operand.now) (now c.args.walk.now)).has ≡ has_signed c.signed_innermost.new.walk.nodes c.in_ok-innermost.innermost) o c.in_ok-innermost.ensures.value)
    c.in_ok-signs.ensures.state c.in_ok-signs.ensures.value in
    on_ok c.signs_finished.result (ap (λ r. r.state) z)

pub signs::prefixed-returns-clause-value : goal.signs::prefixed-returns-clause-value
signs::prefixed-returns-clause-value t c =
    let o = c.operator_at-last.ensures in
    let z = prefixed_through (world_of c.args.methods.now.scene.now) c.args.first c.args.more.now c.args.operand.now (now c.args.walk.now) (now c.signed_innermost.new.walk) (now c.signed_all.new.walk) (has_signed c.signed_innermost.new.walk.nodes c.in_ok-innermost.innermost)
    (has_signed c.signed_all.new.walk.nodes c.in_ok-signs.signs) (subst (λ (p : PrefixOp). (ran (last_signs (world_of c.args.methods.now.scene.now) p c.args.operand.now) (now c.args.walk.now)).state ≡ now c.signed_innermost.new.walk) o c.in_ok-innermost.ensures.state)
    (subst (λ (p : PrefixOp). (ran (last_signs (world_of c.args.methods.now.scene.now) p c.args.operand.now) (now c.args.walk.now)).has ≡ has_signed c.signed_innermost.new.walk.nodes c.in_ok-innermost.innermost) o c.in_ok-innermost.ensures.value)
    c.in_ok-signs.ensures.state c.in_ok-signs.ensures.value in
    subst (λ (r : Ran Typed). IfOk c.signs_finished.result (λ at. r.has ≡ has c.signs_finished.new.nodes at)) (sym z) c.signs_finished.ensures.value

pub signs::negated-returns-in_default-clause-state : goal.signs::negated-returns-in_default-clause-state
signs::negated-returns-in_default-clause-state t c =
    subst (λ (m : Run Typed). OnOk c.typed.result ((ran m (now c.args.walk.now)).state ≡ now c.typed.new.walk)) (sym (negated_value (world_of c.args.methods.now.scene.now) c.args.e.now c.in_default.not-Literal)) c.typed.ensures.state

pub signs::negated-returns-in_default-clause-value : goal.signs::negated-returns-in_default-clause-value
signs::negated-returns-in_default-clause-value t c =
    subst (λ (m : Run Typed). IfOk c.typed.result (λ at. (ran m (now c.args.walk.now)).has ≡ has c.typed.new.walk.nodes at)) (sym (negated_value (world_of c.args.methods.now.scene.now) c.args.e.now c.in_default.not-Literal)) c.typed.ensures.value

pub meanings::meant-returns-in_ok-value-in_default : goal.meanings::meant-returns-in_ok-value-in_default
meanings::meant-returns-in_ok-value-in_default t c =
    let z = meant_through (world_of c.args.methods.now.scene.now) c.args.e.now (now c.args.walk.now) (now c.typed.new.walk) (has c.typed.new.walk.nodes c.in_ok-value-in_default.value) c.in_default.not-Field c.in_default.not-Name c.in_ok-value-in_default.ensures.state
    c.in_ok-value-in_default.ensures.value in
    record {
      state = ap (λ r. r.state) z ∙ c.value_meant.ensures.state;
      value = ap (λ r. r.has) z ∙ c.value_meant.ensures.value;
      within = c.value_meant.ensures.within;
      grows = c.in_ok-value-in_default.ensures.grows;
    }

pub variables::located-returns-in_ok-value-in_default : goal.variables::located-returns-in_ok-value-in_default
variables::located-returns-in_ok-value-in_default t c =
    let z = located_through (world_of c.args.methods.now.scene.now) c.args.e.now (now c.args.walk.now) (now c.typed-in_default.new.walk) (has c.typed-in_default.new.walk.nodes c.in_ok-value-in_default.value) c.in_default.not-Field c.in_default.not-Index c.in_default.not-SuperField c.in_default.not-Paren c.in_default.not-Name c.in_ok-value-in_default.ensures.state
    c.in_ok-value-in_default.ensures.value in
    record {
      state = ap (λ r. r.state) z ∙ c.no_variable.ensures.state;
      value = ap (λ r. r.has) z ∙ c.no_variable.ensures.value;
      below = subst (LocatedBelow (length c.no_variable.new.walk.nodes)) (sym c.no_variable.ensures.none) tt;
      grows = subst (Grows c.args.walk.now.nodes) (sym c.no_variable.ensures.nodes) c.in_ok-value-in_default.ensures.grows;
    }

pub typing::typed-returns-in_ok-first-in-Conditional-clause-value : goal.typing::typed-returns-in_ok-first-in-Conditional-clause-value
typing::typed-returns-in_ok-first-in-Conditional-clause-value t c =
    let is : c.args.e.now ≡ anExpr.Conditional c.get-in-Conditional.result.now c.get-in-Conditional-2.result.now c.get-in-Conditional-3.result.now = cc (c.in-Conditional.is, c.get-in-Conditional.ensures, c.get-in-Conditional-2.ensures, c.get-in-Conditional-3.ensures) in
    let n = c.typed.new.walk.nodes in
    let m = c.typed-in-Conditional.new.walk.nodes in
    let x = has n c.in_ok-test-in-Conditional.test in
    let y = has m c.in_ok-first-in-Conditional.first in
    let z = conditional_through (world_of c.args.methods.now.scene.now) c.args.e.now (wanted_in c.args.walk.now.nodes c.args.wanted) c.get-in-Conditional.result.now c.get-in-Conditional-2.result.now c.get-in-Conditional-3.result.now is (now c.args.walk.now) (now c.typed.new.walk) (now c.typed-in-Conditional.new.walk) x y _ c.in_ok-test-in-Conditional.ensures.state
    c.in_ok-test-in-Conditional.ensures.value c.in_ok-first-in-Conditional.ensures.state c.in_ok-first-in-Conditional.ensures.value
    (ap (λ k. chosen_behind (world_of c.args.methods.now.scene.now) x y k c.get-in-Conditional-3.result.now (now c.typed-in-Conditional.new.walk)) (sym c.len-from.ensures)
    ∙ ap (λ o. chosen_behind (world_of c.args.methods.now.scene.now) o y c.len-from.result c.get-in-Conditional-3.result.now (now c.typed-in-Conditional.new.walk)) (sym (has_stays n m c.in_ok-test-in-Conditional.test c.in_ok-first-in-Conditional.ensures.grows c.in_ok-test-in-Conditional.ensures.within))) in
    subst (λ (r : Ran Typed). IfOk c.branched.result (λ at. r.has ≡ has c.branched.new.walk.nodes at)) (sym z) c.branched.ensures.value

pub typing::typed-returns-in_ok-element-in-Index-clause-value : goal.typing::typed-returns-in_ok-element-in-Index-clause-value
typing::typed-returns-in_ok-element-in-Index-clause-value t c =
    let is : c.args.e.now ≡ anExpr.Index c.get-in-Index.result.now c.get-in-Index-2.result.now = cc (c.in-Index.is, c.get-in-Index.ensures, c.get-in-Index-2.ensures) in
    let z = element_through (world_of c.args.methods.now.scene.now) c.args.e.now (wanted_in c.args.walk.now.nodes c.args.wanted) c.get-in-Index.result.now c.get-in-Index-2.result.now is (now c.args.walk.now) (now c.typed-in-Index.new.walk) (now c.indexed.new.walk) (has c.typed-in-Index.new.walk.nodes c.in_ok-array-in-Index.array) _
    c.in_ok-array-in-Index.ensures.state c.in_ok-array-in-Index.ensures.value c.in_ok-element-in-Index.ensures.state c.in_ok-element-in-Index.ensures.value in
    subst (λ (r : Ran Typed). IfOk c.value_or-in-Index.result (λ at. r.has ≡ has c.value_or-in-Index.new.walk.nodes at)) (sym z) c.value_or-in-Index.ensures.value

pub typing::typed-returns-in_ok-call-in-Call-clause-state : goal.typing::typed-returns-in_ok-call-in-Call-clause-state
typing::typed-returns-in_ok-call-in-Call-clause-state t c =
    let is : c.args.e.now ≡ anExpr.Call c.get-in-Call.result.now c.slice-in-Call.result.now c.get-in-Call-3.result.now c.slice-actuals.result.now =
    cc (c.in-Call.is, c.get-in-Call.ensures, c.get-in-Call-3.ensures, c.get-in-Call-4.ensures, c.slice-in-Call.ensures, c.get-in-Call-5.ensures, c.slice-actuals.ensures) in
    let n = c.args.walk.now.nodes in
    let m = c.asked_before.new.walk.nodes in
    let z = call_through (world_of c.args.methods.now.scene.now) c.args.e.now (wanted_in c.args.walk.now.nodes c.args.wanted) c.args.methods.now.scene.now.table.now (table_told c.args.methods.now.scene.now) c.get-in-Call.result.now c.slice-in-Call.result.now c.get-in-Call-3.result.now c.slice-actuals.result.now is c.start_of-in-Call.result
    (c.start_of-in-Call.ensures ∙ ap (starts (world_of c.args.methods.now.scene.now)) (c.get-in-Call-2.ensures ∙ sym c.get-in-Call.ensures)) (wanted_in m c.args.wanted) (wanted_stays n m c.args.wanted c.in_ok-before-in-Call.ensures.grows c.requires.wanted)
    (now c.args.walk.now) (now c.asked_before.new.walk) (now c.called_on.new.walk) (has_before m c.in_ok-before-in-Call.before) (has c.called_on.new.walk.nodes c.in_ok-call-in-Call.call) c.in_ok-before-in-Call.ensures.state
    c.in_ok-before-in-Call.ensures.value c.in_ok-call-in-Call.ensures.state c.in_ok-call-in-Call.ensures.value in
    subst (λ (r : Ran Typed). OnOk c.with_value.result (r.state ≡ now c.with_value.new.walk)) (sym z) c.with_value.ensures.state

pub typing::typed-returns-in_ok-call-in-Call-clause-value : goal.typing::typed-returns-in_ok-call-in-Call-clause-value
typing::typed-returns-in_ok-call-in-Call-clause-value t c =
    let is : c.args.e.now ≡ anExpr.Call c.get-in-Call.result.now c.slice-in-Call.result.now c.get-in-Call-3.result.now c.slice-actuals.result.now =
    cc (c.in-Call.is, c.get-in-Call.ensures, c.get-in-Call-3.ensures, c.get-in-Call-4.ensures, c.slice-in-Call.ensures, c.get-in-Call-5.ensures, c.slice-actuals.ensures) in
    let n = c.args.walk.now.nodes in
    let m = c.asked_before.new.walk.nodes in
    let z = call_through (world_of c.args.methods.now.scene.now) c.args.e.now (wanted_in c.args.walk.now.nodes c.args.wanted) c.args.methods.now.scene.now.table.now (table_told c.args.methods.now.scene.now) c.get-in-Call.result.now c.slice-in-Call.result.now c.get-in-Call-3.result.now c.slice-actuals.result.now is c.start_of-in-Call.result
    (c.start_of-in-Call.ensures ∙ ap (starts (world_of c.args.methods.now.scene.now)) (c.get-in-Call-2.ensures ∙ sym c.get-in-Call.ensures)) (wanted_in m c.args.wanted) (wanted_stays n m c.args.wanted c.in_ok-before-in-Call.ensures.grows c.requires.wanted)
    (now c.args.walk.now) (now c.asked_before.new.walk) (now c.called_on.new.walk) (has_before m c.in_ok-before-in-Call.before) (has c.called_on.new.walk.nodes c.in_ok-call-in-Call.call) c.in_ok-before-in-Call.ensures.state
    c.in_ok-before-in-Call.ensures.value c.in_ok-call-in-Call.ensures.state c.in_ok-call-in-Call.ensures.value in
    subst (λ (r : Ran Typed). IfOk c.with_value.result (λ at. r.has ≡ has c.with_value.new.walk.nodes at)) (sym z) c.with_value.ensures.value

pub typing::typed-returns-in-This-clause-value : goal.typing::typed-returns-in-This-clause-value
typing::typed-returns-in-This-clause-value t c =
    let z = this_through (world_of c.args.methods.now.scene.now) c.args.e.now (wanted_in c.args.walk.now.nodes c.args.wanted) c.in-This.n c.in-This.is c.at-in-This.result c.at-in-This.ensures (now c.args.walk.now) in
    subst (λ (r : Ran Typed). IfOk c.this_value.result (λ at. r.has ≡ has c.this_value.new.walk.nodes at)) (sym z) c.this_value.ensures.value
