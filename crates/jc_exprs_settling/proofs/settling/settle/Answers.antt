use Rattle.std.proofs.Common.{◌≡◌, ◌-◌, suc, ap, sym, ◌∙◌, arith, rules}
use Rattle.jc_exprs_nodes_spec.specs.Told.{Ran}
use Rattle.jc_exprs_nodes_spec.specs.Typeds.{Kind}
use Rattle.jc_exprs_nodes.specs.Walks.{has_kind, kind_of, now}
use Rattle.jc_exprs_settling.proofs.Settles.{at_end, meets}
use Rattle.jc_exprs_settling.proofs.settling.settle.Goals as goal

pub returns-clause-state : goal.returns-clause-state
returns-clause-state c =
    let z : c.loop-left.left ≡ 0 = omega arith in
    ap (λ (x : Ran Kind). x.state) (sym c.loop-left.invariant.0 ∙ at_end c.args.table.now c.args.place c.loop-left.left (kind_of c.loop-left.walk.nodes c.loop-left.kind) (now c.loop-left.walk) z)

pub returns-clause-value : goal.returns-clause-value
returns-clause-value c =
    let z : c.loop-left.left ≡ 0 = omega arith in
    ap (λ (x : Ran Kind). x.has) (sym c.loop-left.invariant.0 ∙ at_end c.args.table.now c.args.place c.loop-left.left (kind_of c.loop-left.walk.nodes c.loop-left.kind) (now c.loop-left.walk) z)

pub returns-in-None-clause-state : goal.returns-in-None-clause-state
returns-in-None-clause-state c =
    let n = c.loop-left.left in
    let ns = c.loop-left.walk.nodes in
    let z : n ≡ suc (n - 1) = omega arith in
    let h = c.in_ok-capturing_behind.ensures.value ∙ ap (has_kind c.capturing_behind.new.walk.nodes) c.in-None.is in
    ap (λ (x : Ran Kind). x.state)
    (sym c.loop-left.invariant.0
    ∙ meets c.args.table.now c.args.place n (n - 1) (kind_of ns c.loop-left.kind) (now c.loop-left.walk) (now c.capturing_behind.new.walk) c.in_ok-to.to z (search rules) (search rules) c.in_ok-capturing_behind.ensures.state h)

pub returns-in-None-clause-value : goal.returns-in-None-clause-value
returns-in-None-clause-value c =
    let n = c.loop-left.left in
    let ns = c.loop-left.walk.nodes in
    let z : n ≡ suc (n - 1) = omega arith in
    let h = c.in_ok-capturing_behind.ensures.value ∙ ap (has_kind c.capturing_behind.new.walk.nodes) c.in-None.is in
    ap (λ (x : Ran Kind). x.has)
    (sym c.loop-left.invariant.0
    ∙ meets c.args.table.now c.args.place n (n - 1) (kind_of ns c.loop-left.kind) (now c.loop-left.walk) (now c.capturing_behind.new.walk) c.in_ok-to.to z (search rules) (search rules) c.in_ok-capturing_behind.ensures.state h)
