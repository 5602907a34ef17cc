use Rattle.std.proofs.Common.{◌≡◌, ap, sym, ◌∙◌, subst, rules}
use Rattle.std.specs.Prelude.{IfOk, OnOk}
use Rattle.jc_exprs_nodes_spec.specs.Told.{Ran, ran}
use Rattle.jc_exprs_nodes_spec.specs.Typeds.{Settled, is_by_bounds, type_of}
use Rattle.jc_exprs_nodes.specs.Walks.{has_behind, has_kind, kind_of, known, now}
use Rattle.jc_exprs_settling.specs.Settlings.{has_settled}
use Rattle.jc_exprs_settling.proofs.Settles.{kinds, settled_none, settled_some}
use Rattle.jc_exprs_nodes.proofs.Staying.{known_stays}
use Rattle.jc_exprs_settling.proofs.settling.settled.Goals as goal

pub returns-in-None-clause-state : goal.returns-in-None-clause-state
returns-in-None-clause-state c =
    let t = known c.args.walk.now.nodes c.args.part.at in
    let s = now c.args.walk.now in
    let e : has_behind t.captures (ran (kinds c.args.table.now t s) s).has ≡ has_kind c.settled_kind.new.walk.nodes c.in_ok-settled_kind.field-0 = rw c.inside-inside.ensures.captures c.in_ok-settled_kind.ensures.value in
    ap (λ (x : Ran Settled). x.state) (settled_none c.args.table.now t s (now c.settled_kind.new.walk) c.in_ok-settled_kind.ensures.state (e ∙ ap (has_kind c.settled_kind.new.walk.nodes) c.in-None.is))

pub returns-in-None-clause-value : goal.returns-in-None-clause-value
returns-in-None-clause-value c =
    let t = known c.args.walk.now.nodes c.args.part.at in
    let s = now c.args.walk.now in
    let e : has_behind t.captures (ran (kinds c.args.table.now t s) s).has ≡ has_kind c.settled_kind.new.walk.nodes c.in_ok-settled_kind.field-0 = rw c.inside-inside.ensures.captures c.in_ok-settled_kind.ensures.value in
    ap (λ (x : Ran Settled). x.has) (settled_none c.args.table.now t s (now c.settled_kind.new.walk) c.in_ok-settled_kind.ensures.state (e ∙ ap (has_kind c.settled_kind.new.walk.nodes) c.in-None.is))

pub returns-in-Some-clause-state : goal.returns-in-Some-clause-state
returns-in-Some-clause-state c =
    let t = known c.args.walk.now.nodes c.args.part.at in
    let s = now c.args.walk.now in
    let ns = c.settled_kind.new.walk.nodes in
    let k = kind_of ns c.in-Some.kind in
    let e : has_behind t.captures (ran (kinds c.args.table.now t s) s).has ≡ has_kind ns c.in_ok-settled_kind.field-0 = rw c.inside-inside.ensures.captures c.in_ok-settled_kind.ensures.value in
    let b : is_by_bounds c.args.table.now s.env (type_of t) ≡ c.is_by_bounds-by_bounds.result = ap (is_by_bounds c.args.table.now s.env) (c.requires.ty ∙ c.ty.ensures) ∙ sym c.is_by_bounds-by_bounds.ensures in
    let z = settled_some c.args.table.now t k c.is_by_bounds-by_bounds.result s (now c.settled_kind.new.walk) b c.in_ok-settled_kind.ensures.state (e ∙ ap (has_kind ns) c.in-Some.is) in
    subst (λ (x : Ran Settled). OnOk c.settled_part.result (x.state ≡ now c.settled_kind.new.walk)) (sym z) (search rules)

pub returns-in-Some-clause-value : goal.returns-in-Some-clause-value
returns-in-Some-clause-value c =
    let t = known c.args.walk.now.nodes c.args.part.at in
    let s = now c.args.walk.now in
    let ns = c.settled_kind.new.walk.nodes in
    let k = kind_of ns c.in-Some.kind in
    let e : has_behind t.captures (ran (kinds c.args.table.now t s) s).has ≡ has_kind ns c.in_ok-settled_kind.field-0 = rw c.inside-inside.ensures.captures c.in_ok-settled_kind.ensures.value in
    let b : is_by_bounds c.args.table.now s.env (type_of t) ≡ c.is_by_bounds-by_bounds.result = ap (is_by_bounds c.args.table.now s.env) (c.requires.ty ∙ c.ty.ensures) ∙ sym c.is_by_bounds-by_bounds.ensures in
    let z = settled_some c.args.table.now t k c.is_by_bounds-by_bounds.result s (now c.settled_kind.new.walk) b c.in_ok-settled_kind.ensures.state (e ∙ ap (has_kind ns) c.in-Some.is) in
    let y = known_stays c.args.walk.now.nodes ns c.args.part.at c.in_ok-settled_kind.ensures.grows c.requires.below.0 in
    subst (λ (x : Ran Settled). IfOk c.settled_part.result (λ r. x.has ≡ has_settled c.settled_part.new.nodes r)) (sym z)
    (rw (← y) c.settled_part.ensures.value)
