use Rattle.std.proofs.Common.{◌≡◌, ap, sym, ◌∙◌, subst, List}
use Rattle.std.specs.Prelude.{IfOk, OnOk}
use Rattle.jc_rules.specs.declared.rule.Refusal.{Refusal}
use Rattle.jc_exprs_nodes_spec.specs.Gates.{stopped}
use Rattle.jc_exprs_nodes_spec.specs.Told.{Ran, Run, fine, provided, ran}
use Rattle.jc_exprs_nodes_spec.specs.Typeds.{converted, plain, unconverted}
use Rattle.jc_exprs_nodes.specs.Walks.{as_breaks, known, now}
use Rattle.jc_exprs_parts_spec.specs.Names.{AtElement, Located, element_breaks, or_int}
use Rattle.jc_exprs_located.specs.Locations.{array_breaks, has_located}
use Rattle.jc_exprs_located.proofs.Apart.{breaks_apart}
use Rattle.jc_exprs_located.proofs.Gating.{both_pass, stops_by}
use Rattle.jc_exprs_located.proofs.elements.element_with.Goals as goal

pub returns-then-both_hold-clause-state : goal.returns-then-both_hold-clause-state
returns-then-both_hold-clause-state c =
    let ns = c.args.walk.now.nodes in
    let T = c.args.table.now in
    let env = c.args.walk.now.env.bounds in
    let a = known ns c.args.array.at in
    let i = known ns c.args.index.at in
    let k = c.args.converts.now in
    let st = now c.args.walk.now in
    let m : Run Located = fine (AtElement a.start (plain a) (converted T env i k) (or_int c.args.element)) in
    let x : List Refusal = array_breaks a.place c.args.element in
    let y : List Refusal = unconverted 607 i.start k in
    let p : as_breaks c.array_break-no_array.result ≡ x = c.array_break-no_array.ensures ∙ ap (λ w. array_breaks w c.args.element) (sym c.requires.array.place) in
    let q : as_breaks c.unconverted-no_int.result ≡ y = c.unconverted-no_int.ensures ∙ ap (λ w. unconverted 607 w k) (sym c.requires.index.start) in
    let b = ap (λ bs. ran (provided bs m) st) (breaks_apart a i c.args.element k) in
    let z : ran (provided (element_breaks a i c.args.element k) m) st ≡ ran m st =
    b ∙ both_pass x y m st (sym p ∙ ap as_breaks (c.both_hold.ensures.first c.if-both_hold.true)) (sym q ∙ ap as_breaks (c.both_hold.ensures.second c.if-both_hold.true)) in
    subst (λ (r : Ran Located). OnOk c.element_at.result (r.state ≡ now c.element_at.new.walk)) (sym z) c.element_at.ensures.state

pub returns-then-both_hold-clause-value : goal.returns-then-both_hold-clause-value
returns-then-both_hold-clause-value c =
    let ns = c.args.walk.now.nodes in
    let T = c.args.table.now in
    let env = c.args.walk.now.env.bounds in
    let a = known ns c.args.array.at in
    let i = known ns c.args.index.at in
    let k = c.args.converts.now in
    let st = now c.args.walk.now in
    let m : Run Located = fine (AtElement a.start (plain a) (converted T env i k) (or_int c.args.element)) in
    let x : List Refusal = array_breaks a.place c.args.element in
    let y : List Refusal = unconverted 607 i.start k in
    let p : as_breaks c.array_break-no_array.result ≡ x = c.array_break-no_array.ensures ∙ ap (λ w. array_breaks w c.args.element) (sym c.requires.array.place) in
    let q : as_breaks c.unconverted-no_int.result ≡ y = c.unconverted-no_int.ensures ∙ ap (λ w. unconverted 607 w k) (sym c.requires.index.start) in
    let b = ap (λ bs. ran (provided bs m) st) (breaks_apart a i c.args.element k) in
    let z : ran (provided (element_breaks a i c.args.element k) m) st ≡ ran m st =
    b ∙ both_pass x y m st (sym p ∙ ap as_breaks (c.both_hold.ensures.first c.if-both_hold.true)) (sym q ∙ ap as_breaks (c.both_hold.ensures.second c.if-both_hold.true)) in
    subst (λ (r : Ran Located). IfOk c.element_at.result (λ l. r.has ≡ has_located c.element_at.new.walk.nodes l)) (sym z) c.element_at.ensures.value

pub returns-clause-state : goal.returns-clause-state
returns-clause-state c =
    let ns = c.args.walk.now.nodes in
    let T = c.args.table.now in
    let env = c.args.walk.now.env.bounds in
    let a = known ns c.args.array.at in
    let i = known ns c.args.index.at in
    let k = c.args.converts.now in
    let st = now c.args.walk.now in
    let m : Run Located = fine (AtElement a.start (plain a) (converted T env i k) (or_int c.args.element)) in
    let x : List Refusal = array_breaks a.place c.args.element in
    let y : List Refusal = unconverted 607 i.start k in
    let p : as_breaks c.array_break-no_array.result ≡ x = c.array_break-no_array.ensures ∙ ap (λ w. array_breaks w c.args.element) (sym c.requires.array.place) in
    let q : as_breaks c.unconverted-no_int.result ≡ y = c.unconverted-no_int.ensures ∙ ap (λ w. unconverted 607 w k) (sym c.requires.index.start) in
    let b = ap (λ bs. ran (provided bs m) st) (breaks_apart a i c.args.element k) in
    let z : ran (provided (element_breaks a i c.args.element k) m) st ≡ stopped (now c.refused_both.new.walk) =
    b ∙ stops_by (as_breaks c.array_break-no_array.result) (as_breaks c.unconverted-no_int.result) x y m st (stopped (now c.refused_both.new.walk)) p q
    (c.refused_both.ensures.stops m (sym c.both_hold.ensures.value ∙ c.if-both_hold.false)) in
    ap (λ (r : Ran Located). r.state) z

pub returns-clause-value : goal.returns-clause-value
returns-clause-value c =
    let ns = c.args.walk.now.nodes in
    let T = c.args.table.now in
    let env = c.args.walk.now.env.bounds in
    let a = known ns c.args.array.at in
    let i = known ns c.args.index.at in
    let k = c.args.converts.now in
    let st = now c.args.walk.now in
    let m : Run Located = fine (AtElement a.start (plain a) (converted T env i k) (or_int c.args.element)) in
    let x : List Refusal = array_breaks a.place c.args.element in
    let y : List Refusal = unconverted 607 i.start k in
    let p : as_breaks c.array_break-no_array.result ≡ x = c.array_break-no_array.ensures ∙ ap (λ w. array_breaks w c.args.element) (sym c.requires.array.place) in
    let q : as_breaks c.unconverted-no_int.result ≡ y = c.unconverted-no_int.ensures ∙ ap (λ w. unconverted 607 w k) (sym c.requires.index.start) in
    let b = ap (λ bs. ran (provided bs m) st) (breaks_apart a i c.args.element k) in
    let z : ran (provided (element_breaks a i c.args.element k) m) st ≡ stopped (now c.refused_both.new.walk) =
    b ∙ stops_by (as_breaks c.array_break-no_array.result) (as_breaks c.unconverted-no_int.result) x y m st (stopped (now c.refused_both.new.walk)) p q
    (c.refused_both.ensures.stops m (sym c.both_hold.ensures.value ∙ c.if-both_hold.false)) in
    ap (λ (r : Ran Located). r.has) z ∙ ap (has_located c.refused_both.new.walk.nodes) (sym c.refused_both.ensures.none)
