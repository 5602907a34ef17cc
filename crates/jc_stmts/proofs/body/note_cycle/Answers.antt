use Rattle.std.proofs.Common.{◌≡◌, ap, sym, ◌∙◌, subst, length}
use Rattle.jc_exprs_nodes.specs.Walks.{now}
use Rattle.jc_stmts_course.specs.Steps.{broken_more}
use Rattle.jc_stmts_spec.specs.Typed.{cycle_at, cycle_breaks, early_world, leads, next_in, place_in}
use Rattle.jc_stmts_spec.specs.Bodies.{MethodBody}
use Rattle.jc_stmts_bodies.specs.Seen.{begins_seen}
use Rattle.jc_stmts_bodies.specs.declared.body.Begins.{Begins}
use Rattle.jc_stmts_whole.specs.Programs.{heads_in, knowledge_in}
use Rattle.jc_stmts.specs.Targets.{next_of}
use Rattle.jc_stmts.proofs.Leading.{leads_same}
use Rattle.jc_stmts.proofs.body.note_cycle.Goals as goal

pub returns-in-WithThis-clause-state : goal.returns-in-WithThis-clause-state
returns-in-WithThis-clause-state c =
    let p = c.args.program.now in
    let T = p.table.now in
    let H = heads_in p in
    let K = knowledge_in p in
    let bs = c.args.calls.now.calls.now in
    let i = c.body.inside in
    let m = i.method in
    let f = next_of c.args.calls.now in
    let g = next_in T H K bs in
    let same = leads_same f g c.requires (length bs) (f m) m ∙ ap (λ x. leads g (length bs) x m) (c.requires m) in
    let at : Begins → MethodBody = λ y. record { method = m; begins = begins_seen y; initialisers = i.initialisers; rest = i.rest.now } in
    let Noted : MethodBody → Type 0 = λ x. broken_more (now c.args.walk.now) (cycle_breaks T H K bs x x.begins) ≡ now c.note_call.new.walk in
    subst Noted c.body.view_is
    (subst (λ (y : Begins). Noted (at y)) (sym c.in-WithThis.is)
    (ap (λ x. broken_more (now c.args.walk.now) (cycle_at (place_in (early_world T H K m) c.in-WithThis.offset) x)) (sym same) ∙ c.note_call.ensures.state))
