use Rattle.std.proofs.Common.{◌≡◌, refl, ap, List, [], ◌∷◌, sym, ◌∙◌, subst}
use Rattle.std.specs.Prelude.{OnOk}
use Rattle.jc_types.specs.declared.form.Ty.{Ty}
use Rattle.jc_typed.specs.Parts.{types_of}
use Rattle.jc_exprs_nodes.specs.Walks.{now}
use Rattle.jc_stmts_spec.specs.Courses.{SomeTypes, caught_breaks}
use Rattle.jc_stmts_course.specs.Nows.{stage}
use Rattle.jc_stmts_course.specs.Steps.{Stage, answered, broken_more}
use Rattle.jc_stmts_course.proofs.Ending.{answered_behind}
use Rattle.jc_stmts_course.proofs.scoping.answer_types.Goals as goal

pub returns-clause-stage : goal.returns-clause-stage
returns-clause-stage c =
    let d = c.args.course.now in
    let m = c.push_types.new.course in
    let xs = SomeTypes (types_of m.walk.nodes c.in_ok-list.list) ∷ [] in
    let s = broken_more (now d.walk) (caught_breaks c.args.table.now c.args.place c.args.types.now) in
    let first : answered s [] (stage d) ≡ stage m = c.in_ok-note_caught.ensures.stage ∙ c.in_ok-list.ensures.stage in
    let e : answered s (SomeTypes c.args.types.now ∷ []) (stage d) ≡ answered (now m.walk) xs (stage m) =
    ap (λ (ts : List Ty). answered s (SomeTypes ts ∷ []) (stage d)) (sym c.in_ok-list.ensures.list) ∙ answered_behind (stage d) (stage m) (answered (now m.walk) xs (stage m)) s xs first refl in
    subst (λ (x : Stage). OnOk c.answer.result (x ≡ stage c.answer.new.course)) (sym e) c.answer.ensures.stage
