use Rattle.std.proofs.Common.{◌≡◌, ◌∙◌, ap, Some}
use Rattle.std.proofs.lemmas.Result.{IfOk-weaker}
use Rattle.jc_types.specs.declared.ids.MethodId.{MethodId}
use Rattle.jc_bridges_spec.specs.Entering.{entry_checks}
use Rattle.jc_typed.specs.declared.program.Body.{Body}
use Rattle.jc_typed.specs.declared.program.TypedMethod.{TypedMethod}
use Rattle.jc_stmts_spec.specs.Bodies.{MethodBody}
use Rattle.jc_stmts_spec.specs.Typed.{IsBody}
use Rattle.jc_stmts_whole.specs.Programs.{heads_in, knowledge_in}
use Rattle.jc_stmts.specs.Stops.{IsBodyStop, IsFoundStop, IsTyped}
use Rattle.jc_stmts.proofs.Checked.{err_weaker, refused_stop, typed_body}
use Rattle.jc_stmts.proofs.body.check_body.Goals as goal

pub returns-clause-refused : goal.returns-clause-refused
returns-clause-refused c =
    let p = c.args.program.now in
    let T = p.table.now in
    let n = c.noted-checked.result.course.walk in
    let calls = c.args.calls.now.calls.now in
    err_weaker c.typed_method.result (λ stop. IsFoundStop n.found stop) (λ stop. IsBodyStop T (heads_in p) (knowledge_in p) calls c.args.body.now stop)
    (λ stop e. refused_stop T (heads_in p) (knowledge_in p) calls c.args.body.now c.in_ok-whole.whole n c.in_ok-whole.ensures.whole c.noted-checked.ensures.state stop e)
    c.typed_method.ensures.refused

pub returns-clause-typed : goal.returns-clause-typed
returns-clause-typed c =
    let p = c.args.program.now in
    let T = p.table.now in
    let w = c.in_ok-whole.whole in
    let checked = c.noted-checked.result in
    let n = checked.course.walk in
    let calls = c.args.calls.now.calls.now in
    let method : c.body.inside.method ≡ c.args.body.now.method = ap (λ (x : MethodBody). x.method) c.body.view_is in
    IfOk-weaker c.typed_method.result (λ m. IsTyped T c.body.inside.method checked m) (λ m. IsBody T (heads_in p) (knowledge_in p) calls c.args.body.now m)
    (λ (m : TypedMethod) e.
    typed_body T (heads_in p) (knowledge_in p) calls c.args.body.now w n c.in_ok-whole.ensures.whole c.noted-checked.ensures.state
    m e.none c.noted-checked.ensures.nodes (e.id ∙ method) (e.locals ∙ c.noted-checked.ensures.all) e.captured e.nodes (e.body ∙ ap (λ (x : Body). Some x) c.noted-checked.ensures.body) (e.checks ∙ ap (λ (x : MethodId). entry_checks T x) method))
    c.typed_method.ensures.typed
