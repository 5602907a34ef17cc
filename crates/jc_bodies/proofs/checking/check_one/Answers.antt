use Rattle.std.proofs.Common.{◌≡◌, Some, ap, refl, slice_set, ◌∙◌}
use Rattle.jc_types.specs.Breaks.{sooner}
use Rattle.jc_types.specs.declared.ids.MethodId.{MethodId}
use Rattle.jc_stmts_spec.specs.Bodies.{MethodBody}
use Rattle.jc_stmts_whole.specs.Programs.{heads_in, knowledge_in}
use Rattle.jc_bodies.proofs.OneMore.{with_broken, with_typed}
use Rattle.jc_bodies.proofs.checking.check_one.Goals as goal

pub returns-in-Ok-clause-checked : goal.returns-in-Ok-clause-checked
returns-in-Ok-clause-checked c =
    let p = c.args.program.now in
    let old = c.args.typing.now in
    let same : c.body.inside.method ≡ c.args.body.now.method = ap (λ (b : MethodBody). b.method) c.body.view_is in
    let put : c.put.new.slots.items ≡ slice_set old.slots.items c.args.body.now.method.0 (Some c.in-Ok.method) = c.put.ensures ∙ ap (λ (k : MethodId). slice_set old.slots.items k.0 (Some c.in-Ok.method)) same in
    λ bs are. with_typed p.table.now (heads_in p) (knowledge_in p) c.args.calls.now.calls.now c.args.body.now bs c.in-Ok.method old (record { found = old.found; slots = c.put.new.slots }) c.in-Ok.ensures.typed refl put are

pub returns-in-Err-Refused-clause-checked : goal.returns-in-Err-Refused-clause-checked
returns-in-Err-Refused-clause-checked c =
    let p = c.args.program.now in
    let old = c.args.typing.now in
    let least = rw c.in-Err-Refused.field-0-is at c.in-Err-Refused.ensures.refused in
    let found : c.sooner-typing.result ≡ sooner old.found (Some c.in-Err-Refused.refusal) = cc (c.sooner-typing.ensures, c.in-Err-Refused.refusal-is) in
    λ bs are. with_broken p.table.now (heads_in p) (knowledge_in p) c.args.calls.now.calls.now c.args.body.now bs c.in-Err-Refused.refusal old (record { found = c.sooner-typing.result; slots = old.slots }) least found are
