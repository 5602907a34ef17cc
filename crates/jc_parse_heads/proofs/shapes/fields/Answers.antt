use Rattle.std.proofs.Common.{length, sym, subst, arith}
use Rattle.std.proofs.lemmas.Result.{err_from_is_err_and}
use Rattle.jc_reading.specs.Giving.{Gives, Halts}
use Rattle.jc_reading.specs.Reading.{Read, noting}
use Rattle.jc_parse_parts.specs.Parts.{initial_run}
use Rattle.jc_parse_heads.specs.MemberCode.{ended_more_run}
use Rattle.jc_parse_nodes.specs.declared.heads.FieldsTail.{FieldsTail}
use Rattle.jc_parse_heads.proofs.Joinings.{two_gives, two_halts}
use Rattle.jc_parse_heads.proofs.Shaping.{fields_are, fields_node}
use Rattle.jc_parse_heads.proofs.shapes.fields.Goals as goal

pub returns-in_err-init : goal.returns-in_err-init
returns-in_err-init c =
    let dims = c.dims-dims.result in
    let p = err_from_is_err_and c.from_residual.result c.from_residual.ensures.1 in rw (p.1, p.2) (subst (λ (v : Read FieldsTail). Halts c.in_err-init.field-0.0 v) (sym (fields_are c.args.height c.args.tokens.now dims.rest.now dims.value dims.left c.dims-dims.ensures.read))
    (two_halts (fields_node dims.value) (noting dims.left (initial_run c.args.height dims.rest.now)) (ended_more_run c.args.height) c.in_err-init.field-0.0 (c.in_err-init.ensures.read (initial_run c.args.height dims.rest.now) (c.some.ensures.read (initial_run c.args.height dims.rest.now) c.initial_within.ensures.read))))

pub returns : goal.returns
returns c =
    let dims = c.dims-dims.result in
    subst (λ (v : Read FieldsTail). Gives c.parts_of.result v) (sym (fields_are c.args.height c.args.tokens.now dims.rest.now dims.value dims.left c.dims-dims.ensures.read))
    (two_gives (fields_node dims.value) (noting dims.left (initial_run c.args.height dims.rest.now)) (ended_more_run c.args.height) c.in_ok-init.init c.ended_more.result c.parts_of.result (c.in_ok-init.ensures.read (initial_run c.args.height dims.rest.now) (c.some.ensures.read (initial_run c.args.height dims.rest.now) c.initial_within.ensures.read)) c.ended_more.ensures c.parts_of.ensures)

pub ended_more-requires : goal.ended_more-requires
ended_more-requires c =
    let room = length c.dims-dims.result.rest.now in
    let lt = c.in_ok-init.ensures.shorter room (c.some.ensures.shorter room c.initial_within.ensures.shorter) in
    omega (arith, lt, c.dims-dims.ensures.shorter, c.requires)
