use Rattle.std.proofs.Common.{◌≡◌, sym, subst}
use Rattle.jc_tree.specs.declared.statement.Stmt.{Stmt}
use Rattle.jc_reading.specs.declared.reading.Halt.{Halt}
use Rattle.jc_reading.specs.Giving.{Gives, Halts}
use Rattle.jc_reading.specs.Reading.{Read, Stopped}
use Rattle.jc_parse_type.specs.TypeReading.{type_run}
use Rattle.jc_parse_heads.specs.UnitCode.{ended_effect_run}
use Rattle.jc_parse_heads.proofs.Effects.{local_or_found, local_or_stops}
use Rattle.jc_parse_heads.proofs.locals.local_or_effect.Goals as goal

pub returns-in-Ok : goal.returns-in-Ok
returns-in-Ok c =
    let ty = c.in-Ok.ty in
    subst (λ (v : Read Stmt). Gives c.typed_or.result v) (sym (local_or_found c.args.height c.args.tokens.now ty.rest.now ty.value ty.left c.in-Ok.ensures.read)) c.typed_or.ensures

pub returns-in-Err-Stopped : goal.returns-in-Err-Stopped
returns-in-Err-Stopped c =
    let stop : type_run c.args.height c.args.tokens.now ≡ Stopped c.in-Err-Stopped.left = subst (λ (h : Halt). Halts h (type_run c.args.height c.args.tokens.now)) c.in-Err-Stopped.field-0-is c.in-Err-Stopped.ensures.read in
    subst (λ (v : Read Stmt). Gives c.reaching.result v) (sym (local_or_stops c.args.height c.args.tokens.now c.in-Err-Stopped.left stop)) (c.reaching.ensures.read (ended_effect_run c.args.height c.args.tokens.now) c.ended_effect.ensures)
