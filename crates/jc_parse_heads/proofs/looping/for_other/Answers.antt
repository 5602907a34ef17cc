use Rattle.std.proofs.Common.{◌≡◌, sym, subst, arith}
use Rattle.jc_tree.specs.declared.statement.ForHead.{ForHead}
use Rattle.jc_reading.specs.Giving.{Gives, Halts}
use Rattle.jc_reading.specs.Reading.{Read}
use Rattle.jc_parse_type.specs.TypeReading.{type_run}
use Rattle.jc_reading.specs.Reading.{Stopped}
use Rattle.jc_reading.specs.declared.reading.Halt.{Halt}
use Rattle.jc_parse_heads.specs.HeadCode.{for_effects_run}
use Rattle.jc_parse_heads.proofs.ForForms.{for_other_found, for_other_stops}
use Rattle.jc_parse_heads.proofs.looping.for_other.Goals as goal

pub returns-in-Ok : goal.returns-in-Ok
returns-in-Ok c = let ty = c.in-Ok.ty in subst (λ (v : Read ForHead). Gives c.for_typed_or.result v) (sym (for_other_found c.args.height c.args.tokens.now ty.rest.now ty.value ty.left c.in-Ok.ensures.read)) c.for_typed_or.ensures

pub returns-in-Err-Stopped : goal.returns-in-Err-Stopped
returns-in-Err-Stopped c =
    let stop : type_run c.args.height c.args.tokens.now ≡ Stopped c.in-Err-Stopped.left = subst (λ (h : Halt). Halts h (type_run c.args.height c.args.tokens.now)) c.in-Err-Stopped.field-0-is c.in-Err-Stopped.ensures.read in
    subst (λ (v : Read ForHead). Gives c.reaching.result v) (sym (for_other_stops c.args.height c.args.tokens.now c.in-Err-Stopped.left stop)) (c.reaching.ensures.read (for_effects_run c.args.height c.args.tokens.now) c.for_effects.ensures)
