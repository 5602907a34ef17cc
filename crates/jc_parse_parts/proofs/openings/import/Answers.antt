use Rattle.std.proofs.Common.{◌≡◌, subst}
use Rattle.jc_reading.specs.declared.reading.Halt.{Halt}
use Rattle.jc_reading.specs.Giving.{Halts}
use Rattle.jc_reading.specs.Reading.{Stopped, an_ident_at}
use Rattle.jc_parse_parts.proofs.HeadSteps.{import_unnamed}
use Rattle.jc_parse_parts.proofs.openings.import.Goals as goal

pub returns-in-Err-Stopped-clause-read : goal.returns-in-Err-Stopped-clause-read
returns-in-Err-Stopped-clause-read c =
    let word = c.static_word-word.result in
    let stop : an_ident_at word.rest.now ≡ Stopped c.in-Err-Stopped.reach = subst (λ (h : Halt). Halts h (an_ident_at word.rest.now)) c.in-Err-Stopped.field-0-is c.in-Err-Stopped.ensures.read in
    let whole = import_unnamed c.args.tokens.now c.in-Some.after.now word.rest.now c.in-Some.at word.value word.left c.in-Err-Stopped.reach c.in-Some.ensures.read c.static_word-word.ensures.read stop in
    cc
