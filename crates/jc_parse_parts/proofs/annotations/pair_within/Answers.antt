use Rattle.std.proofs.Common.{◌≡◌, sym, subst, arith}
use Rattle.jc_reading.specs.declared.reading.Halt.{Halt}
use Rattle.jc_reading.specs.Giving.{Gives, Halts}
use Rattle.jc_reading.specs.Reading.{Stopped, as_new}
use Rattle.jc_parse_parts.specs.Parts.{named_value}
use Rattle.jc_parse_parts.proofs.PartSteps.{named_run, pair_plain}
use Rattle.jc_parse_parts.proofs.annotations.pair_within.Goals as goal

pub returns-in-Err-Stopped-clause-read : goal.returns-in-Err-Stopped-clause-read
returns-in-Err-Stopped-clause-read c =
    let named = as_new named_value (named_run c.args.height) c.args.tokens.now in
    let stop : named ≡ Stopped c.in-Err-Stopped.reach = subst (λ (h : Halt). Halts h named) c.in-Err-Stopped.field-0-is c.in-Err-Stopped.ensures.read in
    subst (λ v. Gives c.plain_pair.result v) (sym (pair_plain c.args.height c.args.tokens.now c.in-Err-Stopped.reach (omega arith) stop)) (c.plain_pair.ensures.read _ c.value_within.ensures.read)
