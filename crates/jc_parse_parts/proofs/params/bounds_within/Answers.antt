use Rattle.std.proofs.Common.{IfOk, sym, subst}
use Rattle.jc_reading.specs.Giving.{Is}
use Rattle.jc_parse_type.specs.TypeReading.{class_run}
use Rattle.jc_parse_parts.proofs.PartSteps.{bounds_as}
use Rattle.jc_parse_parts.proofs.params.bounds_within.Goals as goal

pub returns-clause-read : goal.returns-clause-read
returns-clause-read c = subst (λ v. IfOk c.behind_word.result (λ f. Is f v)) (sym (bounds_as (class_run c.args.height) c.args.tokens.now)) c.behind_word.ensures.read
