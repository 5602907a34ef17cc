use Rattle.std.proofs.Common.{sym, subst, arith}
use Rattle.std.proofs.lemmas.Result.{err_from_is_err_and}
use Rattle.jc_reading.specs.Giving.{Gives, Halts}
use Rattle.jc_reading.specs.Reading.{Read}
use Rattle.jc_parse_type.specs.TypeReading.{class_run}
use Rattle.jc_parse_heads.proofs.Joinings.{two_gives, two_halts}
use Rattle.jc_parse_nodes.specs.declared.head_parts.CaughtTypes.{CaughtTypes}
use Rattle.jc_parse_heads.specs.HeadCode.{caught_run}
use Rattle.jc_parse_heads.proofs.CatchForms.{caught_types_is, caught_types_node}
use Rattle.jc_parse_heads.proofs.catching.caught_types.Goals as goal

pub returns-in_err-first : goal.returns-in_err-first
returns-in_err-first c = let p = err_from_is_err_and c.from_residual.result c.from_residual.ensures.1 in rw (p.1, p.2) (subst (λ (v : Read CaughtTypes). Halts c.in_err-first.field-0.0 v) (sym (caught_types_is c.args.height c.args.tokens.now)) (two_halts caught_types_node (class_run c.args.height c.args.tokens.now) (caught_run c.args.height) c.in_err-first.field-0.0 (c.in_err-first.ensures.read)))

pub returns : goal.returns
returns c = subst (λ (v : Read CaughtTypes). Gives c.caught_types_of.result v) (sym (caught_types_is c.args.height c.args.tokens.now)) (two_gives caught_types_node (class_run c.args.height c.args.tokens.now) (caught_run c.args.height) c.in_ok-first.first c.caught.result c.caught_types_of.result (c.in_ok-first.ensures.read) (c.caught.ensures) c.caught_types_of.ensures)
