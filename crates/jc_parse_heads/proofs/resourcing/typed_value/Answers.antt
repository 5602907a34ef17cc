use Rattle.std.proofs.Common.{sym, subst, arith}
use Rattle.std.proofs.lemmas.Result.{err_from_is_err_and}
use Rattle.jc_reading.specs.Giving.{Gives, Halts}
use Rattle.jc_reading.specs.Reading.{Read}
use Rattle.jc_parse_type.specs.TypeReading.{type_run}
use Rattle.jc_parse_heads.proofs.Joinings.{two_gives, two_halts}
use Rattle.jc_parse_nodes.specs.declared.head_parts.TypedValue.{TypedValue}
use Rattle.jc_parse_heads.specs.HeadCode.{valued_run}
use Rattle.jc_parse_heads.proofs.ResourceForms.{typed_value_is, typed_value_node}
use Rattle.jc_parse_heads.proofs.resourcing.typed_value.Goals as goal

pub returns-in_err-ty : goal.returns-in_err-ty
returns-in_err-ty c = let p = err_from_is_err_and c.from_residual.result c.from_residual.ensures.1 in rw (p.1, p.2) (subst (λ (v : Read TypedValue). Halts c.in_err-ty.field-0.0 v) (sym (typed_value_is c.args.height c.args.tokens.now)) (two_halts typed_value_node (type_run c.args.height c.args.tokens.now) (valued_run c.args.height) c.in_err-ty.field-0.0 (c.in_err-ty.ensures.read)))

pub returns : goal.returns
returns c = subst (λ (v : Read TypedValue). Gives c.typed_value_of.result v) (sym (typed_value_is c.args.height c.args.tokens.now)) (two_gives typed_value_node (type_run c.args.height c.args.tokens.now) (valued_run c.args.height) c.in_ok-ty.ty c.valued.result c.typed_value_of.result (c.in_ok-ty.ensures.read) (c.valued.ensures) c.typed_value_of.ensures)
