use Rattle.std.proofs.Common.{sym, subst, arith}
use Rattle.std.proofs.lemmas.Result.{err_from_is_err_and}
use Rattle.jc_reading.specs.Giving.{Gives, Halts}
use Rattle.jc_reading.specs.Reading.{Read}
use Rattle.jc_parse_type.specs.TypeReading.{type_run}
use Rattle.jc_parse_heads.proofs.Joinings.{two_gives, two_halts}
use Rattle.jc_parse_nodes.specs.declared.head_parts.ForNamed.{ForNamed}
use Rattle.jc_parse_nodes.specs.declared.head_parts.ForTyped.{ForTyped}
use Rattle.jc_tree.specs.declared.types.TypeTree.{TypeTree}
use Rattle.jc_parse_heads.specs.HeadCode.{for_name_run}
use Rattle.jc_parse_heads.proofs.ForForms.{for_typed_is}
use Rattle.jc_parse_heads.proofs.looping.for_typed.Goals as goal

pub returns-in_err-ty : goal.returns-in_err-ty
returns-in_err-ty c = let p = err_from_is_err_and c.from_residual.result c.from_residual.ensures.1 in rw (p.1, p.2) (subst (λ (v : Read ForTyped). Halts c.in_err-ty.field-0.0 v) (sym (for_typed_is c.args.height c.args.tokens.now)) (two_halts (λ (p : TypeTree × ForNamed). record { ty = p.0; named = p.1 }) (type_run c.args.height c.args.tokens.now) (for_name_run c.args.height) c.in_err-ty.field-0.0 (c.in_err-ty.ensures.read)))

pub returns : goal.returns
returns c = subst (λ (v : Read ForTyped). Gives c.for_typed_of.result v) (sym (for_typed_is c.args.height c.args.tokens.now)) (two_gives (λ (p : TypeTree × ForNamed). record { ty = p.0; named = p.1 }) (type_run c.args.height c.args.tokens.now) (for_name_run c.args.height) c.in_ok-ty.ty c.for_name.result c.for_typed_of.result (c.in_ok-ty.ensures.read) (c.for_name.ensures) c.for_typed_of.ensures)
