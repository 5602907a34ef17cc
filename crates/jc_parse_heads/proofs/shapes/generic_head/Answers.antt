use Rattle.std.proofs.Common.{arith}
use Rattle.std.proofs.lemmas.Result.{err_from_is_err_and}
use Rattle.jc_parse_type.specs.TypeReading.{class_run}
use Rattle.jc_part_laws.specs.PartReading.{params_of_run}
use Rattle.jc_parse_heads.specs.MemberCode.{generic_head, generic_head_run, generic_shape_run}
use Rattle.jc_parse_heads.proofs.Joinings.{two_gives, two_halts}
use Rattle.jc_parse_heads.proofs.shapes.generic_head.Goals as goal

pub returns-in_err-params : goal.returns-in_err-params
unfolding generic_head_run
returns-in_err-params c = let p = err_from_is_err_and c.from_residual.result c.from_residual.ensures.1 in rw (p.1, p.2) (two_halts generic_head (params_of_run (class_run c.args.height) c.args.tokens.now) (generic_shape_run c.args.height) c.in_err-params.field-0.0 c.in_err-params.ensures.read)

pub returns : goal.returns
unfolding generic_head_run
returns c = two_gives generic_head (params_of_run (class_run c.args.height) c.args.tokens.now) (generic_shape_run c.args.height) c.in_ok-params.params c.generic_shape.result c.generic_of.result c.in_ok-params.ensures.read (c.generic_shape.ensures) c.generic_of.ensures
