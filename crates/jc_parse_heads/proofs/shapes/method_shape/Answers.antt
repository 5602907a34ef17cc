use Rattle.std.proofs.Common.{arith}
use Rattle.std.proofs.lemmas.Result.{err_from_is_err_and}
use Rattle.jc_parse_type.specs.TypeReading.{type_run}
use Rattle.jc_parse_heads.specs.MemberCode.{method_shape, method_shape_run, named_signature_run}
use Rattle.jc_parse_heads.proofs.Joinings.{two_gives, two_halts}
use Rattle.jc_parse_heads.proofs.shapes.method_shape.Goals as goal

pub returns-in_err-ty : goal.returns-in_err-ty
unfolding method_shape_run
returns-in_err-ty c = let p = err_from_is_err_and c.from_residual.result c.from_residual.ensures.1 in rw (p.1, p.2) (two_halts method_shape (type_run c.args.height c.args.tokens.now) (named_signature_run c.args.height) c.in_err-ty.field-0.0 c.in_err-ty.ensures.read)

pub returns : goal.returns
unfolding method_shape_run
returns c = two_gives method_shape (type_run c.args.height c.args.tokens.now) (named_signature_run c.args.height) c.in_ok-ty.ty c.named_signature.result c.method_of.result c.in_ok-ty.ensures.read (c.named_signature.ensures) c.method_of.ensures
