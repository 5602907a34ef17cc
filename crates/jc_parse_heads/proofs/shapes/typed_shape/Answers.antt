use Rattle.std.proofs.Common.{arith}
use Rattle.std.proofs.lemmas.Result.{err_from_is_err_and}
use Rattle.jc_parse_type.specs.TypeReading.{type_run}
use Rattle.jc_parse_heads.specs.MemberCode.{named_tail_run, typed_shape_run}
use Rattle.jc_parse_nodes.specs.Nodes.{typed_shape}
use Rattle.jc_parse_heads.proofs.Joinings.{two_gives, two_halts}
use Rattle.jc_parse_heads.proofs.shapes.typed_shape.Goals as goal

pub returns-in_err-ty : goal.returns-in_err-ty
unfolding typed_shape_run
returns-in_err-ty c = let p = err_from_is_err_and c.from_residual.result c.from_residual.ensures.1 in rw (p.1, p.2) (two_halts typed_shape (type_run c.args.height c.args.tokens.now) (named_tail_run c.args.height) c.in_err-ty.field-0.0 c.in_err-ty.ensures.read)

pub returns : goal.returns
unfolding typed_shape_run
returns c = two_gives typed_shape (type_run c.args.height c.args.tokens.now) (named_tail_run c.args.height) c.in_ok-ty.ty c.named_tail.result c.typed_shape_of.result c.in_ok-ty.ensures.read (c.named_tail.ensures) c.typed_shape_of.ensures
