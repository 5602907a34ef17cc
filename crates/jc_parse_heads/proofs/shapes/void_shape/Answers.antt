use Rattle.std.proofs.Common.{arith}
use Rattle.std.proofs.lemmas.Result.{err_from_is_err_and}
use Rattle.jc_lexer.specs.declared.token.Key.TheVariants as key_of
use Rattle.jc_reading.specs.Kinds.{key_code}
use Rattle.jc_reading.specs.Reading.{at_kind}
use Rattle.jc_parse_heads.specs.MemberCode.{named_signature_run, void_shape, void_shape_run}
use Rattle.jc_parse_heads.proofs.Joinings.{two_gives, two_halts}
use Rattle.jc_parse_heads.proofs.shapes.void_shape.Goals as goal

pub returns-in_err-at : goal.returns-in_err-at
unfolding void_shape_run
returns-in_err-at c = let p = err_from_is_err_and c.from_residual.result c.from_residual.ensures.1 in rw (p.1, p.2) (two_halts void_shape (at_kind (key_code key_of.Void) c.args.tokens.now) (named_signature_run c.args.height) c.in_err-at.field-0.0 c.in_err-at.ensures.read)

pub returns : goal.returns
unfolding void_shape_run
returns c = two_gives void_shape (at_kind (key_code key_of.Void) c.args.tokens.now) (named_signature_run c.args.height) c.in_ok-at.at c.named_signature.result c.void_of.result c.in_ok-at.ensures.read (c.named_signature.ensures) c.void_of.ensures
