use Rattle.std.proofs.Common.{arith}
use Rattle.std.proofs.lemmas.Result.{err_from_is_err_and}
use Rattle.jc_reading.specs.Reading.{an_ident_at}
use Rattle.jc_parse_heads.specs.MemberCode.{named_made, named_signature_run, signature_run}
use Rattle.jc_parse_heads.proofs.Joinings.{two_gives, two_halts}
use Rattle.jc_parse_heads.proofs.shapes.named_signature.Goals as goal

pub returns-in_err-first : goal.returns-in_err-first
unfolding named_signature_run
returns-in_err-first c = let p = err_from_is_err_and c.from_residual.result c.from_residual.ensures.1 in rw (p.1, p.2) (two_halts named_made (an_ident_at c.args.tokens.now) (signature_run c.args.height) c.in_err-first.field-0.0 c.in_err-first.ensures.read)

pub returns : goal.returns
unfolding named_signature_run
returns c = two_gives named_made (an_ident_at c.args.tokens.now) (signature_run c.args.height) c.in_ok-first.first c.signature.result c.named_of.result c.in_ok-first.ensures.read (c.signature.ensures) c.named_of.ensures
