use Rattle.std.proofs.Common.{arith}
use Rattle.std.proofs.lemmas.Result.{err_from_is_err_and}
use Rattle.jc_lexer.specs.declared.token.Key.TheVariants as key_of
use Rattle.jc_expr_laws.specs.ExprReading.{exprs}
use Rattle.jc_parse_type.specs.TypeReading.{class_run}
use Rattle.jc_part_laws.specs.PartReading.{formal_run, formals_run, keyed_run}
use Rattle.jc_parse_heads.specs.MemberCode.{signature_made, signature_run}
use Rattle.jc_parse_heads.proofs.Joinings.{two_gives, two_halts}
use Rattle.jc_parse_heads.proofs.shapes.signature.Goals as goal

pub returns-in_err-formals : goal.returns-in_err-formals
unfolding signature_run
returns-in_err-formals c = let p = err_from_is_err_and c.from_residual.result c.from_residual.ensures.1 in rw (p.1, p.2) (two_halts signature_made (formals_run (formal_run exprs c.args.height) c.args.tokens.now) (keyed_run key_of.Throws (class_run c.args.height)) c.in_err-formals.field-0.0 c.in_err-formals.ensures.read)

pub returns : goal.returns
unfolding signature_run
returns c = two_gives signature_made (formals_run (formal_run exprs c.args.height) c.args.tokens.now) (keyed_run key_of.Throws (class_run c.args.height)) c.in_ok-formals.formals c.some.result c.signature_of.result c.in_ok-formals.ensures.read (c.some.ensures.read ((keyed_run key_of.Throws (class_run c.args.height)) c.in_ok-formals.formals.rest.now) c.keyed_within.ensures.read) c.signature_of.ensures
