use Rattle.std.proofs.Common.{sym, subst, arith, rules}
use Rattle.std.proofs.lemmas.Result.{err_from_is_err_and}
use Rattle.jc_reading.specs.Giving.{Gives}
use Rattle.jc_reading.specs.Reading.{Read, an_ident_at, either}
use Rattle.jc_unit_laws.specs.MemberReading.{paren_codes}
use Rattle.jc_parse_heads.specs.MemberCode.{fields_run, named_tail_run, signature_run, tail_made}
use Rattle.jc_parse_nodes.specs.declared.heads.NamedTail.{NamedTail}
use Rattle.jc_parse_heads.proofs.Joinings.{joined_gives, two_halts}
use Rattle.jc_parse_heads.proofs.Shaping.{named_fields, named_method, tail_fields, tail_method}
use Rattle.jc_parse_heads.proofs.shapes.named_tail.Goals as goal

pub returns-in_err-first : goal.returns-in_err-first
unfolding named_tail_run
returns-in_err-first c = let p = err_from_is_err_and c.from_residual.result c.from_residual.ensures.1 in rw (p.1, p.2) (two_halts tail_made (an_ident_at c.args.tokens.now) (either paren_codes (signature_run c.args.height) (fields_run c.args.height)) c.in_err-first.field-0.0 c.in_err-first.ensures.read)

pub returns-then-sign_stands : goal.returns-then-sign_stands
returns-then-sign_stands c =
    let first = c.in_ok-first.first in
    subst (λ (v : Read NamedTail). Gives c.method_tail_of.result v) (sym (named_method c.args.height c.args.tokens.now first.rest.now first.value first.left c.in_ok-first.ensures.read (search rules)))
    (joined_gives (tail_method) first (signature_run c.args.height first.rest.now) c.signature.result c.method_tail_of.result c.signature.ensures c.method_tail_of.ensures)

pub returns : goal.returns
returns c =
    let first = c.in_ok-first.first in
    subst (λ (v : Read NamedTail). Gives c.fields_of.result v) (sym (named_fields c.args.height c.args.tokens.now first.rest.now first.value first.left c.in_ok-first.ensures.read (search rules)))
    (joined_gives (tail_fields) first (fields_run c.args.height first.rest.now) c.fields.result c.fields_of.result c.fields.ensures c.fields_of.ensures)
