use Rattle.std.proofs.Common.{◌≡◌, false, ◌<◌, ◌≤◌, ◌*◌, ◌+◌, ◌^◌, drop, length, get_or, sym, ap, ◌∙◌, arith}
use Rattle.std.specs.Prelude.{◌==◌}
use Rattle.std.proofs.lemmas.List.{drop_more}
use Rattle.jc_lexer.specs.declared.symbol.Symbol.{Symbol}
use Rattle.jc_lexer.specs.Numbers.{whole_from}
use Rattle.jc_lexer.proofs.Values.{whole_digit, whole_big}
use Rattle.jc_lexer.proofs.number.whole_value.Goals as goal

pub returns-in_err-value : goal.returns-in_err-value
returns-in_err-value c =
    let base = c.args.base in
    let digits = c.args.digits.now in
    let place = c.loop-digit.digit-index in
    let none : Symbol = record { code = 0; from = 0 } in
    let digit = get_or digits place none in
    let value = c.loop-digit.value in
    let within : place < length digits = omega arith in
    let no_mark : (digit.code == 95) ≡ false = sym c.is.ensures ∙ c.if-is.false in
    let big : 2 ^ 64 ≤ value * base + c.digit_value-next.result = omega (arith, c.in_err-value.ensures) in
    let rest = drop (place + 1) digits in
    let turn = whole_digit base value digit rest no_mark (omega (arith, c.digit_value-next.ensures, c.if-base-next.false)) in
    let next = ap (λ d. whole_from base (value * base + d) rest) (sym c.digit_value-next.ensures) in
    c.from_residual.ensures ∙ sym (c.loop-digit.invariant.same ∙ ap (whole_from base value) (drop_more digits place none within) ∙ turn ∙ next
    ∙ whole_big base (value * base + c.digit_value-next.result) rest (omega (arith, c.requires)) big)
