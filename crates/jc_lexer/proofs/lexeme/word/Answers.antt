use Rattle.std.proofs.Common.{◌<◌, ◌++◌, length, sym, ap, ◌∙◌, arith}
use Rattle.std.specs.Char.{encode_utf8}
use Rattle.jc_lexer.specs.declared.symbol.Symbol.{Symbol}
use Rattle.jc_lexer.proofs.LexemeTurns.{word_more, parts_more}
use Rattle.jc_lexer.proofs.lexeme.word.Goals as goal

pub loop-n-preserved : goal.loop-n-preserved
loop-n-preserved c =
    let text = c.args.text.now in
    let n = c.loop-n.n in
    let i = c.loop-n.invariant in
    let none : Symbol = record { code = 0; from = 0 } in
    let within : n < length text = omega arith in
    let e = c.in-Some.ensures in
    record {
      length = i.length ∙ (let h = parts_more text n none within e.0 in omega (arith, h));
      text = c.in_ok-push-in-Some.ensures.bytes ∙ ap (λ l. l ++ encode_utf8 c.in-Some.part) i.text ∙ rw e.1 (sym (word_more c.args.letter text n none within));
    }
