use Rattle.std.proofs.Common.{◌≡◌, drop}
use Rattle.jc_lexer.specs.Lexemes.{closing}
use Rattle.jc_lexer.proofs.lexeme.closing.Given as goal

abbrev pub invariant-loop-n : goal.invariant-loop-n
invariant-loop-n l = closing 0 l.text ≡ closing l.n (drop l.n l.text)
