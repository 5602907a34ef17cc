use Rattle.std.proofs.Common.{length}
use Rattle.jc_lexer.proofs.TokenTurns.{IsLexedTo}
use Rattle.jc_lexer.proofs.lexing.lexed_text.Given as goal

abbrev pub invariant-loop-rest : goal.invariant-loop-rest
invariant-loop-rest l = IsLexedTo l.text l.list l.rest

abbrev pub decreases-loop-rest : goal.decreases-loop-rest
decreases-loop-rest l = length l.rest
