use Rattle.std.proofs.Common.{◌≤◌}
use Rattle.jc_lexer.specs.declared.files.TheConstants.{MOST_BYTES}
use Rattle.jc_lexer.proofs.FileTurns.{AreFilesTo}
use Rattle.jc_lexer.proofs.files.lex_all.Given as goal

abbrev pub invariant-loop-n : goal.invariant-loop-n
invariant-loop-n l = record { short : l.before ≤ MOST_BYTES; read : AreFilesTo l.files l.lists l.n l.before }
