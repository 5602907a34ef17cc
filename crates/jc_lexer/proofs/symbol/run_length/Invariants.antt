use Rattle.std.proofs.Common.{◌≡◌, ◌+◌, drop}
use Rattle.jc_lexer.specs.Symbols.{run_length}
use Rattle.jc_lexer.proofs.symbol.run_length.Given as goal

abbrev pub invariant-loop-n : goal.invariant-loop-n
invariant-loop-n l = run_length l.class l.text ≡ l.n + run_length l.class (drop l.n l.text)
