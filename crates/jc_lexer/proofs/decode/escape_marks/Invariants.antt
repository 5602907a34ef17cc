use Rattle.std.proofs.Common.{◌≡◌, ◌+◌, drop}
use Rattle.jc_lexer.specs.Decoding.{escape_marks}
use Rattle.jc_lexer.proofs.decode.escape_marks.Given as goal

abbrev pub invariant-loop-n : goal.invariant-loop-n
invariant-loop-n l = escape_marks l.bytes ≡ l.n + escape_marks (drop l.n l.bytes)
