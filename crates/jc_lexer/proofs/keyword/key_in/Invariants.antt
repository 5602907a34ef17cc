use Rattle.std.proofs.Common.{◌≡◌, drop}
use Rattle.jc_lexer.specs.Words.{key_in}
use Rattle.jc_lexer.proofs.keyword.key_in.Given as goal

abbrev pub invariant-loop-key : goal.invariant-loop-key
invariant-loop-key l = key_in l.keys l.text ≡ key_in (drop l.key-index l.keys) l.text
