use Rattle.std.proofs.Common.{◌≡◌, drop}
use Rattle.jc_lexer.specs.Signs.{sign_in}
use Rattle.jc_lexer.proofs.signs.sign_in.Given as goal

abbrev pub invariant-loop-spelling : goal.invariant-loop-spelling
invariant-loop-spelling l = sign_in l.signs l.text ≡ sign_in (drop l.spelling-index l.signs) l.text
