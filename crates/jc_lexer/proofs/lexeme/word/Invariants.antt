use Rattle.std.proofs.Common.{◌≡◌, ◌+◌, ◌∷◌, take, drop, map}
use Rattle.std.specs.Prelude.{string_bytes}
use Rattle.std.specs.Str.{encode_utf8_all}
use Rattle.jc_lexer.specs.declared.symbol.Symbol.{Symbol}
use Rattle.jc_lexer.specs.Lexemes.{part_length}
use Rattle.jc_lexer.proofs.lexeme.word.Given as goal

abbrev pub invariant-loop-n : goal.invariant-loop-n
invariant-loop-n l = record {
  length : part_length l.text ≡ l.n + part_length (drop l.n l.text);
  text : string_bytes l.letters ≡ encode_utf8_all (l.fn.letter ∷ map (λ (s : Symbol). s.code) (take l.n l.text));
}
