use Rattle.std.proofs.Common.{◌≡◌, ◌+◌, length}
use Rattle.jc_lexer.proofs.Texts.{IsReadTo}
use Rattle.jc_lexer.proofs.decode.decoded.Given as goal

abbrev pub invariant-loop-rest : goal.invariant-loop-rest
invariant-loop-rest l = record {
  room : l.from + length l.rest ≡ length l.bytes;
  read : IsReadTo l.bytes l.text.items l.from l.odd l.rest;
}

abbrev pub decreases-loop-rest : goal.decreases-loop-rest
decreases-loop-rest l = length l.rest
