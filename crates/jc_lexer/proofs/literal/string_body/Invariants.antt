use Rattle.std.proofs.Common.{◌≡◌, ◌+◌, length}
use Rattle.jc_lexer.proofs.Bodies.{IsBodyTo}
use Rattle.jc_lexer.proofs.literal.string_body.Given as goal

abbrev pub invariant-loop-rest : goal.invariant-loop-rest
invariant-loop-rest l = record {
  room : l.len + length l.rest ≡ length l.text;
  read : IsBodyTo l.text l.units l.len l.rest;
}

abbrev pub decreases-loop-rest : goal.decreases-loop-rest
decreases-loop-rest l = length l.rest
