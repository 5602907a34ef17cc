use Rattle.std.proofs.Common.{◌≡◌, ◌^◌, ◌<◌, drop}
use Rattle.jc_lexer.specs.Numbers.{whole_value, whole_from}
use Rattle.jc_lexer.proofs.number.whole_value.Given as goal

abbrev pub invariant-loop-digit : goal.invariant-loop-digit
invariant-loop-digit l = record {
  small : l.value < 2 ^ 64;
  same : whole_value l.base l.digits ≡ whole_from l.base l.value (drop l.digit-index l.digits);
}
