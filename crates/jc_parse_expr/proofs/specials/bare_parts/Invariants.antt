use Rattle.std.proofs.Common.{◌≡◌, map, take}
use Rattle.jc_expr_laws.specs.StartReading.{bare_part}
use Rattle.jc_parse_expr.proofs.specials.bare_parts.Given as goal

abbrev pub invariant-loop-i : goal.invariant-loop-i
invariant-loop-i l = l.parts ≡ map bare_part (take l.i l.names)
