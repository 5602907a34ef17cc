use Rattle.std.proofs.Common.{◌≡◌, drop}
use Rattle.jc_typed.specs.Copies.{is_among}
use Rattle.jc_stmts_copies.proofs.targets.is_among.Given as goal

abbrev pub invariant-loop-number : goal.invariant-loop-number
invariant-loop-number l = is_among l.target (drop l.number-index l.inside) ≡ is_among l.target l.inside
