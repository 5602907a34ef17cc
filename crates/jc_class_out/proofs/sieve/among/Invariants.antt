use Rattle.std.proofs.Common.{◌≡◌, drop}
use Rattle.jc_class_out.specs.Spelling.{has, known, knowns}
use Rattle.jc_class_out.proofs.sieve.among.Given as goal

abbrev pub invariant-loop-one : goal.invariant-loop-one
invariant-loop-one l = has (knowns (drop l.one-index l.kept)) (known l.constant) ≡ has (knowns l.kept) (known l.constant)
