use Rattle.std.proofs.Common.{◌≡◌, length}
use Rattle.std.specs.List.{list_any}
use Rattle.jc_overriding.specs.Signatures.{same_all}
use Rattle.jc_clashes.proofs.erasures.is_one.Given as goal

abbrev pub invariant-loop-rest : goal.invariant-loop-rest
invariant-loop-rest l = list_any (same_all l.e) l.rest ≡ list_any (same_all l.e) l.fn.fs

abbrev pub decreases-loop-rest : goal.decreases-loop-rest
decreases-loop-rest l = length l.rest
