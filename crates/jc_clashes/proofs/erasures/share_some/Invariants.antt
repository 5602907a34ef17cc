use Rattle.std.proofs.Common.{◌≡◌, length}
use Rattle.std.specs.List.{list_any}
use Rattle.jc_overriding.specs.Signatures.{same_all}
use Rattle.jc_clashes.proofs.erasures.share_some.Given as goal

abbrev pub invariant-loop-rest : goal.invariant-loop-rest
invariant-loop-rest l = list_any (λ e. list_any (same_all e) l.fs) l.rest ≡ list_any (λ e. list_any (same_all e) l.fs) l.fn.es

abbrev pub decreases-loop-rest : goal.decreases-loop-rest
decreases-loop-rest l = length l.rest
