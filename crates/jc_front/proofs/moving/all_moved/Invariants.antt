use Rattle.std.proofs.Common.{◌≡◌, ◌++◌, map}
use Rattle.jc_front.specs.Library.{moved}
use Rattle.jc_front.proofs.moving.all_moved.Given as goal

abbrev pub invariant-loop-token : goal.invariant-loop-token
invariant-loop-token l = l.list ++ map (moved l.by) l.token-iterator.rest.items ≡ map (moved l.by) l.fn.tokens
