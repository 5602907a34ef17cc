use Rattle.std.proofs.Common.{◌≡◌, [], replicate}
use Rattle.jc_name_index.proofs.spaces.Spaces.new.Given as goal

abbrev pub invariant-loop : goal.invariant-loop
invariant-loop l = l.spaces.items ≡ replicate l.counter []
