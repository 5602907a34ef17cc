use Rattle.std.proofs.Common.{◌≡◌, ◌-◌, ◌++◌}
use Rattle.jc_jvm.specs.Objects.{addresses}
use Rattle.jc_nests.proofs.nests.addresses_from.Given as goal

-- what is still to come, behind what was made
abbrev pub invariant-loop-made : goal.invariant-loop-made
invariant-loop-made l = l.items.items ++ addresses (l.count - l.made) l.far l.at ≡ addresses l.count l.far l.first
