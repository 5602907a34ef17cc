use Rattle.std.proofs.Common.{◌≡◌, ◌++◌, drop}
use Rattle.std.specs.Option.{option_map}
use Rattle.jc_jvm.specs.Objects.{naturals}
use Rattle.jc_nests.proofs.lengths.to_naturals.Given as goal

-- what is left gives the same, behind what was found
abbrev pub invariant-loop-length : goal.invariant-loop-length
invariant-loop-length l = option_map (λ more. l.found.items ++ more) (naturals (drop l.length-index l.lengths)) ≡ naturals l.lengths
