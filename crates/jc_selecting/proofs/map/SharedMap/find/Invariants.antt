use Rattle.std.proofs.Common.{◌≡◌}
use Rattle.jc_selecting.specs.Held.{content, held}
use Rattle.jc_selecting.proofs.map.SharedMap.find.Given as goal

-- what is left of the number finds the same from here on
abbrev pub invariant-bits : goal.invariant-bits
invariant-bits l = held (content l.here) l.left ≡ held (content l.self.root) l.key
