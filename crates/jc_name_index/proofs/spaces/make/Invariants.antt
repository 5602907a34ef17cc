use Rattle.std.proofs.Common.{◌≡◌, ◌-◌, suc, length}
use Rattle.jc_name_index.specs.Spaces.{padded}
use Rattle.jc_name_index.proofs.spaces.make.Given as goal

abbrev pub invariant-spaces : goal.invariant-spaces
invariant-spaces l = padded l.space l.spaces.items ≡ padded l.space l.initial.spaces.items

abbrev pub decreases-spaces : goal.decreases-spaces
decreases-spaces l = suc l.space - length l.spaces.items
