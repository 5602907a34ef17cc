use Rattle.std.proofs.Common.{◌≡◌, take}
use Rattle.jc_meaning.specs.Kept.{exact_types}
use Rattle.jc_kept.proofs.binding.exact_types.Given as goal

abbrev pub invariant-loop-i : goal.invariant-loop-i
invariant-loop-i l = l.out ≡ exact_types (take l.i l.args)
