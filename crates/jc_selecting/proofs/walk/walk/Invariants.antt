use Rattle.std.proofs.Common.{◌≡◌, ◌-◌, length}
use Rattle.std.specs.declared.option.Option.TheVariants.{Some}
use Rattle.jc_selecting.specs.Found.{found_on}
use Rattle.jc_selecting.proofs.walk.walk.Given as goal

-- what is still to come gives the answer
abbrev pub invariant-loop-done : goal.invariant-loop-done
invariant-loop-done l = found_on l.parents l.own l.number (length l.parents - l.done) l.here ≡ found_on l.parents l.own l.number (length l.parents) (Some l.class)
