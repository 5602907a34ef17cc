use Rattle.std.proofs.Common.{◌≡◌, ◌≤◌, ◌++◌, drop}
use Rattle.jc_machine.specs.Places.{places_from}
use Rattle.jc_machine.proofs.places.places.Given as goal

-- the rows so far, and then those of the instructions that are left
abbrev pub invariant-loop-ins : goal.invariant-loop-ins
invariant-loop-ins l = record {
  within : l.at ≤ 65535;
  all : l.found ++ places_from l.at (drop l.ins-index l.instructions) ≡ places_from 0 l.instructions;
}
