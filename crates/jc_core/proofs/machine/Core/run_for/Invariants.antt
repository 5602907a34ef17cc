use Rattle.std.proofs.Common.{◌≡◌, drop}
use Rattle.jc_jvm.specs.Runs.{run_of}
use Rattle.jc_core.specs.Ran.{told, ahead}
use Rattle.jc_core.specs.States.{classes_of, state_in}
use Rattle.jc_core.proofs.machine.Core.run_for.Given as goal

-- what is left, behind what was seen, is the whole run
abbrev pub invariant-steps : goal.invariant-steps
invariant-steps l = record {
  classes : classes_of l.self ≡ classes_of l.fn.self;
  run : ahead l.output l.taken (told (run_of (classes_of l.fn.self) l.left (state_in l.self) (drop l.taken l.input))) ≡ told (run_of (classes_of l.fn.self) l.steps (state_in l.fn.self) l.input);
}

abbrev pub decreases-steps : goal.decreases-steps
decreases-steps l = l.left
