use Rattle.std.proofs.Common.{◌≡◌, ◌≤◌, ℕ, List}
use Rattle.jc_jvm.specs.Runs.{run_of}
use Rattle.jc_jvm.specs.Thrown.{Going}
use Rattle.jc_core.specs.Ran.{told}
use Rattle.jc_core.proofs.steps.advance.Given as goal

-- what is left is the whole run
abbrev pub invariant-steps : goal.invariant-steps
invariant-steps l = record {
  fewer : l.left ≤ l.most;
  run : (input : List ℕ) → told (run_of l.program l.most (Going l.initial.world l.initial.now l.initial.waiting) input) ≡ told (run_of l.program l.left (Going l.world l.now l.waiting) input);
}

abbrev pub decreases-steps : goal.decreases-steps
decreases-steps l = l.left
