use Rattle.std.proofs.Common.{◌≡◌, ◌-◌, List, ℕ}
use Rattle.jc_machine.specs.Table.{state_of, classes_of}
use Rattle.jc_machine.specs.Runs.{run_of}
use Rattle.jc_machine.proofs.Running.{Far}
use Rattle.jc_machine.proofs.machine.Machine.run_for.Given as goal

-- the bytes put and those that wait, and then the rest of the run
abbrev pub invariant-loop : goal.invariant-loop
invariant-loop g l =
    let out = g.O.Paper.out in
    let faults = g.O.Paper.faults in
    (put : List ℕ) × Far (out l.fn.out) (out l.out) put l.pending.items (run_of (classes_of l.fn.self) l.steps (state_of l.fn.self)) (run_of (classes_of l.self) (l.steps - l.counter) (state_of l.self)) (faults l.fn.out) (faults l.out)
    × (classes_of l.self ≡ classes_of l.fn.self) × (l.keys ≡ l.fn.keys)
