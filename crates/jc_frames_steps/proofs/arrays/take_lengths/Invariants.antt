use Rattle.std.proofs.Common.{◌≡◌, ◌-◌}
use Rattle.jc_frames_steps.specs.Rules.{lengths_taken}
use Rattle.jc_frames_steps.proofs.arrays.take_lengths.Given as goal

-- the lengths that are left give what all do
abbrev pub invariant-loop : goal.invariant-loop
invariant-loop l = lengths_taken l.types (l.count - l.counter) l.state ≡ lengths_taken l.types l.count l.initial.state
