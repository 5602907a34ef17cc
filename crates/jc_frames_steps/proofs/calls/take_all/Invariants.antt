use Rattle.std.proofs.Common.{◌≡◌, length, map}
use Rattle.jc_frames_types.specs.Items.{item_of}
use Rattle.jc_frames_steps.specs.Rules.{all_taken}
use Rattle.jc_frames_steps.proofs.calls.take_all.Given as goal

-- those that are left give what all do
abbrev pub invariant-taking : goal.invariant-taking
invariant-taking l = all_taken l.types (map item_of l.units.items) l.state ≡ all_taken l.types (map item_of l.initial.units.items) l.initial.state

abbrev pub decreases-taking : goal.decreases-taking
decreases-taking l = length l.units.items
