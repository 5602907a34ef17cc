use Rattle.std.proofs.Common.{◌≡◌, length}
use Rattle.std.specs.List.{list_any}
use Rattle.jc_frames_steps.specs.Rules.{is_protected_field}
use Rattle.jc_frames_steps.proofs.guards.has_protected_field.Given as goal

-- what is left tells it as all do
abbrev pub invariant-loop-rest : goal.invariant-loop-rest
invariant-loop-rest l = list_any (is_protected_field l.name l.descriptor) l.rest ≡ list_any (is_protected_field l.name l.descriptor) l.fields

abbrev pub decreases-loop-rest : goal.decreases-loop-rest
decreases-loop-rest l = length l.rest
