use Rattle.std.proofs.Common.{◌≡◌, length}
use Rattle.std.specs.List.{list_any}
use Rattle.jc_frames_steps.specs.Rules.{is_protected_method}
use Rattle.jc_frames_steps.proofs.guards.has_protected_method.Given as goal

-- what is left tells it as all do
abbrev pub invariant-loop-rest : goal.invariant-loop-rest
invariant-loop-rest l = list_any (is_protected_method l.name l.descriptor) l.rest ≡ list_any (is_protected_method l.name l.descriptor) l.methods

abbrev pub decreases-loop-rest : goal.decreases-loop-rest
decreases-loop-rest l = length l.rest
