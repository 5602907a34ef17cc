use Rattle.std.proofs.Common.{◌≡◌, ◌≤◌, ◌+◌, length}
use Rattle.jc_frames_types.specs.Names.{dims_of}
use Rattle.jc_frames_types.proofs.names.dims_of.Given as goal

-- those counted, and those of what is left
abbrev pub invariant-loop-rest : goal.invariant-loop-rest
invariant-loop-rest l = (l.dims + dims_of l.rest ≡ dims_of l.name) × (l.dims + length l.rest ≤ length l.name)

abbrev pub decreases-loop-rest : goal.decreases-loop-rest
decreases-loop-rest l = length l.rest
