-- Variables that are assigned stay what they are where the arena grows.
use Rattle.std.proofs.Common.{◌≡◌, refl, ap, List, ◌<◌, None, Some, length}
use Rattle.jc_typed.specs.declared.nodes.Node.{Node}
use Rattle.jc_typed.specs.Parts.{Grows}
use Rattle.jc_typed.proofs.Growing.{within}
use Rattle.jc_exprs_targets.specs.declared.target.TargetAt.{TargetAt}
use Rattle.jc_exprs_targets.specs.Targets.{TargetStays, TargetStaysBelow, target_of}

pub target_of_kept : (ms ns : List Node) (v : TargetAt) → Grows ms ns → v.ty < length ms → v.variable < length ms → target_of ns v ≡ target_of ms v
target_of_kept ms ns v g t u = rw (g.kept v.ty t, g.kept v.variable u) refl

pub target_kept : TargetStays
target_kept ms ns None g b = refl
target_kept ms ns (Some v) g b = ap Some (target_of_kept ms ns v g b.0 b.1)

pub target_within : TargetStaysBelow
target_within ms ns None g b = b
target_within ms ns (Some v) g b = (within ms ns v.ty g b.0, within ms ns v.variable g b.1)

-- the first of them rewrites where the variable is known
pub ruleset targets_stay = (target_of_kept, target_kept, target_within)
