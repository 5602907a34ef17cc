-- What a variable that is assigned is in an arena of typed expressions.
use Rattle.std.specs.Prelude.{◌≡◌, ℕ, ◌<◌, List, Option, Some, None, length}
use Rattle.jc_typed.specs.declared.nodes.Node.{Node}
use Rattle.jc_typed.specs.Parts.{Grows, type_of, variable_of}
use Rattle.jc_exprs_parts_spec.specs.Assigning.{Target}
use Rattle.jc_exprs_targets.specs.declared.target.TargetAt.{TargetAt}

abbrev pub target_of : List Node → TargetAt → Target
target_of ns v = record { start = v.start; place = v.place; ty = type_of ns v.ty; declared = v.declared; variable = variable_of ns v.variable; is_forward = v.is_forward }

-- if there is one
abbrev pub has_target : List Node → Option TargetAt → Option Target
has_target ns None = None
has_target ns (Some v) = Some (target_of ns v)

-- its type and its variable stand below a place
abbrev pub TargetBelow : ℕ → Option TargetAt → Type 0
TargetBelow n None = Unit {0}
TargetBelow n (Some v) = (v.ty < n) × (v.variable < n)

-- ---- laws: where the arena grows

abbrev pub TargetStays : Type 0
TargetStays = (old new : List Node) (v : Option TargetAt) → Grows old new → TargetBelow (length old) v → has_target new v ≡ has_target old v

abbrev pub TargetStaysBelow : Type 0
TargetStaysBelow = (old new : List Node) (v : Option TargetAt) → Grows old new → TargetBelow (length old) v → TargetBelow (length new) v
