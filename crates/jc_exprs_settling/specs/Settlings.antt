-- What a walk over the expressions of a body has in its arena of expressions of which a member is asked.
use Rattle.std.specs.Prelude.{◌<◌, Bool, List, Option, Some, None, length}
use Rattle.jc_typed.specs.declared.lists.Capture.{Capture}
use Rattle.jc_typed.specs.declared.nodes.Node.{Node}
use Rattle.jc_typed.specs.Parts.{type_of}
use Rattle.jc_exprs_nodes_spec.specs.Told.{Ran}
use Rattle.jc_exprs_nodes_spec.specs.Typeds.{Kind, Settled, Typed}
use Rattle.jc_exprs_nodes.specs.Walks.{IsPart, has_behind, known}
use Rattle.jc_exprs_settling.specs.declared.asked.SettledPart.{SettledPart}

-- captured variables that stand before those of a run
abbrev pub ran_behind : List Capture → Ran Kind → Ran Kind
ran_behind cs r = record { state = r.state; has = has_behind cs r.has }

-- an expression of which a member is asked, the type whose members it has, and whether they are those of bounds
abbrev pub settled_of : List Node → SettledPart → Settled
settled_of ns s = record { it = known ns s.part.at; ty = type_of ns s.ty; by_bounds = s.by_bounds }

abbrev pub has_settled : List Node → Option SettledPart → Option Settled
has_settled ns None = None
has_settled ns (Some s) = Some (settled_of ns s)

abbrev pub IsSettled : List Node → Option SettledPart → Type 0
IsSettled ns None = Unit {0}
IsSettled ns (Some s) = IsPart ns s.part × (s.ty < length ns)

abbrev pub with_captures : Typed → List Capture → Typed
with_captures t cs = record t { captures = cs }

abbrev pub settled_as : Bool → Typed → Kind → Settled
settled_as by_bounds t k = record { it = with_captures t k.captures; ty = k.ty; by_bounds = by_bounds }
