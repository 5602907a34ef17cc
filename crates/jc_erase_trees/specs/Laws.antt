-- What the erasure of an arena does to the trees in it (JLS 4.6).
use Rattle.std.specs.Prelude.{◌≡◌, ℕ, List}
use Rattle.jc_types.specs.declared.environment.Bounds.{Bounds}
use Rattle.jc_types.specs.declared.table.Table.{Table}
use Rattle.jc_typed.specs.declared.nodes.Node.{Node}
use Rattle.jc_typed.specs.declared.program.TypedMethod.{TypedMethod}
use Rattle.jc_typed.specs.Bulk.{method_bulk}
use Rattle.jc_typed.specs.Parts.{part_of}
use Rattle.jc_meaning.specs.Programs.{body_in}
use Rattle.jc_erase_spec.specs.Trees.{erase_nodes, erased_as_type}
use Rattle.jc_erase_trees.specs.Trees.{become_body, become_part}

-- at each place of an erased arena stands what stood there with its types erased
abbrev pub PartsAreErased : Type 0
PartsAreErased = (T : Table) (env : List Bounds) (nodes : List Node) (at : ℕ) → part_of (erase_nodes T env nodes) at ≡ become_part (erased_as_type T env) (part_of nodes at)

-- a method with the erased arena of another and its body has the erased statements of the other
abbrev pub BodiesAreErased : Type 0
BodiesAreErased = (T : Table) (env : List Bounds) (m e : TypedMethod) → e.nodes ≡ erase_nodes T env m.nodes → e.body ≡ m.body → body_in e e.body ≡ become_body (erased_as_type T env) (body_in m m.body)

-- .. and weighs the same, where as many of its parameters are checked on entry
abbrev pub BulkStays : Type 0
BulkStays = (T : Table) (env : List Bounds) (m e : TypedMethod) → e.nodes ≡ erase_nodes T env m.nodes → e.body ≡ m.body → e.entry_checks ≡ m.entry_checks → method_bulk e ≡ method_bulk m
