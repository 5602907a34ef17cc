-- The erasure of typed trees: each type in an arena becomes its own erasure, and all else stays as it is, in its place (JLS 4.6).
use Rattle.std.specs.Prelude.{List, map}
use Rattle.jc_types.specs.declared.environment.Bounds.{Bounds}
use Rattle.jc_types.specs.declared.form.Ty.{Ty}
use Rattle.jc_types.specs.declared.table.Table.{Table}
use Rattle.jc_types.specs.Erasing.{erasure}
use Rattle.jc_overriding.specs.Viewing.{erased_type}
use Rattle.jc_typed.specs.declared.nodes.Node.{Node}
use Rattle.jc_typed.specs.declared.nodes.Node.TheVariants as n

-- the erasure of a type as a type, in which a generic class is raw, where captured variables have these bounds
unfoldable pub erased_as_type : Table → List Bounds → Ty → Ty
erased_as_type T env t = erased_type T (erasure T env t)

-- a type is erased; each other node stays
abbrev pub erase_node : Table → List Bounds → Node → Node
erase_node T env (n.Type t) = n.Type (erased_as_type T env t)
erase_node T env node = node

-- all nodes of an arena
abbrev pub erase_nodes : Table → List Bounds → List Node → List Node
erase_nodes T env nodes = map (erase_node T env) nodes
