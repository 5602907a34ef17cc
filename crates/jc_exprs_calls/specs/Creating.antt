-- Which constructor a creation means, and the forms of a creation and of the call of another constructor.
use Rattle.std.specs.Prelude.{ℕ, ◌&&◌, not, Bool, true, false, List, [], Option, None, Some}
use Rattle.jc_rules.specs.declared.rule.Place.{Place}
use Rattle.jc_types.specs.declared.environment.Bounds.{Bounds}
use Rattle.jc_types.specs.declared.form.Ty.{Ty}
use Rattle.jc_types.specs.declared.table.Table.{Table}
use Rattle.jc_resolve.specs.declared.choice.Chosen.{Chosen}
use Rattle.jc_typed.specs.declared.nodes.Node.{Node}
use Rattle.jc_typed.specs.declared.statements.StmtForm.{StmtForm as FormNode}
use Rattle.jc_typed.specs.Parts.{BelowStmtForm, parts, stmt_form_over}
use Rattle.jc_typed.specs.Trees.{Construct, Form, New, StmtForm}
use Rattle.jc_exprs_nodes_spec.specs.Told.{Run}
use Rattle.jc_exprs_nodes_spec.specs.Typeds.{Typed}
use Rattle.jc_exprs_parts_spec.specs.Worlds.{World}
use Rattle.jc_exprs_spec.specs.Calls.{accessible, arguments, choosing, site}
use Rattle.jc_exprs_spec.specs.Creations.{constructors, is_raw_type}
use Rattle.jc_exprs_spec.specs.Typing.{constructed_with}
use Rattle.jc_exprs_choosing.specs.Choosing.{choosing_in, creating_in}

-- the constructor, as a type has it, and behind a diamond
abbrev pub constructor_in : World → Place → Ty → List Typed → Run Chosen
constructor_in W place t ts =
    choosing_in W place t [] (constructors W.table t false) (site (accessible W t (constructors W.table t false)) [] ts None)

abbrev pub diamond_in : World → Place → Ty → List Typed → Option Ty → Run Chosen
diamond_in W place t ts target =
    creating_in W place (constructors W.table t true) (site (accessible W t (constructors W.table t true)) [] ts target)

-- the form of a creation by a chosen constructor
abbrev pub new_form : Table → List Bounds → Place → Ty → Bool → List Typed → Chosen → Form
new_form T env place t diamond ts c = New c.member.id (arguments T env place ts c) c.phase c.thrown (is_raw_type t && not diamond)

-- the form of the call of a chosen constructor
abbrev pub construct_form : Table → List Bounds → Place → Ty → List Typed → Chosen → StmtForm
construct_form T env place t ts c = Construct c.member.id (arguments T env place ts c) c.phase c.thrown (is_raw_type t)

-- the call of another constructor by typed arguments
abbrev pub constructed_by : World → Place → Ty → List Typed → Run StmtForm
constructed_by W place t ts = choosing W place t [] (constructors W.table t false) [] ts None (constructed_with W place t ts)

-- a form of a statement in the arena
abbrev pub has_stmt_form : List Node → Option FormNode → Option StmtForm
has_stmt_form ns None = None
has_stmt_form ns (Some f) = Some (stmt_form_over (parts ns) f)

abbrev pub StmtBelow : ℕ → Option FormNode → Type 0
StmtBelow n None = Unit {0}
StmtBelow n (Some f) = BelowStmtForm n f
