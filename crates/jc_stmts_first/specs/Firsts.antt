-- What a body begins with, as the code has it.
use Rattle.std.specs.Prelude.{ℕ, List, [], ◌++◌, Option, Some, None}
use Rattle.jc_rules.specs.declared.rule.Place.{Place}
use Rattle.jc_types.specs.declared.declarations.ParamName.{ParamName}
use Rattle.jc_types.specs.declared.form.Ty.{Ty}
use Rattle.jc_types.specs.declared.ids.MethodId.{MethodId}
use Rattle.jc_types.specs.declared.table.Table.{Table}
use Rattle.jc_overriding.specs.Viewing.{is_static}
use Rattle.jc_typed.specs.declared.program.Local.{Local}
use Rattle.jc_typed.specs.Trees.{StmtForm, Stmts}
use Rattle.jc_exprs_nodes_spec.specs.Told.{Told, Fine, Broken, breaking}
use Rattle.jc_exprs_parts_spec.specs.Worlds.{LocalIn}
use Rattle.jc_stmts_spec.specs.Typed.{begun_stmts, params, this_local}
use Rattle.jc_stmts_course.specs.Steps.{Stage, while_whole}

-- a parameter by its name and type, and a local of this number as it stands in scope
abbrev pub param_as : ParamName → Ty → Local
param_as p t = record { place = p.place; name = p.name; ty = t; is_final = p.is_final }

abbrev pub local_as : Local → ℕ → LocalIn
local_as l n = record { name = l.name; number = n; ty = l.ty; is_final = l.is_final; constant = None }

abbrev pub first_locals : Table → MethodId → List Local
first_locals T m = this_local T m (is_static T m) ++ params T m

-- a part of a body begins with these locals in scope, and no answer
abbrev pub opened_stage : List LocalIn → Stage → Stage
opened_stage ls s = record s { locals = ls; scopes = []; answers = while_whole s.standing.found [] }

-- the statement of the call that a constructor begins with, by what the walk has of it
abbrev pub told_again : Place → Option StmtForm → Told StmtForm
told_again place None = Broken (breaking 0 place) []
told_again place (Some f) = Fine f

abbrev pub stmts_begun : Place → Option StmtForm → Stmts
stmts_begun place o = begun_stmts place (told_again place o)
