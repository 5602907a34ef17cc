-- The choice of a member by itself: what is made of the chosen member stands behind it.
use Rattle.std.specs.Prelude.{ℕ, ◌<◌, ◌||◌, not, Bool, List, ◌++◌, Option, None, Some, length}
use Rattle.jc_rules.specs.declared.rule.Place.{Place}
use Rattle.jc_rules.specs.declared.rule.Refusal.{Refusal}
use Rattle.jc_types.specs.declared.form.Ty.{Ty}
use Rattle.jc_types.specs.declared.table.Table.{Table}
use Rattle.jc_judge.specs.Kinds.{class_of}
use Rattle.jc_overriding.specs.declared.view.MethodView.{MethodView}
use Rattle.jc_resolve.specs.declared.choice.Choice.{Choice}
use Rattle.jc_resolve.specs.declared.choice.Chosen.{Chosen}
use Rattle.jc_resolve.specs.declared.site.CallSite.{CallSite}
use Rattle.jc_resolve.specs.Choosing.{resolved}
use Rattle.jc_resolve_sites.specs.Sites.{apart_site, renamed_site}
use Rattle.jc_typed.specs.declared.nodes.Node.{Node}
use Rattle.jc_typed.specs.Parts.{type_of}
use Rattle.jc_exprs_nodes_spec.specs.Told.{Run, fine, provided, unless}
use Rattle.jc_exprs_parts_spec.specs.Worlds.{World}
use Rattle.jc_exprs_spec.specs.Calls.{by_choice, members_breaks, open_choice}
use Rattle.jc_exprs_spec.specs.Creations.{is_generic}

-- the type of a target by its place, if there is one
abbrev pub type_if : List Node → Option ℕ → Option Ty
type_if ns None = None
type_if ns (Some at) = Some (type_of ns at)

abbrev pub TypeBelow : List Node → Option ℕ → Type 0
TypeBelow ns None = Unit {0}
TypeBelow ns (Some at) = at < length ns

-- a diamond behind a class without type parameters
abbrev pub diamond_breaks : Table → Place → Ty → Bool → List Refusal
diamond_breaks T place t diamond = unless (not diamond || is_generic T (class_of t)) 623 place

-- where none of these rules is broken, a choice
abbrev pub choice_by : Place → List Refusal → Choice → Run Chosen
choice_by place broken c = provided broken (by_choice place c (λ d. fine d))

-- a choice among the members of a type, of which the site has those that may be named
unfoldable pub choosing_in : World → Place → Ty → List Refusal → List MethodView → CallSite → Run Chosen
choosing_in W place t broken ms site env =
    choice_by place (broken ++ members_breaks place ms site.members) (open_choice W env (resolved W.table env (apart_site W.table t site))) env

-- a choice among the constructors of a class, for a creation with a diamond
unfoldable pub creating_in : World → Place → List MethodView → CallSite → Run Chosen
creating_in W place ms site env = choice_by place (members_breaks place ms site.members) (open_choice W env (resolved W.table env (renamed_site W.table site))) env
