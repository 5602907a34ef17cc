-- Creations of objects (JLS 15.9), over parts that have typings.
use Rattle.std.specs.Prelude.{◌+◌, ◌||◌, ◌&&◌, not, Bool, true, false, List, [], ◌∷◌, ◌++◌, map, Option, Some, None, if◌then◌else◌}
use Rattle.jc_rules.specs.declared.rule.Place.{Place}
use Rattle.jc_rules.specs.declared.rule.Refusal.{Refusal}
use Rattle.jc_types.specs.declared.declarations.Modifiers.{Modifiers}
use Rattle.jc_types.specs.declared.environment.Bounds.{Bounds}
use Rattle.jc_types.specs.declared.form.Ty.{Ty, Ty-F, out-Ty}
use Rattle.jc_types.specs.declared.ids.ClassId.{ClassId}
use Rattle.jc_types.specs.declared.ids.MethodId.{MethodId}
use Rattle.jc_types.specs.declared.table.Table.{Table}
use Rattle.jc_types.specs.Accessors.{class_modifiers_of, is_interface, vars_of}
use Rattle.jc_types.specs.Sameness.{same}
use Rattle.jc_judge.specs.Kinds.{Layer, class_of}
use Rattle.jc_judge.specs.Meeting.{are_exact}
use Rattle.jc_overriding.specs.declared.view.MethodView.{MethodView}
use Rattle.jc_overriding.specs.Viewing.{view_of_method}
use Rattle.jc_resolve.specs.declared.choice.Choice.{Choice}
use Rattle.jc_resolve.specs.declared.choice.Chosen.{Chosen}
use Rattle.jc_resolve.specs.Choosing.{resolved}
use Rattle.jc_resolve_sites.specs.Constructors.{constructor_ids, diamond_view}
use Rattle.jc_resolve_sites.specs.Sites.{renamed_site}
use Rattle.jc_typed.specs.Trees.{Step, Up, New}
use Rattle.jc_exprs_nodes_spec.specs.Told.{Run, provided, unless}
use Rattle.jc_exprs_nodes_spec.specs.Typeds.{Typed, captured}
use Rattle.jc_exprs_parts_spec.specs.Worlds.{World}
use Rattle.jc_exprs_spec.specs.Calls.{accessible, arguments, by_choice, choice_of, members_breaks, open_choice, site}

-- ---- creations of objects (JLS 15.9): 613 of what has no objects, 623 a diamond of a class without parameters

abbrev pub abstract_in : Option Modifiers → Bool
abstract_in (Some m) = m.is_abstract
abstract_in None = true

abbrev pub is_abstract_class : Table → Option ClassId → Bool
is_abstract_class T None = true
is_abstract_class T (Some k) = is_interface T k || abstract_in (class_modifiers_of T k)

abbrev pub has_wildcard_at : Layer → Bool
has_wildcard_at (Ty-F.Class k args) = not (are_exact args)
has_wildcard_at _ = false

-- a class that is not abstract, without wildcards as its own arguments
abbrev pub is_creatable : Table → Ty → Bool
is_creatable T t = not (is_abstract_class T (class_of t)) && not (has_wildcard_at (out-Ty t))

abbrev pub is_empty : {A : Type 0} → List A → Bool
is_empty [] = true
is_empty (x ∷ xs) = false

abbrev pub is_generic : Table → Option ClassId → Bool
is_generic T None = false
is_generic T (Some k) = not (is_empty (vars_of T k))

abbrev pub creation_breaks : Table → Place → Ty → Bool → List Refusal
creation_breaks T place t diamond = unless (is_creatable T t) 613 place ++ unless (not diamond || is_generic T (class_of t)) 623 place

abbrev pub or_object : Option ClassId → ClassId
or_object (Some k) = k
or_object None = record { 0 = 0 }

abbrev pub views_of : Table → Ty → List MethodId → List MethodView
views_of T t [] = []
views_of T t (m ∷ ms) = if_there (view_of_method T t m) (views_of T t ms)
  where
    if_there : Option MethodView → List MethodView → List MethodView
    if_there None vs = vs
    if_there (Some v) vs = v ∷ vs

-- the constructors, as the created type has them; behind a diamond as methods with the parameters of the class, whose result is the class's type (JLS 15.9.3)
abbrev pub constructors : Table → Ty → Bool → List MethodView
constructors T t false = views_of T t (constructor_ids T (or_object (class_of t)))
constructors T t true = map (diamond_view T (or_object (class_of t))) (constructor_ids T (or_object (class_of t)))

abbrev pub is_raw_type_at : Layer → Bool
is_raw_type_at (Ty-F.Raw k) = true
is_raw_type_at _ = false

abbrev pub is_raw_type : Ty → Bool
is_raw_type t = is_raw_type_at (out-Ty t)

-- the created type: as it is written, or as it was inferred for a diamond
abbrev pub created_type : Ty → Bool → Option Ty → Ty
created_type t true (Some r) = r
created_type t _ r = t

-- where an unchecked conversion makes a diamond's constructor applicable, the creation counts as one of the raw type (JLS 15.12.2.6)
abbrev pub created_lead : Ty → Bool → Option Ty → List Step
created_lead t true (Some r) = if same t r then [] else Up r false ∷ []
created_lead t _ r = []

abbrev pub created_with : World → Place → Ty → Bool → List Typed → Chosen → List Bounds → Run Typed
created_with W place t diamond ts c env =
    captured W.table place (created_type t diamond c.kept) (New c.member.id (arguments W.table env place ts c) c.phase c.thrown (is_raw_type t && not diamond))
    (created_lead (created_type t diamond c.kept) diamond c.result)

abbrev pub created_by : World → Place → Ty → Bool → List Typed → Chosen → Run Typed
created_by W place t diamond ts c env = created_with W place t diamond ts c env env

-- a diamond has a target
abbrev pub creation_choice : World → List Bounds → Ty → Bool → List MethodView → List Typed → Option Ty → Choice
creation_choice W env t true ms ts target = open_choice W env (resolved W.table env (renamed_site W.table (site ms [] ts target)))
creation_choice W env t false ms ts target = choice_of W env t ms [] ts None

abbrev pub created_among : World → Place → Ty → Bool → List MethodView → List Typed → Option Ty → List Bounds → Run Typed
created_among W place t diamond ms ts target env =
    provided (members_breaks place ms (accessible W t ms))
    (by_choice place (creation_choice W env t diamond (accessible W t ms) ts target) (created_by W place t diamond ts))

abbrev pub created_of : World → Place → Ty → Bool → Option Ty → List Typed → Run Typed
created_of W place t diamond target ts env = created_among W place t diamond (constructors W.table t diamond) ts target env env

unfoldable pub created : World → Place → Ty → Bool → Option Ty → List Typed → Run Typed
created W place t diamond target ts =
    provided (creation_breaks W.table place t diamond) (created_of W place t diamond target ts)
