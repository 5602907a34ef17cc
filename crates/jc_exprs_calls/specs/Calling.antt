-- Which method a call means, and what stands before an unqualified call.
use Rattle.std.specs.Prelude.{ℕ, List, [], ◌∷◌, drop, Option, None, Some}
use Rattle.jc_rules.specs.declared.rule.Place.{Place}
use Rattle.jc_tree.specs.declared.types.TypeArg.{TypeArg}
use Rattle.jc_types.specs.declared.form.Ty.{Ty}
use Rattle.jc_types.specs.declared.ids.ClassId.{ClassId}
use Rattle.jc_types.specs.declared.table.Table.{Table}
use Rattle.jc_overriding.specs.declared.view.MethodView.{MethodView}
use Rattle.jc_overriding.specs.Overriding.{members}
use Rattle.jc_overriding.specs.Viewing.{own_type}
use Rattle.jc_resolve.specs.declared.choice.Chosen.{Chosen}
use Rattle.jc_exprs_nodes_spec.specs.Told.{Run, by_rule, unless}
use Rattle.jc_exprs_nodes_spec.specs.Typeds.{Typed}
use Rattle.jc_exprs_parts_spec.specs.Worlds.{World, round, this_type}
use Rattle.jc_exprs_spec.specs.Calls.{Receiver, OnOuter, OnThis, accessible, all_types, called, explicit_types, methods_of, searched, site}
use Rattle.jc_exprs_choosing.specs.Choosing.{choosing_in}

-- the method that a call means
abbrev pub method_in : World → Place → Receiver → List ℕ → List TypeArg → List Typed → Option Ty → Run Chosen
method_in W place r n explicit ts target =
    choosing_in W place (searched W r) (unless (all_types W explicit) 623 place) (methods_of W r n)
    (site (accessible W (searched W r) (methods_of W r n)) (explicit_types W explicit) ts target)

-- the first of these classes that has a method of a name
abbrev pub class_if : ClassId → List MethodView → Option ClassId → Option ClassId
class_if k [] further = further
class_if k (m ∷ ms) further = Some k

abbrev pub first_with : Table → List ℕ → List ClassId → Option ClassId
first_with T n [] = None
first_with T n (k ∷ ks) = class_if k (members T (own_type T k) n) (first_with T n ks)

-- what stands before an unqualified call: the instance of the place, or a class round it
abbrev pub outer_if : Option ClassId → Option Receiver
outer_if None = None
outer_if (Some k) = Some (OnOuter k)

abbrev pub this_if : Place → List MethodView → Option Receiver → Option Receiver
this_if place [] further = further
this_if place (m ∷ ms) further = Some (OnThis place)

abbrev pub receiver_here : World → Place → List ℕ → Option Receiver
receiver_here W place n = this_if place (members W.table (this_type W) n) (outer_if (first_with W.table n (drop 1 (round W))))

-- a call on it; 603 where there is none
abbrev pub called_if : World → Place → List ℕ → List Typed → Option Ty → Option Receiver → Run Typed
called_if W place n ts target None = by_rule 603 place
called_if W place n ts target (Some r) = called W place r n [] ts target
