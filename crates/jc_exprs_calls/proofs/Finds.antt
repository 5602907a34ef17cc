-- What stands before an unqualified call is found first, and then the call is asked.
use Rattle.std.proofs.Common.{◌≡◌, refl, ap, ◌∙◌, ℕ, true, false, List, [], ◌∷◌, drop, Option, None, Some}
use Rattle.jc_rules.specs.declared.rule.Place.{Place}
use Rattle.jc_types.specs.declared.form.Ty.{Ty}
use Rattle.jc_types.specs.declared.ids.ClassId.{ClassId}
use Rattle.jc_overriding.specs.declared.view.MethodView.{MethodView}
use Rattle.jc_overriding.specs.Overriding.{members}
use Rattle.jc_overriding.specs.Viewing.{own_type}
use Rattle.jc_exprs_nodes_spec.specs.Told.{Run, by_rule}
use Rattle.jc_exprs_nodes_spec.specs.Typeds.{Typed}
use Rattle.jc_exprs_parts_spec.specs.Worlds.{World, round, this_type}
use Rattle.jc_exprs_spec.specs.Calls.{OnOuter, OnThis, Receiver, call_here, call_outside, called, called_or}
use Rattle.jc_exprs_spec.specs.Creations.{is_empty}
use Rattle.jc_exprs_calls.specs.Calling.{called_if, class_if, first_with, outer_if, receiver_here, this_if}

module _ (W : World) (place : Place) (n : List ℕ) (target : Option Ty) (ts : List Typed) where
  or_outer : (k : ClassId) (ms : List MethodView) (further : Option ClassId) →
      called_or W place (OnOuter k) n ts target ms (called_if W place n ts target (outer_if further)) ≡ called_if W place n ts target (outer_if (class_if k ms further))
  or_outer k [] further = refl
  or_outer k (m ∷ ms) further = refl

  outside : (ks : List ClassId) → call_outside W place n target ts ks ≡ called_if W place n ts target (outer_if (first_with W.table n ks))
  outside [] = refl
  outside (k ∷ ks) =
      ap (λ (m : Run Typed). called_or W place (OnOuter k) n ts target (members W.table (own_type W.table k) n) m) (outside ks)
      ∙ or_outer k (members W.table (own_type W.table k) n) (first_with W.table n ks)

  or_this : (ms : List MethodView) (further : Option Receiver) →
      called_or W place (OnThis place) n ts target ms (called_if W place n ts target further) ≡ called_if W place n ts target (this_if place ms further)
  or_this [] further = refl
  or_this (m ∷ ms) further = refl

  pub found_here : call_here W place n target ts ≡ called_if W place n ts target (receiver_here W place n)
  unfolding call_here
  found_here =
      ap (λ (m : Run Typed). called_or W place (OnThis place) n ts target (members W.table (this_type W) n) m) (outside (drop 1 (round W)))
      ∙ or_this (members W.table (this_type W) n) (outer_if (first_with W.table n (drop 1 (round W))))

  pub here_some : (r : Receiver) → receiver_here W place n ≡ Some r → call_here W place n target ts ≡ called W place r n [] ts target
  here_some r e = found_here ∙ ap (called_if W place n ts target) e

  pub here_none : receiver_here W place n ≡ None → call_here W place n target ts ≡ by_rule 603 place
  here_none e = found_here ∙ ap (called_if W place n ts target) e

pub ruleset finds = (here_some, here_none)

-- ---- the first class that has a method

pub class_none : (k : ClassId) (ms : List MethodView) (further : Option ClassId) → is_empty ms ≡ true → class_if k ms further ≡ further
class_none k [] further e = refl
class_none k (m ∷ ms) further e = absurd (cc e)

pub class_some : (k : ClassId) (ms : List MethodView) (further : Option ClassId) → is_empty ms ≡ false → class_if k ms further ≡ Some k
class_some k [] further e = absurd (cc e)
class_some k (m ∷ ms) further e = refl

pub this_none : (place : Place) (ms : List MethodView) (further : Option Receiver) → is_empty ms ≡ true → this_if place ms further ≡ further
this_none place [] further e = refl
this_none place (m ∷ ms) further e = absurd (cc e)

pub this_some : (place : Place) (ms : List MethodView) (further : Option Receiver) → is_empty ms ≡ false → this_if place ms further ≡ Some (OnThis place)
this_some place [] further e = absurd (cc e)
this_some place (m ∷ ms) further e = refl

pub ruleset firsts = (class_none, class_some, this_none, this_some)
