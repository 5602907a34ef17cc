-- What a walk makes of a creation: of the rules that it breaks before, of the choice of its constructor, and of its form.
use Rattle.std.proofs.Common.{◌≡◌, refl, ap, ◌∙◌, Bool, true, false, List, [], map, Option, None, Some}
use Rattle.jc_rules.specs.declared.rule.Place.{Place}
use Rattle.jc_types.specs.declared.form.Ty.{Ty}
use Rattle.jc_overriding.specs.declared.view.MethodView.{MethodView}
use Rattle.jc_resolve.specs.declared.choice.Chosen.{Chosen}
use Rattle.jc_resolve.specs.declared.site.CallSite.{CallSite}
use Rattle.jc_exprs_nodes_spec.specs.Told.{Ran, Run, Standing, every, ran}
use Rattle.jc_exprs_nodes_spec.specs.Gates.{gated, stopped}
use Rattle.jc_exprs_nodes_spec.specs.Typeds.{Typed, captured}
use Rattle.jc_exprs_parts_spec.specs.Worlds.{World}
use Rattle.jc_exprs_spec.specs.Calls.{accessible, site}
use Rattle.jc_exprs_spec.specs.Creations.{constructors, created, created_by, created_lead, created_of, created_type, creation_breaks}
use Rattle.jc_exprs_nodes_spec.proofs.Runs.{ran_onward}
use Rattle.jc_exprs_spec.specs.Typing.{constructed, constructed_with, made, runs}
use Rattle.jc_exprs_choosing.specs.declared.breaking.Broken.{Broken}
use Rattle.jc_exprs_choosing.specs.Breaking.{breaks_of, noted}
use Rattle.jc_exprs_choosing.specs.Choosing.{choosing_in, creating_in}
use Rattle.jc_exprs_choosing.proofs.Chooses.{provided_broken, provided_whole, ran_choosing, ran_creating, ran_creating_diamond}
use Rattle.jc_exprs_calls.specs.Creating.{construct_form, constructed_by, constructor_in, diamond_in, new_form}
use Rattle.jc_exprs_calls.specs.Laws.{ConstructorIsGated}

-- the choice of a constructor, by what it is asked with
pub constructor_chosen : (W : World) (place : Place) (t : Ty) (ts : List Typed) (ms open_ones : List MethodView) (types : List Ty) (at : CallSite) → ms ≡ constructors W.table t false → open_ones ≡ accessible W t ms →
    types ≡ [] → at ≡ site open_ones types ts None → choosing_in W place t [] ms at ≡ constructor_in W place t ts
constructor_chosen W place t ts ms open_ones types at f g i j =
    ap (λ (x : CallSite). choosing_in W place t [] ms x) j
    ∙ ap (λ (x : List Ty). choosing_in W place t [] ms (site open_ones x ts None)) i
    ∙ ap (λ (x : List MethodView). choosing_in W place t [] ms (site x [] ts None)) g
    ∙ ap (λ (x : List MethodView). choosing_in W place t [] x (site (accessible W t x) [] ts None)) f

pub diamond_chosen : (W : World) (place : Place) (t : Ty) (ts : List Typed) (target : Option Ty) (ms open_ones : List MethodView) (types : List Ty) (at : CallSite) → ms ≡ constructors W.table t true →
    open_ones ≡ accessible W t ms → types ≡ [] → at ≡ site open_ones types ts target → creating_in W place ms at ≡ diamond_in W place t ts target
diamond_chosen W place t ts target ms open_ones types at f g i j =
    ap (λ (x : CallSite). creating_in W place ms x) j
    ∙ ap (λ (x : List Ty). creating_in W place ms (site open_ones x ts target)) i
    ∙ ap (λ (x : List MethodView). creating_in W place ms (site x [] ts target)) g
    ∙ ap (λ (x : List MethodView). creating_in W place x (site (accessible W t x) [] ts target)) f

module _ {A : Type 0} (f : Chosen → Run A) where
  gates : (q : Ran Chosen) (o : Option Chosen) (z : Standing) → q.state ≡ z → q.has ≡ o → gated f q.has q.state ≡ gated f o z
  gates q o z e h = rw (e, h) refl

module _ (W : World) (place : Place) (t : Ty) (ts : List Typed) (target : Option Ty) (s z : Standing) where
  pub created_some : (c : Chosen) → (ran (constructor_in W place t ts) s).state ≡ z → (ran (constructor_in W place t ts) s).has ≡ Some c →
      ran (created_of W place t false target ts) s ≡ ran (created_by W place t false ts c) z
  created_some c e h = ran_creating W place t target ts s ∙ gates (created_by W place t false ts) (ran (constructor_in W place t ts) s) (Some c) z e h

  pub created_none : (ran (constructor_in W place t ts) s).state ≡ z → (ran (constructor_in W place t ts) s).has ≡ None →
      ran (created_of W place t false target ts) s ≡ stopped z
  created_none e h = ran_creating W place t target ts s ∙ gates (created_by W place t false ts) (ran (constructor_in W place t ts) s) None z e h

  pub diamond_some : (c : Chosen) → (ran (diamond_in W place t ts target) s).state ≡ z → (ran (diamond_in W place t ts target) s).has ≡ Some c →
      ran (created_of W place t true target ts) s ≡ ran (created_by W place t true ts c) z
  diamond_some c e h = ran_creating_diamond W place t target ts s ∙ gates (created_by W place t true ts) (ran (diamond_in W place t ts target) s) (Some c) z e h

  pub diamond_none : (ran (diamond_in W place t ts target) s).state ≡ z → (ran (diamond_in W place t ts target) s).has ≡ None →
      ran (created_of W place t true target ts) s ≡ stopped z
  diamond_none e h = ran_creating_diamond W place t target ts s ∙ gates (created_by W place t true ts) (ran (diamond_in W place t ts target) s) None z e h

  -- the call of another constructor
  pub constructed_some : (c : Chosen) → (ran (constructor_in W place t ts) s).state ≡ z → (ran (constructor_in W place t ts) s).has ≡ Some c →
      ran (constructed_by W place t ts) s ≡ record { state = z; has = Some (construct_form W.table z.env place t ts c) }
  unfolding ran
  constructed_some c e h =
      ran_choosing (constructed_with W place t ts) place W t [] (constructors W.table t false) [] ts None s
      ∙ gates (constructed_with W place t ts) (ran (constructor_in W place t ts) s) (Some c) z e h

  pub constructed_none : (ran (constructor_in W place t ts) s).state ≡ z → (ran (constructor_in W place t ts) s).has ≡ None → ran (constructed_by W place t ts) s ≡ stopped z
  constructed_none e h =
      ran_choosing (constructed_with W place t ts) place W t [] (constructors W.table t false) [] ts None s
      ∙ gates (constructed_with W place t ts) (ran (constructor_in W place t ts) s) None z e h

-- a creation by a chosen constructor has its form
pub created_formed : (W : World) (place : Place) (t : Ty) (diamond : Bool) (ts : List Typed) (c : Chosen) (s : Standing) →
    ran (created_by W place t diamond ts c) s
    ≡ ran (captured W.table place (created_type t diamond c.kept) (new_form W.table s.env place t diamond ts c) (created_lead (created_type t diamond c.kept) diamond c.result)) s
unfolding ran
created_formed W place t diamond ts c s = refl

pub ruleset creates = (created_some, created_none, diamond_some, diamond_none)

pub ruleset constructs = (constructed_some, constructed_none)

module _ (W : World) (place : Place) (t : Ty) (diamond : Bool) (target : Option Ty) (ts : List Typed) (s : Standing) where
  pub created_broken : (b : Broken) → creation_breaks W.table place t diamond ≡ breaks_of (Some b) → ran (created W place t diamond target ts) s ≡ stopped (noted (breaks_of (Some b)) s)
  unfolding created
  created_broken b e = provided_broken (created_of W place t diamond target ts) s (creation_breaks W.table place t diamond) b e

  pub created_whole : creation_breaks W.table place t diamond ≡ [] → ran (created W place t diamond target ts) s ≡ ran (created_of W place t diamond target ts) s
  unfolding created
  created_whole e = provided_whole (created_of W place t diamond target ts) s (creation_breaks W.table place t diamond) e

pub ruleset created_laws = (created_broken, created_whole)

pub constructor_gated : ConstructorIsGated
unfolding constructed
constructor_gated W place t es s = ran_onward (constructed_by W place t) (every (runs (map (made W) es))) s
