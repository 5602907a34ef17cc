-- What a walk makes of the choice of a member, and of what stands behind it.
use Rattle.std.proofs.Common.{◌≡◌, refl, ap, true, false, List, [], ◌∷◌, ◌++◌, Option, None, Some}
use Rattle.jc_rules.specs.declared.rule.Place.{Place}
use Rattle.jc_rules.specs.declared.rule.Refusal.{Refusal}
use Rattle.jc_types.specs.declared.form.Ty.{Ty}
use Rattle.jc_overriding.specs.declared.view.MethodView.{MethodView}
use Rattle.jc_resolve.specs.declared.choice.Choice.{Choice}
use Rattle.jc_resolve.specs.declared.choice.Choice.TheVariants as choice
use Rattle.jc_resolve.specs.declared.choice.Chosen.{Chosen}
use Rattle.jc_resolve.specs.declared.site.CallSite.{CallSite}
use Rattle.jc_resolve.specs.Choosing.{resolved}
use Rattle.jc_resolve_sites.specs.Sites.{apart_site, renamed_site}
use Rattle.jc_exprs_nodes_spec.specs.Told.{Run, Standing, fine, provided, ran}
use Rattle.jc_exprs_nodes_spec.specs.Gates.{gated, stopped}
use Rattle.jc_exprs_nodes_spec.specs.Typeds.{Typed}
use Rattle.jc_exprs_parts_spec.specs.Worlds.{World}
use Rattle.jc_exprs_spec.specs.Calls.{accessible, by_choice, choosing, members_breaks, open_choice, site}
use Rattle.jc_exprs_spec.specs.Creations.{constructors, created_by, created_of}
use Rattle.jc_exprs_choosing.specs.declared.breaking.Broken.{Broken}
use Rattle.jc_exprs_choosing.specs.Breaking.{breaks_of, noted}
use Rattle.jc_exprs_choosing.specs.Choosing.{choice_by, choosing_in, creating_in}

-- ---- rules that are broken before

module _ {A : Type 0} (m : Run A) (s : Standing) where
  pub provided_broken : (bs : List Refusal) (b : Broken) → bs ≡ breaks_of (Some b) → ran (provided bs m) s ≡ stopped (noted (breaks_of (Some b)) s)
  unfolding ran
  provided_broken bs b e = ap (λ (xs : List Refusal). ran (provided xs m) s) e

  pub provided_whole : (bs : List Refusal) → bs ≡ [] → ran (provided bs m) s ≡ ran m s
  unfolding ran
  provided_whole bs e = ap (λ (xs : List Refusal). ran (provided xs m) s) e

-- ---- the choice alone

module _ (W : World) (place : Place) (t : Ty) (broken : List Refusal) (ms : List MethodView) (at : CallSite) (s : Standing) where
  pub choosing_broken : (b : Broken) → broken ++ members_breaks place ms at.members ≡ breaks_of (Some b) →
      ran (choosing_in W place t broken ms at) s ≡ stopped (noted (breaks_of (Some b)) s)
  unfolding ran choosing_in
  choosing_broken b e = provided_broken (by_choice place (open_choice W s.env (resolved W.table s.env (apart_site W.table t at))) (λ d. fine d)) s (broken ++ members_breaks place ms at.members) b e

  pub choosing_whole : broken ++ members_breaks place ms at.members ≡ [] →
      ran (choosing_in W place t broken ms at) s ≡ ran (by_choice place (open_choice W s.env (resolved W.table s.env (apart_site W.table t at))) (λ d. fine d)) s
  unfolding ran choosing_in
  choosing_whole e = provided_whole (by_choice place (open_choice W s.env (resolved W.table s.env (apart_site W.table t at))) (λ d. fine d)) s (broken ++ members_breaks place ms at.members) e

module _ (W : World) (place : Place) (ms : List MethodView) (at : CallSite) (s : Standing) where
  pub creating_broken : (b : Broken) → members_breaks place ms at.members ≡ breaks_of (Some b) → ran (creating_in W place ms at) s ≡ stopped (noted (breaks_of (Some b)) s)
  unfolding ran creating_in
  creating_broken b e = provided_broken (by_choice place (open_choice W s.env (resolved W.table s.env (renamed_site W.table at))) (λ d. fine d)) s (members_breaks place ms at.members) b e

  pub creating_whole : members_breaks place ms at.members ≡ [] → ran (creating_in W place ms at) s ≡ ran (by_choice place (open_choice W s.env (resolved W.table s.env (renamed_site W.table at))) (λ d. fine d)) s
  unfolding ran creating_in
  creating_whole e = provided_whole (by_choice place (open_choice W s.env (resolved W.table s.env (renamed_site W.table at))) (λ d. fine d)) s (members_breaks place ms at.members) e

pub ruleset chooses = (choosing_broken, choosing_whole, creating_broken, creating_whole)

-- ---- what stands behind the choice

module _ {A : Type 0} (f : Chosen → Run A) (place : Place) where
  behind_choice : (bs : List Refusal) (c : Choice) (s : Standing) →
      ran (provided bs (by_choice place c f)) s ≡ gated f (ran (choice_by place bs c) s).has (ran (choice_by place bs c) s).state
  unfolding ran
  behind_choice [] (choice.Chosen c) s = refl
  behind_choice [] choice.NoMember s = refl
  behind_choice [] choice.NoneApplicable s = refl
  behind_choice [] (choice.Ambiguous a b) s = refl
  behind_choice [] choice.Deep s = refl
  behind_choice (b ∷ bs) c s = refl

  -- a method: what is made of it is asked where one is chosen
  pub ran_choosing : (W : World) (t : Ty) (broken : List Refusal) (ms : List MethodView) (explicit : List Ty) (ts : List Typed) (target : Option Ty) (s : Standing) →
      ran (choosing W place t broken ms explicit ts target f) s
      ≡ gated f (ran (choosing_in W place t broken ms (site (accessible W t ms) explicit ts target)) s).has
      (ran (choosing_in W place t broken ms (site (accessible W t ms) explicit ts target)) s).state
  unfolding ran choosing choosing_in
  ran_choosing W t broken ms explicit ts target s =
      let at = site (accessible W t ms) explicit ts target in
      behind_choice (broken ++ members_breaks place ms at.members) (open_choice W s.env (resolved W.table s.env (apart_site W.table t at))) s

-- a constructor, as the created type has it, and behind a diamond
pub ran_creating : (W : World) (place : Place) (t : Ty) (target : Option Ty) (ts : List Typed) (s : Standing) →
    ran (created_of W place t false target ts) s
    ≡ gated (created_by W place t false ts) (ran (choosing_in W place t [] (constructors W.table t false) (site (accessible W t (constructors W.table t false)) [] ts None)) s).has
    (ran (choosing_in W place t [] (constructors W.table t false) (site (accessible W t (constructors W.table t false)) [] ts None)) s).state
unfolding ran choosing_in
ran_creating W place t target ts s =
    let ms = constructors W.table t false in
    let at = site (accessible W t ms) [] ts None in
    behind_choice (created_by W place t false ts) place (members_breaks place ms at.members) (open_choice W s.env (resolved W.table s.env (apart_site W.table t at))) s

pub ran_creating_diamond : (W : World) (place : Place) (t : Ty) (target : Option Ty) (ts : List Typed) (s : Standing) →
    ran (created_of W place t true target ts) s
    ≡ gated (created_by W place t true ts) (ran (creating_in W place (constructors W.table t true) (site (accessible W t (constructors W.table t true)) [] ts target)) s).has
    (ran (creating_in W place (constructors W.table t true) (site (accessible W t (constructors W.table t true)) [] ts target)) s).state
unfolding ran creating_in
ran_creating_diamond W place t target ts s =
    let ms = constructors W.table t true in
    let at = site (accessible W t ms) [] ts target in
    behind_choice (created_by W place t true ts) place (members_breaks place ms at.members) (open_choice W s.env (resolved W.table s.env (renamed_site W.table at))) s

pub ruleset behind_choices = (ran_choosing, ran_creating, ran_creating_diamond)
