-- What a walk makes of a call: of the choice of its method, of the rules that the chosen one breaks, and of its form.
use Rattle.std.proofs.Common.{◌≡◌, refl, ap, sym, ◌∙◌, ℕ, Bool, List, [], Option, None, Some}
use Rattle.jc_rules.specs.declared.rule.Place.{Place}
use Rattle.jc_rules.specs.declared.rule.Refusal.{Refusal}
use Rattle.jc_tree.specs.declared.types.TypeArg.{TypeArg}
use Rattle.jc_types.specs.declared.form.Ty.{Ty}
use Rattle.jc_overriding.specs.declared.view.MethodView.{MethodView}
use Rattle.jc_resolve.specs.declared.choice.Chosen.{Chosen}
use Rattle.jc_resolve.specs.declared.site.CallSite.{CallSite}
use Rattle.jc_exprs_nodes_spec.specs.Told.{Ran, Standing, ran, unless}
use Rattle.jc_exprs_nodes_spec.specs.Gates.{gated, stopped}
use Rattle.jc_exprs_nodes_spec.specs.Typeds.{Typed}
use Rattle.jc_exprs_parts_spec.specs.Worlds.{World}
use Rattle.jc_exprs_spec.specs.Calls.{Receiver, accessible, all_types, call_breaks, call_typed, called, called_with, explicit_types, methods_by, methods_of, searched, site}
use Rattle.jc_exprs_choosing.specs.declared.breaking.Broken.{Broken}
use Rattle.jc_exprs_choosing.specs.Breaking.{breaks_of, noted}
use Rattle.jc_exprs_choosing.specs.Choosing.{choosing_in}
use Rattle.jc_exprs_choosing.proofs.Chooses.{provided_broken, provided_whole, ran_choosing}
use Rattle.jc_exprs_calls.specs.Calling.{method_in}

module _ (W : World) (place : Place) (r : Receiver) (ts : List Typed) (c : Chosen) (s : Standing) where
  pub called_broken : (b : Broken) → call_breaks W place r c.member.id ≡ breaks_of (Some b) → ran (called_with W place r ts c) s ≡ stopped (noted (breaks_of (Some b)) s)
  unfolding ran
  called_broken b e = provided_broken (call_typed W s.env place r ts c c.result) s (call_breaks W place r c.member.id) b e

  pub called_whole : call_breaks W place r c.member.id ≡ [] → ran (called_with W place r ts c) s ≡ ran (call_typed W s.env place r ts c c.result) s
  unfolding ran
  called_whole e = provided_whole (call_typed W s.env place r ts c c.result) s (call_breaks W place r c.member.id) e

module _ (W : World) (place : Place) (r : Receiver) (n : List ℕ) (explicit : List TypeArg) (ts : List Typed) (target : Option Ty) (s : Standing) where
  pub ran_called : ran (called W place r n explicit ts target) s
      ≡ gated (called_with W place r ts) (ran (method_in W place r n explicit ts target) s).has (ran (method_in W place r n explicit ts target) s).state
  unfolding called
  ran_called =
      ran_choosing (called_with W place r ts) place W (searched W r) (unless (all_types W explicit) 623 place) (methods_of W r n) (explicit_types W explicit) ts target s

  gates : (q : Ran Chosen) (o : Option Chosen) (z : Standing) → q.state ≡ z → q.has ≡ o → gated (called_with W place r ts) q.has q.state ≡ gated (called_with W place r ts) o z
  gates q o z e h = rw (e, h) refl

  pub called_some : (c : Chosen) (z : Standing) → (ran (method_in W place r n explicit ts target) s).state ≡ z → (ran (method_in W place r n explicit ts target) s).has ≡ Some c →
      ran (called W place r n explicit ts target) s ≡ ran (called_with W place r ts c) z
  called_some c z e h = ran_called ∙ gates (ran (method_in W place r n explicit ts target) s) (Some c) z e h

  pub called_none : (z : Standing) → (ran (method_in W place r n explicit ts target) s).state ≡ z → (ran (method_in W place r n explicit ts target) s).has ≡ None →
      ran (called W place r n explicit ts target) s ≡ stopped z
  called_none z e h = ran_called ∙ gates (ran (method_in W place r n explicit ts target) s) None z e h

-- the methods of a receiver, by the type whose members are asked
pub methods_found : (W : World) (r : Receiver) (n : List ℕ) (b : Bool) (t : Ty) (ms : List MethodView) → methods_of W r n ≡ methods_by W b (searched W r) n → t ≡ searched W r → ms ≡ methods_by W b t n → ms ≡ methods_of W r n
methods_found W r n b t ms e f g = g ∙ ap (λ (x : Ty). methods_by W b x n) f ∙ sym e

-- the choice of a method, by what it is asked with
pub method_chosen : (W : World) (place : Place) (r : Receiver) (n : List ℕ) (explicit : List TypeArg) (ts : List Typed) (target : Option Ty) (t : Ty) (ms open_ones : List MethodView) (bs : List Refusal)
    (types : List Ty) (at : CallSite) → t ≡ searched W r → ms ≡ methods_of W r n → open_ones ≡ accessible W t ms → bs ≡ unless (all_types W explicit) 623 place → types ≡ explicit_types W explicit →
    at ≡ site open_ones types ts target → choosing_in W place t bs ms at ≡ method_in W place r n explicit ts target
method_chosen W place r n explicit ts target t ms open_ones bs types at e f g h i j =
    ap (λ (x : CallSite). choosing_in W place t bs ms x) j
    ∙ ap (λ (x : List Ty). choosing_in W place t bs ms (site open_ones x ts target)) i
    ∙ ap (λ (x : List Refusal). choosing_in W place t x ms (site open_ones (explicit_types W explicit) ts target)) h
    ∙ ap (λ (x : List MethodView). choosing_in W place t (unless (all_types W explicit) 623 place) ms (site x (explicit_types W explicit) ts target)) g
    ∙ ap (λ (x : List MethodView). choosing_in W place t (unless (all_types W explicit) 623 place) x (site (accessible W t x) (explicit_types W explicit) ts target)) f
    ∙ ap (λ (x : Ty). choosing_in W place x (unless (all_types W explicit) 623 place) (methods_of W r n) (site (accessible W x (methods_of W r n)) (explicit_types W explicit) ts target)) e

pub ruleset called_laws = (called_broken, called_whole, called_some, called_none)
