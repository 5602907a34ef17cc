-- What a walk makes of a value before a point, and of a call through `super`.
use Rattle.std.proofs.Common.{◌≡◌, refl, ap, ◌∙◌, ℕ, List, [], ◌∷◌, Option, None, Some}
use Rattle.jc_rules.specs.declared.rule.Place.{Place}
use Rattle.jc_rules.specs.declared.rule.Refusal.{Refusal}
use Rattle.jc_tree.specs.declared.types.TypeArg.{TypeArg}
use Rattle.jc_types.specs.declared.form.Ty.{Ty}
use Rattle.jc_exprs_nodes_spec.specs.Told.{Ran, Standing, fine, provided, ran}
use Rattle.jc_exprs_nodes_spec.specs.Gates.{gated, stopped}
use Rattle.jc_exprs_nodes_spec.specs.Typeds.{Settled, Typed, settled}
use Rattle.jc_exprs_nodes_spec.proofs.Runs.{ran_fine, ran_onward}
use Rattle.jc_exprs_nodes.specs.Walks.{broken_by}
use Rattle.jc_exprs_parts_spec.specs.Names.{Value, instance_breaks, super_type}
use Rattle.jc_exprs_parts_spec.specs.Worlds.{World}
use Rattle.jc_exprs_spec.specs.Calls.{OfValue, asked, call_super, super_called}

module _ (W : World) (v : Typed) (s z : Standing) where
  gates : (q : Ran Settled) (o : Option Settled) → q.state ≡ z → q.has ≡ o →
      gated (λ (t : Settled). fine (OfValue t)) q.has q.state ≡ gated (λ (t : Settled). fine (OfValue t)) o z
  gates q o e h = rw (e, h) refl

  pub asked_some : (t : Settled) → (ran (settled W.table v) s).state ≡ z → (ran (settled W.table v) s).has ≡ Some t →
      ran (asked W (Value v)) s ≡ record { state = z; has = Some (OfValue t) }
  asked_some t e h = ran_onward (λ (t : Settled). fine (OfValue t)) (settled W.table v) s ∙ gates (ran (settled W.table v) s) (Some t) e h ∙ ran_fine (OfValue t) z

  pub asked_none : (ran (settled W.table v) s).state ≡ z → (ran (settled W.table v) s).has ≡ None → ran (asked W (Value v)) s ≡ stopped z
  asked_none e h = ran_onward (λ (t : Settled). fine (OfValue t)) (settled W.table v) s ∙ gates (ran (settled W.table v) s) None e h

pub ruleset asks = (asked_some, asked_none)

module _ (W : World) (place : Place) (n : List ℕ) (explicit : List TypeArg) (target : Option Ty) (ts : List Typed) (s : Standing) where
  pub super_whole : instance_breaks W.here place ≡ [] → ran (call_super W place n explicit target ts) s ≡ ran (super_called W place n explicit target ts (super_type W)) s
  unfolding ran call_super
  super_whole e = ap (λ (xs : List Refusal). ran (provided xs (super_called W place n explicit target ts (super_type W))) s) e

  pub super_broken : (b : Refusal) → instance_breaks W.here place ≡ b ∷ [] → ran (call_super W place n explicit target ts) s ≡ ran (broken_by {A = Typed} b) s
  unfolding ran call_super
  super_broken b e = ap (λ (xs : List Refusal). ran (provided xs (super_called W place n explicit target ts (super_type W))) s) e

pub ruleset supers = (super_whole, super_broken)
