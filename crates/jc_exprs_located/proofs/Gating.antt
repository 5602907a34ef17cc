-- Nodes whose premises are asked one by one.
use Rattle.std.proofs.Common.{◌≡◌, refl, ℕ, Bool, true, false, ◌&&◌, List, [], ◌∷◌, ◌++◌, Option, None, Some, is_none, if◌then◌else◌}
use Rattle.jc_rules.specs.declared.rule.Place.{Place}
use Rattle.jc_rules.specs.declared.rule.Refusal.{Refusal}
use Rattle.jc_types.specs.Breaks.{least}
use Rattle.jc_exprs_nodes_spec.specs.Told.{Ran, Run, Standing, by_rule, provided, ran, standing, unless}
use Rattle.jc_exprs_nodes_spec.specs.Gates.{stopped}
use Rattle.jc_exprs_nodes.specs.Walks.{as_breaks, broken_by}

module _ {A : Type 0} where
  pub passes : (b : Bool) (rule : ℕ) (place : Place) (m : Run A) (s : Standing) → b ≡ true → ran (provided (unless b rule place) m) s ≡ ran m s
  passes true rule place m s h = refl
  passes false rule place m s h = absurd (cc h)

  pub fails : (b : Bool) (rule : ℕ) (place : Place) (m : Run A) (s : Standing) → b ≡ false → ran (provided (unless b rule place) m) s ≡ ran (by_rule {A = A} rule place) s
  fails true rule place m s h = absurd (cc h)
  fails false rule place m s h = refl

  pub taken : (b : Bool) (m n : Run A) (s : Standing) → b ≡ true → ran (if b then m else n) s ≡ ran m s
  taken true m n s h = refl
  taken false m n s h = absurd (cc h)

  pub left : (b : Bool) (m n : Run A) (s : Standing) → b ≡ false → ran (if b then m else n) s ≡ ran n s
  left true m n s h = absurd (cc h)
  left false m n s h = refl

  -- .. which may be a break by itself
  pub none_fails : (bs : List Refusal) (m : Run A) (s : Standing) → bs ≡ [] → ran (provided bs m) s ≡ ran m s
  none_fails bs m s h = rw h refl

  pub one_fails : (bs : List Refusal) (b : Refusal) (m : Run A) (s : Standing) → bs ≡ b ∷ [] → ran (provided bs m) s ≡ ran (broken_by {A = A} b) s
  one_fails bs b m s h = rw h refl

  -- two premises are both asked
  pub both_pass : (xs ys : List Refusal) (m : Run A) (s : Standing) → xs ≡ [] → ys ≡ [] → ran (provided (xs ++ ys) m) s ≡ ran m s
  both_pass xs ys m s p q = rw (p, q) refl

  pub stops_by : (xs ys zs ws : List Refusal) (m : Run A) (s : Standing) (r : Ran A) → xs ≡ zs → ys ≡ ws → ran (provided (xs ++ ys) m) s ≡ r → ran (provided (zs ++ ws) m) s ≡ r
  stops_by xs ys zs ws m s r p q h = rw (← p, ← q) h

  pub one_stops : (a b : Option Refusal) (m : Run A) (s : Standing) → (is_none a && is_none b) ≡ false →
      ran (provided (as_breaks a ++ as_breaks b) m) s ≡ stopped (standing s.env (least s.found (as_breaks a ++ as_breaks b)))
  unfolding ran
  one_stops None None m s h = absurd (cc h)
  one_stops None (Some b) m s h = refl
  one_stops (Some a) None m s h = refl
  one_stops (Some a) (Some b) m s h = refl

pub both_noted : (x : Option Refusal) (a b : Option Refusal) → least x (as_breaks a ++ as_breaks b) ≡ least (least x (as_breaks a)) (as_breaks b)
both_noted x None b = refl
both_noted x (Some a) b = refl
