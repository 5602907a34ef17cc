-- How a walk goes through the parts of a node.
use Rattle.std.proofs.Common.{◌≡◌, refl, ap, ◌∙◌, List, ◌∷◌, ◌++◌, Option, Some}
use Rattle.jc_rules.specs.declared.rule.Refusal.{Refusal}
use Rattle.jc_types.specs.declared.environment.Bounds.{Bounds}
use Rattle.jc_types.specs.Breaks.{least}
use Rattle.jc_types.proofs.Least.{least_append, least_of}
use Rattle.jc_exprs_nodes_spec.specs.Told.{Told, Fine, Broken, Run, Standing, standing, typed, breaks, ran, ran_of, fine, pair, triple, both, three, after, onward}
use Rattle.jc_exprs_nodes_spec.specs.Gates.{stopped, gated, gated_two, gated_three, OnePart, TwoParts, ThreeParts, FoundIsLeast}

-- a node without parts
pub ran_fine : {A : Type 0} (a : A) (s : Standing) → ran (fine a) s ≡ record { state = s; has = Some a }
unfolding ran
ran_fine a s = refl

module _ {A B : Type 0} (f : A → Run B) where
  one : (x : Option Refusal) (a : Told A) (env : List Bounds) → ran_of x (after a env f) ≡ gated f (typed a) (standing env (least x (breaks a)))
  unfolding ran
  one x (Fine a) env = refl
  one x (Broken b bs) env = refl

  -- one part
  pub ran_onward : (m : Run A) (s : Standing) → ran (onward m f) s ≡ gated f (ran m s).has (ran m s).state
  unfolding ran onward
  ran_onward m s = one s.found ((m s.env).told) ((m s.env).env)

module _ {A B C : Type 0} (f : A → B → Run C) where
  two : (x : Option Refusal) (a : Told A) (b : Told B) (env : List Bounds) →
      ran_of x (after (pair a b) env (λ p. f p.0 p.1)) ≡ gated_two f (typed a) (typed b) (standing env (least (least x (breaks a)) (breaks b)))
  unfolding ran
  two x (Fine a) (Fine b) env = refl
  two x (Fine a) (Broken b bs) env = refl
  two x (Broken b bs) (Fine c) env = refl
  two x (Broken b bs) (Broken c cs) env = ap (λ y. stopped (standing env y)) (least_append x (b ∷ bs) (c ∷ cs))

  -- two parts
  pub ran_two : (m : Run A) (n : Run B) (s : Standing) →
      ran (onward (both m n) (λ p. f p.0 p.1)) s ≡ gated_two f (ran m s).has (ran n (ran m s).state).has (ran n (ran m s).state).state
  unfolding ran onward both
  ran_two m n s = two s.found ((m s.env).told) ((n ((m s.env).env)).told) ((n ((m s.env).env)).env)

  -- .. where it is known how a walk stands behind each of them, and what it has
  pub two_parts : (m : Run A) (n : Run B) (s0 s1 s2 : Standing) (x : Option A) (y : Option B) → (ran m s0).state ≡ s1 → (ran m s0).has ≡ x → (ran n s1).state ≡ s2 → (ran n s1).has ≡ y →
      ran (onward (both m n) (λ p. f p.0 p.1)) s0 ≡ gated_two f x y s2
  two_parts m n s0 s1 s2 x y p q u v = ran_two m n s0 ∙ rw (q, p, v, u) refl

module _ {A B C D : Type 0} (f : A → B → C → Run D) where
  all : (x : Option Refusal) (a : Told A) (b : Told B) (c : Told C) (env : List Bounds) →
      ran_of x (after (triple a b c) env (λ p. f p.0 p.1 p.2))
      ≡ gated_three f (typed a) (typed b) (typed c) (standing env (least (least (least x (breaks a)) (breaks b)) (breaks c)))
  unfolding ran
  all x (Fine a) (Fine b) (Fine c) env = refl
  all x (Fine a) (Fine b) (Broken c cs) env = refl
  all x (Fine a) (Broken b bs) (Fine c) env = ap (λ y. stopped (standing env y)) (least_append x (b ∷ bs) (breaks (Fine c)))
  all x (Fine a) (Broken b bs) (Broken c cs) env = ap (λ y. stopped (standing env y)) (least_append x (b ∷ bs) (c ∷ cs))
  all x (Broken a rest) b c env =
      ap (λ y. stopped (standing env y))
      (least_append x ((a ∷ rest) ++ breaks b) (breaks c) ∙ ap (λ y. least y (breaks c)) (least_append x (a ∷ rest) (breaks b)))

  -- three parts
  pub ran_three : (m : Run A) (n : Run B) (l : Run C) (s : Standing) →
      ran (onward (three m n l) (λ p. f p.0 p.1 p.2)) s
      ≡ gated_three f (ran m s).has (ran n (ran m s).state).has (ran l (ran n (ran m s).state).state).has (ran l (ran n (ran m s).state).state).state
  unfolding ran onward three
  ran_three m n l s =
      all s.found ((m s.env).told) ((n ((m s.env).env)).told) ((l ((n ((m s.env).env)).env)).told) ((l ((n ((m s.env).env)).env)).env)

pub ruleset runs = (ran_fine, ran_onward, ran_two, ran_three)

-- the laws that contracts name
pub one_part : OnePart
one_part f m s = ran_onward f m s

pub two_of : TwoParts
two_of f m n s = ran_two f m n s

pub three_of : ThreeParts
three_of f m n l s = ran_three f m n l s

pub found : FoundIsLeast
unfolding ran
found m env = least_of (breaks (m env).told)
