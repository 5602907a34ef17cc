-- How a walk goes through lists of parts, and parts that are asked by the one before.
use Rattle.std.proofs.Common.{◌≡◌, refl, ap, ◌∙◌, ℕ, List, [], ◌∷◌, ◌++◌, Option, Some, length}
use Rattle.jc_rules.specs.declared.rule.Refusal.{Refusal}
use Rattle.jc_types.specs.declared.environment.Bounds.{Bounds}
use Rattle.jc_types.specs.Breaks.{least}
use Rattle.jc_types.proofs.Least.{least_append}
use Rattle.jc_exprs_nodes_spec.specs.Told.{Told, Fine, Broken, Out, Run, Standing, standing, typed, breaks, ran, ran_of, pair, both, feeding, after, onward, joined, more, onto, every, spanned, told_between}
use Rattle.jc_exprs_nodes_spec.specs.Gates.{stopped, gated_two}
use Rattle.jc_exprs_nodes.specs.Laws.{paired, span_of, with_more, ran_pair, ran_more, ran_span}

module _ {A B C : Type 0} (f : A → B → Run C) where
  fed : (x : Option Refusal) (a : Told A) (b : Told B) (env : List Bounds) →
      ran_of x (after (pair a b) env (λ p. f p.0 p.1)) ≡ gated_two f (typed a) (typed b) (standing env (least (least x (breaks a)) (breaks b)))
  unfolding ran
  fed x (Fine a) (Fine b) env = refl
  fed x (Fine a) (Broken b bs) env = refl
  fed x (Broken b bs) (Fine c) env = refl
  fed x (Broken b bs) (Broken c cs) env = ap (λ y. stopped (standing env y)) (least_append x (b ∷ bs) (c ∷ cs))

  -- a second part that is asked by the first
  pub ran_feeding : (m : Run A) (g : Option A → Run B) (s : Standing) →
      ran (onward (feeding m g) (λ p. f p.0 p.1)) s
      ≡ gated_two f (ran m s).has (ran (g (ran m s).has) (ran m s).state).has (ran (g (ran m s).has) (ran m s).state).state
  unfolding ran onward feeding
  ran_feeding m g s = let o = m s.env in let p = g (typed o.told) o.env in fed s.found o.told p.told p.env

module _ {A B : Type 0} where
  pairs : (x : Option Refusal) (a : Told A) (b : Told B) (env : List Bounds) →
      ran_of x (record { env = env; told = pair a b }) ≡ record { state = standing env (least (least x (breaks a)) (breaks b)); has = paired (typed a) (typed b) }
  pairs x (Fine a) (Fine b) env = refl
  pairs x (Fine a) (Broken b bs) env = refl
  pairs x (Broken b bs) (Fine c) env = refl
  pairs x (Broken b bs) (Broken c cs) env = ap (λ y. stopped (standing env y)) (least_append x (b ∷ bs) (c ∷ cs))

  -- two parts together
  pub ran_both : (m : Run A) (n : Run B) (s : Standing) → ran (both m n) s ≡ ran_pair (ran m s) (ran n (ran m s).state)
  unfolding ran both
  ran_both m n s = let o = m s.env in let p = n o.env in pairs s.found o.told p.told p.env

module _ {A : Type 0} where
  between : (x : Option Refusal) (a : Told A) (env : List Bounds) (i j : ℕ) →
      ran_of x (record { env = env; told = told_between a i j }) ≡ record { state = standing env (least x (breaks a)); has = span_of (typed a) i j }
  between x (Fine a) env i j = refl
  between x (Broken b bs) env i j = refl

  -- a part with the captured variables of it
  pub ran_spanned : (m : Run A) (s : Standing) → ran (spanned m) s ≡ ran_span s (ran m s)
  unfolding ran spanned
  ran_spanned m s = let o = m s.env in between s.found o.told o.env (length s.env) (length o.env)

  -- no parts
  pub ran_every_none : (s : Standing) → ran (every {A = A} []) s ≡ record { state = s; has = Some [] }
  unfolding ran every
  ran_every_none s = refl

  onto_more : (o : Out (List A)) (ms : List (Run A)) (m : Run A) → onto o (ms ++ m ∷ []) ≡ more (onto o ms) m
  onto_more o [] m = refl
  onto_more o (n ∷ ms) m = onto_more (more o n) ms m

  joins : (x : Option Refusal) (ts : Told (List A)) (a : Told A) (env : List Bounds) →
      ran_of x (record { env = env; told = joined ts a }) ≡ record { state = standing env (least (least x (breaks ts)) (breaks a)); has = with_more (typed ts) (typed a) }
  joins x (Fine ts) (Fine a) env = refl
  joins x (Fine ts) (Broken b bs) env = refl
  joins x (Broken b bs) (Fine c) env = refl
  joins x (Broken b bs) (Broken c cs) env = ap (λ y. stopped (standing env y)) (least_append x (b ∷ bs) (c ∷ cs))

  -- one part more
  pub ran_every_more : (ms : List (Run A)) (m : Run A) (s : Standing) → ran (every (ms ++ m ∷ [])) s ≡ ran_more (ran (every ms) s) (ran m (ran (every ms) s).state)
  unfolding ran every
  ran_every_more ms m s =
      let o = onto (record { env = s.env; told = Fine [] }) ms in let p = m o.env in
      ap (λ (q : Out (List A)). ran_of s.found q) (onto_more (record { env = s.env; told = Fine [] }) ms m) ∙ joins s.found o.told p.told p.env

pub ruleset parts_laws = (ran_feeding, ran_both, ran_spanned, ran_every_none, ran_every_more)
