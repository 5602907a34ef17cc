-- Proper claims tell which vertices lie on a cycle.
use Rattle.std.proofs.Common.{◌≡◌, ◌⊎◌, inl, inr, ◌<◌, ◌≤◌, ℕ, zero, suc, Bool, true, false, List, Option, Some, None, length, slice_get, refl, sym, subst, ◌∙◌, arith}
use Rattle.std.proofs.lemmas.Option.{slice_get_within}
use Rattle.jc_components.specs.declared.claims.Claim.{Claim}
use Rattle.jc_components.specs.Reach.{IsIn, row, listed, Reach, one, on, IsClosed}
use Rattle.jc_components.specs.Claims.{claim_of, LeadsOn, IsBeside, Turns, AllProper}

pub row_starts : (es : List (List ℕ)) (a b : ℕ) → IsIn b (row es a) → a < length es
row_starts es a b m = by (slice_get es a) refl m
  where
    by : (o : Option (List ℕ)) → slice_get es a ≡ o → IsIn b (listed o) → a < length es
    by (Some r) e m = slice_get_within es a r e
    by None e m = absurd m

pub joined : (es : List (List ℕ)) (a b c : ℕ) → Reach es a b → Reach es b c → Reach es a c
joined es a b c r (one d i) = on b d r i
joined es a b c r (on d e s i) = on d e (joined es a b d r s) i

module _ (es : List (List ℕ)) (cs : List Claim) (closed : IsClosed es) (proper : AllProper es cs (length es)) where
  ends : (a b : ℕ) → Reach es a b → b < length es
  ends a b (one c i) = closed a c i
  ends a b (on c d r i) = closed c d i

  later : (v w : ℕ) → LeadsOn (claim_of cs v) (claim_of cs w) → (claim_of cs v).part ≤ (claim_of cs w).part
  later v w (inl l) = omega arith
  later v w (inr e) = let s = e.0 in omega arith

  onwards : (a b : ℕ) → IsIn b (row es a) → (claim_of cs a).part ≤ (claim_of cs b).part
  onwards a b i = later a b ((proper a (row_starts es a b i)).leads b i)

  leaves : (a b : ℕ) → (claim_of cs a).is_cyclic ≡ false → LeadsOn (claim_of cs a) (claim_of cs b) → (claim_of cs a).part < (claim_of cs b).part
  leaves a b e (inl l) = l
  leaves a b e (inr p) = let t : true ≡ false = sym p.1 ∙ e in cc

  departs : (a b : ℕ) → (claim_of cs a).is_cyclic ≡ false → Reach es a b → (claim_of cs a).part < (claim_of cs b).part
  departs a b e (one c i) = leaves a c e ((proper a (row_starts es a c i)).leads c i)
  departs a b e (on c d r i) = let f = departs a c e r in let l = onwards c d i in omega arith

  pub reached_cyclic : (v : ℕ) → Reach es v v → (claim_of cs v).is_cyclic ≡ true
  reached_cyclic v r = by ((claim_of cs v).is_cyclic) refl
    where
      by : (b : Bool) → (claim_of cs v).is_cyclic ≡ b → (claim_of cs v).is_cyclic ≡ true
      by true e = e
      by false e = let l = departs v v e r in absurd (omega arith)

  -- what a way that has k as a bound reaches
  ToRoot : ℕ → Type 0
  ToRoot k = (v : ℕ) → v < length es → (claim_of cs v).is_cyclic ≡ true → (claim_of cs v).next_left < k → (v ≡ (claim_of cs v).root) ⊎ Reach es v ((claim_of cs v).root)

  one_onward : (v : ℕ) → IsIn ((claim_of cs v).next) (row es v) → (claim_of cs ((claim_of cs v).next)).root ≡ (claim_of cs v).root
      → ((claim_of cs v).next ≡ (claim_of cs ((claim_of cs v).next)).root) ⊎ Reach es ((claim_of cs v).next) ((claim_of cs ((claim_of cs v).next)).root)
      → Reach es v ((claim_of cs v).root)
  one_onward v i same (inl e) = subst (Reach es v) (e ∙ same) (one _ i)
  one_onward v i same (inr r) = joined es v _ _ (one _ i) (subst (Reach es ((claim_of cs v).next)) same r)

  to_root_by : (k v : ℕ) → ToRoot k → (claim_of cs v).next_left < suc k → Turns es cs v (claim_of cs v) → (v ≡ (claim_of cs v).root) ⊎ Reach es v ((claim_of cs v).root)
  unfolding ToRoot
  to_root_by k v f s (inl c) = inl (sym c.own)
  to_root_by k v f s (inr p) = inr (one_onward v p.0.edge p.0.beside.root_of (f ((claim_of cs v).next) (closed v ((claim_of cs v).next) p.0.edge) p.0.beside.cyclic (let m = p.0.nearer in omega arith)))

  to_root : (k : ℕ) → ToRoot k
  unfolding ToRoot
  to_root zero v l e s = absurd (omega arith)
  to_root (suc k) v l e s = to_root_by k v (to_root k) s ((proper v l).turns e)

  FromRoot : ℕ → Type 0
  FromRoot k = (v : ℕ) → v < length es → (claim_of cs v).is_cyclic ≡ true → (claim_of cs v).before_left < k → (v ≡ (claim_of cs v).root) ⊎ Reach es ((claim_of cs v).root) v

  one_back : (v : ℕ) → IsIn v (row es ((claim_of cs v).before)) → (claim_of cs ((claim_of cs v).before)).root ≡ (claim_of cs v).root
      → ((claim_of cs v).before ≡ (claim_of cs ((claim_of cs v).before)).root) ⊎ Reach es ((claim_of cs ((claim_of cs v).before)).root) ((claim_of cs v).before)
      → Reach es ((claim_of cs v).root) v
  one_back v i same (inl e) = subst (λ r. Reach es r v) (e ∙ same) (one _ i)
  one_back v i same (inr r) = on _ v (subst (λ q. Reach es q ((claim_of cs v).before)) same r) i

  from_root_by : (k v : ℕ) → FromRoot k → (claim_of cs v).before_left < suc k → Turns es cs v (claim_of cs v) → (v ≡ (claim_of cs v).root) ⊎ Reach es ((claim_of cs v).root) v
  unfolding FromRoot
  from_root_by k v f s (inl c) = inl (sym c.own)
  from_root_by k v f s (inr p) = inr (one_back v p.1.edge p.1.beside.root_of (f ((claim_of cs v).before) (row_starts es ((claim_of cs v).before) v p.1.edge) p.1.beside.cyclic (let m = p.1.nearer in omega arith)))

  from_root : (k : ℕ) → FromRoot k
  unfolding FromRoot
  from_root zero v l e s = absurd (omega arith)
  from_root (suc k) v l e s = from_root_by k v (from_root k) s ((proper v l).turns e)

  root_of : (v : ℕ) → v < length es → (claim_of cs v).is_cyclic ≡ true → (v ≡ (claim_of cs v).root) ⊎ Reach es v ((claim_of cs v).root)
  unfolding ToRoot
  root_of v l e = to_root (suc ((claim_of cs v).next_left)) v l e (omega arith)

  of_root : (v : ℕ) → v < length es → (claim_of cs v).is_cyclic ≡ true → (v ≡ (claim_of cs v).root) ⊎ Reach es ((claim_of cs v).root) v
  unfolding FromRoot
  of_root v l e = from_root (suc ((claim_of cs v).before_left)) v l e (omega arith)

  -- an edge of a vertex to one whose way leads to that vertex
  closing : (v n : ℕ) → IsIn n (row es v) → IsBeside cs n v → Reach es v v
  closing v n i b = by (root_of n (closed v n i) b.cyclic)
    where
      by : (n ≡ (claim_of cs n).root) ⊎ Reach es n ((claim_of cs n).root) → Reach es v v
      by (inl e) = subst (Reach es v) (e ∙ b.root_of) (one n i)
      by (inr r) = joined es v n v (one n i) (subst (Reach es n) b.root_of r)

  beside_root : (v n : ℕ) → v ≡ (claim_of cs v).root → IsBeside cs n ((claim_of cs v).root) → IsBeside cs n v
  beside_root v n e b = subst (IsBeside cs n) (sym e) b

  turning : (v : ℕ) → Turns es cs v (claim_of cs v) → (v ≡ (claim_of cs v).root) ⊎ Reach es v ((claim_of cs v).root) → (v ≡ (claim_of cs v).root) ⊎ Reach es ((claim_of cs v).root) v → Reach es v v
  turning v (inl c) a b = closing v ((claim_of cs v).next) c.edge c.beside
  turning v (inr p) (inl e) b = closing v ((claim_of cs v).next) p.0.edge (beside_root v ((claim_of cs v).next) e p.0.beside)
  turning v (inr p) (inr r) (inl e) = closing v ((claim_of cs v).next) p.0.edge (beside_root v ((claim_of cs v).next) e p.0.beside)
  turning v (inr p) (inr r) (inr s) = joined es v _ v r s

  pub cyclic_reached : (v : ℕ) → v < length es → (claim_of cs v).is_cyclic ≡ true → Reach es v v
  cyclic_reached v l e = turning v ((proper v l).turns e) (root_of v l e) (of_root v l e)
