-- What steps do to what is known.
use Rattle.std.proofs.Common.{arith, ◌≡◌, ◌⊎◌, inl, inr, ℕ, zero, suc, ◌+◌, ◌<◌, ◌≤◌, Bool, true, false, Option, Some, None, List, [], ◌∷◌, length, slice_set, replicate, refl, sym, ap, subst, ◌∙◌}
use Rattle.std.proofs.Math.Path.{fun_ext}
use Rattle.std.proofs.lemmas.Grind.{common_steps}
use Rattle.std.proofs.lemmas.Option.{slice_get_past}
use Rattle.jc_declares.specs.declared.heads.Heads.{Heads}
use Rattle.jc_declares.specs.Heads.{Named}
use Rattle.jc_declares.specs.Looking.{Knowledge}
use Rattle.jc_declares.specs.Knowing.{is_some, settled, rounds, known}
use Rattle.jc_looking.specs.Members.{known_in}
use Rattle.jc_settling.specs.Steps.{IsSound, IsIdle, blanks, Stepped, Passed, if_did}
use Rattle.jc_settling.proofs.Under.{More}
use Rattle.jc_settling.proofs.Rounds.{kept, one_more, settles}

-- a list with one place written
at_set : (ks : List (Option Named)) (c d : ℕ) (k x : Named) → known_in (slice_set ks c (Some k)) d ≡ Some x → ((d ≡ c) × (k ≡ x)) ⊎ (known_in ks d ≡ Some x)
at_set [] c d k x e = inr e
at_set (o ∷ ks) zero zero k x e = inl (refl, cc)
at_set (o ∷ ks) zero (suc d) k x e = inr e
at_set (o ∷ ks) (suc c) zero k x e = inr e
at_set (o ∷ ks) (suc c) (suc d) k x e = raised (at_set ks c d k x e)
  where
    raised : ((d ≡ c) × (k ≡ x)) ⊎ (known_in ks d ≡ Some x) → ((suc d ≡ suc c) × (k ≡ x)) ⊎ (known_in ks d ≡ Some x)
    raised (inl p) = inl (ap suc p.0, p.1)
    raised (inr q) = inr q

blanks_set : (ks : List (Option Named)) (c : ℕ) (k : Named) → c < length ks → is_some (known_in ks c) ≡ false → blanks (slice_set ks c (Some k)) + 1 ≡ blanks ks
blanks_set [] c k l e = absurd (omega arith)
blanks_set (None ∷ ks) zero k l e = refl
blanks_set (Some x ∷ ks) zero k l e = cc
blanks_set (None ∷ ks) (suc c) k l e = let h = blanks_set ks c k (omega arith) e in omega arith
blanks_set (Some x ∷ ks) (suc c) k l e = blanks_set ks c k (omega arith) e

length_set : (ks : List (Option Named)) (c : ℕ) (o : Option Named) → length (slice_set ks c o) ≡ length ks
length_set ks c o = grind (arith, common_steps)

past : (ks : List (Option Named)) (c : ℕ) → length ks ≤ c → known_in ks c ≡ None
past ks c l = let e = slice_get_past ks c l in rw e refl

module _ (H : Heads) where
  more : (ks : List (Option Named)) (s : IsSound H ks) → More (known_in ks) (rounds H s.0)
  more ks s = record { of = λ c. record { at = λ x e. s.1 c x e } }

  pub sound_set : (ks : List (Option Named)) (c : ℕ) (k : Named) → settled H (known_in ks) c ≡ Some k → IsSound H ks → IsSound H (slice_set ks c (Some k))
  sound_set ks c k e s = (suc s.0, λ d x f. by_place d x (at_set ks c d k x f))
    where
      by_place : (d : ℕ) (x : Named) → ((d ≡ c) × (k ≡ x)) ⊎ (known_in ks d ≡ Some x) → rounds H (suc s.0) d ≡ Some x
      by_place d x (inl p) = subst (λ d. rounds H (suc s.0) d ≡ Some x) (sym p.0) (one_more H (known_in ks) s.0 c k (more ks s) e ∙ ap Some p.1)
      by_place d x (inr q) = ((kept H s.0).of d).at x (s.1 d x q)

  pub step_length : (old new : List (Option Named)) (c : ℕ) (did : Bool) → Stepped H old new c did → length new ≡ length old
  step_length old new c true s = ap length s.3 ∙ length_set old c _
  step_length old new c false s = ap length s.0

  pub step_sound : (old new : List (Option Named)) (c : ℕ) (did : Bool) → Stepped H old new c did → IsSound H old → IsSound H new
  step_sound old new c true s i = subst (IsSound H) (sym s.3) (sound_set old c s.0 s.2 i)
  step_sound old new c false s i = subst (IsSound H) (sym s.0) i

  step_passed : (first old new : List (Option Named)) (c : ℕ) (did changed : Bool) → c < length old → Stepped H old new c did → Passed H first old c changed → Passed H first new (c + 1) (if_did did changed)
  step_passed first old new c true true l s p = let b = blanks_set old c s.0 l s.1 in let e = ap blanks s.3 in omega arith
  step_passed first old new c true false l s p = let b = blanks_set old c s.0 l s.1 in let e = ap blanks s.3 in let f = ap blanks p.0 in omega arith
  step_passed first old new c false true l s p = let e = ap blanks s.0 in omega arith
  step_passed first old new c false false l s p = (s.0 ∙ p.0, λ d m. by_place d m)
    where
      here : IsIdle H first c
      here = subst (λ ks. IsIdle H ks c) p.0 s.1

      by_order : (d : ℕ) → (d < c) ⊎ (d ≡ c) → IsIdle H first d
      by_order d (inl q) = p.1 d q
      by_order d (inr q) = subst (IsIdle H first) (sym q) here

      by_place : (d : ℕ) → d < c + 1 → IsIdle H first d
      by_place d m = by_order d (grind arith)

  pub turn : (first old new : List (Option Named)) (c : ℕ) (did changed : Bool) → c < length old → Stepped H old new c did
      → (length old ≡ length first) × (IsSound H first → IsSound H old) × Passed H first old c changed
      → (length new ≡ length first) × (IsSound H first → IsSound H new) × Passed H first new (c + 1) (if_did did changed)
  turn first old new c did changed l s p = (step_length old new c did s ∙ p.0, λ i. step_sound old new c did s (p.1 i), step_passed first old new c did changed l s p.2)

  blank_at : (n c : ℕ) → known_in (replicate n None) c ≡ None
  blank_at zero c = refl
  blank_at (suc n) zero = refl
  blank_at (suc n) (suc c) = blank_at n c

  pub begun : (n : ℕ) → IsSound H (replicate n None)
  begun n = (0, λ c k e. absurd_by (sym (blank_at n c) ∙ e))
    where
      absurd_by : {A : Type 0} {x : Named} → None ≡ Some x → A
      absurd_by e = cc

  -- ---- nothing is settled further

  no_class : (K : Knowledge) (c : ℕ) → length H.classes ≤ c → settled H K c ≡ None
  no_class K c l = let e = slice_get_past H.classes c l in rw e refl

  idle : (ks : List (Option Named)) (c : ℕ) → IsIdle H ks c → known_in ks c ≡ None → settled H (known_in ks) c ≡ None
  idle ks c (inl s) n = let t : is_some (known_in ks c) ≡ false = ap is_some n in cc
  idle ks c (inr s) n = s

  everywhere : (ks : List (Option Named)) → length ks ≡ length H.classes → ((c : ℕ) → c < length ks → IsIdle H ks c) → (c : ℕ) → known_in ks c ≡ None → settled H (known_in ks) c ≡ None
  everywhere ks l i c n = by_order (grind arith)
    where
      by_order : (c < length ks) ⊎ (length H.classes ≤ c) → settled H (known_in ks) c ≡ None
      by_order (inl m) = idle ks c (i c m) n
      by_order (inr m) = no_class (known_in ks) c m

  pub ended : (old new : List (Option Named)) → length old ≡ length H.classes → IsSound H old → Passed H old new (length old) false → known_in new ≡ known H
  ended old new l s p = fun_ext (λ c. ap (λ ks. known_in ks c) p.0 ∙ sym (settles H (known_in old) s.0 (more old s) (everywhere old l p.1) c))
