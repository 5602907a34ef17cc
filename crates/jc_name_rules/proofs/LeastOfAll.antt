-- The least of what is listed and of the cycles is the least of all broken rules of names.
use Rattle.std.proofs.Common.{◌≡◌, ◌⊎◌, inl, inr, ◌+◌, ℕ, zero, suc, Bool, true, false, List, [], ◌∷◌, ◌++◌, Option, Some, None, slice_get, refl, sym, ap, subst, ◌∙◌, arith, add-zero, zero-add}
use Rattle.std.specs.Prelude.{cond}
use Rattle.jc_rules.specs.declared.rule.Refusal.{Refusal}
use Rattle.jc_types.specs.Breaks.{least, LeastOf, IsOf}
use Rattle.jc_types.proofs.Least.{least_append, least_of, told}
use Rattle.jc_declares.specs.declared.heads.ClassHead.{ClassHead}
use Rattle.jc_declares.specs.declared.heads.Heads.{Heads}
use Rattle.jc_declares.specs.Sites.{Sites}
use Rattle.jc_declares.specs.Heads.{heads_of}
use Rattle.jc_declares.specs.Looking.{Knowledge}
use Rattle.jc_declares.specs.Knowing.{known}
use Rattle.jc_declares.specs.HeadBreaks.{of_each, head_breaks, IsCycle, broken_at}
use Rattle.jc_declares.specs.Breaks.{site_breaks, listed_breaks, BreaksNames}
use Rattle.jc_name_rules.specs.Cycles.{AreCyclic, is_marked, cycle_breaks}

of_append : (b : Refusal) (xs ys : List Refusal) → IsOf b (xs ++ ys) → IsOf b xs ⊎ IsOf b ys
of_append b [] ys o = inr o
of_append b (x ∷ xs) ys (inl e) = inl (inl e)
of_append b (x ∷ xs) ys (inr o) = elim (of_append b xs ys o) [ inl p ↦ inl (inr p) | inr q ↦ inr q ]

of_left : (b : Refusal) (xs ys : List Refusal) → IsOf b xs → IsOf b (xs ++ ys)
of_left b [] ys o = elim o [ ]
of_left b (x ∷ xs) ys (inl e) = inl e
of_left b (x ∷ xs) ys (inr o) = inr (of_left b xs ys o)

of_right : (b : Refusal) (xs ys : List Refusal) → IsOf b ys → IsOf b (xs ++ ys)
of_right b [] ys o = o
of_right b (x ∷ xs) ys o = inr (of_right b xs ys o)

-- ---- cycles

abbrev Marked : Heads → List Bool → ℕ → List ClassHead → Refusal → Type 0
Marked H marks i cs b = (k : ℕ) × (s : ClassHead) × (slice_get cs k ≡ Some s) × (is_marked marks (i + k) ≡ true) × (b ≡ record { rule = 304; place = record { file = s.file; at = s.at }; have = 0 })

marked_at : (H : Heads) (marks : List Bool) (i : ℕ) (c : ClassHead) (cs : List ClassHead) (b : Refusal) (t : Bool) → is_marked marks i ≡ t → IsOf b (cond t (broken_at 304 c.file c.at) []) → Marked H marks i (c ∷ cs) b
marked_at H marks i c cs b true e (inl f) = (0, c, refl, subst (λ j. is_marked marks j ≡ true) (sym (add-zero i)) e, f)
marked_at H marks i c cs b true e (inr f) = absurd f
marked_at H marks i c cs b false e f = absurd f

later : (H : Heads) (marks : List Bool) (i : ℕ) (c : ClassHead) (cs : List ClassHead) (b : Refusal) → Marked H marks (suc i) cs b → Marked H marks i (c ∷ cs) b
later H marks i c cs b m = (suc m.0, m.1, m.2, subst (λ j. is_marked marks j ≡ true) (next i m.0) m.3, m.4)
  where
    next : (i k : ℕ) → suc i + k ≡ i + suc k
    next i k = omega arith

listed_marked : (H : Heads) (marks : List Bool) (i : ℕ) (cs : List ClassHead) (b : Refusal) → IsOf b (of_each (cycle_breaks marks) i cs) → Marked H marks i cs b
listed_marked H marks i [] b o = absurd o
listed_marked H marks i (c ∷ cs) b o =
    elim (of_append b (cycle_breaks marks i c) (of_each (cycle_breaks marks) (suc i) cs) o) [
      | inl p ↦ marked_at H marks i c cs b (is_marked marks i) refl p
      | inr q ↦ later H marks i c cs b (listed_marked H marks (suc i) cs b q)
    ]

marked_listed : (marks : List Bool) (i k : ℕ) (cs : List ClassHead) (s : ClassHead) (b : Refusal) → slice_get cs k ≡ Some s → is_marked marks (i + k) ≡ true
    → b ≡ record { rule = 304; place = record { file = s.file; at = s.at }; have = 0 } → IsOf b (of_each (cycle_breaks marks) i cs)
marked_listed marks i k [] s b e m f = absurd (cc)
marked_listed marks i zero (c ∷ cs) s b e m f =
    let same : c ≡ s = (cc) in
    of_left b (cycle_breaks marks i c) (of_each (cycle_breaks marks) (suc i) cs)
    (subst (λ (t : Bool). IsOf b (cond t (broken_at 304 c.file c.at) [])) (sym (subst (λ j. is_marked marks j ≡ true) (add-zero i) m))
    (inl (subst (λ (x : ClassHead). b ≡ record { rule = 304; place = record { file = x.file; at = x.at }; have = 0 }) (sym same) f)))
marked_listed marks i (suc k) (c ∷ cs) s b e m f =
    of_right b (cycle_breaks marks i c) (of_each (cycle_breaks marks) (suc i) cs) (marked_listed marks (suc i) k cs s b e (subst (λ j. is_marked marks j ≡ true) (back i k) m) f)
  where
    back : (i k : ℕ) → i + suc k ≡ suc i + k
    back i k = omega arith

module _ (S : Sites) (H : Heads) (K : Knowledge) (marks : List Bool) (heads : H ≡ heads_of S) (same : K ≡ known H) (cyclic : AreCyclic H marks) where
  listed_same : listed_breaks S H K ≡ listed_breaks S (heads_of S) (known (heads_of S))
  listed_same =
      ap (λ (k : Knowledge). listed_breaks S H k) same
      ∙ ap (λ (h : Heads). listed_breaks S h (known h)) heads

  is_cycle : (b : Refusal) → IsOf b (of_each (cycle_breaks marks) 0 H.classes) → IsCycle (heads_of S) b
  is_cycle b o =
      let m : Marked H marks 0 H.classes b = listed_marked H marks 0 H.classes b o in
      subst (λ (h : Heads). IsCycle h b) heads
      (record { class = m.0; head = m.1; declared = m.2; cyclic = cyclic.cyclic m.0 (subst (λ j. is_marked marks j ≡ true) (zero-add m.0) m.3); says = m.4 })

  is_listed : (b : Refusal) → IsCycle H b → IsOf b (of_each (cycle_breaks marks) 0 H.classes)
  is_listed b c =
      marked_listed marks 0 c.class H.classes c.head b c.declared (subst (λ j. is_marked marks j ≡ true) (sym (zero-add c.class)) (cyclic.marked c.class c.head c.declared c.cyclic)) c.says

  there : (b : Refusal) → IsOf b (listed_breaks S H K ++ of_each (cycle_breaks marks) 0 H.classes) → BreaksNames S b
  there b o =
      elim (of_append b (listed_breaks S H K) (of_each (cycle_breaks marks) 0 H.classes) o) [
        | inl p ↦ inl (subst (λ (l : List Refusal). IsOf b l) listed_same p)
        | inr q ↦ inr (is_cycle b q)
      ]

  back : (b : Refusal) → BreaksNames S b → IsOf b (listed_breaks S H K ++ of_each (cycle_breaks marks) 0 H.classes)
  back b (inl p) = of_left b (listed_breaks S H K) (of_each (cycle_breaks marks) 0 H.classes) (subst (λ (l : List Refusal). IsOf b l) (sym listed_same) p)
  back b (inr q) = of_right b (listed_breaks S H K) (of_each (cycle_breaks marks) 0 H.classes) (is_listed b (subst (λ (h : Heads). IsCycle h b) (sym heads) q))

  pub least_names : (a c d : Option Refusal) → a ≡ least None (head_breaks H K) → c ≡ least a (site_breaks S H K) → d ≡ least c (of_each (cycle_breaks marks) 0 H.classes) → LeastOf (BreaksNames S) d
  least_names a c d ea ec ed =
      let e : d ≡ least None (listed_breaks S H K ++ of_each (cycle_breaks marks) 0 H.classes) =
      ed ∙ ap (λ x. least x (of_each (cycle_breaks marks) 0 H.classes)) (ec ∙ ap (λ x. least x (site_breaks S H K)) ea ∙ sym (least_append None (head_breaks H K) (site_breaks S H K)))
      ∙ sym (least_append None (listed_breaks S H K) (of_each (cycle_breaks marks) 0 H.classes)) in
      subst (λ x. LeastOf (BreaksNames S) x) (sym e)
      (told (λ b. IsOf b (listed_breaks S H K ++ of_each (cycle_breaks marks) 0 H.classes)) (BreaksNames S) (least None (listed_breaks S H K ++ of_each (cycle_breaks marks) 0 H.classes)) there back
      (least_of (listed_breaks S H K ++ of_each (cycle_breaks marks) 0 H.classes)))
