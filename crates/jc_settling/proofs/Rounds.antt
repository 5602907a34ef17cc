-- As many rounds as there are classes tell all that any number of rounds tells; and knowledge that some rounds tell, and that settling takes no further, is that.
use Rattle.std.proofs.Common.{◌≡◌, ◌⊎◌, inl, inr, ℕ, zero, suc, ◌+◌, ◌<◌, ◌≤◌, Bool, true, false, Option, Some, None, length, refl, sym, ap, subst, ◌∙◌, arith}
use Rattle.std.proofs.lemmas.Option.{slice_get_past}
use Rattle.jc_declares.specs.declared.heads.Heads.{Heads}
use Rattle.jc_declares.specs.Heads.{Named}
use Rattle.jc_declares.specs.Looking.{Knowledge}
use Rattle.jc_declares.specs.Knowing.{settled, rounds, known, is_some}
use Rattle.jc_settling.proofs.Under.{Under, More, none, same}
use Rattle.jc_settling.proofs.Under

-- ---- rounds

pub trans : (K L M : Knowledge) → More K L → More L M → More K M
trans K L M f g = record { of = λ c. record { at = λ x e. (g.of c).at x ((f.of c).at x e) } }

split : (n m : ℕ) → n ≤ m → (d : ℕ) × (n + d ≡ m)
split zero m l = (m, omega arith)
split (suc n) zero l = absurd (omega (arith, l))
split (suc n) (suc m) l = let rest = split n m (omega (arith, l)) in (rest.0, omega (arith, rest.1))

module _ (H : Heads) where
  -- a round keeps what is known
  pub kept : (n : ℕ) → More (rounds H n) (rounds H (suc n))
  kept zero = record { of = λ c. none _ }
  kept (suc n) = record { of = λ c. Under.settled H (rounds H n) (rounds H (suc n)) (kept n) c }

  -- and so do more of them
  pub kept_by : (n more : ℕ) → More (rounds H n) (rounds H (n + more))
  kept_by n zero = let e : n ≡ n + zero = omega arith in subst (λ m. More (rounds H n) (rounds H m)) e (record { of = λ c. same _ })
  kept_by n (suc more) =
      let e : suc (n + more) ≡ n + suc more = omega arith in
      subst (λ m. More (rounds H n) (rounds H m)) e (trans _ _ _ (kept_by n more) (kept (n + more)))

  pub kept_up_to : (n m : ℕ) → n ≤ m → More (rounds H n) (rounds H m)
  kept_up_to n m l = let rest = split n m l in subst (λ k. More (rounds H n) (rounds H k)) rest.1 (kept_by n rest.0)

  -- knowledge that settling doesn't take further holds all rounds
  pub all_in : (K : Knowledge) → ((c : ℕ) → Under (settled H K c) (K c)) → (n : ℕ) → More (rounds H n) K
  all_in K closed zero = record { of = λ c. none _ }
  all_in K closed (suc n) = record { of = λ c. record { at = λ x e. (closed c).at x ((Under.settled H (rounds H n) K (all_in K closed n) c).at x e) } }

  -- what is settled over what some rounds tell, the next round tells
  pub one_more : (K : Knowledge) (n c : ℕ) (x : Named) → More K (rounds H n) → settled H K c ≡ Some x → rounds H (suc n) c ≡ Some x
  one_more K n c x m e = (Under.settled H K (rounds H n) m c).at x e

  -- nothing is told of a number that is no class
  past : (K : Knowledge) (c : ℕ) → length H.classes ≤ c → settled H K c ≡ None
  past K c l = let e = slice_get_past H.classes c l in rw e refl

-- ---- how many of the first n classes are known

abbrev one_if : Bool → ℕ
one_if true = 1
one_if false = 0

abbrev count : Knowledge → ℕ → ℕ
count K zero = 0
count K (suc n) = one_if (is_some (K n)) + count K n

some_more : (o p : Option Named) → Under o p → is_some o ≡ true → is_some p ≡ true
some_more None p u e = cc
some_more (Some x) p u e = ap is_some (u.at x refl)

ones_more : (a b : Bool) → (a ≡ true → b ≡ true) → one_if a ≤ one_if b
ones_more false b f = omega arith
ones_more true b f = let e : one_if b ≡ 1 = ap one_if (f refl) in omega (arith, e)

count_most : (K : Knowledge) (n : ℕ) → count K n ≤ n
count_most K zero = omega arith
count_most K (suc n) = by (is_some (K n)) (count_most K n)
  where
    by : (b : Bool) → count K n ≤ n → one_if b + count K n ≤ suc n
    by true l = omega (arith, l)
    by false l = omega (arith, l)

count_more : (K L : Knowledge) → More K L → (n : ℕ) → count K n ≤ count L n
count_more K L m zero = omega arith
count_more K L m (suc n) = omega (arith, count_more K L m n, ones_more (is_some (K n)) (is_some (L n)) (some_more (K n) (L n) (m.of n)))

-- where as many are known, the same ones are
same_ones : (a b : Bool) → one_if b ≤ one_if a → b ≡ true → a ≡ true
same_ones true b l e = refl
same_ones false true l e = absurd (omega (arith, l))
same_ones false false l e = cc

count_same : (K L : Knowledge) → More K L → (n : ℕ) → count L n ≤ count K n → (c : ℕ) → c < n → is_some (L c) ≡ true → is_some (K c) ≡ true
count_same K L m zero l c below e = absurd (omega (arith, below))
count_same K L m (suc n) l c below e = by_order (count_same K L m n (omega (arith, l, ones)) c) (grind (arith, below))
  where
    ones : one_if (is_some (K n)) ≤ one_if (is_some (L n))
    ones = ones_more (is_some (K n)) (is_some (L n)) (some_more (K n) (L n) (m.of n))

    by_order : (c < n → is_some (L c) ≡ true → is_some (K c) ≡ true) → (c < n) ⊎ (c ≡ n) → is_some (K c) ≡ true
    by_order earlier (inl less) = earlier less e
    by_order earlier (inr is) = subst (λ k. is_some (K k) ≡ true) (sym is) (same_ones (is_some (K n)) (is_some (L n)) (omega (arith, l, count_more K L m n)) (subst (λ k. is_some (L k) ≡ true) is e))

-- ---- the round that settles nothing further

module _ (H : Heads) where
  Closed : ℕ → Type 0
  Closed n = (c : ℕ) → Under (settled H (rounds H n) c) (rounds H n c)

  told_same : (n c : ℕ) (o : Option Named) → rounds H n c ≡ o → is_some o ≡ true → Under (settled H (rounds H n) c) (rounds H n c)
  told_same n c None e s = cc
  told_same n c (Some y) e s = record { at = λ x f. e ∙ sym (((kept H n).of c).at y e) ∙ f }

  closed_by : (n c : ℕ) (o : Option Named) → settled H (rounds H n) c ≡ o → (is_some o ≡ true → is_some (rounds H n c) ≡ true) → Under (settled H (rounds H n) c) (rounds H n c)
  closed_by n c None e f = record { at = λ x g. absurd_by (sym e ∙ g) }
    where
      absurd_by : {A : Type 0} {x : Named} → None ≡ Some x → A
      absurd_by e = cc
  closed_by n c (Some x) e f = told_same n c (rounds H n c) refl (f refl)

  closed_if : (n : ℕ) → count (rounds H (suc n)) (length H.classes) ≤ count (rounds H n) (length H.classes) → Closed n
  unfolding Closed
  closed_if n l c = by_order (grind arith)
    where
      by_order : (c < length H.classes) ⊎ (length H.classes ≤ c) → Under (settled H (rounds H n) c) (rounds H n c)
      by_order (inl below) = closed_by n c (settled H (rounds H n) c) refl (count_same (rounds H n) (rounds H (suc n)) (kept H n) (length H.classes) l c below)
      by_order (inr beyond) = closed_by n c None (past H (rounds H n) c beyond) (λ e. absurd_false e)
        where
          absurd_false : {A : Type 0} → false ≡ true → A
          absurd_false e = cc

  -- one of the first n rounds settles nothing further, or n classes are known behind them
  early : (n : ℕ) → ((m : ℕ) × (m < n) × Closed m) ⊎ (n ≤ count (rounds H n) (length H.classes))
  early zero = inr (omega arith)
  early (suc n) = by (early n)
    where
      by_count : n ≤ count (rounds H n) (length H.classes) → (count (rounds H (suc n)) (length H.classes) ≤ count (rounds H n) (length H.classes)) ⊎ (count (rounds H n) (length H.classes) < count (rounds H (suc n)) (length H.classes))
          → ((m : ℕ) × (m < suc n) × Closed m) ⊎ (suc n ≤ count (rounds H (suc n)) (length H.classes))
      by_count l (inl s) = inl (n, omega arith, closed_if n s)
      by_count l (inr g) = inr (omega (arith, l, g))

      by : ((m : ℕ) × (m < n) × Closed m) ⊎ (n ≤ count (rounds H n) (length H.classes)) → ((m : ℕ) × (m < suc n) × Closed m) ⊎ (suc n ≤ count (rounds H (suc n)) (length H.classes))
      by (inl found) = inl (found.0, omega (arith, found.1), found.2)
      by (inr l) = by_count l (grind arith)

  closing : (m : ℕ) × (m ≤ length H.classes) × Closed m
  closing = by (early (suc (length H.classes)))
    where
      by : ((m : ℕ) × (m < suc (length H.classes)) × Closed m) ⊎ (suc (length H.classes) ≤ count (rounds H (suc (length H.classes))) (length H.classes)) → (m : ℕ) × (m ≤ length H.classes) × Closed m
      by (inl found) = (found.0, omega (arith, found.1), found.2)
      by (inr l) = absurd (omega (arith, l, count_most (rounds H (suc (length H.classes))) (length H.classes)))

  -- all that any number of rounds tells, is known
  pub all_known : (n : ℕ) → More (rounds H n) (known H)
  unfolding known Closed
  all_known n = trans _ _ _ (all_in H (rounds H closing.0) closing.2 n) (kept_up_to H closing.0 (length H.classes) closing.1)

  -- ---- knowledge that a list of classes has

  told_by : (K : Knowledge) (n c : ℕ) (o : Option Named) → K c ≡ o → More K (rounds H n) → (K c ≡ None → settled H K c ≡ None) → Under (settled H K c) (K c)
  told_by K n c None e m f = record { at = λ x g. absurd_by (sym (f e) ∙ g) }
    where
      absurd_by : {A : Type 0} {x : Named} → None ≡ Some x → A
      absurd_by e = cc
  told_by K n c (Some y) e m f = record { at = λ x g. e ∙ sym (((kept H n).of c).at y ((m.of c).at y e)) ∙ one_more H K n c x m g }

  both_ways : (o p : Option Named) → Under o p → Under p o → o ≡ p
  both_ways None None u v = refl
  both_ways None (Some y) u v = v.at y refl
  both_ways (Some x) p u v = sym (u.at x refl)

  -- what some rounds tell, and settling takes no further, is what is known
  pub settles : (K : Knowledge) (n : ℕ) → More K (rounds H n) → ((c : ℕ) → K c ≡ None → settled H K c ≡ None) → (c : ℕ) → known H c ≡ K c
  unfolding known
  settles K n m closed c =
      both_ways (known H c) (K c) ((all_in H K (λ d. told_by K n d (K d) refl m (closed d)) (length H.classes)).of c) ((trans K (rounds H n) (known H) m (all_known n)).of c)
