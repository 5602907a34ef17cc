-- What grows below a bound stops growing by then.
use Rattle.std.proofs.Common.{◌≡◌, ◌⊎◌, inl, inr, ℕ, zero, suc, ◌+◌, ◌-◌, ◌<◌, ◌≤◌, Bool, true, false, cond, arith, refl, sym, ap, subst, ◌∙◌}

-- how many numbers below n pass
abbrev count : (ℕ → Bool) → ℕ → ℕ
count f zero = 0
count f (suc n) = cond (f n) 1 0 + count f n

abbrev Under : ℕ → (ℕ → Bool) → (ℕ → Bool) → Type 0
Under n f g = (u : ℕ) → u < n → f u ≡ true → g u ≡ true

abbrev pub Same : ℕ → (ℕ → Bool) → (ℕ → Bool) → Type 0
Same n f g = (u : ℕ) → u < n → f u ≡ g u

count_le : (f : ℕ → Bool) (n : ℕ) → count f n ≤ n
count_le f zero = omega arith
count_le f (suc n) = by (f n) (count_le f n)
  where
    by : (b : Bool) → count f n ≤ n → cond b 1 0 + count f n ≤ suc n
    by true h = omega (arith, h)
    by false h = omega (arith, h)

below_or : (u n : ℕ) → u < suc n → (u < n) ⊎ (u ≡ n)
below_or u n lt = grind arith

same_or_less : (n : ℕ) (f g : ℕ → Bool) → Under n f g → Same n f g ⊎ (count f n < count g n)
same_or_less zero f g h = inl (λ u lt. absurd (omega (arith, lt)))
same_or_less (suc n) f g h = by (f n) (g n) refl refl (same_or_less n f g (λ u lt e. h u (omega (arith, lt)) e))
  where
    all : (b : Bool) → f n ≡ b → g n ≡ b → Same n f g → Same (suc n) f g
    all b e k s u lt = each (below_or u n lt)
      where
        each : (u < n) ⊎ (u ≡ n) → f u ≡ g u
        each (inl l) = s u l
        each (inr q) = ap f q ∙ e ∙ sym k ∙ ap g (sym q)

    grown : (a b : Bool) → a ≡ f n → b ≡ g n → count f n ≤ count g n → cond a 1 0 < cond b 1 0 + 1 → Unit {0}
    grown a b e k l m = tt

    still : Same n f g → count f n ≤ count g n
    still s = counts n (λ u lt. s u lt)
      where
        counts : (m : ℕ) → Same m f g → count f m ≤ count g m
        counts zero t = omega arith
        counts (suc m) t = let i = counts m (λ u lt. t u (omega (arith, lt))) in let e : f m ≡ g m = t m (omega arith) in rw (← e) (omega (arith, i))

    by : (a b : Bool) → f n ≡ a → g n ≡ b → Same n f g ⊎ (count f n < count g n) → Same (suc n) f g ⊎ (cond (f n) 1 0 + count f n < cond (g n) 1 0 + count g n)
    by true true e k (inl s) = inl (all true e k s)
    by false false e k (inl s) = inl (all false e k s)
    by false true e k (inl s) = let l = still s in inr (rw (e, k) (omega (arith, l)))
    by true false e k o = let m : g n ≡ true = h n (omega arith) e in absurd (not_both m k)
      where
        not_both : {b : Bool} → b ≡ true → b ≡ false → ⊥
        not_both p q = cc
    by true true e k (inr l) = inr (rw (e, k) (omega (arith, l)))
    by false false e k (inr l) = inr (rw (e, k) (omega (arith, l)))
    by false true e k (inr l) = inr (rw (e, k) (omega (arith, l)))

module _ (D : ℕ → ℕ → Bool) (N : ℕ) (grows : (n u : ℕ) → D n u ≡ true → D (suc n) u ≡ true) (goes : (n : ℕ) → Same N (D n) (D (suc n)) → Same N (D (suc n)) (D (suc (suc n)))) where
  Still : ℕ → Type 0
  Still m = Same N (D m) (D (suc m))

  stops : (k : ℕ) → ((m : ℕ) × (m < k) × Still m) ⊎ (k ≤ count (D k) N)
  unfolding Still
  stops zero = inr (omega arith)
  stops (suc k) = by (stops k)
    where
      next : k ≤ count (D k) N → Same N (D k) (D (suc k)) ⊎ (count (D k) N < count (D (suc k)) N) → ((m : ℕ) × (m < suc k) × Same N (D m) (D (suc m))) ⊎ (suc k ≤ count (D (suc k)) N)
      next l (inl s) = inl (k, omega arith, s)
      next l (inr lt) = inr (omega (arith, l, lt))

      by : ((m : ℕ) × (m < k) × Same N (D m) (D (suc m))) ⊎ (k ≤ count (D k) N) → ((m : ℕ) × (m < suc k) × Same N (D m) (D (suc m))) ⊎ (suc k ≤ count (D (suc k)) N)
      by (inl s) = let lt = s.1 in inl (s.0, omega (arith, lt), s.2)
      by (inr l) = next l (same_or_less N (D k) (D (suc k)) (λ u lt e. grows k u e))

  goes_on : (j m : ℕ) → Still m → Still (m + j)
  unfolding Still
  goes_on zero m s = let e : m ≡ m + 0 = omega arith in subst (λ i. Same N (D i) (D (suc i))) e s
  goes_on (suc j) m s = let e : suc (m + j) ≡ m + suc j = omega arith in subst (λ i. Same N (D i) (D (suc i))) e (goes (m + j) (goes_on j m s))

  all_same : (j m u : ℕ) → Still m → u < N → D (m + j) u ≡ D m u
  unfolding Still
  all_same zero m u s lt = let e : m + 0 ≡ m = omega arith in ap (λ i. D i u) e
  all_same (suc j) m u s lt = let e : m + suc j ≡ suc (m + j) = omega arith in ap (λ i. D i u) e ∙ sym (goes_on j m s u lt) ∙ all_same j m u s lt

  more : (j m u : ℕ) → D m u ≡ true → D (m + j) u ≡ true
  more zero m u e = let f : m ≡ m + 0 = omega arith in subst (λ i. D i u ≡ true) f e
  more (suc j) m u e = let f : suc (m + j) ≡ m + suc j = omega arith in subst (λ i. D i u ≡ true) f (grows (m + j) u (more j m u e))

  pub by_then : (n u : ℕ) → u < N → D n u ≡ true → D N u ≡ true
  unfolding Still
  by_then n u lt e = found (stops (suc N))
    where
      at : (m : ℕ) → m ≤ N → Same N (D m) (D (suc m)) → D N u ≡ true
      at m le s =
          let f : m + (N - m) ≡ N = omega (arith, le) in
          let now : D m u ≡ true = sym (all_same n m u s lt) ∙ subst (λ i. D i u ≡ true) (let g : n + m ≡ m + n = omega arith in g) (more m n u e) in
          subst (λ i. D i u ≡ true) f (more (N - m) m u now)

      found : ((m : ℕ) × (m < suc N) × Same N (D m) (D (suc m))) ⊎ (suc N ≤ count (D (suc N)) N) → D N u ≡ true
      found (inl s) = let l = s.1 in at s.0 (omega (arith, l)) s.2
      found (inr l) = let m = count_le (D (suc N)) N in absurd (omega (arith, l, m))
