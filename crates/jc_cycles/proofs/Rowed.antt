-- What is reached over the rows of what classes need, they need.
use Rattle.std.proofs.Common.{◌≡◌, ◌⊎◌, inl, inr, ◌<◌, ◌≤◌, ◌+◌, ℕ, zero, suc, add-one, Bool, true, false, nat_lt, List, [], ◌∷◌, ◌++◌, Option, Some, None, length, slice_get, refl, sym, ap, subst, ◌∙◌, arith}
use Rattle.std.specs.Prelude.{cond, ◌==◌, ◌||◌}
use Rattle.std.proofs.lemmas.Grind.{common_steps}
use Rattle.std.proofs.lemmas.Option.{slice_get_within, slice_get_past}
use Rattle.jc_rules.proofs.Truths.{is_less, less_is}
use Rattle.jc_declares.specs.declared.heads.Heads.{Heads}
use Rattle.jc_declares.specs.Looking.{Knowledge, has}
use Rattle.jc_declares.specs.Heads.{Named}
use Rattle.jc_declares.specs.Knowing.{is_some, known, needs, Needs, needed, further}
use Rattle.jc_cycles.proofs.Ranked.{known_apart, known_needs}
use Rattle.jc_components.specs.Reach.{IsIn, row, listed, Reach, one, on, IsClosed}
use Rattle.jc_components.specs.Marks.{or_false, is_marked, AreReached}
use Rattle.jc_cycles.specs.Cycles.{places, places_unless, rows_below, AreCyclic}

-- ---- numbers in lists

in_has : (c : ℕ) (cs : List ℕ) → IsIn c cs → has c cs ≡ true
in_has c [] m = absurd m
in_has c (d ∷ cs) (inl e) = here (c == d) (has c cs) (same c d e)
  where
    same : (a b : ℕ) → a ≡ b → (a == b) ≡ true
    same a b e = grind (arith, common_steps)

    here : (a b : Bool) → a ≡ true → (a || b) ≡ true
    here true b e = refl
    here false b e = cc
in_has c (d ∷ cs) (inr m) = there (c == d) (has c cs) (in_has c cs m)
  where
    there : (a b : Bool) → b ≡ true → (a || b) ≡ true
    there true b e = refl
    there false b e = e

has_in : (c : ℕ) (cs : List ℕ) → has c cs ≡ true → IsIn c cs
has_in c [] e = cc
has_in c (d ∷ cs) e = by (c == d) refl e (has_in c cs)
  where
    equal : (a b : ℕ) → (a == b) ≡ true → a ≡ b
    equal a b e = grind (arith, common_steps)

    by : (b : Bool) → (c == d) ≡ b → (b || has c cs) ≡ true → (has c cs ≡ true → IsIn c cs) → IsIn c (d ∷ cs)
    by true s e f = inl (equal c d s)
    by false s e f = inr (f e)

in_places : (n x : ℕ) (cs : List ℕ) → IsIn x (places n cs) → IsIn x cs × (x < n)
in_places n x [] m = absurd m
in_places n x (c ∷ cs) m = by (nat_lt c n) refl m (in_places n x cs)
  where
    further_in : IsIn x cs × (x < n) → IsIn x (c ∷ cs) × (x < n)
    further_in p = (inr p.0, p.1)

    first : nat_lt c n ≡ true → x ≡ c → IsIn x (c ∷ cs) × (x < n)
    first s e = (inl e, subst (λ k. k < n) (sym e) (is_less c n s))

    by : (b : Bool) → nat_lt c n ≡ b → IsIn x (cond b (c ∷ []) [] ++ places n cs) → (IsIn x (places n cs) → IsIn x cs × (x < n)) → IsIn x (c ∷ cs) × (x < n)
    by true s (inl e) f = first s e
    by true s (inr i) f = further_in (f i)
    by false s i f = further_in (f i)

placed_in : (n x : ℕ) (cs : List ℕ) → IsIn x cs → x < n → IsIn x (places n cs)
placed_in n x [] m l = absurd m
placed_in n x (c ∷ cs) m l = by (nat_lt c n) refl m (λ i. placed_in n x cs i l)
  where
    not_below : {A : Type 0} → nat_lt c n ≡ false → x ≡ c → A
    not_below s e = let t : nat_lt c n ≡ true = less_is c n (subst (λ k. k < n) e l) in cc

    by : (b : Bool) → nat_lt c n ≡ b → IsIn x (c ∷ cs) → (IsIn x cs → IsIn x (places n cs)) → IsIn x (cond b (c ∷ []) [] ++ places n cs)
    by true s (inl e) f = inl e
    by true s (inr i) f = inr (f i)
    by false s (inl e) f = not_below s e
    by false s (inr i) f = f i

-- ---- rows

last_of : {A : Type 0} (xs : List A) (x : A) → slice_get (xs ++ x ∷ []) (length xs) ≡ Some x
last_of [] x = refl
last_of (y ∷ xs) x = last_of xs x

first_of : {A : Type 0} (xs ys : List A) (j : ℕ) → j < length xs → slice_get (xs ++ ys) j ≡ slice_get xs j
first_of [] ys j l = absurd (omega arith)
first_of (x ∷ xs) ys zero l = refl
first_of (x ∷ xs) ys (suc j) l = first_of xs ys j (omega arith)

module _ (H : Heads) (K : Knowledge) (n : ℕ) where
  pub rows_count : (k : ℕ) → length (rows_below H K n k) ≡ k
  rows_count zero = refl
  rows_count (suc k) = let h = rows_count k in grind (arith, common_steps)

  row_at : (k c : ℕ) → c < k → slice_get (rows_below H K n k) c ≡ Some (places_unless (K c) n (needs H K c))
  row_at zero c l = absurd (omega arith)
  row_at (suc k) c l = by_order (order c k l) (row_at k c)
    where
      order : (c k : ℕ) → c < suc k → (c < k) ⊎ (c ≡ k)
      order c k l = grind arith

      by_order : (c < k) ⊎ (c ≡ k) → (c < k → slice_get (rows_below H K n k) c ≡ Some (places_unless (K c) n (needs H K c))) → slice_get (rows_below H K n (suc k)) c ≡ Some (places_unless (K c) n (needs H K c))
      by_order (inl m) f = first_of (rows_below H K n k) _ c (let e = rows_count k in omega arith) ∙ f m
      by_order (inr e) f = let at = last_of (rows_below H K n k) (places_unless (K k) n (needs H K k)) in let m = rows_count k in
          subst (λ c. slice_get (rows_below H K n (suc k)) c ≡ Some (places_unless (K c) n (needs H K c))) (sym e)
          (subst (λ m. slice_get (rows_below H K n k ++ places_unless (K k) n (needs H K k) ∷ []) m ≡ Some (places_unless (K k) n (needs H K k))) m at)

  row_is : (c : ℕ) → c < n → row (rows_below H K n n) c ≡ places_unless (K c) n (needs H K c)
  row_is c l = ap listed (row_at n c l)

  row_starts : (a b : ℕ) → IsIn b (row (rows_below H K n n) a) → a < n
  row_starts a b m = by (slice_get (rows_below H K n n) a) refl m
    where
      by : (o : Option (List ℕ)) → slice_get (rows_below H K n n) a ≡ o → IsIn b (listed o) → a < n
      by (Some r) e m = let w = slice_get_within (rows_below H K n n) a r e in let s = rows_count n in omega arith
      by None e m = absurd m

  in_row : (a b : ℕ) → IsIn b (row (rows_below H K n n) a) → IsIn b (needs H K a) × (b < n)
  in_row a b m = in_unless (K a) (needs H K a) (subst (IsIn b) (row_is a (row_starts a b m)) m)
    where
      in_unless : (o : Option Named) (cs : List ℕ) → IsIn b (places_unless o n cs) → IsIn b cs × (b < n)
      in_unless (Some es) cs m = absurd m
      in_unless None cs m = in_places n b cs m

  pub rows_closed : IsClosed (rows_below H K n n)
  rows_closed a b m = let p = in_row a b m in let s = rows_count n in omega (arith, p.1)

rows_step : (H : Heads) (K : Knowledge) (n k : ℕ) → rows_below H K n (k + 1) ≡ rows_below H K n k ++ places_unless (K k) n (needs H K k) ∷ []
rows_step H K n k = rw add-one refl

pub row_pushed : (H : Heads) (K : Knowledge) (n k : ℕ) (rows : List (List ℕ)) (r : List ℕ) → rows ≡ rows_below H K n k → r ≡ places_unless (K k) n (needs H K k)
    → rows ++ r ∷ [] ≡ rows_below H K n (k + 1)
row_pushed H K n k rows r e f = ap (λ (rs : List (List ℕ)). rs ++ r ∷ []) e ∙ ap (λ (x : List ℕ). rows_below H K n k ++ x ∷ []) f ∙ sym (rows_step H K n k)

-- ---- needs

module _ (H : Heads) where
  Rows : List (List ℕ)
  Rows = rows_below H (known H) (length H.classes) (length H.classes)

  reached_needed : (c d : ℕ) → Reach Rows c d → Needs H c d
  unfolding Rows
  reached_needed c d (one b i) = needed b (in_has b _ (in_row H (known H) (length H.classes) c b i).0)
  reached_needed c d (on b e r i) = further b e (reached_needed c b r) (in_has e _ (in_row H (known H) (length H.classes) b e i).0)

  no_needs : (d : ℕ) → length H.classes ≤ d → needs H (known H) d ≡ []
  no_needs d l = let e = slice_get_past H.classes d l in rw e refl

  needs_something : (d e : ℕ) → has e (needs H (known H) d) ≡ true → d < length H.classes
  needs_something d e h = by_order (grind arith)
    where
      none_has : {A : Type 0} → has e [] ≡ true → A
      none_has x = cc

      by_order : (d < length H.classes) ⊎ (length H.classes ≤ d) → d < length H.classes
      by_order (inl l) = l
      by_order (inr l) = none_has (subst (λ (cs : List ℕ). has e cs ≡ true) (no_needs d l) h)

  in_rows : (c d : ℕ) → c < length H.classes → is_some (known H c) ≡ false → has d (needs H (known H) c) ≡ true → d < length H.classes → IsIn d (row Rows c)
  unfolding Rows
  in_rows c d lc u h l =
      subst (IsIn d) (sym (row_is H (known H) (length H.classes) c lc ∙ ap (λ (o : Option Named). places_unless o (length H.classes) (needs H (known H) c)) (unknown (known H c) u)))
      (placed_in (length H.classes) d _ (has_in d _ h) l)
    where
      unknown : (o : Option Named) → is_some o ≡ false → o ≡ None
      unknown None e = refl
      unknown (Some es) e = cc

  -- what needs a class that isn't known, isn't known either
  unknown_before : (b e : ℕ) → is_some (known H e) ≡ false → has e (needs H (known H) b) ≡ true → is_some (known H b) ≡ false
  unknown_before b e u h = by (is_some (known H b)) refl
    where
      by : (k : Bool) → is_some (known H b) ≡ k → is_some (known H b) ≡ false
      by false s = s
      by true s = let t : is_some (known H e) ≡ true = known_needs H b e s h in cc

  needed_reached : (c d : ℕ) → Needs H c d → is_some (known H d) ≡ false → d < length H.classes → Reach Rows c d
  needed_reached c d (needed e h) u l = one e (in_rows c e (needs_something c e h) (unknown_before c e u h) h l)
  needed_reached c d (further b e p h) u l =
      let lb : b < length H.classes = needs_something b e h in
      let ub : is_some (known H b) ≡ false = unknown_before b e u h in
      on b e (needed_reached c b p ub lb) (in_rows b e lb ub h l)

  cycle_reached : (c : ℕ) → Needs H c c → c < length H.classes → Reach Rows c c
  cycle_reached c n l = needed_reached c c n (by (is_some (known H c)) refl) l
    where
      by : (k : Bool) → is_some (known H c) ≡ k → is_some (known H c) ≡ false
      by false s = s
      by true s = absurd (known_apart H c s n)

pub all_told : (H : Heads) (rows : List (List ℕ)) (marks : List Bool) → rows ≡ rows_below H (known H) (length H.classes) (length H.classes) → AreReached rows marks (length H.classes) → AreCyclic H marks
unfolding Rows
all_told H rows marks e a = record {
  cyclic = λ c m. reached_needed H c c (subst (λ rs. Reach rs c c) e ((a.told c (place c m)).0 m));
  marked = λ c s at n. (a.told c (slice_get_within H.classes c s at)).1 (subst (λ rs. Reach rs c c) (sym e) (cycle_reached H c n (slice_get_within H.classes c s at)));
}
  where
    within : (c : ℕ) (o : Option Bool) → slice_get marks c ≡ o → or_false o ≡ true → c < length marks
    within c None f m = cc
    within c (Some b) f m = slice_get_within marks c b f

    place : (c : ℕ) → is_marked marks c ≡ true → c < length H.classes
    place c m = let w = within c (slice_get marks c) refl m in let n = a.count in omega arith
