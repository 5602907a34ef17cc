-- Steps of a walk over direct supertypes, and what it finds.
use Rattle.std.proofs.lemmas.Grind.{common_steps}
use Rattle.std.proofs.lemmas.Bool.Decides.{nat_tests}
use Rattle.std.proofs.Common.{take, drop, slice_index_or, ◌-◌, arith, ◌≡◌, ◌≢◌, ◌⊎◌, inl, inr, ℕ, zero, suc, ◌+◌, ◌<◌, ◌≤◌, ◌==◌, Bool, true, false, Option, Some, None, List, [], ◌∷◌, ◌++◌, append_assoc, length, slice_get, slice_set, refl, sym, ap, subst, ◌∙◌}
use Rattle.std.specs.List.{list_any}
use Rattle.std.proofs.lemmas.Bool.{or_right, or_left, or_cases}
use Rattle.jc_rules.proofs.Truths.{self_equal, as_true}
use Rattle.jc_heap.specs.Above.{Added, AreAbove, Cleared, Filled, Grown, IsBlank, IsIn, IsMarked, Put, Searching, Walk, opens, put_by}
use Rattle.jc_heap.specs.Supers.{below_by, supers_at}
use Rattle.jc_heap.proofs.Below.{below_by-none, below_by-suc}

-- ---- lists

in_left : (x : ℕ) (xs ys : List ℕ) → IsIn x xs → IsIn x (xs ++ ys)
in_left x [] ys m = absurd m
in_left x (y ∷ xs) ys (inl e) = inl e
in_left x (y ∷ xs) ys (inr m) = inr (in_left x xs ys m)

in_last : (x : ℕ) (xs : List ℕ) → IsIn x (xs ++ x ∷ [])
in_last x [] = inl refl
in_last x (y ∷ xs) = inr (in_last x xs)

in_either : (x y : ℕ) (xs : List ℕ) → IsIn x (xs ++ y ∷ []) → (x ≡ y) ⊎ IsIn x xs
in_either x y [] (inl e) = inl e
in_either x y [] (inr m) = absurd m
in_either x y (z ∷ xs) (inl e) = inr (inl e)
in_either x y (z ∷ xs) (inr m) = by (in_either x y xs m)
  where
    by : (x ≡ y) ⊎ IsIn x xs → (x ≡ y) ⊎ IsIn x (z ∷ xs)
    by (inl e) = inl e
    by (inr m) = inr (inr m)

place_of : (x : ℕ) (xs : List ℕ) → IsIn x xs → (j : ℕ) × (j < length xs) × (slice_get xs j ≡ Some x)
place_of x [] m = absurd m
place_of x (y ∷ xs) (inl e) = (0, omega arith, ap Some (sym e))
place_of x (y ∷ xs) (inr m) = let p = place_of x xs m in (suc p.0, omega arith, p.2)

prefix : (xs ys : List ℕ) (j : ℕ) → j < length xs → slice_get (xs ++ ys) j ≡ slice_get xs j
prefix [] ys j l = absurd (omega arith)
prefix (x ∷ xs) ys zero l = refl
prefix (x ∷ xs) ys (suc j) l = prefix xs ys j (omega arith)

-- what stands at a place of a list with one more at its end
at_end : (xs : List ℕ) (x j y : ℕ) → slice_get (xs ++ x ∷ []) j ≡ Some y → (slice_get xs j ≡ Some y) ⊎ ((j ≡ length xs) × (x ≡ y))
at_end [] x zero y e = let same : x ≡ y = cc in inr (refl, same)
at_end [] x (suc j) y e = cc
at_end (z ∷ xs) x zero y e = inl e
at_end (z ∷ xs) x (suc j) y e = by (at_end xs x j y e)
  where
    by : (slice_get xs j ≡ Some y) ⊎ ((j ≡ length xs) × (x ≡ y)) → (slice_get xs j ≡ Some y) ⊎ ((suc j ≡ suc (length xs)) × (x ≡ y))
    by (inl e) = inl e
    by (inr p) = inr (ap suc p.0, p.1)

by_test : (x y : ℕ) (b : Bool) → (x == y) ≡ b → b ≡ true → x ≡ y
by_test x y true e t = grind (arith, nat_tests)
by_test x y false e t = cc

any_in : (f : ℕ → Bool) (x : ℕ) (xs : List ℕ) → IsIn x xs → f x ≡ true → list_any f xs ≡ true
any_in f x [] m e = absurd m
any_in f x (y ∷ xs) (inl s) e = or_left (f y) (list_any f xs) (ap f (sym s) ∙ e)
any_in f x (y ∷ xs) (inr m) e = or_right (f y) (list_any f xs) (any_in f x xs m e)

any_one : (f : ℕ → Bool) (xs : List ℕ) → list_any f xs ≡ true → (x : ℕ) × IsIn x xs × (f x ≡ true)
any_one f [] e = cc
any_one f (y ∷ xs) e = by (λ t. any_one f xs t) (or_cases (f y) (list_any f xs) e)
  where
    by : (list_any f xs ≡ true → (x : ℕ) × IsIn x xs × (f x ≡ true)) → (f y ≡ true) ⊎ (list_any f xs ≡ true) → (x : ℕ) × IsIn x (y ∷ xs) × (f x ≡ true)
    by more (inl t) = (y, inl refl, t)
    by more (inr t) = let r = more t in (r.0, inr r.1, r.2)

-- ---- what stands below what

-- at a class that has this directly above it
below_itself : (es : List (List ℕ)) (n a : ℕ) → below_by es (n + 1) a a ≡ true
below_itself es n a =
    ap (λ (k : ℕ). below_by es k a a) (let e : n + 1 ≡ suc n = omega arith in e) ∙ below_by-suc es n a a
    ∙ or_left (a == a) (list_any (below_by es n a) (supers_at es a)) (self_equal a)

below_over : (es : List (List ℕ)) (n w a s : ℕ) → IsIn s (supers_at es a) → below_by es n w s ≡ true → below_by es (n + 1) w a ≡ true
below_over es n w a s i e =
    ap (λ (k : ℕ). below_by es k w a) (let e : n + 1 ≡ suc n = omega arith in e) ∙ below_by-suc es n w a
    ∙ or_right (a == w) (list_any (below_by es n w) (supers_at es a)) (any_in (below_by es n w) s (supers_at es a) i e)

-- over one step or more: itself, or over one that is directly above
below_cases : (es : List (List ℕ)) (n w a : ℕ) → below_by es (suc n) w a ≡ true → (a ≡ w) ⊎ ((s : ℕ) × IsIn s (supers_at es a) × (below_by es n w s ≡ true))
below_cases es n w a e = by (or_cases (a == w) (list_any (below_by es n w) (supers_at es a)) (sym (below_by-suc es n w a) ∙ e))
  where
    by : ((a == w) ≡ true) ⊎ (list_any (below_by es n w) (supers_at es a) ≡ true) → (a ≡ w) ⊎ ((s : ℕ) × IsIn s (supers_at es a) × (below_by es n w s ≡ true))
    by (inl t) = inl (by_test a w (a == w) refl t)
    by (inr t) = inr (any_one (below_by es n w) (supers_at es a) t)

below_never : (es : List (List ℕ)) (w a : ℕ) → below_by es 0 w a ≡ true → ⊥
below_never es w a e = let f = below_by-none es w a in cc

below_more : (es : List (List ℕ)) (n w a : ℕ) → below_by es n w a ≡ true → below_by es (n + 1) w a ≡ true
below_more es zero w a e = absurd (below_never es w a e)
below_more es (suc n) w a e = by (λ s t. below_more es n w s t) (below_cases es n w a e)
  where
    by : ((s : ℕ) → below_by es n w s ≡ true → below_by es (n + 1) w s ≡ true) → (a ≡ w) ⊎ ((s : ℕ) × IsIn s (supers_at es a) × (below_by es n w s ≡ true)) → below_by es (suc n + 1) w a ≡ true
    by more (inl s) = subst (λ (v : ℕ). below_by es (suc n + 1) v a ≡ true) s (below_itself es (suc n) a)
    by more (inr t) =
        let next : below_by es (n + 1) w t.0 ≡ true = more t.0 t.2 in
        ap (λ (k : ℕ). below_by es k w a) (let e : suc n + 1 ≡ n + 1 + 1 = omega arith in e) ∙ below_over es (n + 1) w a t.0 t.1 next

below_much : (es : List (List ℕ)) (n d w a : ℕ) → below_by es n w a ≡ true → below_by es (n + d) w a ≡ true
below_much es n zero w a e = ap (λ (k : ℕ). below_by es k w a) (let e : n + 0 ≡ n = omega arith in e) ∙ e
below_much es n (suc d) w a e = ap (λ (k : ℕ). below_by es k w a) (let e : n + suc d ≡ n + d + 1 = omega arith in e) ∙ below_more es (n + d) w a (below_much es n d w a e)

below_up : (es : List (List ℕ)) (n m w a : ℕ) → n ≤ m → below_by es n w a ≡ true → below_by es m w a ≡ true
below_up es n m w a l e = ap (λ (k : ℕ). below_by es k w a) (let s : m ≡ n + (m - n) = omega (arith, l) in s) ∙ below_much es n (m - n) w a e

-- one class further up
below_on_to : (es : List (List ℕ)) (n y x a : ℕ) → below_by es n y a ≡ true → IsIn x (supers_at es y) → below_by es (n + 1) x a ≡ true
below_on_to es zero y x a e i = absurd (below_never es y a e)
below_on_to es (suc n) y x a e i = by (λ s t. below_on_to es n y x s t i) (below_cases es n y a e)
  where
    by : ((s : ℕ) → below_by es n y s ≡ true → below_by es (n + 1) x s ≡ true) → (a ≡ y) ⊎ ((s : ℕ) × IsIn s (supers_at es a) × (below_by es n y s ≡ true)) → below_by es (suc n + 1) x a ≡ true
    by more (inl s) =
        let itself : below_by es (suc n) x x ≡ true = ap (λ (k : ℕ). below_by es k x x) (let e : suc n ≡ n + 1 = omega arith in e) ∙ below_itself es n x in
        below_over es (suc n) x a x (subst (λ (v : ℕ). IsIn x (supers_at es v)) (sym s) i) itself
    by more (inr t) =
        let next : below_by es (n + 1) x t.0 ≡ true = more t.0 t.2 in
        ap (λ (k : ℕ). below_by es k x a) (let e : suc n + 1 ≡ n + 1 + 1 = omega arith in e) ∙ below_over es (n + 1) x a t.0 t.1 next

-- ---- marks

opens_set : (m : List Bool) (x : ℕ) → slice_get m x ≡ Some false → opens (slice_set m x true) + 1 ≡ opens m
opens_set [] x e = cc
opens_set (true ∷ m) zero e = cc
opens_set (false ∷ m) zero e = refl
opens_set (true ∷ m) (suc x) e = opens_set m x e
opens_set (false ∷ m) (suc x) e = let h = opens_set m x e in omega arith

kept_set : (m : List Bool) (x y : ℕ) → IsMarked m y → IsMarked (slice_set m x true) y
kept_set [] x y e = e
kept_set (b ∷ m) zero zero e = refl
kept_set (b ∷ m) zero (suc y) e = e
kept_set (b ∷ m) (suc x) zero e = e
kept_set (b ∷ m) (suc x) (suc y) e = kept_set m x y e

is_set : (m : List Bool) (x : ℕ) → slice_get m x ≡ Some false → IsMarked (slice_set m x true) x
is_set [] x e = cc
is_set (b ∷ m) zero e = refl
is_set (b ∷ m) (suc x) e = is_set m x e

was_set : (m : List Bool) (x y : ℕ) → IsMarked (slice_set m x true) y → (y ≡ x) ⊎ IsMarked m y
was_set [] x y e = inr e
was_set (b ∷ m) zero zero e = inl refl
was_set (b ∷ m) zero (suc y) e = inr e
was_set (b ∷ m) (suc x) zero e = inr e
was_set (b ∷ m) (suc x) (suc y) e = by (was_set m x y e)
  where
    by : (y ≡ x) ⊎ IsMarked m y → (suc y ≡ suc x) ⊎ IsMarked m y
    by (inl e) = inl (ap suc e)
    by (inr e) = inr e

was_cleared : (m : List Bool) (x y : ℕ) → IsMarked (slice_set m x false) y → (y ≢ x) × IsMarked m y
was_cleared [] x y e = cc
was_cleared (b ∷ m) zero zero e = cc
was_cleared (b ∷ m) zero (suc y) e = ((λ s. omega (arith, s)), e)
was_cleared (b ∷ m) (suc x) zero e = ((λ s. omega (arith, s)), e)
was_cleared (b ∷ m) (suc x) (suc y) e = let r = was_cleared m x y e in ((λ s. r.0 (omega (arith, s))), r.1)

marked_within : (m : List Bool) (x : ℕ) → IsMarked m x → x < length m
marked_within [] x e = cc
marked_within (b ∷ m) zero e = omega arith
marked_within (b ∷ m) (suc x) e = let h = marked_within m x e in omega arith

same_length : (m : List Bool) (x : ℕ) (b : Bool) → length (slice_set m x b) ≡ length m
same_length [] x b = refl
same_length (c ∷ m) zero b = refl
same_length (c ∷ m) (suc x) b = ap suc (same_length m x b)

one_longer : (r : List ℕ) (x : ℕ) → length (r ++ x ∷ []) ≡ length r + 1
one_longer r x = grind (arith, common_steps)

longer : (r t : List ℕ) → length r ≤ length (r ++ t)
longer r t = grind (arith, common_steps)

stays : (m : List Bool) (r : List ℕ) → Grown m m r r
stays m r = record { kept = λ x e. e; tail = []; is_tail = grind (arith, common_steps) }

opens_blank : (m : List Bool) → ((x : ℕ) → IsMarked m x → ⊥) → opens m ≡ length m
opens_blank [] none = refl
opens_blank (true ∷ m) none = absurd (none 0 refl)
opens_blank (false ∷ m) none = let h = opens_blank m (λ x i. none (suc x) i) in omega (arith, h)

-- ---- one class more

walk_new : (es : List (List ℕ)) (a : ℕ) (m : List Bool) (r : List ℕ) (x : ℕ) → slice_get m x ≡ Some false → below_by es (length r + 1) x a ≡ true → Walk es a m r → Walk es a (slice_set m x true) (r ++ x ∷ [])
walk_new es a m r x e h w = record {
  size = same_length m x true ∙ w.size;
  count = let o = opens_set m x e in let l = one_longer r x in let c = w.count in omega arith;
  near = λ j y i. by_place j y (at_end r x j y i);
  lists = λ y i. by_mark y (was_set m x y i);
  marked = λ y i. by_new y (in_either y x r i);
}
  where
    by_place : (j y : ℕ) → (slice_get r j ≡ Some y) ⊎ ((j ≡ length r) × (x ≡ y)) → below_by es (j + 1) y a ≡ true
    by_place j y (inl i) = w.near j y i
    by_place j y (inr p) = ap (λ (k : ℕ). below_by es (k + 1) y a) p.0 ∙ ap (λ (z : ℕ). below_by es (length r + 1) z a) (sym p.1) ∙ h

    by_new : (y : ℕ) → (y ≡ x) ⊎ IsIn y r → IsMarked (slice_set m x true) y
    by_new y (inl q) = subst (IsMarked (slice_set m x true)) (sym q) (is_set m x e)
    by_new y (inr i) = kept_set m x y (w.marked y i)

    by_mark : (y : ℕ) → (y ≡ x) ⊎ IsMarked m y → IsIn y (r ++ x ∷ [])
    by_mark y (inl q) = subst (λ z. IsIn z (r ++ x ∷ [])) (sym q) (in_last x r)
    by_mark y (inr i) = in_left y r _ (w.lists y i)

-- by what stood at x
step_walk : (es : List (List ℕ)) (a : ℕ) (m n : List Bool) (r s : List ℕ) (x : ℕ) (o : Option Bool) → slice_get m x ≡ o → put_by m n r s x o → below_by es (length r + 1) x a ≡ true → Walk es a m r → Walk es a n s
step_walk es a m n r s x (Some true) e p h w = subst (λ n. Walk es a n s) (sym p.0) (subst (Walk es a m) (sym p.1) w)
step_walk es a m n r s x (Some false) e p h w = subst (λ n. Walk es a n s) (sym p.0) (subst (Walk es a (slice_set m x true)) (sym p.1) (walk_new es a m r x e h w))
step_walk es a m n r s x None e p h w = absurd p

step_kept : (m n : List Bool) (r s : List ℕ) (x : ℕ) (o : Option Bool) → slice_get m x ≡ o → put_by m n r s x o → (y : ℕ) → IsMarked m y → IsMarked n y
step_kept m n r s x (Some true) e p y i = subst (λ n. IsMarked n y) (sym p.0) i
step_kept m n r s x (Some false) e p y i = subst (λ n. IsMarked n y) (sym p.0) (kept_set m x y i)
step_kept m n r s x None e p y i = absurd p

step_tail : (m n : List Bool) (r s : List ℕ) (x : ℕ) (o : Option Bool) → put_by m n r s x o → (t : List ℕ) × (s ≡ r ++ t)
step_tail m n r s x (Some true) p = ([], p.1 ∙ grind (arith, common_steps))
step_tail m n r s x (Some false) p = (x ∷ [], p.1)
step_tail m n r s x None p = absurd p

step_marks : (m n : List Bool) (r s : List ℕ) (x : ℕ) (o : Option Bool) → slice_get m x ≡ o → put_by m n r s x o → IsMarked n x
step_marks m n r s x (Some true) e p = subst (λ n. IsMarked n x) (sym p.0) e
step_marks m n r s x (Some false) e p = subst (λ n. IsMarked n x) (sym p.0) (is_set m x e)
step_marks m n r s x None e p = absurd p

step_size : (m n : List Bool) (r s : List ℕ) (x : ℕ) (o : Option Bool) → put_by m n r s x o → length n ≡ length m
step_size m n r s x (Some true) p = ap length p.0
step_size m n r s x (Some false) p = ap length p.0 ∙ same_length m x true
step_size m n r s x None p = absurd p

-- ---- all of a row

pub filled_none : (xs : List ℕ) (m : List Bool) (r : List ℕ) → Filled xs xs m m r r
filled_none xs m r = record { size = refl; grown = stays m r; all = λ x i. inl i; within = λ x i. i; walk = λ es a f w. w }

filled_more : (xs rest : List ℕ) (m n k : List Bool) (r s t : List ℕ) (x : ℕ) → Put n k s t x → Filled xs (x ∷ rest) m n r s → Filled xs rest m k r t
filled_more xs rest m n k r s t x p f = record {
  size = step_size n k s t x _ p ∙ f.size;
  grown = record {
    kept = λ y i. step_kept n k s t x _ refl p y (f.grown.kept y i);
    tail = f.grown.tail ++ added.0;
    is_tail = added.1 ∙ ap (λ z. z ++ added.0) f.grown.is_tail ∙ append_assoc r f.grown.tail added.0;
  };
  all = λ y i. by_rest y (f.all y i);
  within = λ y i. f.within y (inr i);
  walk = λ es a g w. step_walk es a n k s t x _ refl p (below_up es (length r + 1) (length s + 1) x a (omega (arith, further)) (g x (f.within x (inl refl)))) (f.walk es a g w);
}
  where
    added : (z : List ℕ) × (t ≡ s ++ z)
    added = step_tail n k s t x _ p

    further : length r ≤ length s
    further = subst (λ (l : List ℕ). length r ≤ length l) (sym f.grown.is_tail) (longer r f.grown.tail)

    by_rest : (y : ℕ) → IsIn y (x ∷ rest) ⊎ IsMarked n y → IsIn y rest ⊎ IsMarked k y
    by_rest y (inl (inl e)) = inr (subst (IsMarked k) (sym e) (step_marks n k s t x _ refl p))
    by_rest y (inl (inr i)) = inl i
    by_rest y (inr i) = inr (step_kept n k s t x _ refl p y i)

filled_all : (xs : List ℕ) (m n : List Bool) (r s : List ℕ) → Filled xs [] m n r s → Added m n r s xs
filled_all xs m n r s f = record { grown = f.grown; all = λ x i. by x (f.all x i) }
  where
    by : (x : ℕ) → IsIn x [] ⊎ IsMarked n x → IsMarked n x
    by x (inl i) = absurd i
    by x (inr i) = i

rest_whole : (n : ℕ) (ps : List ℕ) → take (length (n ∷ ps) - 1) (drop 1 (n ∷ ps)) ≡ ps
rest_whole n ps = grind (arith, common_steps)

pub filled_step : (xs rest : List ℕ) (m n k : List Bool) (r s t : List ℕ) → 1 ≤ length rest → Put n k s t (slice_index_or rest 0 0) → Filled xs rest m n r s → Filled xs (take (length rest - 1) (drop 1 rest)) m k r t
filled_step xs [] m n k r s t l p f = absurd (omega arith)
filled_step xs (x ∷ rest) m n k r s t l p f = subst (λ q. Filled xs q m k r t) (sym (rest_whole x rest)) (filled_more xs rest m n k r s t x p f)

pub fill_place : (xs rest : List ℕ) (m n : List Bool) (r s : List ℕ) → 1 ≤ length rest → ((x : ℕ) → IsIn x xs → x < length m) → Filled xs rest m n r s → slice_index_or rest 0 0 < length n
fill_place xs [] m n r s l b f = absurd (omega arith)
fill_place xs (x ∷ rest) m n r s l b f = let h = b x (f.within x (inl refl)) in let z = f.size in omega arith

pub filled_end : (xs rest : List ℕ) (m n : List Bool) (r s : List ℕ) → length rest < 1 → Filled xs rest m n r s → Added m n r s xs
filled_end xs [] m n r s l f = filled_all xs m n r s f
filled_end xs (x ∷ rest) m n r s l f = absurd (omega arith)

-- ---- the search

-- the class itself was put into an empty list
pub begun : (es : List (List ℕ)) (a : ℕ) (m n : List Bool) (s : List ℕ) → IsBlank m (length es) → Put m n [] s a → Searching es a n s 0
begun es a m n s b p = record {
  walk = step_walk es a m n [] s a _ refl p (below_itself es 0 a) (record {
    size = b.size;
    count = let o = opens_blank m b.none in let z = b.size in omega (arith, o, z);
    near = λ j y e. cc;
    lists = λ x i. absurd (b.none x i);
    marked = λ x i. absurd i;
  });
  self = step_marks m n [] s a _ refl p;
  done = λ j y x l e i. absurd (omega arith);
  within = omega arith;
}

read_at : (r : List ℕ) (j : ℕ) → j < length r → slice_get r j ≡ Some (slice_index_or r j 0)
read_at [] j l = absurd (omega arith)
read_at (x ∷ r) zero l = refl
read_at (x ∷ r) (suc j) l = read_at r j (omega arith)

turn : (es : List (List ℕ)) (a : ℕ) (m n : List Bool) (r s : List ℕ) (at x : ℕ) → Searching es a m r at → at < length r → slice_get r at ≡ Some x →
    Added m n r s (supers_at es x) → Walk es a n s → Searching es a n s (at + 1)
turn es a m n r s at x h l e d w = record {
  walk = w;
  self = d.grown.kept a h.self;
  done = λ j y z b f i. by_order j y z (grind arith) f i;
  within = let t = ap length d.grown.is_tail in grind (arith, common_steps);
}
  where
    back : (j : ℕ) → j < length r → slice_get s j ≡ slice_get r j
    back j b = ap (λ q. slice_get q j) d.grown.is_tail ∙ prefix r d.grown.tail j b

    by_order : (j y z : ℕ) → (j < at) ⊎ (j ≡ at) → slice_get s j ≡ Some y → IsIn z (supers_at es y) → IsMarked n z
    by_order j y z (inl b) f i = d.grown.kept z (h.done j y z b (sym (back j (omega arith)) ∙ f) i)
    by_order j y z (inr b) f i =
        let same : x ≡ y = let q = back at l in let g : slice_get s at ≡ Some y = subst (λ k. slice_get s k ≡ Some y) b f in cc in
        d.all z (subst (λ v. IsIn z (supers_at es v)) (sym same) i)

pub turn_at : (es : List (List ℕ)) (a : ℕ) (m n : List Bool) (r s : List ℕ) (at : ℕ) → Searching es a m r at → at < length r → Added m n r s (supers_at es (slice_index_or r at 0)) →
    (((x : ℕ) → IsIn x (supers_at es (slice_index_or r at 0)) → below_by es (length r + 1) x a ≡ true) → Walk es a m r → Walk es a n s) → Searching es a n s (at + 1)
turn_at es a m n r s at h l d w =
    let next = slice_index_or r at 0 in
    turn es a m n r s at next h l (read_at r at l) d
    (w (λ z i. below_up es (at + 1 + 1) (length r + 1) z a (omega (arith, l)) (below_on_to es (at + 1) next z a (h.walk.near at next (read_at r at l)) i)) h.walk)

all_marked : (es : List (List ℕ)) (a : ℕ) (m : List Bool) (r : List ℕ) (at : ℕ) → Searching es a m r at → length r ≤ at → (n w k : ℕ) → IsMarked m k → below_by es n w k ≡ true → IsMarked m w
all_marked es a m r at h l zero w k i e = absurd (below_never es w k e)
all_marked es a m r at h l (suc n) w k i e = by (λ s marked t. all_marked es a m r at h l n w s marked t) (below_cases es n w k e)
  where
    by : ((s : ℕ) → IsMarked m s → below_by es n w s ≡ true → IsMarked m w) → (k ≡ w) ⊎ ((s : ℕ) × IsIn s (supers_at es k) × (below_by es n w s ≡ true)) → IsMarked m w
    by more (inl s) = subst (IsMarked m) s i
    by more (inr t) =
        let q = place_of k r (h.walk.lists k i) in
        more t.0 (h.done q.0 k t.0 (omega (arith, q.1, l)) q.2 t.1) t.2

pub found : (es : List (List ℕ)) (a : ℕ) (m : List Bool) (r : List ℕ) (at : ℕ) → Searching es a m r at → length r ≤ at → AreAbove es a r
found es a m r at h l = λ w. as_true (list_any (λ (y : ℕ). y == w) r) (below_by es (length es) w a) (near w) (far w)
  where
    near : (w : ℕ) → list_any (λ (y : ℕ). y == w) r ≡ true → below_by es (length es) w a ≡ true
    near w e =
        let one = any_one (λ (y : ℕ). y == w) r e in
        let same : one.0 ≡ w = by_test one.0 w (one.0 == w) refl one.2 in
        let q = place_of one.0 r one.1 in
        let c = h.walk.count in
        below_up es (q.0 + 1) (length es) w a (omega (arith, q.1, c)) (subst (λ (v : ℕ). below_by es (q.0 + 1) v a ≡ true) same (h.walk.near q.0 one.0 q.2))

    far : (w : ℕ) → below_by es (length es) w a ≡ true → list_any (λ (y : ℕ). y == w) r ≡ true
    far w e = any_in (λ (y : ℕ). y == w) w r (h.walk.lists w (all_marked es a m r at h l (length es) w a h.self e)) (self_equal w)

-- what is found is within the marks
pub found_within : (es : List (List ℕ)) (a : ℕ) (m : List Bool) (r : List ℕ) (at : ℕ) → Searching es a m r at → (x : ℕ) → IsIn x r → x < length m
found_within es a m r at h x i = marked_within m x (h.walk.marked x i)

-- ---- marks are taken back

cleared_more : (xs rest : List ℕ) (m n : List Bool) (x : ℕ) → Cleared xs (x ∷ rest) m n → Cleared xs rest m (slice_set n x false)
cleared_more xs rest m n x c = record {
  size = same_length n x false ∙ c.size;
  left = λ y i. let w = was_cleared n x y i in by y w.0 (c.left y w.1);
  within = λ y i. c.within y (inr i);
}
  where
    by : (y : ℕ) → y ≢ x → (y ≡ x) ⊎ IsIn y rest → IsIn y rest
    by y other (inl s) = absurd (other s)
    by y other (inr i) = i

pub cleared_step : (xs rest : List ℕ) (m n k : List Bool) → 1 ≤ length rest → k ≡ slice_set n (slice_index_or rest 0 0) false → Cleared xs rest m n → Cleared xs (take (length rest - 1) (drop 1 rest)) m k
cleared_step xs [] m n k l e c = absurd (omega arith)
cleared_step xs (x ∷ rest) m n k l e c = subst (λ q. Cleared xs q m k) (sym (rest_whole x rest)) (subst (Cleared xs rest m) (sym e) (cleared_more xs rest m n x c))

pub clear_place : (xs rest : List ℕ) (m n : List Bool) → 1 ≤ length rest → ((x : ℕ) → IsIn x xs → x < length m) → Cleared xs rest m n → slice_index_or rest 0 0 < length n
clear_place xs [] m n l b c = absurd (omega arith)
clear_place xs (x ∷ rest) m n l b c = let h = b x (c.within x (inl refl)) in let z = c.size in omega arith
