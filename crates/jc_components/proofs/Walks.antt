-- Steps of a search.
use Rattle.std.proofs.lemmas.Grind.{common_steps}
use Rattle.std.proofs.Common.{take, drop, slice_index_or, ◌-◌, arith, ◌≡◌, ◌⊎◌, inl, inr, ℕ, zero, suc, ◌+◌, ◌<◌, ◌≤◌, Bool, true, false, Option, Some, None, List, [], ◌∷◌, ◌++◌, append_assoc, length, slice_get, slice_set, replicate, refl, sym, ap, subst, ◌∙◌}
use Rattle.jc_components.specs.Reach.{IsIn, row, Reach, one, on, IsMarked, opens, Walk, Grown, Added, Put, put_by, Filled, Searching}

in_left : (x : ℕ) (xs ys : List ℕ) → IsIn x xs → IsIn x (xs ++ ys)
in_left x [] ys m = absurd m
in_left x (y ∷ xs) ys (inl e) = inl e
in_left x (y ∷ xs) ys (inr m) = inr (in_left x xs ys m)

in_last : (x : ℕ) (xs : List ℕ) → IsIn x (xs ++ x ∷ [])
in_last x [] = inl refl
in_last x (y ∷ xs) = inr (in_last x xs)

in_either : (x y : ℕ) (xs : List ℕ) → IsIn x (xs ++ y ∷ []) → (x ≡ y) ⊎ IsIn x xs
in_either x y [] (inl e) = inl e
in_either x y [] (inr m) = absurd m
in_either x y (z ∷ xs) (inl e) = inr (inl e)
in_either x y (z ∷ xs) (inr m) = by (in_either x y xs m)
  where
    by : (x ≡ y) ⊎ IsIn x xs → (x ≡ y) ⊎ IsIn x (z ∷ xs)
    by (inl e) = inl e
    by (inr m) = inr (inr m)

place_of : (x : ℕ) (xs : List ℕ) → IsIn x xs → (j : ℕ) × (j < length xs) × (slice_get xs j ≡ Some x)
place_of x [] m = absurd m
place_of x (y ∷ xs) (inl e) = (0, omega arith, ap Some (sym e))
place_of x (y ∷ xs) (inr m) = let p = place_of x xs m in (suc p.0, omega arith, p.2)

pub at_place : (xs : List ℕ) (j x : ℕ) → slice_get xs j ≡ Some x → IsIn x xs
at_place [] j x e = cc
at_place (y ∷ xs) zero x e = let same : x ≡ y = cc in inl same
at_place (y ∷ xs) (suc j) x e = inr (at_place xs j x e)

pub prefix : (xs ys : List ℕ) (j : ℕ) → j < length xs → slice_get (xs ++ ys) j ≡ slice_get xs j
prefix [] ys j l = absurd (omega arith)
prefix (x ∷ xs) ys zero l = refl
prefix (x ∷ xs) ys (suc j) l = prefix xs ys j (omega arith)

opens_set : (m : List Bool) (x : ℕ) → slice_get m x ≡ Some false → opens (slice_set m x true) + 1 ≡ opens m
opens_set [] x e = cc
opens_set (true ∷ m) zero e = cc
opens_set (false ∷ m) zero e = refl
opens_set (true ∷ m) (suc x) e = opens_set m x e
opens_set (false ∷ m) (suc x) e = let h = opens_set m x e in omega arith

kept_set : (m : List Bool) (x y : ℕ) → IsMarked m y → IsMarked (slice_set m x true) y
kept_set [] x y e = e
kept_set (b ∷ m) zero zero e = refl
kept_set (b ∷ m) zero (suc y) e = e
kept_set (b ∷ m) (suc x) zero e = e
kept_set (b ∷ m) (suc x) (suc y) e = kept_set m x y e

is_set : (m : List Bool) (x : ℕ) → slice_get m x ≡ Some false → IsMarked (slice_set m x true) x
is_set [] x e = cc
is_set (b ∷ m) zero e = refl
is_set (b ∷ m) (suc x) e = is_set m x e

was_set : (m : List Bool) (x y : ℕ) → IsMarked (slice_set m x true) y → (y ≡ x) ⊎ IsMarked m y
was_set [] x y e = inr e
was_set (b ∷ m) zero zero e = inl refl
was_set (b ∷ m) zero (suc y) e = inr e
was_set (b ∷ m) (suc x) zero e = inr e
was_set (b ∷ m) (suc x) (suc y) e = by (was_set m x y e)
  where
    by : (y ≡ x) ⊎ IsMarked m y → (suc y ≡ suc x) ⊎ IsMarked m y
    by (inl e) = inl (ap suc e)
    by (inr e) = inr e

same_length : (m : List Bool) (x : ℕ) → length (slice_set m x true) ≡ length m
same_length m x = grind (arith, common_steps)

one_longer : (r : List ℕ) (x : ℕ) → length (r ++ x ∷ []) ≡ length r + 1
one_longer r x = grind (arith, common_steps)

stays : (m : List Bool) (r : List ℕ) → Grown m m r r
stays m r = record { kept = λ x e. e; tail = []; is_tail = grind (arith, common_steps) }

walk_new : (es : List (List ℕ)) (a : ℕ) (m : List Bool) (r : List ℕ) (x : ℕ) → slice_get m x ≡ Some false → Reach es a x → Walk es a m r → Walk es a (slice_set m x true) (r ++ x ∷ [])
walk_new es a m r x e h w = record {
  size = same_length m x ∙ w.size;
  count = let o = opens_set m x e in let l = one_longer r x in let c = w.count in omega arith;
  sound = λ y i. by_new y (in_either y x r i);
  lists = λ y i. by_mark y (was_set m x y i);
}
  where
    by_new : (y : ℕ) → (y ≡ x) ⊎ IsIn y r → Reach es a y
    by_new y (inl q) = subst (Reach es a) (sym q) h
    by_new y (inr i) = w.sound y i

    by_mark : (y : ℕ) → (y ≡ x) ⊎ IsMarked m y → IsIn y (r ++ x ∷ [])
    by_mark y (inl q) = subst (λ z. IsIn z (r ++ x ∷ [])) (sym q) (in_last x r)
    by_mark y (inr i) = in_left y r _ (w.lists y i)

-- one step, by what stood at x
step_walk : (es : List (List ℕ)) (a : ℕ) (m n : List Bool) (r s : List ℕ) (x : ℕ) (o : Option Bool) → slice_get m x ≡ o → put_by m n r s x o → Reach es a x → Walk es a m r → Walk es a n s
step_walk es a m n r s x (Some true) e p h w = subst (λ n. Walk es a n s) (sym p.0) (subst (Walk es a m) (sym p.1) w)
step_walk es a m n r s x (Some false) e p h w = subst (λ n. Walk es a n s) (sym p.0) (subst (Walk es a (slice_set m x true)) (sym p.1) (walk_new es a m r x e h w))
step_walk es a m n r s x None e p h w = absurd p

step_kept : (m n : List Bool) (r s : List ℕ) (x : ℕ) (o : Option Bool) → slice_get m x ≡ o → put_by m n r s x o → (y : ℕ) → IsMarked m y → IsMarked n y
step_kept m n r s x (Some true) e p y i = subst (λ n. IsMarked n y) (sym p.0) i
step_kept m n r s x (Some false) e p y i = subst (λ n. IsMarked n y) (sym p.0) (kept_set m x y i)
step_kept m n r s x None e p y i = absurd p

step_tail : (m n : List Bool) (r s : List ℕ) (x : ℕ) (o : Option Bool) → put_by m n r s x o → (t : List ℕ) × (s ≡ r ++ t)
step_tail m n r s x (Some true) p = ([], p.1 ∙ grind (arith, common_steps))
step_tail m n r s x (Some false) p = (x ∷ [], p.1)
step_tail m n r s x None p = absurd p

step_marks : (m n : List Bool) (r s : List ℕ) (x : ℕ) (o : Option Bool) → slice_get m x ≡ o → put_by m n r s x o → IsMarked n x
step_marks m n r s x (Some true) e p = subst (λ n. IsMarked n x) (sym p.0) e
step_marks m n r s x (Some false) e p = subst (λ n. IsMarked n x) (sym p.0) (is_set m x e)
step_marks m n r s x None e p = absurd p

step_size : (m n : List Bool) (r s : List ℕ) (x : ℕ) (o : Option Bool) → put_by m n r s x o → length n ≡ length m
step_size m n r s x (Some true) p = ap length p.0
step_size m n r s x (Some false) p = ap length p.0 ∙ same_length m x
step_size m n r s x None p = absurd p

pub filled_none : (xs : List ℕ) (m : List Bool) (r : List ℕ) → Filled xs xs m m r r
filled_none xs m r = record { size = refl; grown = stays m r; all = λ x i. inl i; within = λ x i. i; walk = λ es a f w. w }

pub filled_more : (xs rest : List ℕ) (m n k : List Bool) (r s t : List ℕ) (x : ℕ) → Put n k s t x → Filled xs (x ∷ rest) m n r s → Filled xs rest m k r t
filled_more xs rest m n k r s t x p f = record {
  size = step_size n k s t x _ p ∙ f.size;
  grown = record {
    kept = λ y i. step_kept n k s t x _ refl p y (f.grown.kept y i);
    tail = f.grown.tail ++ added.0;
    is_tail = added.1 ∙ ap (λ z. z ++ added.0) f.grown.is_tail ∙ append_assoc r f.grown.tail added.0;
  };
  all = λ y i. by_rest y (f.all y i);
  within = λ y i. f.within y (inr i);
  walk = λ es a g w. step_walk es a n k s t x _ refl p (g x (f.within x (inl refl))) (f.walk es a g w);
}
  where
    added : (z : List ℕ) × (t ≡ s ++ z)
    added = step_tail n k s t x _ p

    by_rest : (y : ℕ) → IsIn y (x ∷ rest) ⊎ IsMarked n y → IsIn y rest ⊎ IsMarked k y
    by_rest y (inl (inl e)) = inr (subst (IsMarked k) (sym e) (step_marks n k s t x _ refl p))
    by_rest y (inl (inr i)) = inl i
    by_rest y (inr i) = inr (step_kept n k s t x _ refl p y i)

pub filled_all : (xs : List ℕ) (m n : List Bool) (r s : List ℕ) → Filled xs [] m n r s → Added m n r s xs
filled_all xs m n r s f = record { grown = f.grown; all = λ x i. by x (f.all x i) }
  where
    by : (x : ℕ) → IsIn x [] ⊎ IsMarked n x → IsMarked n x
    by x (inl i) = absurd i
    by x (inr i) = i

blank_opens : (n : ℕ) → opens (replicate n false) ≡ n
blank_opens zero = refl
blank_opens (suc n) = let h = blank_opens n in omega arith

blank_length : (n : ℕ) → length (replicate n false) ≡ n
blank_length zero = refl
blank_length (suc n) = ap suc (blank_length n)

not_blank : {A : Type 0} (n x : ℕ) → IsMarked (replicate n false) x → A
not_blank zero x e = cc
not_blank (suc n) zero e = cc
not_blank (suc n) (suc x) e = not_blank n x e

pub walk_none : (es : List (List ℕ)) (a : ℕ) → Walk es a (replicate (length es) false) []
walk_none es a = record { size = blank_length _; count = (let h = blank_opens (length es) in omega arith); sound = λ x i. absurd i; lists = λ x i. not_blank _ x i }

pub begun : (es : List (List ℕ)) (a : ℕ) (m n : List Bool) (r s : List ℕ) → Added m n r s (row es a) → Walk es a n s → Searching es a n s 0
begun es a m n r s d w = record { walk = w; first = d.all; done = λ j y x l e i. absurd (omega arith); within = omega arith }

pub turn : (es : List (List ℕ)) (a : ℕ) (m n : List Bool) (r s : List ℕ) (at x : ℕ) → Searching es a m r at → at < length r → slice_get r at ≡ Some x
    → Added m n r s (row es x) → Walk es a n s → Searching es a n s (at + 1)
turn es a m n r s at x h l e d w = record {
  walk = w;
  first = λ y i. d.grown.kept y (h.first y i);
  done = λ j y z b f i. by_order j y z (grind arith) f i;
  within = let t = ap length d.grown.is_tail in grind (arith, common_steps);
}
  where
    back : (j : ℕ) → j < length r → slice_get s j ≡ slice_get r j
    back j b = ap (λ q. slice_get q j) d.grown.is_tail ∙ prefix r d.grown.tail j b

    by_order : (j y z : ℕ) → (j < at) ⊎ (j ≡ at) → slice_get s j ≡ Some y → IsIn z (row es y) → IsMarked n z
    by_order j y z (inl b) f i = d.grown.kept z (h.done j y z b (sym (back j (omega arith)) ∙ f) i)
    by_order j y z (inr b) f i =
        let same : x ≡ y = let q = back at l in let g : slice_get s at ≡ Some y = subst (λ k. slice_get s k ≡ Some y) b f in cc in
        d.all z (subst (λ v. IsIn z (row es v)) (sym same) i)

pub reach_next : (es : List (List ℕ)) (a : ℕ) (m : List Bool) (r : List ℕ) (at x : ℕ) → Searching es a m r at → slice_get r at ≡ Some x → (z : ℕ) → IsIn z (row es x) → Reach es a z
reach_next es a m r at x h e z i = on x z (h.walk.sound x (at_place r at x e)) i

all_marked : (es : List (List ℕ)) (a : ℕ) (m : List Bool) (r : List ℕ) (at : ℕ) → Searching es a m r at → length r ≤ at → (x : ℕ) → Reach es a x → IsMarked m x
all_marked es a m r at h l x (one b i) = h.first b i
all_marked es a m r at h l x (on b c p i) =
    let q = place_of b r (h.walk.lists b (all_marked es a m r at h l b p)) in
    h.done q.0 b c (omega (arith, q.1)) q.2 i

pub found : (es : List (List ℕ)) (a : ℕ) (m : List Bool) (r : List ℕ) (at : ℕ) → Searching es a m r at → length r ≤ at → (IsMarked m a → Reach es a a) × (Reach es a a → IsMarked m a)
found es a m r at h l = (λ i. h.walk.sound a (h.walk.lists a i), λ p. all_marked es a m r at h l a p)

rest_whole : (n : ℕ) (ps : List ℕ) → take (length (n ∷ ps) - 1) (drop 1 (n ∷ ps)) ≡ ps
rest_whole n ps = grind (arith, common_steps)

pub filled_step : (xs rest : List ℕ) (m n k : List Bool) (r s t : List ℕ) → 1 ≤ length rest → Put n k s t (slice_index_or rest 0 0) → Filled xs rest m n r s → Filled xs (take (length rest - 1) (drop 1 rest)) m k r t
filled_step xs [] m n k r s t l p f = absurd (omega arith)
filled_step xs (x ∷ rest) m n k r s t l p f = subst (λ q. Filled xs q m k r t) (sym (rest_whole x rest)) (filled_more xs rest m n k r s t x p f)

pub fill_place : (xs rest : List ℕ) (m n : List Bool) (r s : List ℕ) → 1 ≤ length rest → ((x : ℕ) → IsIn x xs → x < length m) → Filled xs rest m n r s → slice_index_or rest 0 0 < length n
fill_place xs [] m n r s l b f = absurd (omega arith)
fill_place xs (x ∷ rest) m n r s l b f = let h = b x (f.within x (inl refl)) in let z = f.size in omega arith

pub filled_end : (xs rest : List ℕ) (m n : List Bool) (r s : List ℕ) → length rest < 1 → Filled xs rest m n r s → Added m n r s xs
filled_end xs [] m n r s l f = filled_all xs m n r s f
filled_end xs (x ∷ rest) m n r s l f = absurd (omega arith)

read_at : (r : List ℕ) (j : ℕ) → j < length r → slice_get r j ≡ Some (slice_index_or r j 0)
read_at [] j l = absurd (omega arith)
read_at (x ∷ r) zero l = refl
read_at (x ∷ r) (suc j) l = read_at r j (omega arith)

pub turn_at : (es : List (List ℕ)) (a : ℕ) (m n : List Bool) (r s : List ℕ) (at : ℕ) → Searching es a m r at → at < length r
    → Added m n r s (row es (slice_index_or r at 0)) → (((x : ℕ) → IsIn x (row es (slice_index_or r at 0)) → Reach es a x) → Walk es a m r → Walk es a n s) → Searching es a n s (at + 1)
turn_at es a m n r s at h l d w = turn es a m n r s at _ h l (read_at r at l) d (w (λ z i. reach_next es a m r at _ h (read_at r at l) z i) h.walk)

test_at : (m : List Bool) (a : ℕ) → a < length m → (slice_index_or m a false ≡ true → IsMarked m a) × (IsMarked m a → slice_index_or m a false ≡ true)
test_at [] a l = absurd (omega arith)
test_at (b ∷ m) zero l = (λ e. ap Some e, λ e. cc)
test_at (b ∷ m) (suc a) l = test_at m a (omega arith)

pub answer : (es : List (List ℕ)) (a : ℕ) (m : List Bool) (r : List ℕ) (at : ℕ) → Searching es a m r at → length r ≤ at → a < length es
    → (slice_index_or m a false ≡ true → Reach es a a) × (Reach es a a → slice_index_or m a false ≡ true)
answer es a m r at h l b =
    let z = h.walk.size in
    let t = test_at m a (omega arith) in
    let f = found es a m r at h l in
    (λ e. f.0 (t.0 e), λ p. t.1 (f.1 p))
