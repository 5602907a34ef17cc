-- The methods of the classes above a class, gathered class by class, are all that stand in it.
use Rattle.std.proofs.lemmas.Bool.Decides.{nat_tests}
use Rattle.std.proofs.lemmas.List.Sorted.{list_any-IsPermutation}
use Rattle.std.proofs.lemmas.List.Folds.{list_any-append}
use Rattle.std.proofs.Common.{◌≡◌, ◌≢◌, ◌⊎◌, inl, inr, ℕ, zero, suc, ◌+◌, ◌<◌, ◌≤◌, nat_eq, nat_lt, arith, Bool, true, false, ◌&&◌, ◌||◌, cond, Option, Some, None, is_some, List, [], ◌∷◌, ◌++◌, length, slice_get, slice_set, replicate, IsPermutation, append_assoc, refl, sym, ap, subst, ◌∙◌}
use Rattle.std.specs.HashMap.{get}
use Rattle.std.specs.List.{list_any}
use Rattle.std.specs.Set.{is_member}
use Rattle.std.proofs.lemmas.Bool.{or_right, and_parts, or_cases}
use Rattle.jc_rules.proofs.Truths.{same_number, is_less, less_is}
use Rattle.jc_types.specs.declared.form.Ty.{Ty}
use Rattle.jc_types.specs.declared.ids.ClassId.{ClassId}
use Rattle.jc_types.specs.declared.table.Table.{Table}
use Rattle.jc_judge.specs.Supers.{numbered}
use Rattle.jc_judge.specs.Views.{view}
use Rattle.jc_overriding.specs.Overriding.{is_viewed, owner, same_class}
use Rattle.jc_overriding.specs.Viewing.{own_type}
use Rattle.jc_members.specs.declared.supertypes.Supertypes.{Supertypes}
use Rattle.jc_members.specs.Supertypes.{IsSupertypes}
use Rattle.jc_method_rules.specs.declared.owned.OwnerIndex.{OwnerIndex}
use Rattle.jc_method_rules.specs.Owned.{IsOwnerIndex, all_below, are_all, ascends, ascends_from, gathered, is_owned, is_standing, numbers_at, numbers_in, owned, picked, pushed_at, pushed_in, standing_numbers}

own_number : (a : ℕ) → nat_eq a a ≡ true
own_number a = grind (arith, nat_tests)

other_number : (a b : ℕ) → nat_eq a b ≡ false → a ≢ b
other_number a b e = grind (arith, nat_tests)

further : (a b : ℕ) → b ≤ a → a ≢ b → suc b ≤ a
further a b le ne = grind arith

-- ---- numbers in a list

abbrev has : ℕ → List ℕ → Bool
has n xs = list_any (nat_eq n) xs

has_left : (n : ℕ) (xs ys : List ℕ) → has n xs ≡ true → has n (xs ++ ys) ≡ true
has_left n xs ys m = list_any-append (nat_eq n) xs ys ∙ ap (λ b. b || has n ys) m

has_right : (n : ℕ) (xs ys : List ℕ) → has n ys ≡ true → has n (xs ++ ys) ≡ true
has_right n xs ys m = list_any-append (nat_eq n) xs ys ∙ or_right (has n xs) (has n ys) m

has_either : (n : ℕ) (xs ys : List ℕ) → has n (xs ++ ys) ≡ true → (has n xs ≡ true) ⊎ (has n ys ≡ true)
has_either n xs ys m = or_cases (has n xs) (has n ys) (sym (list_any-append (nat_eq n) xs ys) ∙ m)

-- ---- two ascending lists that have the same numbers

beyond : (x : ℕ) (xs : List ℕ) (n : ℕ) → ascends_from x xs ≡ true → has n xs ≡ true → x < n
beyond x [] n a h = cc
beyond x (y ∷ ys) n a h = by (or_cases (nat_eq n y) (has n ys) h) (λ b m. beyond y ys n b m)
  where
    first : x < y
    first = is_less x y (and_parts (nat_lt x y) (ascends_from y ys) a).0

    rest : ascends_from y ys ≡ true
    rest = (and_parts (nat_lt x y) (ascends_from y ys) a).1

    by : (nat_eq n y ≡ true) ⊎ (has n ys ≡ true) → (ascends_from y ys ≡ true → has n ys ≡ true → y < n) → x < n
    by (inl e) h = let is = same_number n y e in let lt = first in omega (arith, is, lt)
    by (inr m) h = let more = h rest m in let lt = first in omega (arith, more, lt)

head_same : (y : ℕ) (ys : List ℕ) (z : ℕ) (zs : List ℕ) → ascends_from y ys ≡ true → ascends_from z zs ≡ true → has y (z ∷ zs) ≡ true → has z (y ∷ ys) ≡ true → y ≡ z
head_same y ys z zs a b f g = by (or_cases (nat_eq y z) (has y zs) f) (or_cases (nat_eq z y) (has z ys) g)
  where
    by : (nat_eq y z ≡ true) ⊎ (has y zs ≡ true) → (nat_eq z y ≡ true) ⊎ (has z ys ≡ true) → y ≡ z
    by (inl e) o = same_number y z e
    by (inr m) (inl e) = sym (same_number z y e)
    by (inr m) (inr n) = let p = beyond z zs y b m in let q = beyond y ys z a n in absurd (omega (arith, p, q))

tail_has : (y : ℕ) (ys zs : List ℕ) → ascends_from y ys ≡ true → ((n : ℕ) → has n (y ∷ ys) ≡ true → has n (y ∷ zs) ≡ true) → (n : ℕ) → has n ys ≡ true → has n zs ≡ true
tail_has y ys zs a f n m = by (or_cases (nat_eq n y) (has n zs) (f n (or_right (nat_eq n y) (has n ys) m)))
  where
    by : (nat_eq n y ≡ true) ⊎ (has n zs ≡ true) → has n zs ≡ true
    by (inl e) = let p = beyond y ys n a m in let q = same_number n y e in absurd (omega (arith, p, q))
    by (inr k) = k

own_has : (y : ℕ) (ys : List ℕ) → has y (y ∷ ys) ≡ true
own_has y ys = ap (λ b. b || has y ys) (own_number y)

same_from : (x : ℕ) (xs ys : List ℕ) → ascends_from x xs ≡ true → ascends_from x ys ≡ true → ((n : ℕ) → has n xs ≡ true → has n ys ≡ true) → ((n : ℕ) → has n ys ≡ true → has n xs ≡ true) → xs ≡ ys
same_from x [] [] a b f g = refl
same_from x [] (y ∷ ys) a b f g = let h : has y [] ≡ true = g y (own_has y ys) in cc
same_from x (y ∷ ys) [] a b f g = let h : has y [] ≡ true = f y (own_has y ys) in cc
same_from x (y ∷ ys) (z ∷ zs) a b f g =
    let c = (and_parts (nat_lt x y) (ascends_from y ys) a).1 in
    let d = (and_parts (nat_lt x z) (ascends_from z zs) b).1 in
    let e : y ≡ z = head_same y ys z zs c d (f y (own_has y ys)) (g z (own_has z zs)) in
    let d : ascends_from y zs ≡ true = subst (λ w. ascends_from w zs ≡ true) (sym e) d in
    let to : (n : ℕ) → has n (y ∷ ys) ≡ true → has n (y ∷ zs) ≡ true = λ n m. subst (λ w. has n (w ∷ zs) ≡ true) (sym e) (f n m) in
    let back : (n : ℕ) → has n (y ∷ zs) ≡ true → has n (y ∷ ys) ≡ true = λ n m. g n (subst (λ w. has n (w ∷ zs) ≡ true) e m) in
    ap (λ l. y ∷ l) (same_from y ys zs c d (tail_has y ys zs c to) (tail_has y zs ys d back)) ∙ ap (λ w. w ∷ zs) e

same_ascending : (xs ys : List ℕ) → ascends xs ≡ true → ascends ys ≡ true → ((n : ℕ) → has n xs ≡ true → has n ys ≡ true) → ((n : ℕ) → has n ys ≡ true → has n xs ≡ true) → xs ≡ ys
same_ascending [] [] a b f g = refl
same_ascending [] (y ∷ ys) a b f g = let h : has y [] ≡ true = g y (own_has y ys) in cc
same_ascending (y ∷ ys) [] a b f g = let h : has y [] ≡ true = f y (own_has y ys) in cc
same_ascending (y ∷ ys) (z ∷ zs) c d f g =
    let e : y ≡ z = head_same y ys z zs c d (f y (own_has y ys)) (g z (own_has z zs)) in
    let d : ascends_from y zs ≡ true = subst (λ w. ascends_from w zs ≡ true) (sym e) d in
    let to : (n : ℕ) → has n (y ∷ ys) ≡ true → has n (y ∷ zs) ≡ true = λ n m. subst (λ w. has n (w ∷ zs) ≡ true) (sym e) (f n m) in
    let back : (n : ℕ) → has n (y ∷ zs) ≡ true → has n (y ∷ ys) ≡ true = λ n m. g n (subst (λ w. has n (w ∷ zs) ≡ true) e m) in
    ap (λ l. y ∷ l) (same_from y ys zs c d (tail_has y ys zs c to) (tail_has y zs ys d back)) ∙ ap (λ w. w ∷ zs) e

-- ---- numbers that pass a test

module _ (test : ℕ → Bool) where
  picked_has : (i c n : ℕ) → i ≤ n → n < i + c → test n ≡ true → has n (picked test i c) ≡ true
  picked_has i zero n le lt e = absurd (omega arith)
  picked_has i (suc c) n le lt e = by (nat_eq n i) refl (λ low. picked_has (suc i) c n low (omega arith) e)
    where
      by : (b : Bool) → nat_eq n i ≡ b → (suc i ≤ n → has n (picked test (suc i) c) ≡ true) → has n (cond (test i) (i ∷ []) [] ++ picked test (suc i) c) ≡ true
      by true f h =
          let is : n ≡ i = same_number n i f in
          let here : test i ≡ true = subst (λ j. test j ≡ true) is e in
          has_left n (cond (test i) (i ∷ []) []) (picked test (suc i) c) (ap (λ b. has n (cond b (i ∷ []) [])) here ∙ ap (λ b. b || false) f)
      by false f h = has_right n (cond (test i) (i ∷ []) []) (picked test (suc i) c) (h (further n i le (other_number n i f)))

  picked_of : (i c n : ℕ) → has n (picked test i c) ≡ true → (i ≤ n) × (n < i + c) × (test n ≡ true)
  picked_of i zero n m = cc
  picked_of i (suc c) n m = by (test i) refl (has_either n (cond (test i) (i ∷ []) []) (picked test (suc i) c) m) (λ m. picked_of (suc i) c n m)
    where
      next : (suc i ≤ n) × (n < suc i + c) × (test n ≡ true) → (i ≤ n) × (n < i + suc c) × (test n ≡ true)
      next h = let low = h.0 in let high = h.1 in (omega (arith, low), omega (arith, high), h.2)

      here : test i ≡ true → has n (i ∷ []) ≡ true → (i ≤ n) × (n < i + suc c) × (test n ≡ true)
      here e m = at (or_cases (nat_eq n i) false m)
        where
          at : (nat_eq n i ≡ true) ⊎ (false ≡ true) → (i ≤ n) × (n < i + suc c) × (test n ≡ true)
          at (inl f) = let is = same_number n i f in (omega (arith, is), omega (arith, is), subst (λ j. test j ≡ true) (sym is) e)
          at (inr f) = cc

      by : (b : Bool) → test i ≡ b → (has n (cond b (i ∷ []) []) ≡ true) ⊎ (has n (picked test (suc i) c) ≡ true)
          → (has n (picked test (suc i) c) ≡ true → (suc i ≤ n) × (n < suc i + c) × (test n ≡ true)) → (i ≤ n) × (n < i + suc c) × (test n ≡ true)
      by true e (inl m) h = here e m
      by false e (inl m) h = cc
      by true e (inr m) h = next (h m)
      by false e (inr m) h = next (h m)

  picked_after : (x i c : ℕ) → x < i → ascends_from x (picked test i c) ≡ true
  picked_after x i zero lt = refl
  picked_after x i (suc c) lt = by (test i) (picked_after i (suc i) c (omega arith)) (picked_after x (suc i) c (omega arith))
    where
      by : (b : Bool) → ascends_from i (picked test (suc i) c) ≡ true → ascends_from x (picked test (suc i) c) ≡ true → ascends_from x (cond b (i ∷ []) [] ++ picked test (suc i) c) ≡ true
      by true p q = ap (λ b. b && ascends_from i (picked test (suc i) c)) (less_is x i lt) ∙ p
      by false p q = q

  picked_ascends : (i c : ℕ) → ascends (picked test i c) ≡ true
  picked_ascends i zero = refl
  picked_ascends i (suc c) = by (test i) (picked_after i (suc i) c (omega arith)) (picked_ascends (suc i) c)
    where
      by : (b : Bool) → ascends_from i (picked test (suc i) c) ≡ true → ascends (picked test (suc i) c) ≡ true → ascends (cond b (i ∷ []) [] ++ picked test (suc i) c) ≡ true
      by true p q = p
      by false p q = q

  nothing_more : (xs : List ℕ) → xs ≡ xs ++ []
  nothing_more [] = refl
  nothing_more (x ∷ xs) = ap (λ ys. x ∷ ys) (nothing_more xs)

  picked_snoc : (i n : ℕ) → picked test i n ++ cond (test (i + n)) ((i + n) ∷ []) [] ≡ picked test i (suc n)
  picked_snoc i zero = let e : i + 0 ≡ i = omega arith in ap (λ j. cond (test j) (j ∷ []) []) e ∙ nothing_more (cond (test i) (i ∷ []) [])
  picked_snoc i (suc n) =
      let e : i + suc n ≡ suc i + n = omega arith in
      append_assoc (cond (test i) (i ∷ []) []) (picked test (suc i) n) (cond (test (i + suc n)) ((i + suc n) ∷ []) [])
      ∙ ap (λ k. cond (test i) (i ∷ []) [] ++ (picked test (suc i) n ++ cond (test k) (k ∷ []) [])) e ∙ ap (λ xs. cond (test i) (i ∷ []) [] ++ xs) (picked_snoc (suc i) n)

  pub picked_more : (n m : ℕ) (xs : List ℕ) → m ≡ n + 1 → xs ≡ picked test 0 n ++ cond (test n) (n ∷ []) [] → xs ≡ picked test 0 m
  picked_more n m xs e f =
      let z : n ≡ 0 + n = omega arith in
      let s : suc n ≡ m = omega arith in
      f ∙ ap (λ k. picked test 0 n ++ cond (test k) (k ∷ []) []) z ∙ picked_snoc 0 n ∙ ap (picked test 0) s

-- ---- groups

abbrev no_methods : List ℕ
no_methods = []

-- groups without methods, one more
more_groups : (n : ℕ) → replicate n no_methods ++ no_methods ∷ [] ≡ replicate (suc n) no_methods
more_groups zero = refl
more_groups (suc n) = ap (λ gs. no_methods ∷ gs) (more_groups n)

pub no_group : (gs new : List (List ℕ)) (x : List ℕ) (n m : ℕ) → m ≡ n + 1 → new ≡ gs ++ x ∷ [] → x ≡ [] → gs ≡ replicate n [] → new ≡ replicate m []
no_group gs new x n m is e f h =
    let s : suc n ≡ m = omega arith in
    e ∙ ap (λ y. gs ++ y ∷ []) f ∙ ap (λ l. l ++ no_methods ∷ []) h ∙ more_groups n ∙ ap (λ k. replicate k no_methods) s

pub no_numbers : (n k : ℕ) → numbers_at (replicate n []) k ≡ []
no_numbers zero zero = refl
no_numbers zero (suc k) = refl
no_numbers (suc n) zero = refl
no_numbers (suc n) (suc k) = no_numbers n k

pub as_many_groups : (n : ℕ) → length (replicate n no_methods) ≡ n
as_many_groups zero = refl
as_many_groups (suc n) = ap suc (as_many_groups n)

get_set : (gs : List (List ℕ)) (g : ℕ) (ns x : List ℕ) → slice_get gs g ≡ Some x → slice_get (slice_set gs g ns) g ≡ Some ns
get_set [] g ns x e = cc
get_set (y ∷ gs) zero ns x e = refl
get_set (y ∷ gs) (suc g) ns x e = get_set gs g ns x e

get_other : (gs : List (List ℕ)) (g h : ℕ) (ns : List ℕ) → h ≢ g → slice_get (slice_set gs g ns) h ≡ slice_get gs h
get_other [] g h ns ne = refl
get_other (y ∷ gs) zero zero ns ne = absurd (ne refl)
get_other (y ∷ gs) zero (suc h) ns ne = refl
get_other (y ∷ gs) (suc g) zero ns ne = refl
get_other (y ∷ gs) (suc g) (suc h) ns ne = get_other gs g h ns (λ e. ne (ap suc e))

get_below : (gs : List (List ℕ)) (g : ℕ) → g < length gs → (x : List ℕ) × (slice_get gs g ≡ Some x)
get_below [] g lt = absurd (omega arith)
get_below (y ∷ gs) zero lt = (y, refl)
get_below (y ∷ gs) (suc g) lt = get_below gs g (omega arith)

length_set : (gs : List (List ℕ)) (g : ℕ) (ns : List ℕ) → length (slice_set gs g ns) ≡ length gs
length_set [] g ns = refl
length_set (y ∷ gs) zero ns = refl
length_set (y ∷ gs) (suc g) ns = ap suc (length_set gs g ns)

pub pushed_length : (g n : ℕ) (gs : List (List ℕ)) → length (pushed_at g n gs) ≡ length gs
pushed_length g n gs = by (slice_get gs g)
  where
    by : (o : Option (List ℕ)) → length (pushed_in g n gs o) ≡ length gs
    by None = refl
    by (Some ns) = length_set gs g (ns ++ n ∷ [])

pushed_own : (g n : ℕ) (gs : List (List ℕ)) → g < length gs → numbers_at (pushed_at g n gs) g ≡ numbers_at gs g ++ n ∷ []
pushed_own g n gs lt =
    let p = get_below gs g lt in
    ap (λ o. numbers_in (slice_get (pushed_in g n gs o) g)) p.1 ∙ ap numbers_in (get_set gs g (p.0 ++ n ∷ []) p.0 p.1) ∙ ap (λ o. numbers_in o ++ n ∷ []) (sym p.1)

pushed_other : (g h n : ℕ) (gs : List (List ℕ)) → h ≢ g → numbers_at (pushed_at g n gs) h ≡ numbers_at gs h ++ []
pushed_other g h n gs ne = by (slice_get gs g) ∙ nothing_more (λ _. true) (numbers_at gs h)
  where
    by : (o : Option (List ℕ)) → numbers_in (slice_get (pushed_in g n gs o) h) ≡ numbers_at gs h
    by None = refl
    by (Some ns) = ap numbers_in (get_other gs g h (ns ++ n ∷ []) ne)

-- one method more
pub owned_more : (T : Table) (n m : ℕ) (gs new : List (List ℕ)) → m ≡ n + 1 → new ≡ pushed_at (owner T (record { 0 = n })).0 n gs
    → ((k : ℕ) → k < length gs → numbers_at gs k ≡ picked (is_owned T k) 0 n) → (k : ℕ) → k < length new → numbers_at new k ≡ picked (is_owned T k) 0 m
owned_more T n m gs new is e h k lt =
    let count : length new ≡ length gs = ap length e ∙ pushed_length (owner T (record { 0 = n })).0 n gs in
    let within : k < length gs = omega (arith, count, lt) in
    picked_more (is_owned T k) n m (numbers_at new k) is
    (ap (λ l. numbers_at l k) e ∙ by (is_owned T k n) refl within ∙ ap (λ xs. xs ++ cond (is_owned T k n) (n ∷ []) []) (h k within))
  where
    here : k < length gs → (owner T (record { 0 = n })).0 ≡ k → numbers_at (pushed_at (owner T (record { 0 = n })).0 n gs) k ≡ numbers_at gs k ++ n ∷ []
    here within same = subst (λ j. numbers_at (pushed_at j n gs) k ≡ numbers_at gs k ++ n ∷ []) (sym same) (pushed_own k n gs within)

    by : (b : Bool) → is_owned T k n ≡ b → k < length gs → numbers_at (pushed_at (owner T (record { 0 = n })).0 n gs) k ≡ numbers_at gs k ++ cond (is_owned T k n) (n ∷ []) []
    by true f within =
        here within (same_number (owner T (record { 0 = n })).0 k f) ∙ ap (λ b. numbers_at gs k ++ cond b (n ∷ []) []) (sym f)
    by false f within =
        pushed_other (owner T (record { 0 = n })).0 k n gs (λ e. other_number (owner T (record { 0 = n })).0 k f (sym e)) ∙ ap (λ b. numbers_at gs k ++ cond b (n ∷ []) []) (sym f)

-- ---- the methods of several classes

module _ (T : Table) (index : OwnerIndex) (known : IsOwnerIndex T index) where
  abbrev gs : List (List ℕ)
  gs = index.groups

  abbrev count : ℕ
  count = length T.methods

  gathered_has : (ks : List ℕ) (n : ℕ) → all_below (length gs) ks ≡ true → n < count → has (owner T (record { 0 = n })).0 ks ≡ true → has n (gathered gs ks) ≡ true
  gathered_has [] n b lt h = cc
  gathered_has (k ∷ ks) n b lt h = by (or_cases (nat_eq (owner T (record { 0 = n })).0 k) (has (owner T (record { 0 = n })).0 ks) h) (λ h. gathered_has ks n both.1 lt h)
    where
      both : (nat_lt k (length gs) ≡ true) × (all_below (length gs) ks ≡ true)
      both = and_parts (nat_lt k (length gs)) (all_below (length gs) ks) b

      group : numbers_at gs k ≡ owned T k
      group = known.ids k (is_less k (length gs) both.0)

      by : (nat_eq (owner T (record { 0 = n })).0 k ≡ true) ⊎ (has (owner T (record { 0 = n })).0 ks ≡ true) → (has (owner T (record { 0 = n })).0 ks ≡ true → has n (gathered gs ks) ≡ true) → has n (numbers_at gs k ++ gathered gs ks) ≡ true
      by (inl e) g = has_left n (numbers_at gs k) (gathered gs ks) (ap (has n) group ∙ picked_has (is_owned T k) 0 count n (omega arith) (omega arith) e)
      by (inr m) g = has_right n (numbers_at gs k) (gathered gs ks) (g m)

  gathered_of : (ks : List ℕ) (n : ℕ) → all_below (length gs) ks ≡ true → has n (gathered gs ks) ≡ true → (n < count) × (has (owner T (record { 0 = n })).0 ks ≡ true)
  gathered_of [] n b h = cc
  gathered_of (k ∷ ks) n b h = by (has_either n (numbers_at gs k) (gathered gs ks) h) (λ h. gathered_of ks n both.1 h)
    where
      both : (nat_lt k (length gs) ≡ true) × (all_below (length gs) ks ≡ true)
      both = and_parts (nat_lt k (length gs)) (all_below (length gs) ks) b

      group : numbers_at gs k ≡ owned T k
      group = known.ids k (is_less k (length gs) both.0)

      by : (has n (numbers_at gs k) ≡ true) ⊎ (has n (gathered gs ks) ≡ true) → (has n (gathered gs ks) ≡ true → (n < count) × (has (owner T (record { 0 = n })).0 ks ≡ true)) → (n < count) × (has (owner T (record { 0 = n })).0 (k ∷ ks) ≡ true)
      by (inl m) g =
          let p = picked_of (is_owned T k) 0 count n (sym (ap (has n) group) ∙ m) in
          let high = p.1 in (omega (arith, high), ap (λ b. b || has (owner T (record { 0 = n })).0 ks) p.2)
      by (inr m) g = let p = g m in (p.0, or_right (nat_eq (owner T (record { 0 = n })).0 k) (has (owner T (record { 0 = n })).0 ks) p.1)

  module _ (above : Supertypes) (k : ClassId) (super : IsSupertypes T above) (own : above.of ≡ own_type T k) (ks ns : List ℕ)
      (keys : (l : ℕ) → is_some (get nat_eq above.views l) ≡ has l ks) (moved : IsPermutation (gathered gs ks) ns)
      (whole : above.is_whole ≡ true) (there : is_some (get nat_eq above.views k.0) ≡ true) (below : all_below (length gs) ks ≡ true) (up : ascends ns ≡ true) where
    viewed_key : (l : ℕ) → is_viewed (view T (numbered l) (own_type T k)) ≡ is_some (get nat_eq above.views l)
    viewed_key l = by (get nat_eq above.views l) refl
      where
        by : (o : Option Ty) → get nat_eq above.views l ≡ o → is_viewed (view T (numbered l) (own_type T k)) ≡ is_some o
        by None e = ap is_viewed (ap (view T (numbered l)) (sym own) ∙ super.whole whole l e)
        by (Some v) e = ap is_viewed (ap (view T (numbered l)) (sym own) ∙ super.kept l v e)

    to : (n : ℕ) → has n ns ≡ true → has n (standing_numbers T k) ≡ true
    to n m =
        let p = gathered_of ks n below (list_any-IsPermutation (nat_eq n) (gathered gs ks) ns moved ∙ m) in
        let within = p.0 in
        picked_has (is_standing T k) 0 count n (omega arith) (omega (arith, within))
        (or_right (same_class (owner T (record { 0 = n })) k) (is_viewed (view T (owner T (record { 0 = n })) (own_type T k))) (viewed_key (owner T (record { 0 = n })).0 ∙ keys (owner T (record { 0 = n })).0 ∙ p.1))

    back : (n : ℕ) → has n (standing_numbers T k) ≡ true → has n ns ≡ true
    back n m =
        let p = picked_of (is_standing T k) 0 count n m in
        let high = p.1 in
        sym (list_any-IsPermutation (nat_eq n) (gathered gs ks) ns moved)
        ∙ gathered_has ks n below (omega (arith, high)) (at (or_cases (same_class (owner T (record { 0 = n })) k) (is_viewed (view T (owner T (record { 0 = n })) (own_type T k))) p.2))
      where
        at : (same_class (owner T (record { 0 = n })) k ≡ true) ⊎ (is_viewed (view T (owner T (record { 0 = n })) (own_type T k)) ≡ true) → has (owner T (record { 0 = n })).0 ks ≡ true
        at (inl e) = subst (λ l. has l ks ≡ true) (sym (same_number (owner T (record { 0 = n })).0 k.0 e)) (sym (keys k.0) ∙ there)
        at (inr e) = sym (keys (owner T (record { 0 = n })).0) ∙ sym (viewed_key (owner T (record { 0 = n })).0) ∙ e

    pub gathered_all : ns ≡ standing_numbers T k
    gathered_all = same_ascending ns (standing_numbers T k) up (picked_ascends (is_standing T k) 0 count) to back

pub gathered_told : (T : Table) (index : OwnerIndex) (above : Supertypes) (k : ClassId) (ks ns : List ℕ) → IsOwnerIndex T index → IsSupertypes T above → above.of ≡ own_type T k
    → ((l : ℕ) → is_some (get nat_eq above.views l) ≡ is_member nat_eq ks l) → IsPermutation (gathered index.groups ks) ns
    → are_all index above k ks ≡ true → ascends ns ≡ true → ns ≡ standing_numbers T k
gathered_told T index above k ks ns known super own keys moved holds up =
    let first = and_parts (above.is_whole && is_some (get nat_eq above.views k.0)) (all_below (length index.groups) ks) holds in
    let second = and_parts above.is_whole (is_some (get nat_eq above.views k.0)) first.0 in
    gathered_all T index known above k super own ks ns keys moved second.0 second.1 first.1 up

pub moved_from : (xs ys zs : List ℕ) → ys ≡ xs → IsPermutation ys zs → IsPermutation xs zs
moved_from xs ys zs e p = subst (λ l. IsPermutation l zs) e p
