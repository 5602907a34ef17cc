-- What is reached over the rows of type variables, they depend on.
use Rattle.std.proofs.Common.{◌≡◌, ◌⊎◌, inl, inr, ℕ, zero, suc, ◌+◌, ◌<◌, ◌≤◌, ◌==◌, Bool, true, false, ◌||◌, cond, nat_lt, List, [], ◌∷◌, ◌++◌, Some, None, length, slice_get, refl, sym, ap, subst, ◌∙◌, arith}
use Rattle.std.specs.List.{list_any}
use Rattle.jc_rules.proofs.Truths.{is_less, less_is, equal_numbers, self_equal}
use Rattle.jc_types.specs.declared.form.Arg.{Arg}
use Rattle.jc_types.specs.declared.form.Ty.{Ty, Ty-F, out-Ty}
use Rattle.jc_types.specs.declared.ids.VarId.{VarId}
use Rattle.jc_types.specs.declared.declarations.VariableDecl.{VariableDecl}
use Rattle.jc_types.specs.declared.table.Table.{Table}
use Rattle.jc_types.specs.Accessors.{bounds_in, bounds_of, variable_count}
use Rattle.jc_header_rules.specs.Types.{bound_depends, depends_on_itself, depends_within, is_variable_at}
use Rattle.jc_components.specs.Reach.{IsIn, row, listed, Reach, one, on, IsClosed}
use Rattle.jc_components.specs.Marks.{is_marked, AreReached}
use Rattle.jc_type_rules.specs.Depending.{AreDepending, rows_below, variable_below, variables_below}
use Rattle.jc_type_rules.proofs.Pigeons.{Same, by_then}

abbrev pub var : ℕ → VarId
var n = record { 0 = n }

pub row_pushed : (T : Table) (n k m : ℕ) → m ≡ k + 1 → rows_below T n k ++ variables_below n (bounds_of T (record { 0 = k })) ∷ [] ≡ rows_below T n m
row_pushed T n k m e = let s : suc k ≡ m = omega arith in ap (rows_below T n) s

-- ---- rows

one_longer : (xs : List (List ℕ)) (x : List ℕ) → length (xs ++ x ∷ []) ≡ length xs + 1
one_longer [] x = refl
one_longer (y ∷ xs) x = let i = one_longer xs x in omega (arith, i)

rows_length : (T : Table) (n k : ℕ) → length (rows_below T n k) ≡ k
rows_length T n zero = refl
rows_length T n (suc k) = one_longer (rows_below T n k) (variables_below n (bounds_of T (var k))) ∙ ap (λ m. m + 1) (rows_length T n k) ∙ let e : k + 1 ≡ suc k = omega arith in e

get_old : (xs : List (List ℕ)) (x : List ℕ) (h : ℕ) → h < length xs → slice_get (xs ++ x ∷ []) h ≡ slice_get xs h
get_old [] x h lt = absurd (omega arith)
get_old (y ∷ xs) x zero lt = refl
get_old (y ∷ xs) x (suc h) lt = get_old xs x h (omega arith)

get_new : (xs : List (List ℕ)) (x : List ℕ) (h : ℕ) → h ≡ length xs → slice_get (xs ++ x ∷ []) h ≡ Some x
get_new [] x zero e = refl
get_new [] x (suc h) e = absurd (omega arith)
get_new (y ∷ xs) x zero e = absurd (omega arith)
get_new (y ∷ xs) x (suc h) e = get_new xs x h (omega arith)

below_or : (u n : ℕ) → u < suc n → (u < n) ⊎ (u ≡ n)
below_or u n lt = grind arith

row_is : (T : Table) (n k v : ℕ) → v < k → row (rows_below T n k) v ≡ variables_below n (bounds_of T (var v))
row_is T n zero v lt = absurd (omega (arith, lt))
row_is T n (suc k) v lt = by (λ l. row_is T n k v l) (below_or v k lt)
  where
    by : (v < k → row (rows_below T n k) v ≡ variables_below n (bounds_of T (var v))) → (v < k) ⊎ (v ≡ k) → row (rows_below T n k ++ variables_below n (bounds_of T (var k)) ∷ []) v ≡ variables_below n (bounds_of T (var v))
    by r (inl l) =
        let c = rows_length T n k in
        ap listed (get_old (rows_below T n k) (variables_below n (bounds_of T (var k))) v (omega (arith, c, l))) ∙ r l
    by r (inr e) =
        let c = rows_length T n k in
        ap listed (get_new (rows_below T n k) (variables_below n (bounds_of T (var k))) v (omega (arith, c, e))) ∙ ap (λ v. variables_below n (bounds_of T (var v))) (sym e)

past : (xs : List (List ℕ)) (h : ℕ) → length xs ≤ h → slice_get xs h ≡ None
past [] h le = refl
past (x ∷ xs) zero le = absurd (omega arith)
past (x ∷ xs) (suc h) le = past xs h (omega arith)

no_row : (T : Table) (n k v : ℕ) → k ≤ v → row (rows_below T n k) v ≡ []
no_row T n k v le = let c = rows_length T n k in ap listed (past (rows_below T n k) v (omega (arith, c, le)))

in_append : (b : ℕ) (xs ys : List ℕ) → IsIn b (xs ++ ys) → IsIn b xs ⊎ IsIn b ys
in_append b [] ys m = inr m
in_append b (x ∷ xs) ys (inl e) = inl (inl e)
in_append b (x ∷ xs) ys (inr m) = by (in_append b xs ys m)
  where
    by : IsIn b xs ⊎ IsIn b ys → IsIn b (x ∷ xs) ⊎ IsIn b ys
    by (inl h) = inl (inr h)
    by (inr h) = inr h

in_left : (b : ℕ) (xs ys : List ℕ) → IsIn b xs → IsIn b (xs ++ ys)
in_left b [] ys m = absurd m
in_left b (x ∷ xs) ys (inl e) = inl e
in_left b (x ∷ xs) ys (inr m) = inr (in_left b xs ys m)

in_right : (b : ℕ) (xs ys : List ℕ) → IsIn b ys → IsIn b (xs ++ ys)
in_right b [] ys m = m
in_right b (x ∷ xs) ys m = inr (in_right b xs ys m)

below_in : (n b : ℕ) (ts : List Ty) → IsIn b (variables_below n ts) → b < n
below_in n b [] m = absurd m
below_in n b (t ∷ ts) m = by (λ h. below_in n b ts h) (in_append b (variable_below n (out-Ty t)) (variables_below n ts) m)
  where
    chosen : (v : VarId) (c : Bool) → nat_lt v.0 n ≡ c → IsIn b (cond c (v.0 ∷ []) []) → b < n
    chosen v true e (inl f) = let l = is_less v.0 n e in omega (arith, l, f)
    chosen v true e (inr h) = absurd h
    chosen v false e h = absurd h

    layer : (l : Ty-F Arg Ty) → IsIn b (variable_below n l) → b < n
    layer (Ty-F.Variable v) h = chosen v (nat_lt v.0 n) refl h
    layer (Ty-F.Prim p) h = absurd h
    layer (Ty-F.Class i xs) h = absurd h
    layer (Ty-F.Raw i) h = absurd h
    layer (Ty-F.Array u k) h = absurd h
    layer (Ty-F.Captured c) h = absurd h
    layer (Ty-F.Meet us) h = absurd h
    layer Ty-F.NullTy h = absurd h

    by : (IsIn b (variables_below n ts) → b < n) → IsIn b (variable_below n (out-Ty t)) ⊎ IsIn b (variables_below n ts) → b < n
    by r (inl h) = layer (out-Ty t) h
    by r (inr h) = r h

split : (v n : ℕ) → (v < n) ⊎ (n ≤ v)
split v n = grind arith

pub rows_closed : (T : Table) (n : ℕ) → IsClosed (rows_below T n n)
rows_closed T n a b m = let c = rows_length T n n in let l = by (split a n) m in omega (arith, c, l)
  where
    by : (a < n) ⊎ (n ≤ a) → IsIn b (row (rows_below T n n) a) → b < n
    by (inl l) m = below_in n b (bounds_of T (var a)) (subst (λ xs. IsIn b xs) (row_is T n n a l) m)
    by (inr l) m = absurd (subst (λ xs. IsIn b xs) (no_row T n n a l) m)

-- ---- depending

module _ (T : Table) (w : VarId) where
  abbrev test : ℕ → Ty → Bool
  test n t = is_variable_at w (out-Ty t) || bound_depends (depends_within T n w) (out-Ty t)

  goes_up : (n : ℕ) (v : VarId) → depends_within T (suc n) w v ≡ list_any (test n) (bounds_of T v)
  unfolding depends_within
  goes_up n v = refl

  none_at : (v : VarId) → depends_within T 0 w v ≡ false
  unfolding depends_within
  none_at v = refl

  past_all : (xs : List VariableDecl) (h : ℕ) → length xs ≤ h → slice_get xs h ≡ None
  past_all [] h le = refl
  past_all (x ∷ xs) zero le = absurd (omega arith)
  past_all (x ∷ xs) (suc h) le = past_all xs h (omega arith)

  outside : (n : ℕ) (v : VarId) → variable_count T ≤ v.0 → depends_within T n w v ≡ false
  outside zero v le = none_at v
  outside (suc n) v le = goes_up n v ∙ ap (λ o. list_any (test n) (bounds_in o)) (past_all T.variables v.0 le)

  any_same : (f g : Ty → Bool) → ((t : Ty) → f t ≡ g t) → (ts : List Ty) → list_any f ts ≡ list_any g ts
  any_same f g h [] = refl
  any_same f g h (t ∷ ts) = ap (λ b. b || list_any f ts) (h t) ∙ ap (λ b. g t || b) (any_same f g h ts)

  any_more : (f g : Ty → Bool) → ((t : Ty) → f t ≡ true → g t ≡ true) → (ts : List Ty) → list_any f ts ≡ true → list_any g ts ≡ true
  any_more f g h [] e = cc
  any_more f g h (t ∷ ts) e = by (λ k. any_more f g h ts k) (f t) refl e
    where
      left : (a b : Bool) → a ≡ true → (a || b) ≡ true
      left true b e = refl
      left false b e = cc

      right : (a b : Bool) → b ≡ true → (a || b) ≡ true
      right true b e = refl
      right false b e = e

      by : (list_any f ts ≡ true → list_any g ts ≡ true) → (b : Bool) → f t ≡ b → (b || list_any f ts) ≡ true → (g t || list_any g ts) ≡ true
      by r true k e = left (g t) (list_any g ts) (h t k)
      by r false k e = right (g t) (list_any g ts) (r e)

  abbrev D : ℕ → ℕ → Bool
  D n u = depends_within T n w (var u)

  further_same : (f g : VarId → Bool) → ((v : VarId) → f v ≡ g v) → (l : Ty-F Arg Ty) → bound_depends f l ≡ bound_depends g l
  further_same f g h (Ty-F.Variable v) = h v
  further_same f g h (Ty-F.Prim p) = refl
  further_same f g h (Ty-F.Class i xs) = refl
  further_same f g h (Ty-F.Raw i) = refl
  further_same f g h (Ty-F.Array t n) = refl
  further_same f g h (Ty-F.Captured c) = refl
  further_same f g h (Ty-F.Meet us) = refl
  further_same f g h Ty-F.NullTy = refl

  further_more : (f g : VarId → Bool) → ((v : VarId) → f v ≡ true → g v ≡ true) → (l : Ty-F Arg Ty) → bound_depends f l ≡ true → bound_depends g l ≡ true
  further_more f g h (Ty-F.Variable v) e = h v e
  further_more f g h (Ty-F.Prim p) e = e
  further_more f g h (Ty-F.Class i xs) e = e
  further_more f g h (Ty-F.Raw i) e = e
  further_more f g h (Ty-F.Array t n) e = e
  further_more f g h (Ty-F.Captured c) e = e
  further_more f g h (Ty-F.Meet us) e = e
  further_more f g h Ty-F.NullTy e = e

  or_more : (a b c : Bool) → (b ≡ true → c ≡ true) → (a || b) ≡ true → (a || c) ≡ true
  or_more true b c h e = refl
  or_more false b c h e = h e

  grows : (n : ℕ) (v : VarId) → depends_within T n w v ≡ true → depends_within T (suc n) w v ≡ true
  grows zero v e = absurd (no (sym (none_at v) ∙ e))
    where
      no : false ≡ true → ⊥
      no e = cc
  grows (suc n) v e =
      goes_up (suc n) v ∙ any_more (test n) (test (suc n)) (λ t h. or_more (is_variable_at w (out-Ty t)) _ _ (further_more (depends_within T n w) (depends_within T (suc n) w) (λ u k. grows n u k) (out-Ty t)) h) (bounds_of T v) (sym (goes_up n v) ∙ e)

  goes : (n : ℕ) → Same (variable_count T) (D n) (D (suc n)) → Same (variable_count T) (D (suc n)) (D (suc (suc n)))
  goes n s u lt =
      goes_up n (var u) ∙ any_same (test n) (test (suc n)) (λ t. ap (λ b. is_variable_at w (out-Ty t) || b) (further_same (depends_within T n w) (depends_within T (suc n) w) (λ v. each v (split v.0 (variable_count T))) (out-Ty t))) (bounds_of T (var u))
      ∙ sym (goes_up (suc n) (var u))
    where
      each : (v : VarId) → (v.0 < variable_count T) ⊎ (variable_count T ≤ v.0) → depends_within T n w v ≡ depends_within T (suc n) w v
      each v (inl l) = s v.0 l
      each v (inr l) = outside n v l ∙ sym (outside (suc n) v l)

  pub whole : (n u : ℕ) → u < variable_count T → depends_within T n w (var u) ≡ true → depends_within T (variable_count T) w (var u) ≡ true
  whole n u lt e = by_then D (variable_count T) (λ n u e. grows n (var u) e) goes n u lt e

-- ---- reached and depending

module _ (T : Table) where
  abbrev rows : List (List ℕ)
  rows = rows_below T (variable_count T) (variable_count T)

  in_bounds : (ts : List Ty) (n : ℕ) (w : VarId) (f : VarId → Bool) → IsIn w.0 (variables_below n ts) → list_any (λ t. is_variable_at w (out-Ty t) || bound_depends f (out-Ty t)) ts ≡ true
  in_bounds [] n w f m = absurd m
  in_bounds (t ∷ ts) n w f m = by (λ h. in_bounds ts n w f h) (in_append w.0 (variable_below n (out-Ty t)) (variables_below n ts) m)
    where
      rest : list_any (λ t. is_variable_at w (out-Ty t) || bound_depends f (out-Ty t)) ts ≡ true → (a : Bool) → (a || list_any (λ t. is_variable_at w (out-Ty t) || bound_depends f (out-Ty t)) ts) ≡ true
      rest e true = refl
      rest e false = e

      first : (a b c : Bool) → a ≡ true → ((a || b) || c) ≡ true
      first true b c e = refl
      first false b c e = cc

      chosen : (v : VarId) (c : Bool) → IsIn w.0 (cond c (v.0 ∷ []) []) → (v.0 == w.0) ≡ true
      chosen v true (inl e) = subst (λ x. (x == w.0) ≡ true) e (self_equal w.0)
      chosen v true (inr h) = absurd h
      chosen v false h = absurd h

      layer : (l : Ty-F Arg Ty) → IsIn w.0 (variable_below n l) → is_variable_at w l ≡ true
      layer (Ty-F.Variable v) h = chosen v (nat_lt v.0 n) h
      layer (Ty-F.Prim p) h = absurd h
      layer (Ty-F.Class i xs) h = absurd h
      layer (Ty-F.Raw i) h = absurd h
      layer (Ty-F.Array u k) h = absurd h
      layer (Ty-F.Captured c) h = absurd h
      layer (Ty-F.Meet us) h = absurd h
      layer Ty-F.NullTy h = absurd h

      by : (IsIn w.0 (variables_below n ts) → list_any (λ t. is_variable_at w (out-Ty t) || bound_depends f (out-Ty t)) ts ≡ true) → IsIn w.0 (variable_below n (out-Ty t)) ⊎ IsIn w.0 (variables_below n ts) → ((is_variable_at w (out-Ty t) || bound_depends f (out-Ty t)) || list_any (λ t. is_variable_at w (out-Ty t) || bound_depends f (out-Ty t)) ts) ≡ true
      by r (inl h) = first (is_variable_at w (out-Ty t)) (bound_depends f (out-Ty t)) _ (layer (out-Ty t) h)
      by r (inr h) = rest (r h) (is_variable_at w (out-Ty t) || bound_depends f (out-Ty t))

  -- a bound that depends on w makes what it bounds do so
  by_bound : (ts : List Ty) (n : ℕ) (w : VarId) (f : VarId → Bool) (u : ℕ) → IsIn u (variables_below n ts) → f (var u) ≡ true → list_any (λ t. is_variable_at w (out-Ty t) || bound_depends f (out-Ty t)) ts ≡ true
  by_bound [] n w f u m e = absurd m
  by_bound (t ∷ ts) n w f u m e = by (λ h. by_bound ts n w f u h e) (in_append u (variable_below n (out-Ty t)) (variables_below n ts) m)
    where
      rest : (a b : Bool) → b ≡ true → (a || b) ≡ true
      rest true b e = refl
      rest false b e = e

      second : (a b c : Bool) → b ≡ true → ((a || b) || c) ≡ true
      second true b c e = refl
      second false true c e = refl
      second false false c e = cc

      chosen : (v : VarId) (c : Bool) → IsIn u (cond c (v.0 ∷ []) []) → f v ≡ true
      chosen v true (inl q) = subst (λ x. f (var x) ≡ true) q e
      chosen v true (inr h) = absurd h
      chosen v false h = absurd h

      layer : (l : Ty-F Arg Ty) → IsIn u (variable_below n l) → bound_depends f l ≡ true
      layer (Ty-F.Variable v) h = chosen v (nat_lt v.0 n) h
      layer (Ty-F.Prim p) h = absurd h
      layer (Ty-F.Class i xs) h = absurd h
      layer (Ty-F.Raw i) h = absurd h
      layer (Ty-F.Array s k) h = absurd h
      layer (Ty-F.Captured c) h = absurd h
      layer (Ty-F.Meet us) h = absurd h
      layer Ty-F.NullTy h = absurd h

      by : (IsIn u (variables_below n ts) → list_any (λ t. is_variable_at w (out-Ty t) || bound_depends f (out-Ty t)) ts ≡ true) → IsIn u (variable_below n (out-Ty t)) ⊎ IsIn u (variables_below n ts) → ((is_variable_at w (out-Ty t) || bound_depends f (out-Ty t)) || list_any (λ t. is_variable_at w (out-Ty t) || bound_depends f (out-Ty t)) ts) ≡ true
      by r (inl h) = second (is_variable_at w (out-Ty t)) (bound_depends f (out-Ty t)) _ (layer (out-Ty t) h)
      by r (inr h) = rest (is_variable_at w (out-Ty t) || bound_depends f (out-Ty t)) _ (r h)

  in_row : (v b : ℕ) → IsIn b (row rows v) → IsIn b (variables_below (variable_count T) (bounds_of T (var v)))
  in_row v b m = by (split v (variable_count T))
    where
      by : (v < variable_count T) ⊎ (variable_count T ≤ v) → IsIn b (variables_below (variable_count T) (bounds_of T (var v)))
      by (inl l) = subst (λ xs. IsIn b xs) (row_is T (variable_count T) (variable_count T) v l) m
      by (inr l) = absurd (subst (λ xs. IsIn b xs) (no_row T (variable_count T) (variable_count T) v l) m)

  -- from v over its bounds to w: some number of steps
  front : (v b c : ℕ) → IsIn b (row rows v) → (n : ℕ) → depends_within T n (var c) (var b) ≡ true → depends_within T (suc n) (var c) (var v) ≡ true
  front v b c m n e = goes_up T (var c) n (var v) ∙ by_bound (bounds_of T (var v)) (variable_count T) (var c) (depends_within T n (var c)) b (in_row v b m) e

  -- one step more
  module _ (b c : ℕ) (m : IsIn c (row rows b)) where
    edge : (n : ℕ) → depends_within T (suc n) (var c) (var b) ≡ true
    edge n = goes_up T (var c) n (var b) ∙ in_bounds (bounds_of T (var b)) (variable_count T) (var c) (depends_within T n (var c)) (in_row b c m)

    lift : (n : ℕ) (a : VarId) → depends_within T n (var b) a ≡ true → depends_within T (suc n) (var c) a ≡ true
    lift zero a e = absurd (no (sym (none_at T (var b) a) ∙ e))
      where
        no : false ≡ true → ⊥
        no e = cc
    lift (suc n) a e = goes_up T (var c) (suc n) a ∙ any_more T (var c) (test T (var b) n) (test T (var c) (suc n)) (λ t h. layer (λ v k. lift n v k) (out-Ty t) h) (bounds_of T a) (sym (goes_up T (var b) n a) ∙ e)
      where
        second : (x y : Bool) → y ≡ true → (x || y) ≡ true
        second true y e = refl
        second false y e = e

        by_first : ((v : VarId) → depends_within T n (var b) v ≡ true → depends_within T (suc n) (var c) v ≡ true) → (v : VarId) (x : Bool) → (v.0 == b) ≡ x → (x || depends_within T n (var b) v) ≡ true → depends_within T (suc n) (var c) v ≡ true
        by_first r v true k h = subst (λ y. depends_within T (suc n) (var c) (var y) ≡ true) (sym (equal_numbers v.0 b k)) (edge n)
        by_first r v false k h = r v h

        layer : ((v : VarId) → depends_within T n (var b) v ≡ true → depends_within T (suc n) (var c) v ≡ true) → (l : Ty-F Arg Ty) → (is_variable_at (var b) l || bound_depends (depends_within T n (var b)) l) ≡ true → (is_variable_at (var c) l || bound_depends (depends_within T (suc n) (var c)) l) ≡ true
        layer r (Ty-F.Variable v) h = second (v.0 == c) _ (by_first r v (v.0 == b) refl h)
        layer r (Ty-F.Prim p) h = h
        layer r (Ty-F.Class i xs) h = h
        layer r (Ty-F.Raw i) h = h
        layer r (Ty-F.Array u k) h = h
        layer r (Ty-F.Captured q) h = h
        layer r (Ty-F.Meet us) h = h
        layer r Ty-F.NullTy h = h

  reached_depends : (a c : ℕ) → Reach rows a c → (n : ℕ) × (depends_within T n (var c) (var a) ≡ true)
  reached_depends a c (one d m) = (1, edge a d m 0)
  reached_depends a c (on b d r m) = let h = reached_depends a b r in (suc h.0, lift b d m h.0 (var a) h.1)

  onward : (a b c : ℕ) → IsIn b (row rows a) → Reach rows b c → Reach rows a c
  onward a b c m (one e k) = on b e (one b m) k
  onward a b c m (on d e r k) = on d e (onward a b d m r) k

  differ : {x : Bool} → x ≡ false → x ≡ true → ⊥
  differ p q = cc

  module _ (n a c : ℕ) (lt : c < variable_count T) (less : (v : ℕ) → depends_within T n (var c) (var v) ≡ true → Reach rows v c) where
    listed_at : (v : VarId) → v.0 < variable_count T → IsIn v.0 (variable_below (variable_count T) (Ty-F.Variable v))
    listed_at v l = subst (λ b. IsIn v.0 (cond b (v.0 ∷ []) [])) (sym (less_is v.0 (variable_count T) l)) (inl refl)

    abbrev Edges : Ty-F Arg Ty → Type 0
    Edges l = (u : ℕ) → IsIn u (variable_below (variable_count T) l) → IsIn u (row rows a)

    onto : (v : VarId) → Edges (Ty-F.Variable v) → (v.0 < variable_count T) ⊎ (variable_count T ≤ v.0) → depends_within T n (var c) v ≡ true → Reach rows a c
    onto v i (inl l) k = onward a v.0 c (i v.0 (listed_at v l)) (less v.0 k)
    onto v i (inr l) k = absurd (differ (outside T (var c) n v l) k)

    variable : (ts : List Ty) → (list_any (test T (var c) n) ts ≡ true → Reach rows a c) → (v : VarId) → Edges (Ty-F.Variable v) → (x y : Bool) → (v.0 == c) ≡ x → depends_within T n (var c) v ≡ y
        → ((x || y) || list_any (test T (var c) n) ts) ≡ true → Reach rows a c
    variable ts rest v i true y p q k = let same = equal_numbers v.0 c p in one c (subst (λ z. IsIn z (row rows a)) same (i v.0 (listed_at v (subst (λ z. z < variable_count T) (sym same) lt))))
    variable ts rest v i false true p q k = onto v i (split v.0 (variable_count T)) q
    variable ts rest v i false false p q k = rest k

    head : (ts : List Ty) → (list_any (test T (var c) n) ts ≡ true → Reach rows a c) → (l : Ty-F Arg Ty) → Edges l
        → ((is_variable_at (var c) l || bound_depends (depends_within T n (var c)) l) || list_any (test T (var c) n) ts) ≡ true → Reach rows a c
    head ts rest (Ty-F.Variable v) i k = variable ts rest v i (v.0 == c) (depends_within T n (var c) v) refl refl k
    head ts rest (Ty-F.Prim p) i k = rest k
    head ts rest (Ty-F.Class j xs) i k = rest k
    head ts rest (Ty-F.Raw j) i k = rest k
    head ts rest (Ty-F.Array u j) i k = rest k
    head ts rest (Ty-F.Captured q) i k = rest k
    head ts rest (Ty-F.Meet us) i k = rest k
    head ts rest Ty-F.NullTy i k = rest k

    dig : (ts : List Ty) → ((u : ℕ) → IsIn u (variables_below (variable_count T) ts) → IsIn u (row rows a)) → list_any (test T (var c) n) ts ≡ true → Reach rows a c
    dig [] h k = absurd (differ refl k)
    dig (t ∷ ts) h k =
        head ts (λ m. dig ts (λ u i. h u (in_right u (variable_below (variable_count T) (out-Ty t)) (variables_below (variable_count T) ts) i)) m) (out-Ty t)
        (λ u m. h u (in_left u (variable_below (variable_count T) (out-Ty t)) (variables_below (variable_count T) ts) m)) k

    one_up : depends_within T (suc n) (var c) (var a) ≡ true → Reach rows a c
    one_up e = by (split a (variable_count T))
      where
        by : (a < variable_count T) ⊎ (variable_count T ≤ a) → Reach rows a c
        by (inl l) = dig (bounds_of T (var a)) (λ u m. subst (λ xs. IsIn u xs) (sym (row_is T (variable_count T) (variable_count T) a l)) m) (sym (goes_up T (var c) n (var a)) ∙ e)
        by (inr l) = absurd (differ (outside T (var c) (suc n) (var a) l) e)

  depends_reached : (n a c : ℕ) → c < variable_count T → depends_within T n (var c) (var a) ≡ true → Reach rows a c
  depends_reached zero a c lt e = absurd (differ (none_at T (var c) (var a)) e)
  depends_reached (suc n) a c lt e = one_up n a c lt (λ v k. depends_reached n v c lt k) e

  pub are_depending : (marks : List Bool) → AreReached rows marks (length rows) → AreDepending T marks
  are_depending marks h v lt = by (is_marked marks v) (depends_on_itself T (var v)) refl refl
    where
      c : length rows ≡ variable_count T
      c = rows_length T (variable_count T) (variable_count T)

      told : (is_marked marks v ≡ true → Reach rows v v) × (Reach rows v v → is_marked marks v ≡ true)
      told = h.told v (omega (arith, lt, c))

      by : (x y : Bool) → is_marked marks v ≡ x → depends_on_itself T (var v) ≡ y → x ≡ y
      by true true e f = refl
      by false false e f = refl
      by true false e f = let d = reached_depends v v (told.0 e) in absurd (not_both (whole T (var v) d.0 v lt d.1) f)
        where
          not_both : {b : Bool} → b ≡ true → b ≡ false → ⊥
          not_both p q = cc
      by false true e f = absurd (not_both (told.1 (depends_reached (variable_count T) v v lt f)) e)
        where
          not_both : {b : Bool} → b ≡ true → b ≡ false → ⊥
          not_both p q = cc
