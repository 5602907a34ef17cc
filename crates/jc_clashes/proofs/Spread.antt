-- The erasures that are spread are those of the methods that are reached.
use Rattle.std.proofs.Common.{◌≡◌, ◌⊎◌, inl, inr, ℕ, zero, suc, ◌<◌, Bool, true, false, ◌&&◌, cond, List, [], ◌∷◌, ◌++◌, map, length, refl, sym, ap, subst, ◌∙◌}
use Rattle.std.specs.List.{list_any}
use Rattle.std.proofs.lemmas.Bool.{and_parts}
use Rattle.jc_types.specs.declared.form.Ty.{Ty}
use Rattle.jc_types.specs.declared.ids.MethodId.{MethodId}
use Rattle.jc_types.specs.declared.table.Table.{Table}
use Rattle.jc_overriding.specs.Signatures.{same_all}
use Rattle.jc_header_rules.specs.Clashes.{erased_params, reaches, reaches_within}
use Rattle.jc_members.specs.Below.{replaces}
use Rattle.jc_members.specs.Named.{all_named}
use Rattle.jc_clashes.specs.Erasures.{joined, with_one}
use Rattle.jc_clashes.specs.Spreading.{erasures_within, gathered}
use Rattle.jc_clashes.proofs.Lists.{In, all_same, in_any, in_left, in_right}
use Rattle.jc_clashes.proofs.Named.{IsNamed, in_named, named_in}
use Rattle.jc_clashes.proofs.Reaching.{Found, first_told, further, here, last, replaces_named, step}

-- ---- lists with one of each

with_left : (e f : List Ty) (es : List (List Ty)) → In e es → In e (with_one es f)
with_left e f es m = by (list_any (same_all f) es)
  where
    by : (b : Bool) → In e (cond b es (es ++ f ∷ []))
    by true = m
    by false = in_left e es (f ∷ []) m

with_own : (f : List Ty) (es : List (List Ty)) → In f (with_one es f)
with_own f es = by (list_any (same_all f) es) refl
  where
    by : (b : Bool) → list_any (same_all f) es ≡ b → In f (cond b es (es ++ f ∷ []))
    by true e = let g = in_any (same_all f) es e in subst (λ h. In h es) (sym (all_same f g.0 g.2)) g.1
    by false e = in_right f es (f ∷ []) (inl refl)

of_with : (e f : List Ty) (es : List (List Ty)) → In e (with_one es f) → In e es ⊎ (e ≡ f)
of_with e f es m = by (list_any (same_all f) es) m
  where
    in_end : (gs : List (List Ty)) → In e (gs ++ f ∷ []) → In e gs ⊎ (e ≡ f)
    in_end [] (inl is) = inr is
    in_end [] (inr m) = absurd m
    in_end (g ∷ gs) (inl is) = inl (inl is)
    in_end (g ∷ gs) (inr m) = up (in_end gs m)
      where
        up : In e gs ⊎ (e ≡ f) → In e (g ∷ gs) ⊎ (e ≡ f)
        up (inl m) = inl (inr m)
        up (inr is) = inr is

    by : (b : Bool) → In e (cond b es (es ++ f ∷ [])) → In e es ⊎ (e ≡ f)
    by true m = inl m
    by false m = in_end es m

joined_left : (e : List Ty) (es fs : List (List Ty)) → In e es → In e (joined es fs)
joined_left e es [] m = m
joined_left e es (f ∷ fs) m = joined_left e (with_one es f) fs (with_left e f es m)

joined_right : (e : List Ty) (es fs : List (List Ty)) → In e fs → In e (joined es fs)
joined_right e es [] m = absurd m
joined_right e es (f ∷ fs) (inl is) = joined_left e (with_one es f) fs (subst (λ g. In g (with_one es f)) (sym is) (with_own f es))
joined_right e es (f ∷ fs) (inr m) = joined_right e (with_one es f) fs m

of_joined : (e : List Ty) (es fs : List (List Ty)) → In e (joined es fs) → In e es ⊎ In e fs
of_joined e es [] m = inl m
of_joined e es (f ∷ fs) m = by (of_joined e (with_one es f) fs m)
  where
    own : In e es ⊎ (e ≡ f) → In e es ⊎ In e (f ∷ fs)
    own (inl m) = inl m
    own (inr is) = inr (inl is)

    by : In e (with_one es f) ⊎ In e fs → In e es ⊎ In e (f ∷ fs)
    by (inl m) = own (of_with e f es m)
    by (inr m) = inr (inr m)

-- ---- those of marked methods

module _ (g : MethodId → Bool) (h : MethodId → List (List Ty)) (e : List Ty) where
  gathered_left : (qs : List MethodId) (es : List (List Ty)) → In e es → In e (gathered (map g qs) (map h qs) es)
  gathered_left [] es m = m
  gathered_left (q ∷ qs) es m = gathered_left qs (cond (g q) (joined es (h q)) es) (by (g q))
    where
      by : (b : Bool) → In e (cond b (joined es (h q)) es)
      by true = joined_left e es (h q) m
      by false = m

  gathered_right : (q : MethodId) (qs : List MethodId) (es : List (List Ty)) → In q qs → g q ≡ true → In e (h q) → In e (gathered (map g qs) (map h qs) es)
  gathered_right q [] es m r k = absurd m
  gathered_right q (n ∷ qs) es (inl is) r k =
      gathered_left qs (cond (g n) (joined es (h n)) es)
      (subst (λ b. In e (cond b (joined es (h n)) es)) (sym (ap g (sym is) ∙ r)) (joined_right e es (h n) (subst (λ p. In e (h p)) is k)))
  gathered_right q (n ∷ qs) es (inr m) r k = gathered_right q qs (cond (g n) (joined es (h n)) es) m r k

  -- a marked method that has it
  record Marked (qs : List MethodId) : Type 0 where
    pub id : MethodId
    pub is_in : In id qs
    pub mark : g id ≡ true
    pub has : In e (h id)

  of_gathered : (qs : List MethodId) (es : List (List Ty)) → In e (gathered (map g qs) (map h qs) es) → In e es ⊎ Marked qs
  of_gathered [] es m = inl m
  of_gathered (n ∷ qs) es m = by (of_gathered qs (cond (g n) (joined es (h n)) es) m)
    where
      own : In e es ⊎ In e (h n) → g n ≡ true → In e es ⊎ Marked (n ∷ qs)
      own (inl m) f = inl m
      own (inr m) f = inr (record { id = n; is_in = inl refl; mark = f; has = m })

      here_by : (b : Bool) → g n ≡ b → In e (cond b (joined es (h n)) es) → In e es ⊎ Marked (n ∷ qs)
      here_by true f m = own (of_joined e es (h n) m) f
      here_by false f m = inl m

      by : In e (cond (g n) (joined es (h n)) es) ⊎ Marked qs → In e es ⊎ Marked (n ∷ qs)
      by (inl m) = here_by (g n) refl m
      by (inr k) = inr (record { id = k.id; is_in = inr k.is_in; mark = k.mark; has = k.has })

-- ---- the first step of a way

module _ (T : Table) where
  -- m overrides or hides a method from which p is reached in k steps
  record Next (k : ℕ) (m p : MethodId) : Type 0 where
    pub id : MethodId
    pub within : id.0 < length T.methods
    pub first : replaces T m id ≡ true
    pub rest : reaches_within T k id p ≡ true

  first_step : (k : ℕ) (m p : MethodId) → p.0 < length T.methods → reaches_within T (suc k) m p ≡ true → (m ≡ p) ⊎ Next k m p
  first_step zero m p within e = by (last T m 0 p e)
    where
      by : (m ≡ p) ⊎ Found (length T.methods) (λ q. reaches_within T 0 m q && replaces T q p) → (m ≡ p) ⊎ Next 0 m p
      by (inl is) = inl is
      by (inr q) =
          let both = and_parts (reaches_within T 0 m q.id) (replaces T q.id p) q.holds in
          inr (record { id = p; within = within; first = subst (λ n. replaces T n p ≡ true) (sym (first_told T m q.id both.0)) both.1; rest = here T p 0 })
  first_step (suc k) m p within e = by (last T m (suc k) p e) (λ q w e. first_step k m q w e)
    where
      onward : (q : MethodId) → q.0 < length T.methods → replaces T q p ≡ true → (m ≡ q) ⊎ Next k m q → Next (suc k) m p
      onward q w r (inl is) = record { id = p; within = within; first = subst (λ n. replaces T n p ≡ true) (sym is) r; rest = here T p (suc k) }
      onward q w r (inr n) = record { id = n.id; within = n.within; first = n.first; rest = step T n.id k q p w n.rest r }

      by : (m ≡ p) ⊎ Found (length T.methods) (λ q. reaches_within T (suc k) m q && replaces T q p)
          → ((q : MethodId) → q.0 < length T.methods → reaches_within T (suc k) m q ≡ true → (m ≡ q) ⊎ Next k m q) → (m ≡ p) ⊎ Next (suc k) m p
      by (inl is) ih = inl is
      by (inr q) ih = let both = and_parts (reaches_within T (suc k) m q.id) (replaces T q.id p) q.holds in inr (onward q.id q.within both.1 (ih q.id q.within both.0))

  step_before : (k : ℕ) (m q p : MethodId) → m.0 < length T.methods → replaces T m q ≡ true → reaches_within T k q p ≡ true → reaches_within T (suc k) m p ≡ true
  step_before zero m q p within r e = step T m 0 m p within (here T m 0) (subst (λ n. replaces T m n ≡ true) (first_told T q p e) r)
  step_before (suc k) m q p within r e = by (last T q k p e) (λ n e. step_before k m q n within r e)
    where
      by : (q ≡ p) ⊎ Found (length T.methods) (λ n. reaches_within T k q n && replaces T n p) → ((n : MethodId) → reaches_within T k q n ≡ true → reaches_within T (suc k) m n ≡ true)
          → reaches_within T (suc (suc k)) m p ≡ true
      by (inl is) ih = step T m (suc k) m p within (here T m (suc k)) (subst (λ n. replaces T m n ≡ true) is r)
      by (inr n) ih = let both = and_parts (reaches_within T k q n.id) (replaces T n.id p) n.holds in step T m (suc k) n.id p n.within (ih n.id both.0) both.1

-- ---- the erasures of a name's methods

module _ (T : Table) (x : List ℕ) where
  abbrev all : List MethodId
  all = all_named T x

  -- a method of the name that is reached from m in k steps and has these erased parameters
  record Reached (k : ℕ) (m : MethodId) (e : List Ty) : Type 0 where
    pub id : MethodId
    pub named : IsNamed T x id
    pub reached : reaches_within T k m id ≡ true
    pub is : e ≡ erased_params T id

  reached_of : (k : ℕ) (m : MethodId) (e : List Ty) → IsNamed T x m → In e (erasures_within T all k m) → Reached k m e
  reached_of zero m e hm (inl is) = record { id = m; named = hm; reached = here T m 0; is = is }
  reached_of zero m e hm (inr h) = absurd h
  reached_of (suc k) m e hm h = by (of_gathered (replaces T m) (erasures_within T all k) e all (erasures_within T all k m) h) (λ q hq h. reached_of k q e hq h)
    where
      by : In e (erasures_within T all k m) ⊎ Marked (replaces T m) (erasures_within T all k) e all → ((q : MethodId) → IsNamed T x q → In e (erasures_within T all k q) → Reached k q e) → Reached (suc k) m e
      by (inl h) ih = let p = ih m hm h in record { id = p.id; named = p.named; reached = further T m k p.id p.reached; is = p.is }
      by (inr q) ih =
          let p = ih q.id (named_in T x q.id q.is_in) q.has in
          record { id = p.id; named = p.named; reached = step_before T k m q.id p.id hm.within q.mark p.reached; is = p.is }

  of_reached : (k : ℕ) (m p : MethodId) → IsNamed T x m → IsNamed T x p → reaches_within T k m p ≡ true → In (erased_params T p) (erasures_within T all k m)
  of_reached zero m p hm hp e = inl (ap (erased_params T) (sym (first_told T m p e)))
  of_reached (suc k) m p hm hp e = by (first_step T k m p hp.within e) (λ q hq e. of_reached k q p hq hp e)
    where
      by : (m ≡ p) ⊎ Next T k m p → ((q : MethodId) → IsNamed T x q → reaches_within T k q p ≡ true → In (erased_params T p) (erasures_within T all k q)) → In (erased_params T p) (erasures_within T all (suc k) m)
      by (inl is) ih =
          gathered_left (replaces T m) (erasures_within T all k) (erased_params T p) all (erasures_within T all k m) (ih m hm (subst (λ q. reaches_within T k m q ≡ true) is (here T m k)))
      by (inr n) ih =
          let hn : IsNamed T x n.id = record { within = n.within; name = sym (replaces_named T m n.id n.first) ∙ hm.name } in
          gathered_right (replaces T m) (erasures_within T all k) (erased_params T p) n.id all (erasures_within T all k m) (in_named T x n.id hn) n.first (ih n.id hn n.rest)

  pub erasure_in : (m j : MethodId) → IsNamed T x m → IsNamed T x j → reaches T m j ≡ true → In (erased_params T j) (erasures_within T all (length T.methods) m)
  erasure_in m j hm hj e = of_reached (length T.methods) m j hm hj e

  pub of_erasure : (m : MethodId) (es : List Ty) → IsNamed T x m → In es (erasures_within T all (length T.methods) m)
      → (j : MethodId) × IsNamed T x j × (reaches T m j ≡ true) × (es ≡ erased_params T j)
  of_erasure m es hm h = let p = reached_of (length T.methods) m es hm h in (p.id, p.named, p.reached, p.is)
