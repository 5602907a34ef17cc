-- What a method overrides or hides, directly or indirectly.
use Rattle.std.proofs.Common.{◌≡◌, ◌⊎◌, inl, inr, ℕ, zero, suc, ◌+◌, ◌==◌, ◌<◌, ◌≤◌, arith, Bool, true, false, ◌&&◌, ◌||◌, List, [], ◌∷◌, length, refl, ap, subst, ◌∙◌}
use Rattle.std.proofs.lemmas.Bool.Decides.{nat_tests}
use Rattle.std.specs.Str.{bytes_eq}
use Rattle.std.proofs.lemmas.Bool.{or_right, and_from, and_right, and_parts, or_cases}
use Rattle.jc_rules.proofs.Truths.{same_bytes, not_both, self_equal, equal_numbers}
use Rattle.jc_types.specs.declared.declarations.MethodDecl.{MethodDecl}
use Rattle.jc_types.specs.declared.ids.MethodId.{MethodId}
use Rattle.jc_types.specs.declared.table.Table.{Table}
use Rattle.jc_types.specs.Accessors.{method_name_of}
use Rattle.jc_overriding.specs.Overriding.{hides, is_above, is_inheritable, is_instance, is_method, overrides, owner, subsignature_of}
use Rattle.jc_overriding.specs.Viewing.{class_view, is_static}
use Rattle.jc_header_rules.specs.Clashes.{is_replaced_by_some, reaches, reaches_within}
use Rattle.jc_members.specs.Below.{replaces}
use Rattle.jc_members.proofs.Replacing.{hides_told, overrides_told, own_below}
use Rattle.jc_members.proofs.Standing.{unnamed}

-- ---- directly

module _ (T : Table) (m n : MethodId) where
  abbrev signed : Bool
  signed = subsignature_of T (class_view T (owner T m) m) (class_view T (owner T m) n)

  not_signed : signed ≡ false → replaces T m n ≡ false
  not_signed e = ap (λ b. b || hides T m n) over ∙ hidden
    where
      below : own_below T m n ≡ false
      below = and_right (is_above T (owner T m) (owner T n) && is_inheritable T (owner T m) n) signed e

      over : overrides T m n ≡ false
      over = overrides_told T m n ∙ and_right (is_instance T m && is_instance T n) (own_below T m n) below

      hidden : hides T m n ≡ false
      hidden = hides_told T m n ∙ and_right (is_method T m && is_method T n && is_static T m && is_static T n) (own_below T m n) below

  pub replaces_signed : replaces T m n ≡ true → signed ≡ true
  replaces_signed e = by signed refl
    where
      by : (b : Bool) → signed ≡ b → signed ≡ true
      by true f = f
      by false f = absurd (not_both (replaces T m n) e (not_signed f))

  pub replaces_named : replaces T m n ≡ true → method_name_of T m ≡ method_name_of T n
  replaces_named e = by (bytes_eq (method_name_of T m) (method_name_of T n)) refl
    where
      by : (b : Bool) → bytes_eq (method_name_of T m) (method_name_of T n) ≡ b → method_name_of T m ≡ method_name_of T n
      by true f = same_bytes (method_name_of T m) (method_name_of T n) f
      by false f = absurd (not_both signed (replaces_signed e) (unnamed T (owner T m) m n f))

-- ---- in steps

-- a method of n, for which a test holds
pub record Found (n : ℕ) (f : MethodId → Bool) : Type 0 where
  pub id : MethodId
  pub within : id.0 < n
  pub holds : f id ≡ true

module _ (T : Table) (holds : MethodId → Bool) (p : MethodId) where
  abbrev steps_to : MethodId → Bool
  steps_to q = holds q && replaces T q p

  some_found : (i : ℕ) (ds : List MethodDecl) → is_replaced_by_some T holds p i ds ≡ true → Found (i + length ds) steps_to
  some_found i [] e = cc
  some_found i (d ∷ ds) e = by (steps_to (record { 0 = i })) refl (λ g. some_found (i + 1) ds g) e
    where
      by : (b : Bool) → steps_to (record { 0 = i }) ≡ b → (is_replaced_by_some T holds p (i + 1) ds ≡ true → Found (i + 1 + length ds) steps_to) → (b || is_replaced_by_some T holds p (i + 1) ds) ≡ true → Found (i + length (d ∷ ds)) steps_to
      by true f g e = record { id = record { 0 = i }; within = omega arith; holds = f }
      by false f g e = let rest = g e in let low : rest.id.0 < i + 1 + length ds = rest.within in record { id = rest.id; within = omega arith; holds = rest.holds }

  found_some : (q : MethodId) (i : ℕ) (ds : List MethodDecl) → i ≤ q.0 → q.0 < i + length ds → steps_to q ≡ true → is_replaced_by_some T holds p i ds ≡ true
  found_some q i [] from to e = absurd (omega arith)
  found_some q i (d ∷ ds) from to e = by (q.0 == i) refl (λ low. found_some q (i + 1) ds low (omega arith) e)
    where
      up : (q.0 == i) ≡ false → i + 1 ≤ q.0
      up f = grind (arith, nat_tests)

      by : (b : Bool) → (q.0 == i) ≡ b → (i + 1 ≤ q.0 → is_replaced_by_some T holds p (i + 1) ds ≡ true) → (steps_to (record { 0 = i }) || is_replaced_by_some T holds p (i + 1) ds) ≡ true
      by true f g =
          let is : q.0 ≡ i = equal_numbers q.0 i f in
          ap (λ b. b || is_replaced_by_some T holds p (i + 1) ds) (subst (λ k. steps_to (record { 0 = k }) ≡ true) is e)
      by false f g = or_right (steps_to (record { 0 = i })) (is_replaced_by_some T holds p (i + 1) ds) (g (up f))

-- the numbers of methods are the methods
same_method : (m n : MethodId) → (m.0 == n.0) ≡ true → m ≡ n
same_method m n e = ap (λ j. record { 0 = j }) (equal_numbers m.0 n.0 e)

module _ (T : Table) (m : MethodId) where
  abbrev some_step : ℕ → MethodId → Bool
  some_step n p = is_replaced_by_some T (reaches_within T n m) p 0 T.methods

  pub here : (n : ℕ) → reaches_within T n m m ≡ true
  unfolding reaches_within
  here zero = self_equal m.0
  here (suc n) = ap (λ b. b || some_step n m) (self_equal m.0)

  pub step : (n : ℕ) (q p : MethodId) → q.0 < length T.methods → reaches_within T n m q ≡ true → replaces T q p ≡ true → reaches_within T (suc n) m p ≡ true
  unfolding reaches_within
  step n q p within e r =
      or_right (m.0 == p.0) (some_step n p)
      (found_some T (reaches_within T n m) p q 0 T.methods (omega arith) (omega arith) (and_from (reaches_within T n m q) (replaces T q p) e r))

  -- the last step of a way to p
  pub last : (n : ℕ) (p : MethodId) → reaches_within T (suc n) m p ≡ true → (m ≡ p) ⊎ Found (length T.methods) (λ q. reaches_within T n m q && replaces T q p)
  unfolding reaches_within
  last n p e = by (or_cases (m.0 == p.0) (some_step n p) e)
    where
      by : ((m.0 == p.0) ≡ true) ⊎ (some_step n p ≡ true) → (m ≡ p) ⊎ Found (length T.methods) (λ q. reaches_within T n m q && replaces T q p)
      by (inl f) = inl (same_method m p f)
      by (inr f) =
          let q = some_found T (reaches_within T n m) p 0 T.methods f in
          let low : q.id.0 < 0 + length T.methods = q.within in
          inr (record { id = q.id; within = omega arith; holds = q.holds })

  pub first_told : (p : MethodId) → reaches_within T 0 m p ≡ true → m ≡ p
  unfolding reaches_within
  first_told p e = same_method m p e

  pub further : (n : ℕ) (p : MethodId) → reaches_within T n m p ≡ true → reaches_within T (suc n) m p ≡ true
  further zero p e = subst (λ q. reaches_within T 1 m q ≡ true) (first_told p e) (here 1)
  further (suc n) p e = by (last n p e) (λ q e. further n q e)
    where
      by : (m ≡ p) ⊎ Found (length T.methods) (λ q. reaches_within T n m q && replaces T q p) → ((q : MethodId) → reaches_within T n m q ≡ true → reaches_within T (suc n) m q ≡ true) → reaches_within T (suc (suc n)) m p ≡ true
      by (inl is) h = subst (λ q. reaches_within T (suc (suc n)) m q ≡ true) is (here (suc (suc n)))
      by (inr q) h =
          let both = and_parts (reaches_within T n m q.id) (replaces T q.id p) q.holds in
          step (suc n) q.id p q.within (h q.id both.0) both.1

  -- what holds of m, and goes from each method to those that it replaces
  module _ (P : MethodId → Type 0) (first : P m) (next : (q p : MethodId) → q.0 < length T.methods → P q → replaces T q p ≡ true → P p) where
    within_told : (n : ℕ) (p : MethodId) → reaches_within T n m p ≡ true → P p
    within_told zero p e = subst P (first_told p e) first
    within_told (suc n) p e = by (last n p e) (λ q e. within_told n q e)
      where
        by : (m ≡ p) ⊎ Found (length T.methods) (λ q. reaches_within T n m q && replaces T q p) → ((q : MethodId) → reaches_within T n m q ≡ true → P q) → P p
        by (inl is) h = subst P is first
        by (inr q) h =
            let both = and_parts (reaches_within T n m q.id) (replaces T q.id p) q.holds in
            next q.id p q.within (h q.id both.0) both.1

    pub reached_told : (p : MethodId) → reaches T m p ≡ true → P p
    reached_told p e = within_told (length T.methods) p e

  pub reaches_named : (p : MethodId) → reaches T m p ≡ true → method_name_of T m ≡ method_name_of T p
  reaches_named p e = reached_told (λ q. method_name_of T m ≡ method_name_of T q) refl (λ q p within f r. f ∙ replaces_named T q p r) p e
