-- The methods of a name.
use Rattle.std.proofs.Common.{◌≡◌, ◌⊎◌, inl, inr, ℕ, zero, suc, ◌+◌, ◌==◌, ◌<◌, ◌≤◌, arith, Bool, true, false, cond, List, [], ◌∷◌, length, refl, sym, ap, subst, ◌∙◌}
use Rattle.std.proofs.lemmas.Bool.Decides.{nat_tests}
use Rattle.std.specs.Str.{bytes_eq}
use Rattle.jc_rules.proofs.Truths.{same_bytes, own_bytes, equal_numbers}
use Rattle.jc_types.specs.declared.ids.MethodId.{MethodId}
use Rattle.jc_types.specs.declared.table.Table.{Table}
use Rattle.jc_types.specs.Accessors.{method_name_of}
use Rattle.jc_overriding.specs.Overriding.{has_name}
use Rattle.jc_members.specs.Named.{all_named, if_named, named_from}
use Rattle.jc_clashes.proofs.Lists.{In, in_either, in_left, in_right}

-- a method of the table that has the name
pub record IsNamed (T : Table) (x : List ℕ) (m : MethodId) : Type 0 where
  pub within : m.0 < length T.methods
  pub name : method_name_of T m ≡ x

module _ (T : Table) (x : List ℕ) where
  named_has : (m : MethodId) → method_name_of T m ≡ x → has_name T x m ≡ true
  named_has m e = ap (λ y. bytes_eq y x) e ∙ own_bytes x

  further : (i : ℕ) (m : MethodId) → (m.0 == i) ≡ false → i ≤ m.0 → suc i ≤ m.0
  further i m e le = grind (arith, nat_tests)

  in_from : (i n : ℕ) (m : MethodId) → i ≤ m.0 → m.0 < i + n → has_name T x m ≡ true → In m (named_from T x i n)
  in_from i zero m from to e = absurd (omega arith)
  in_from i (suc n) m from to e = by (m.0 == i) refl (λ low. in_from (suc i) n m low (omega arith) e)
    where
      by : (b : Bool) → (m.0 == i) ≡ b → (suc i ≤ m.0 → In m (named_from T x (suc i) n)) → In m (named_from T x i (suc n))
      by true f h =
          let is : m.0 ≡ i = equal_numbers m.0 i f in
          let here : has_name T x (record { 0 = i }) ≡ true = subst (λ j. has_name T x (record { 0 = j }) ≡ true) is e in
          in_left m (if_named T x i) (named_from T x (suc i) n) (subst (λ b. In m (cond b (record { 0 = i } ∷ []) [])) (sym here) (inl (ap (λ j. record { 0 = j }) is)))
      by false f h = in_right m (if_named T x i) (named_from T x (suc i) n) (h (further i m f from))

  from_in : (i n : ℕ) (m : MethodId) → In m (named_from T x i n) → (m.0 < i + n) × (has_name T x m ≡ true)
  from_in i zero m h = absurd h
  from_in i (suc n) m h = by (has_name T x (record { 0 = i })) refl (in_either m (if_named T x i) (named_from T x (suc i) n) h) (λ h. from_in (suc i) n m h)
    where
      here : m ≡ record { 0 = i } → m.0 < i + suc n
      here e = let is : m.0 ≡ i = ap (λ (j : MethodId). j.0) e in omega arith

      by : (b : Bool) → has_name T x (record { 0 = i }) ≡ b → In m (cond b (record { 0 = i } ∷ []) []) ⊎ In m (named_from T x (suc i) n)
          → (In m (named_from T x (suc i) n) → (m.0 < suc i + n) × (has_name T x m ≡ true)) → (m.0 < i + suc n) × (has_name T x m ≡ true)
      by true f (inl (inl e)) g = (here e, ap (has_name T x) e ∙ f)
      by true f (inl (inr h)) g = absurd h
      by false f (inl h) g = absurd h
      by true f (inr h) g = let rest = g h in let low : m.0 < suc i + n = rest.0 in (omega arith, rest.1)
      by false f (inr h) g = let rest = g h in let low : m.0 < suc i + n = rest.0 in (omega arith, rest.1)

  pub in_named : (m : MethodId) → IsNamed T x m → In m (all_named T x)
  in_named m h = let within : m.0 < length T.methods = h.within in in_from 0 (length T.methods) m (omega arith) (omega arith) (named_has m h.name)

  pub named_in : (m : MethodId) → In m (all_named T x) → IsNamed T x m
  named_in m h =
      let found = from_in 0 (length T.methods) m h in
      let low : m.0 < 0 + length T.methods = found.0 in
      record { within = omega arith; name = same_bytes (method_name_of T m) x found.1 }
