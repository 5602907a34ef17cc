-- The least of several breaks.
use Rattle.std.proofs.lemmas.Bool.Decides.{nat_tests}
use Rattle.std.proofs.Common.{arith, ◌≡◌, ◌⊎◌, inl, inr, Bool, true, false, Option, Some, None, List, [], ◌∷◌, ◌++◌, refl, sym, subst, if◌then◌else◌}
use Rattle.jc_rules.specs.declared.rule.Refusal.{Refusal}
use Rattle.jc_types.specs.Breaks.{before, IsLeast, LeastOf, sooner, least, IsOf}

pub least_append : (a : Option Refusal) (xs ys : List Refusal) → least a (xs ++ ys) ≡ least (least a xs) ys
least_append a [] ys = refl
least_append a (x ∷ xs) ys = least_append (sooner a (Some x)) xs ys

pub before_trans : (a b c : Refusal) → before b a ≡ false → before c b ≡ false → before c a ≡ false
before_trans a b c e f = grind (arith, nat_tests)

pub not_self : (a : Refusal) → before a a ≡ false
not_self a = grind (arith, nat_tests)

pub asym : (a b : Refusal) → before a b ≡ true → before b a ≡ false
asym a b e = grind (arith, nat_tests)

module _ (P Q : Refusal → Type 0) where
  abbrev pub Either : Refusal → Type 0
  Either b = P b ⊎ Q b

  by_test : (a b : Refusal) → IsLeast P a → IsLeast Q b → (t : Bool) → before b a ≡ t → LeastOf Either (if t then Some b else Some a)
  by_test a b h g true e = record { is = inr g.is; least = λ c o. by c o }
    where
      by : (c : Refusal) → P c ⊎ Q c → before c b ≡ false
      by c (inl p) = before_trans b a c (asym b a e) (h.least c p)
      by c (inr q) = g.least c q
  by_test a b h g false e = record { is = inl h.is; least = λ c o. by c o }
    where
      by : (c : Refusal) → P c ⊎ Q c → before c a ≡ false
      by c (inl p) = h.least c p
      by c (inr q) = before_trans a b c e (g.least c q)

  -- the sooner of two leasts is the least of both
  pub either : (a b : Option Refusal) → LeastOf P a → LeastOf Q b → LeastOf Either (sooner a b)
  either None None f g = λ c o. by c o
    where
      by : (c : Refusal) → P c ⊎ Q c → ⊥
      by c (inl p) = f c p
      by c (inr q) = g c q
  either None (Some b) f g = record { is = inr g.is; least = λ c o. by c o }
    where
      by : (c : Refusal) → P c ⊎ Q c → before c b ≡ false
      by c (inl p) = absurd (f c p)
      by c (inr q) = g.least c q
  either (Some a) None f g = record { is = inl f.is; least = λ c o. by c o }
    where
      by : (c : Refusal) → P c ⊎ Q c → before c a ≡ false
      by c (inl p) = f.least c p
      by c (inr q) = absurd (g c q)
  either (Some a) (Some b) f g = by_test a b f g (before b a) refl

-- the least of the same breaks, told in another way
pub told : (P Q : Refusal → Type 0) (a : Option Refusal) → ((b : Refusal) → P b → Q b) → ((b : Refusal) → Q b → P b) → LeastOf P a → LeastOf Q a
told P Q None f g h = λ c q. h c (g c q)
told P Q (Some a) f g h = record { is = f a h.is; least = λ c q. h.least c (g c q) }

pub just : (x : Refusal) → LeastOf (λ b. b ≡ x) (Some x)
just x = record { is = refl; least = λ c e. subst (λ c. before c x ≡ false) (sym e) (not_self x) }

onto : (P : Refusal → Type 0) (a : Option Refusal) (bs : List Refusal) → LeastOf P a → LeastOf (λ b. P b ⊎ IsOf b bs) (least a bs)
onto P a [] h = told P (λ b. P b ⊎ ⊥) a (λ b p. inl p) (λ b o. by b o) h
  where
    by : (b : Refusal) → P b ⊎ ⊥ → P b
    by b (inl p) = p
    by b (inr q) = absurd q
onto P a (x ∷ bs) h = told (λ b. (P b ⊎ (b ≡ x)) ⊎ IsOf b bs) (λ b. P b ⊎ IsOf b (x ∷ bs)) (least (sooner a (Some x)) bs) (λ b o. there b o) (λ b o. back b o)
    (onto (λ b. P b ⊎ (b ≡ x)) (sooner a (Some x)) bs (either P (λ b. b ≡ x) a (Some x) h (just x)))
  where
    there : (b : Refusal) → (P b ⊎ (b ≡ x)) ⊎ IsOf b bs → P b ⊎ IsOf b (x ∷ bs)
    there b (inl (inl p)) = inl p
    there b (inl (inr e)) = inr (inl e)
    there b (inr m) = inr (inr m)

    back : (b : Refusal) → P b ⊎ IsOf b (x ∷ bs) → (P b ⊎ (b ≡ x)) ⊎ IsOf b bs
    back b (inl p) = inl (inl p)
    back b (inr (inl e)) = inl (inr e)
    back b (inr (inr m)) = inr m

pub least_of : (bs : List Refusal) → LeastOf (λ b. IsOf b bs) (least None bs)
least_of bs = told (λ b. ⊥ ⊎ IsOf b bs) (λ b. IsOf b bs) (least None bs) (λ b o. by b o) (λ b m. inr m) (onto (λ b. ⊥) None bs (λ c p. p))
  where
    by : (b : Refusal) → ⊥ ⊎ IsOf b bs → IsOf b bs
    by b (inl p) = absurd p
    by b (inr m) = m
