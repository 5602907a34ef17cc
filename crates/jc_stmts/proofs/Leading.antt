-- Calls by `this` that lead from one constructor to another.
use Rattle.std.proofs.Common.{◌≡◌, ◌<◌, refl, ap, sym, ◌∙◌, ℕ, zero, suc, ◌+◌, ◌-◌, ◌==◌, ◌||◌, Bool, true, false, List, [], ◌∷◌, ◌++◌, length, Option, Some, None, nat_eq, cond, if◌then◌else◌, arith}
use Rattle.jc_types.specs.declared.ids.MethodId.{MethodId}
use Rattle.jc_stmts_spec.specs.Typed.{leads}
use Rattle.jc_stmts.specs.Targets.{first_of, or_next}

-- one step
pub leads_none : (next : MethodId → Option MethodId) (n : ℕ) (m : MethodId) → leads next n None m ≡ false
leads_none next zero m = refl
leads_none next (suc n) m = refl

pub leads_there : (next : MethodId → Option MethodId) (n : ℕ) (k m : MethodId) → (k.0 == m.0) ≡ true → leads next n (Some k) m ≡ true
leads_there next zero k m e = e
leads_there next (suc n) k m e = ap (λ b. b || leads next n (next k) m) e

pub leads_no_more : (next : MethodId → Option MethodId) (n : ℕ) (k m : MethodId) → n ≡ 0 → (k.0 == m.0) ≡ false → leads next n (Some k) m ≡ false
leads_no_more next zero k m z e = e
leads_no_more next (suc n) k m z e = absurd (omega (arith, z))

pub leads_on : (next : MethodId → Option MethodId) (n l : ℕ) (k m : MethodId) → n ≡ suc l → (k.0 == m.0) ≡ false → leads next n (Some k) m ≡ leads next l (next k) m
leads_on next zero l k m s e = absurd (omega (arith, s))
leads_on next (suc n) l k m s e =
    let same : n ≡ l = omega (arith, s) in
    ap (λ b. b || leads next n (next k) m) e ∙ ap (λ i. leads next i (next k) m) same

-- the same steps lead to the same
pub leads_same : (f g : MethodId → Option MethodId) → ((m : MethodId) → f m ≡ g m) → (n : ℕ) (x : Option MethodId) (m : MethodId) → leads f n x m ≡ leads g n x m
leads_same f g e zero None m = refl
leads_same f g e zero (Some k) m = refl
leads_same f g e (suc n) None m = refl
leads_same f g e (suc n) (Some k) m = ap (λ b. (k.0 == m.0) || b) (leads_same f g e n (f k) m ∙ ap (λ x. leads g n x m) (e k))

pub ruleset leading = (leads_none, leads_there, leads_no_more, leads_on)

-- what is found first counts
pub next_step : (o : Option (Option MethodId)) (b : Bool) (t y : Option MethodId) → or_next (first_of o b t) y ≡ or_next o (if b then t else y)
next_step (Some x) b t y = refl
next_step None true t y = refl
next_step None false t y = refl

pub first_there : (o : Option (Option MethodId)) (b : Bool) (t : Option MethodId) (x : Option MethodId) → o ≡ Some x → first_of o b t ≡ o
first_there (Some y) b t x e = refl
first_there None b t x e = cc

pub first_other : (o : Option (Option MethodId)) (t : Option MethodId) → first_of o false t ≡ o
first_other (Some y) t = refl
first_other None t = refl

pub ruleset targeting = (next_step, first_other)
