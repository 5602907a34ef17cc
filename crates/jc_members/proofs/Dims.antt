-- Array dimensions.
use Rattle.std.proofs.Common.{◌≡◌, ℕ, zero, suc, ◌+◌, ◌-◌, ◌<◌, arith, refl, sym, ap, ◌∙◌}
use Rattle.jc_types.specs.declared.form.Ty.{Ty, Ty-F, out-Ty}
use Rattle.jc_types.specs.declared.form.Ty.TheVariants.{Array, Variable, outs-Array}
use Rattle.jc_overriding.specs.declared.view.MethodView.{MethodView}
use Rattle.jc_overriding.specs.Signatures.{leftmost, leftmost_at}
use Rattle.jc_types.specs.declared.form.Arg.{Arg}
use Rattle.jc_types.specs.Arrays.{array_over, array_over_at}
use Rattle.jc_overriding.specs.Viewing.{with_dims}

pub with_some_dims : (d : ℕ) (t : Ty) → 0 < d → with_dims d t ≡ array_over (d - 1) t
with_some_dims zero t lt = absurd (omega arith)
with_some_dims (suc n) t lt = let e : n ≡ suc n - 1 = omega arith in ap (λ n. array_over n t) e

over_array : (n m : ℕ) (t : Ty) → array_over n (Array t m) ≡ Array t (m + n + 1)
unfolding array_over
over_array n m t = ap (array_over_at n (Array t m)) (outs-Array t m)

over_over_at : (n m : ℕ) (t : Ty) (l : Ty-F Arg Ty) → array_over n (array_over_at m t l) ≡ array_over_at (m + n + 1) t l
over_over_at n m t (Ty-F.Array u k) = over_array n (k + m + 1) u ∙ ap (Array u) (omega arith)
over_over_at n m t (Ty-F.Prim p) = over_array n m t
over_over_at n m t (Ty-F.Class i xs) = over_array n m t
over_over_at n m t (Ty-F.Raw i) = over_array n m t
over_over_at n m t (Ty-F.Variable v) = over_array n m t
over_over_at n m t (Ty-F.Captured v) = over_array n m t
over_over_at n m t (Ty-F.Meet ts) = over_array n m t
over_over_at n m t Ty-F.NullTy = over_array n m t

over_over : (n m : ℕ) (t : Ty) → array_over n (array_over m t) ≡ array_over (m + n + 1) t
unfolding array_over
over_over n m t = over_over_at n m t (out-Ty t)

-- dimensions round an array's
pub dims_over : (d n : ℕ) (t : Ty) → with_dims d (array_over n t) ≡ with_dims (d + (n + 1)) t
dims_over zero n t = let e : suc n ≡ 0 + (n + 1) = omega arith in ap (λ k. with_dims k t) e
dims_over (suc d) n t = let e : suc (n + d + 1) ≡ suc d + (n + 1) = omega arith in over_over d n t ∙ ap (λ k. with_dims k t) e

-- one step towards a leftmost bound
pub left_goes : (b : MethodView) (n : ℕ) (t : Ty) → 0 < n → leftmost b n t ≡ leftmost_at (leftmost b (n - 1)) b t (out-Ty t)
unfolding leftmost
left_goes b zero t lt = absurd (omega arith)
left_goes b (suc n) t lt = let e : n ≡ suc n - 1 = omega arith in ap (λ k. leftmost_at (leftmost b k) b t (out-Ty t)) e

pub left_array : (b : MethodView) (n d e k : ℕ) (t u : Ty) → 0 < n → t ≡ Array u k → e ≡ d + (k + 1) → with_dims e (leftmost b (n - 1) u) ≡ with_dims d (leftmost b n t)
left_array b n d e k t u lt is sum =
    ap (λ e. with_dims e (leftmost b (n - 1) u)) sum ∙ sym (dims_over d k (leftmost b (n - 1) u))
    ∙ ap (λ l. with_dims d (leftmost_at (leftmost b (n - 1)) b t l)) (sym (outs-Array u k) ∙ ap out-Ty (sym is)) ∙ ap (with_dims d) (sym (left_goes b n t lt))

pub left_none : (b : MethodView) (t : Ty) → leftmost b 0 t ≡ t
unfolding leftmost
left_none b t = refl

pub ruleset dims_laws = (left_goes, left_none)
