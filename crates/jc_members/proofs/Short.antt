-- Substitution by fewer types than there are variables, or by more.
use Rattle.std.proofs.Common.{◌≡◌, ◌⊎◌, inl, inr, ℕ, zero, suc, ◌≤◌, ◌==◌, min, List, [], ◌∷◌, map, take, length, if◌then◌else◌, arith, refl, ap}
use Rattle.std.specs.Option.{option_map}
use Rattle.jc_types.specs.declared.form.Ty.{Ty, Ty-F, fold-Ty}
use Rattle.jc_types.specs.declared.form.Arg.{Arg, roll-Arg}
use Rattle.jc_types.specs.declared.ids.VarId.{VarId}
use Rattle.jc_types.specs.declared.ids.MethodId.{MethodId}
use Rattle.jc_types.specs.declared.table.Table.{Table}
use Rattle.jc_types.specs.Substitution.{subst, subst_step, replacement}
use Rattle.jc_types.specs.Accessors.{bounds_of, method_vars_of, params_of, result_of, thrown_of, is_variable_arity}
use Rattle.jc_overriding.specs.declared.view.MethodView.{MethodView}
use Rattle.jc_overriding.specs.Viewing.{viewed_with}

replaced_cut : (n : ℕ) (vars : List VarId) (by : List Ty) (v : VarId) → n ≤ length vars → n ≤ length by → (n ≡ length vars) ⊎ (n ≡ length by) → replacement (take n vars) (take n by) v ≡ replacement vars by v
replaced_cut zero [] by v l m o = refl
replaced_cut zero (w ∷ ws) [] v l m o = refl
replaced_cut zero (w ∷ ws) (t ∷ ts) v l m (inl e) = absurd (omega arith)
replaced_cut zero (w ∷ ws) (t ∷ ts) v l m (inr e) = absurd (omega arith)
replaced_cut (suc n) [] by v l m o = absurd (omega arith)
replaced_cut (suc n) (w ∷ ws) [] v l m o = absurd (omega arith)
replaced_cut (suc n) (w ∷ ws) (t ∷ ts) v l m o = ap (λ r. if w.0 == v.0 then t else r) (replaced_cut n ws ts v (omega arith) (omega arith) (less o))
  where
    less : (suc n ≡ length (w ∷ ws)) ⊎ (suc n ≡ length (t ∷ ts)) → (n ≡ length ws) ⊎ (n ≡ length ts)
    less (inl e) = inl (omega arith)
    less (inr e) = inr (omega arith)

step_cut : (vs ws : List VarId) (ss ts : List Ty) → ((v : VarId) → replacement vs ss v ≡ replacement ws ts v) → (l : Ty-F Arg Ty) → subst_step vs ss l ≡ subst_step ws ts l
step_cut vs ws ss ts h (Ty-F.Variable v) = h v
step_cut vs ws ss ts h (Ty-F.Array t n) = refl
step_cut vs ws ss ts h (Ty-F.Prim p) = refl
step_cut vs ws ss ts h (Ty-F.Class i xs) = refl
step_cut vs ws ss ts h (Ty-F.Raw i) = refl
step_cut vs ws ss ts h (Ty-F.Captured c) = refl
step_cut vs ws ss ts h (Ty-F.Meet us) = refl
step_cut vs ws ss ts h Ty-F.NullTy = refl

same_subst : (vs ws : List VarId) (ss ts : List Ty) → ((v : VarId) → replacement vs ss v ≡ replacement ws ts v) → subst vs ss ≡ subst ws ts
unfolding subst
same_subst vs ws ss ts h = λ i t. fold-Ty Arg Ty roll-Arg (λ l. step_cut vs ws ss ts h l i) t

cut : (n : ℕ) (vars : List VarId) (by : List Ty) → n ≡ min (length vars) (length by) → subst (take n vars) (take n by) ≡ subst vars by
cut n vars by e = same_subst (take n vars) vars (take n by) by (λ v. replaced_cut n vars by v (omega arith) (omega arith) (one n (length vars) (length by) e))
  where
    one : (n a b : ℕ) → n ≡ min a b → (n ≡ a) ⊎ (n ≡ b)
    one n a b e = grind arith

pub subst_short : (n : ℕ) (vars : List VarId) (by : List Ty) (t : Ty) → n ≡ min (length vars) (length by) → subst (take n vars) (take n by) t ≡ subst vars by t
subst_short n vars by t e = ap (λ (f : Ty → Ty). f t) (cut n vars by e)

abbrev viewed_through : Table → MethodId → (Ty → Ty) → MethodView
viewed_through T m f =
    record {
      id = m;
      vars = method_vars_of T m;
      bounds = map (λ v. map f (bounds_of T v)) (method_vars_of T m);
      params = map f (params_of T m);
      result = option_map f (result_of T m);
      thrown = map f (thrown_of T m);
      variable = is_variable_arity T m;
    }

pub viewed_short : (n : ℕ) (T : Table) (m : MethodId) (vars : List VarId) (by : List Ty) → n ≡ min (length vars) (length by) → viewed_with T m (take n vars) (take n by) ≡ viewed_with T m vars by
viewed_short n T m vars by e = ap (viewed_through T m) (cut n vars by e)
