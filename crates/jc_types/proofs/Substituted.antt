-- Substitution at each variant.
use Rattle.std.proofs.Common.{◌≡◌, ℕ, zero, suc, ◌+◌, ◌<◌, ◌==◌, Bool, false, List, [], ◌∷◌, length, map, drop, get_or, if◌then◌else◌, arith, ap, subst as along, ◌∙◌}
use Rattle.jc_types.specs.declared.form.Ty.{Ty, out-Ty, map-Ty, Ty-F, fold_out-Ty}
use Rattle.jc_types.specs.declared.form.Ty.TheVariants.{Prim, Class, Raw, Array, Variable, Captured, Meet, NullTy, outs-Prim, outs-Class, outs-Raw, outs-Array, outs-Variable, outs-Captured, outs-Meet, outs-NullTy, rolls-Prim, rolls-Class, rolls-Raw, rolls-Captured, rolls-Meet, rolls-NullTy}
use Rattle.jc_types.specs.declared.form.Arg.{Arg, out-Arg, roll-Arg, map-Arg, Arg-F, fold_out-Arg}
use Rattle.jc_types.specs.declared.form.Arg.TheVariants.{Exact, Any, Extends, Super, outs-Exact, outs-Any, outs-Extends, outs-Super, rolls-Exact, rolls-Any, rolls-Extends, rolls-Super}
use Rattle.jc_types.specs.declared.ids.ClassId.{ClassId}
use Rattle.jc_types.specs.declared.ids.VarId.{VarId}
use Rattle.jc_types.specs.declared.ids.CaptureId.{CaptureId}
use Rattle.jc_types.specs.declared.form.Primitive as kind
use Rattle.jc_types.specs.Arrays.{array_over}
use Rattle.jc_types.specs.Substitution.{subst, subst_arg, subst_step, replacement}

module _ (vars : List VarId) (by : List Ty) where
  pub subst_out : (t : Ty) → subst vars by t ≡ subst_step vars by (map-Ty Arg Ty Arg Ty (subst_arg vars by) (subst vars by) (out-Ty t))
  unfolding subst subst_arg
  subst_out t = fold_out-Ty Arg Ty roll-Arg (subst_step vars by) t

  pub subst_arg_out : (a : Arg) → subst_arg vars by a ≡ roll-Arg (map-Arg Arg Ty Arg Ty (subst_arg vars by) (subst vars by) (out-Arg a))
  unfolding subst subst_arg
  subst_arg_out a = fold_out-Arg Arg Ty roll-Arg (subst_step vars by) a

  pub subst-Prim : (p : kind.Primitive) → subst vars by (Prim p) ≡ Prim p
  subst-Prim p = subst_out (Prim p) ∙ ap (λ (l : Ty-F Arg Ty). subst_step vars by (map-Ty Arg Ty Arg Ty (subst_arg vars by) (subst vars by) l)) (outs-Prim p) ∙ rolls-Prim _

  pub subst-Class : (i : ClassId) (xs : List Arg) → subst vars by (Class i xs) ≡ Class i (map (subst_arg vars by) xs)
  subst-Class i xs = subst_out (Class i xs) ∙ ap (λ (l : Ty-F Arg Ty). subst_step vars by (map-Ty Arg Ty Arg Ty (subst_arg vars by) (subst vars by) l)) (outs-Class i xs) ∙ rolls-Class _ _

  pub subst-Raw : (i : ClassId) → subst vars by (Raw i) ≡ Raw i
  subst-Raw i = subst_out (Raw i) ∙ ap (λ (l : Ty-F Arg Ty). subst_step vars by (map-Ty Arg Ty Arg Ty (subst_arg vars by) (subst vars by) l)) (outs-Raw i) ∙ rolls-Raw _

  pub subst-Array : (t : Ty) (n : ℕ) → subst vars by (Array t n) ≡ array_over n (subst vars by t)
  subst-Array t n = subst_out (Array t n) ∙ ap (λ (l : Ty-F Arg Ty). subst_step vars by (map-Ty Arg Ty Arg Ty (subst_arg vars by) (subst vars by) l)) (outs-Array t n)

  pub subst-Variable : (v : VarId) → subst vars by (Variable v) ≡ replacement vars by v
  subst-Variable v = subst_out (Variable v) ∙ ap (λ (l : Ty-F Arg Ty). subst_step vars by (map-Ty Arg Ty Arg Ty (subst_arg vars by) (subst vars by) l)) (outs-Variable v)

  pub subst-Captured : (c : CaptureId) → subst vars by (Captured c) ≡ Captured c
  subst-Captured c = subst_out (Captured c) ∙ ap (λ (l : Ty-F Arg Ty). subst_step vars by (map-Ty Arg Ty Arg Ty (subst_arg vars by) (subst vars by) l)) (outs-Captured c) ∙ rolls-Captured _

  pub subst-Meet : (ts : List Ty) → subst vars by (Meet ts) ≡ Meet (map (subst vars by) ts)
  subst-Meet ts = subst_out (Meet ts) ∙ ap (λ (l : Ty-F Arg Ty). subst_step vars by (map-Ty Arg Ty Arg Ty (subst_arg vars by) (subst vars by) l)) (outs-Meet ts) ∙ rolls-Meet _

  pub subst-NullTy : subst vars by NullTy ≡ NullTy
  subst-NullTy = subst_out NullTy ∙ ap (λ (l : Ty-F Arg Ty). subst_step vars by (map-Ty Arg Ty Arg Ty (subst_arg vars by) (subst vars by) l)) (outs-NullTy) ∙ rolls-NullTy

  pub subst_arg-Exact : (t : Ty) → subst_arg vars by (Exact t) ≡ Exact (subst vars by t)
  subst_arg-Exact t = subst_arg_out (Exact t) ∙ ap (λ (l : Arg-F Arg Ty). roll-Arg (map-Arg Arg Ty Arg Ty (subst_arg vars by) (subst vars by) l)) (outs-Exact t) ∙ rolls-Exact _

  pub subst_arg-Any : subst_arg vars by Any ≡ Any
  subst_arg-Any = subst_arg_out Any ∙ ap (λ (l : Arg-F Arg Ty). roll-Arg (map-Arg Arg Ty Arg Ty (subst_arg vars by) (subst vars by) l)) (outs-Any) ∙ rolls-Any

  pub subst_arg-Extends : (t : Ty) → subst_arg vars by (Extends t) ≡ Extends (subst vars by t)
  subst_arg-Extends t = subst_arg_out (Extends t) ∙ ap (λ (l : Arg-F Arg Ty). roll-Arg (map-Arg Arg Ty Arg Ty (subst_arg vars by) (subst vars by) l)) (outs-Extends t) ∙ rolls-Extends _

  pub subst_arg-Super : (t : Ty) → subst_arg vars by (Super t) ≡ Super (subst vars by t)
  subst_arg-Super t = subst_arg_out (Super t) ∙ ap (λ (l : Arg-F Arg Ty). roll-Arg (map-Arg Arg Ty Arg Ty (subst_arg vars by) (subst vars by) l)) (outs-Super t) ∙ rolls-Super _

pub ruleset substituted = (subst-Prim, subst-Class, subst-Raw, subst-Array, subst-Variable, subst-Captured, subst-Meet, subst-NullTy, subst_arg-Exact, subst_arg-Any, subst_arg-Extends, subst_arg-Super)

next_place : (vars : List VarId) (by : List Ty) (v d : VarId) (i : ℕ) → length vars ≡ length by → i < length vars → ((get_or vars i d).0 == v.0) ≡ false
    → replacement (drop i vars) (drop i by) v ≡ replacement (drop (suc i) vars) (drop (suc i) by) v
next_place [] by v d i same lt e = absurd (omega arith)
next_place (x ∷ vars) [] v d i same lt e = absurd (omega arith)
next_place (x ∷ vars) (t ∷ by) v d zero same lt e = ap (λ (b : Bool). if b then t else replacement vars by v) e
next_place (x ∷ vars) (t ∷ by) v d (suc i) same lt e = next_place vars by v d i (omega arith) (omega arith) e

-- past a variable that is another one
pub passed : (vars : List VarId) (by : List Ty) (v d : VarId) (i : ℕ) → length vars ≡ length by → i < length vars → ((get_or vars i d).0 == v.0) ≡ false
    → replacement (drop i vars) (drop i by) v ≡ replacement (drop (i + 1) vars) (drop (i + 1) by) v
passed vars by v d i same lt e =
    along (λ n. replacement (drop i vars) (drop i by) v ≡ replacement (drop n vars) (drop n by) v) (let next : suc i ≡ i + 1 = omega arith in next) (next_place vars by v d i same lt e)
