-- What an array keeps, at each variant.
use Rattle.std.proofs.Common.{◌≡◌, ℕ, List, length, map, replicate, ap, ◌∙◌}
use Rattle.jc_types.specs.declared.form.Ty.{Ty, out-Ty, map-Ty, Ty-F, fold_out-Ty}
use Rattle.jc_types.specs.declared.form.Ty.TheVariants.{Prim, Class, Raw, Array, Variable, Captured, Meet, NullTy, outs-Prim, outs-Class, outs-Raw, outs-Array, outs-Variable, outs-Captured, outs-Meet, outs-NullTy, rolls-Prim, rolls-Class, rolls-Array, rolls-Variable, rolls-Captured, rolls-Meet, rolls-NullTy}
use Rattle.jc_types.specs.declared.form.Arg.{Arg, out-Arg, roll-Arg, map-Arg, Arg-F, fold_out-Arg}
use Rattle.jc_types.specs.declared.form.Arg.TheVariants.{Exact, Any, Extends, Super, outs-Exact, outs-Any, outs-Extends, outs-Super, rolls-Exact, rolls-Any, rolls-Extends, rolls-Super}
use Rattle.jc_types.specs.declared.ids.ClassId.{ClassId}
use Rattle.jc_types.specs.declared.ids.VarId.{VarId}
use Rattle.jc_types.specs.declared.ids.CaptureId.{CaptureId}
use Rattle.jc_types.specs.declared.form.Primitive as kind
use Rattle.jc_types.specs.declared.table.Table.{Table}
use Rattle.jc_types.specs.Accessors.{vars_of}
use Rattle.jc_meaning.specs.Kept.{kept_array, unbounded_step}
use Rattle.jc_kept.specs.Arguments.{unbounded_arg}

module _ (T : Table) where
  pub kept_out : (t : Ty) → kept_array T t ≡ unbounded_step T (map-Ty Arg Ty Arg Ty (unbounded_arg T) (kept_array T) (out-Ty t))
  unfolding kept_array unbounded_arg
  kept_out t = fold_out-Ty Arg Ty roll-Arg (unbounded_step T) t

  pub unbounded_arg_out : (a : Arg) → unbounded_arg T a ≡ roll-Arg (map-Arg Arg Ty Arg Ty (unbounded_arg T) (kept_array T) (out-Arg a))
  unfolding kept_array unbounded_arg
  unbounded_arg_out a = fold_out-Arg Arg Ty roll-Arg (unbounded_step T) a

  pub kept-Prim : (p : kind.Primitive) → kept_array T (Prim p) ≡ Prim p
  kept-Prim p = kept_out (Prim p) ∙ ap (λ (l : Ty-F Arg Ty). unbounded_step T (map-Ty Arg Ty Arg Ty (unbounded_arg T) (kept_array T) l)) (outs-Prim p) ∙ rolls-Prim _

  pub kept-Class : (i : ClassId) (xs : List Arg) → kept_array T (Class i xs) ≡ Class i (map (unbounded_arg T) xs)
  kept-Class i xs = kept_out (Class i xs) ∙ ap (λ (l : Ty-F Arg Ty). unbounded_step T (map-Ty Arg Ty Arg Ty (unbounded_arg T) (kept_array T) l)) (outs-Class i xs) ∙ rolls-Class _ _

  pub kept-Raw : (i : ClassId) → kept_array T (Raw i) ≡ Class i (replicate (length (vars_of T i)) Any)
  kept-Raw i = kept_out (Raw i) ∙ ap (λ (l : Ty-F Arg Ty). unbounded_step T (map-Ty Arg Ty Arg Ty (unbounded_arg T) (kept_array T) l)) (outs-Raw i)

  pub kept-Array : (t : Ty) (n : ℕ) → kept_array T (Array t n) ≡ Array (kept_array T t) n
  kept-Array t n = kept_out (Array t n) ∙ ap (λ (l : Ty-F Arg Ty). unbounded_step T (map-Ty Arg Ty Arg Ty (unbounded_arg T) (kept_array T) l)) (outs-Array t n) ∙ rolls-Array _ _

  pub kept-Variable : (v : VarId) → kept_array T (Variable v) ≡ Variable v
  kept-Variable v = kept_out (Variable v) ∙ ap (λ (l : Ty-F Arg Ty). unbounded_step T (map-Ty Arg Ty Arg Ty (unbounded_arg T) (kept_array T) l)) (outs-Variable v) ∙ rolls-Variable _

  pub kept-Captured : (c : CaptureId) → kept_array T (Captured c) ≡ Captured c
  kept-Captured c = kept_out (Captured c) ∙ ap (λ (l : Ty-F Arg Ty). unbounded_step T (map-Ty Arg Ty Arg Ty (unbounded_arg T) (kept_array T) l)) (outs-Captured c) ∙ rolls-Captured _

  pub kept-Meet : (ts : List Ty) → kept_array T (Meet ts) ≡ Meet (map (kept_array T) ts)
  kept-Meet ts = kept_out (Meet ts) ∙ ap (λ (l : Ty-F Arg Ty). unbounded_step T (map-Ty Arg Ty Arg Ty (unbounded_arg T) (kept_array T) l)) (outs-Meet ts) ∙ rolls-Meet _

  pub kept-NullTy : kept_array T NullTy ≡ NullTy
  kept-NullTy = kept_out NullTy ∙ ap (λ (l : Ty-F Arg Ty). unbounded_step T (map-Ty Arg Ty Arg Ty (unbounded_arg T) (kept_array T) l)) (outs-NullTy) ∙ rolls-NullTy

  pub unbounded_arg-Exact : (t : Ty) → unbounded_arg T (Exact t) ≡ Exact (kept_array T t)
  unbounded_arg-Exact t = unbounded_arg_out (Exact t) ∙ ap (λ (l : Arg-F Arg Ty). roll-Arg (map-Arg Arg Ty Arg Ty (unbounded_arg T) (kept_array T) l)) (outs-Exact t) ∙ rolls-Exact _

  pub unbounded_arg-Any : unbounded_arg T Any ≡ Any
  unbounded_arg-Any = unbounded_arg_out Any ∙ ap (λ (l : Arg-F Arg Ty). roll-Arg (map-Arg Arg Ty Arg Ty (unbounded_arg T) (kept_array T) l)) (outs-Any) ∙ rolls-Any

  pub unbounded_arg-Extends : (t : Ty) → unbounded_arg T (Extends t) ≡ Extends (kept_array T t)
  unbounded_arg-Extends t = unbounded_arg_out (Extends t) ∙ ap (λ (l : Arg-F Arg Ty). roll-Arg (map-Arg Arg Ty Arg Ty (unbounded_arg T) (kept_array T) l)) (outs-Extends t) ∙ rolls-Extends _

  pub unbounded_arg-Super : (t : Ty) → unbounded_arg T (Super t) ≡ Super (kept_array T t)
  unbounded_arg-Super t = unbounded_arg_out (Super t) ∙ ap (λ (l : Arg-F Arg Ty). roll-Arg (map-Arg Arg Ty Arg Ty (unbounded_arg T) (kept_array T) l)) (outs-Super t) ∙ rolls-Super _

pub ruleset unbounded = (kept-Prim, kept-Class, kept-Raw, kept-Array, kept-Variable, kept-Captured, kept-Meet, kept-NullTy, unbounded_arg-Exact, unbounded_arg-Any, unbounded_arg-Extends, unbounded_arg-Super)
