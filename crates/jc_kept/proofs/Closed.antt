-- A closed type at each variant.
use Rattle.std.proofs.Common.{◌≡◌, ℕ, List, map, get_or, ap, ◌∙◌}
use Rattle.jc_types.specs.declared.form.Ty.{Ty, out-Ty, map-Ty, Ty-F, fold_out-Ty}
use Rattle.jc_types.specs.declared.form.Ty.TheVariants.{Prim, Class, Raw, Array, Variable, Captured, Meet, NullTy, outs-Prim, outs-Class, outs-Raw, outs-Array, outs-Variable, outs-Captured, outs-Meet, outs-NullTy, rolls-Prim, rolls-Class, rolls-Raw, rolls-Meet, rolls-NullTy}
use Rattle.jc_types.specs.declared.form.Arg.{Arg, out-Arg, roll-Arg, map-Arg, Arg-F, fold_out-Arg}
use Rattle.jc_types.specs.declared.form.Arg.TheVariants.{Exact, Any, Extends, Super, outs-Exact, outs-Any, outs-Extends, outs-Super, rolls-Exact, rolls-Any, rolls-Extends, rolls-Super}
use Rattle.jc_types.specs.declared.ids.ClassId.{ClassId}
use Rattle.jc_types.specs.declared.ids.VarId.{VarId}
use Rattle.jc_types.specs.declared.ids.CaptureId.{CaptureId}
use Rattle.jc_types.specs.declared.form.Primitive as kind
use Rattle.jc_types.specs.Arrays.{array_over}
use Rattle.jc_meaning.specs.declared.frame.Binding.{Binding}
use Rattle.jc_meaning.specs.Kept.{bound_to, close, close_step}
use Rattle.jc_kept.specs.Arguments.{close_arg}

module _ (vars : List Binding) (captured : List Ty) where
  pub close_out : (t : Ty) → close vars captured t ≡ close_step vars captured (map-Ty Arg Ty Arg Ty (close_arg vars captured) (close vars captured) (out-Ty t))
  unfolding close close_arg
  close_out t = fold_out-Ty Arg Ty roll-Arg (close_step vars captured) t

  pub close_arg_out : (a : Arg) → close_arg vars captured a ≡ roll-Arg (map-Arg Arg Ty Arg Ty (close_arg vars captured) (close vars captured) (out-Arg a))
  unfolding close close_arg
  close_arg_out a = fold_out-Arg Arg Ty roll-Arg (close_step vars captured) a

  pub close-Prim : (p : kind.Primitive) → close vars captured (Prim p) ≡ Prim p
  close-Prim p = close_out (Prim p) ∙ ap (λ (l : Ty-F Arg Ty). close_step vars captured (map-Ty Arg Ty Arg Ty (close_arg vars captured) (close vars captured) l)) (outs-Prim p) ∙ rolls-Prim _

  pub close-Class : (i : ClassId) (xs : List Arg) → close vars captured (Class i xs) ≡ Class i (map (close_arg vars captured) xs)
  close-Class i xs = close_out (Class i xs) ∙ ap (λ (l : Ty-F Arg Ty). close_step vars captured (map-Ty Arg Ty Arg Ty (close_arg vars captured) (close vars captured) l)) (outs-Class i xs) ∙ rolls-Class _ _

  pub close-Raw : (i : ClassId) → close vars captured (Raw i) ≡ Raw i
  close-Raw i = close_out (Raw i) ∙ ap (λ (l : Ty-F Arg Ty). close_step vars captured (map-Ty Arg Ty Arg Ty (close_arg vars captured) (close vars captured) l)) (outs-Raw i) ∙ rolls-Raw _

  pub close-Array : (t : Ty) (n : ℕ) → close vars captured (Array t n) ≡ array_over n (close vars captured t)
  close-Array t n = close_out (Array t n) ∙ ap (λ (l : Ty-F Arg Ty). close_step vars captured (map-Ty Arg Ty Arg Ty (close_arg vars captured) (close vars captured) l)) (outs-Array t n)

  pub close-Variable : (v : VarId) → close vars captured (Variable v) ≡ bound_to v vars
  close-Variable v = close_out (Variable v) ∙ ap (λ (l : Ty-F Arg Ty). close_step vars captured (map-Ty Arg Ty Arg Ty (close_arg vars captured) (close vars captured) l)) (outs-Variable v)

  pub close-Captured : (c : CaptureId) → close vars captured (Captured c) ≡ get_or captured c.0 NullTy
  close-Captured c = close_out (Captured c) ∙ ap (λ (l : Ty-F Arg Ty). close_step vars captured (map-Ty Arg Ty Arg Ty (close_arg vars captured) (close vars captured) l)) (outs-Captured c)

  pub close-Meet : (ts : List Ty) → close vars captured (Meet ts) ≡ Meet (map (close vars captured) ts)
  close-Meet ts = close_out (Meet ts) ∙ ap (λ (l : Ty-F Arg Ty). close_step vars captured (map-Ty Arg Ty Arg Ty (close_arg vars captured) (close vars captured) l)) (outs-Meet ts) ∙ rolls-Meet _

  pub close-NullTy : close vars captured NullTy ≡ NullTy
  close-NullTy = close_out NullTy ∙ ap (λ (l : Ty-F Arg Ty). close_step vars captured (map-Ty Arg Ty Arg Ty (close_arg vars captured) (close vars captured) l)) (outs-NullTy) ∙ rolls-NullTy

  pub close_arg-Exact : (t : Ty) → close_arg vars captured (Exact t) ≡ Exact (close vars captured t)
  close_arg-Exact t = close_arg_out (Exact t) ∙ ap (λ (l : Arg-F Arg Ty). roll-Arg (map-Arg Arg Ty Arg Ty (close_arg vars captured) (close vars captured) l)) (outs-Exact t) ∙ rolls-Exact _

  pub close_arg-Any : close_arg vars captured Any ≡ Any
  close_arg-Any = close_arg_out Any ∙ ap (λ (l : Arg-F Arg Ty). roll-Arg (map-Arg Arg Ty Arg Ty (close_arg vars captured) (close vars captured) l)) (outs-Any) ∙ rolls-Any

  pub close_arg-Extends : (t : Ty) → close_arg vars captured (Extends t) ≡ Extends (close vars captured t)
  close_arg-Extends t = close_arg_out (Extends t) ∙ ap (λ (l : Arg-F Arg Ty). roll-Arg (map-Arg Arg Ty Arg Ty (close_arg vars captured) (close vars captured) l)) (outs-Extends t) ∙ rolls-Extends _

  pub close_arg-Super : (t : Ty) → close_arg vars captured (Super t) ≡ Super (close vars captured t)
  close_arg-Super t = close_arg_out (Super t) ∙ ap (λ (l : Arg-F Arg Ty). roll-Arg (map-Arg Arg Ty Arg Ty (close_arg vars captured) (close vars captured) l)) (outs-Super t) ∙ rolls-Super _

pub ruleset closed = (close-Prim, close-Class, close-Raw, close-Array, close-Variable, close-Captured, close-Meet, close-NullTy, close_arg-Exact, close_arg-Any, close_arg-Extends, close_arg-Super)
