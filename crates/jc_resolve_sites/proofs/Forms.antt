-- The number above the variables of each form of type.
use Rattle.std.proofs.Common.{◌≡◌, ℕ, ◌+◌, List, map, ap, ◌∙◌}
use Rattle.jc_types.specs.declared.form.Ty.{Ty, out-Ty, map-Ty, Ty-F, fold_out-Ty}
use Rattle.jc_types.specs.declared.form.Ty.TheVariants.{Prim, Class, Raw, Array, Variable, Captured, Meet, NullTy, outs-Prim, outs-Class, outs-Raw, outs-Array, outs-Variable, outs-Captured, outs-Meet, outs-NullTy}
use Rattle.jc_types.specs.declared.form.Arg.{Arg, out-Arg, map-Arg, Arg-F, fold_out-Arg}
use Rattle.jc_types.specs.declared.form.Arg.TheVariants.{Exact, Any, Extends, Super, outs-Exact, outs-Any, outs-Extends, outs-Super}
use Rattle.jc_types.specs.declared.form.Primitive.{Primitive}
use Rattle.jc_types.specs.declared.ids.CaptureId.{CaptureId}
use Rattle.jc_types.specs.declared.ids.ClassId.{ClassId}
use Rattle.jc_types.specs.declared.ids.VarId.{VarId}
use Rattle.jc_resolve_sites.specs.Above.{above, above_in_arg, arg_above, greatest, type_above}

abbrev of_layer : Ty-F Arg Ty → ℕ
of_layer l = type_above (map-Ty Arg Ty ℕ ℕ above_in_arg above l)

abbrev of_arg_layer : Arg-F Arg Ty → ℕ
of_arg_layer l = arg_above (map-Arg Arg Ty ℕ ℕ above_in_arg above l)

above_out : (t : Ty) → above t ≡ of_layer (out-Ty t)
unfolding above above_in_arg
above_out t = fold_out-Ty ℕ ℕ arg_above type_above t

above_in_arg_out : (a : Arg) → above_in_arg a ≡ of_arg_layer (out-Arg a)
unfolding above above_in_arg
above_in_arg_out a = fold_out-Arg ℕ ℕ arg_above type_above a

pub above-Prim : (p : Primitive) → above (Prim p) ≡ 0
above-Prim p = above_out (Prim p) ∙ ap of_layer (outs-Prim p)

pub above-Class : (i : ClassId) (xs : List Arg) → above (Class i xs) ≡ greatest (map above_in_arg xs)
above-Class i xs = above_out (Class i xs) ∙ ap of_layer (outs-Class i xs)

pub above-Raw : (i : ClassId) → above (Raw i) ≡ 0
above-Raw i = above_out (Raw i) ∙ ap of_layer (outs-Raw i)

pub above-Array : (t : Ty) (n : ℕ) → above (Array t n) ≡ above t
above-Array t n = above_out (Array t n) ∙ ap of_layer (outs-Array t n)

pub above-Variable : (v : VarId) → above (Variable v) ≡ v.0 + 1
above-Variable v = above_out (Variable v) ∙ ap of_layer (outs-Variable v)

pub above-Captured : (c : CaptureId) → above (Captured c) ≡ 0
above-Captured c = above_out (Captured c) ∙ ap of_layer (outs-Captured c)

pub above-Meet : (ts : List Ty) → above (Meet ts) ≡ greatest (map above ts)
above-Meet ts = above_out (Meet ts) ∙ ap of_layer (outs-Meet ts)

pub above-NullTy : above NullTy ≡ 0
above-NullTy = above_out NullTy ∙ ap of_layer outs-NullTy

pub above_in_arg-Exact : (t : Ty) → above_in_arg (Exact t) ≡ above t
above_in_arg-Exact t = above_in_arg_out (Exact t) ∙ ap of_arg_layer (outs-Exact t)

pub above_in_arg-Any : above_in_arg Any ≡ 0
above_in_arg-Any = above_in_arg_out Any ∙ ap of_arg_layer outs-Any

pub above_in_arg-Extends : (t : Ty) → above_in_arg (Extends t) ≡ above t
above_in_arg-Extends t = above_in_arg_out (Extends t) ∙ ap of_arg_layer (outs-Extends t)

pub above_in_arg-Super : (t : Ty) → above_in_arg (Super t) ≡ above t
above_in_arg-Super t = above_in_arg_out (Super t) ∙ ap of_arg_layer (outs-Super t)

pub ruleset aboves = (above-Prim, above-Class, above-Raw, above-Array, above-Variable, above-Captured, above-Meet, above-NullTy, above_in_arg-Exact, above_in_arg-Any, above_in_arg-Extends, above_in_arg-Super)
