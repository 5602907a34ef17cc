-- The count of each variant.
use Rattle.std.proofs.Common.{◌≡◌, ℕ, ◌+◌, List, map, sum, ap, ◌∙◌}
use Rattle.jc_types.specs.declared.form.Ty.{Ty, out-Ty, map-Ty, Ty-F, fold_out-Ty}
use Rattle.jc_types.specs.declared.form.Ty.TheVariants.{Prim, Class, Raw, Array, Variable, Captured, Meet, NullTy, outs-Prim, outs-Class, outs-Raw, outs-Array, outs-Variable, outs-Captured, outs-Meet, outs-NullTy}
use Rattle.jc_types.specs.declared.form.Arg.{Arg, out-Arg, map-Arg, Arg-F, fold_out-Arg}
use Rattle.jc_types.specs.declared.form.Arg.TheVariants.{Exact, Any, Extends, Super, outs-Exact, outs-Any, outs-Extends, outs-Super}
use Rattle.jc_types.specs.declared.form.Primitive as kind
use Rattle.jc_types.specs.declared.ids.ClassId.{ClassId}
use Rattle.jc_types.specs.declared.ids.VarId.{VarId}
use Rattle.jc_types.specs.declared.ids.CaptureId.{CaptureId}
use Rattle.jc_types.specs.Counting.{count_of, arg_count_of, count_step, count_arg_step}

abbrev of_layer : Ty-F Arg Ty → ℕ
of_layer l = count_step (map-Ty Arg Ty ℕ ℕ arg_count_of count_of l)

abbrev of_arg_layer : Arg-F Arg Ty → ℕ
of_arg_layer l = count_arg_step (map-Arg Arg Ty ℕ ℕ arg_count_of count_of l)

count_out : (t : Ty) → count_of t ≡ of_layer (out-Ty t)
unfolding count_of arg_count_of
count_out t = fold_out-Ty ℕ ℕ count_arg_step count_step t

arg_count_out : (a : Arg) → arg_count_of a ≡ of_arg_layer (out-Arg a)
unfolding count_of arg_count_of
arg_count_out a = fold_out-Arg ℕ ℕ count_arg_step count_step a

pub count-Prim : (p : kind.Primitive) → count_of (Prim p) ≡ 1
count-Prim p = count_out (Prim p) ∙ ap of_layer (outs-Prim p)

pub count-Class : (i : ClassId) (xs : List Arg) → count_of (Class i xs) ≡ sum (map arg_count_of xs) + 1
count-Class i xs = count_out (Class i xs) ∙ ap of_layer (outs-Class i xs)

pub count-Raw : (i : ClassId) → count_of (Raw i) ≡ 1
count-Raw i = count_out (Raw i) ∙ ap of_layer (outs-Raw i)

pub count-Array : (t : Ty) (n : ℕ) → count_of (Array t n) ≡ count_of t + n + 1
count-Array t n = count_out (Array t n) ∙ ap of_layer (outs-Array t n)

pub count-Variable : (v : VarId) → count_of (Variable v) ≡ 1
count-Variable v = count_out (Variable v) ∙ ap of_layer (outs-Variable v)

pub count-Captured : (c : CaptureId) → count_of (Captured c) ≡ 1
count-Captured c = count_out (Captured c) ∙ ap of_layer (outs-Captured c)

pub count-Meet : (ts : List Ty) → count_of (Meet ts) ≡ sum (map count_of ts) + 1
count-Meet ts = count_out (Meet ts) ∙ ap of_layer (outs-Meet ts)

pub count-NullTy : count_of NullTy ≡ 1
count-NullTy = count_out NullTy ∙ ap of_layer outs-NullTy

pub count-Exact : (t : Ty) → arg_count_of (Exact t) ≡ count_of t
count-Exact t = arg_count_out (Exact t) ∙ ap of_arg_layer (outs-Exact t)

pub count-Any : arg_count_of Any ≡ 1
count-Any = arg_count_out Any ∙ ap of_arg_layer outs-Any

pub count-Extends : (t : Ty) → arg_count_of (Extends t) ≡ count_of t + 1
count-Extends t = arg_count_out (Extends t) ∙ ap of_arg_layer (outs-Extends t)

pub count-Super : (t : Ty) → arg_count_of (Super t) ≡ count_of t + 1
count-Super t = arg_count_out (Super t) ∙ ap of_arg_layer (outs-Super t)

pub ruleset counted = (count-Prim, count-Class, count-Raw, count-Array, count-Variable, count-Captured, count-Meet, count-NullTy, count-Exact, count-Any, count-Extends, count-Super)
