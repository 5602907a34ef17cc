-- The views of several types as one class, and their arguments place by place.
use Rattle.std.specs.Prelude.{ℕ, ◌+◌, ◌==◌, ◌||◌, ◌&&◌, not, Bool, true, false, Option, Some, None, List, [], ◌∷◌, ◌++◌, length, slice_get, if◌then◌else◌}
use Rattle.jc_types.specs.declared.form.Arg.{Arg, Arg-F, out-Arg}
use Rattle.jc_types.specs.declared.form.Arg.TheVariants.{Any}
use Rattle.jc_types.specs.declared.form.Ty.{Ty}
use Rattle.jc_types.specs.declared.form.Ty.TheVariants.{Class, Raw}
use Rattle.jc_types.specs.declared.ids.ClassId.{ClassId}
use Rattle.jc_types.specs.declared.ids.VarId.{VarId}
use Rattle.jc_types.specs.declared.table.Table.{Table}
use Rattle.jc_types.specs.Accessors.{vars_of}
use Rattle.jc_judge.specs.Kinds.{ArgLayer}
use Rattle.jc_lub.specs.Uncaptured.{args_of, same_args}

-- one view is raw, or has another number of arguments than its class has parameters
abbrev pub one_raw : ℕ → List Ty → Bool
one_raw n [] = false
one_raw n (v ∷ vs) = not (length (args_of v) == n) || one_raw n vs

-- the argument at a place, and `?` where there is none
abbrev pub or_any : Option Arg → Arg
or_any (Some a) = a
or_any None = Any

-- the arguments of the views at one place
abbrev pub column : ℕ → List Ty → List Arg
column i [] = []
column i (v ∷ vs) = or_any (slice_get (args_of v) i) ∷ column i vs

-- each of these arguments is the same as a
abbrev pub all_same : Arg → List Arg → Bool
all_same a [] = true
all_same a (b ∷ bs) = same_args b a && all_same a bs

-- the type of an argument that bounds it from above; None of `?` and of `? super U`
abbrev pub upper_at : ArgLayer → Option Ty
upper_at (Arg-F.Exact t) = Some t
upper_at (Arg-F.Extends t) = Some t
upper_at _ = None

-- U of `U` and of `? extends U`
unfoldable pub upper_of : Arg → Option Ty
upper_of a = upper_at (out-Arg a)

-- types behind others, if there are any
abbrev pub behind : List Ty → Option (List Ty) → Option (List Ty)
behind ts None = None
behind ts (Some us) = Some (ts ++ us)

-- an upper bound before others, None where one is missing
abbrev pub with_upper : Option Ty → Option (List Ty) → Option (List Ty)
with_upper None os = None
with_upper (Some t) os = behind (t ∷ []) os

-- the types U, where all arguments are `U` or `? extends U`
abbrev pub uppers : List Arg → Option (List Ty)
uppers [] = Some []
uppers (a ∷ args) = with_upper (upper_of a) (uppers args)

-- f of the upper bounds, and `?` where an argument has none
abbrev pub joined_uppers : (List Ty → Arg) → Option (List Ty) → Arg
joined_uppers f None = Any
joined_uppers f (Some ts) = f ts

-- one argument for those of one place: equal ones stay, unequal ones are joined by f where each has an upper bound, any others give `?`
abbrev pub joined : (List Ty → Arg) → List Arg → Arg
joined f [] = Any
joined f (a ∷ args) = if all_same a args then a else joined_uppers f (uppers (a ∷ args))

-- place by place from place i on, for each parameter of the class
abbrev pub joined_from : (List Ty → Arg) → List Ty → ℕ → List VarId → List Arg
joined_from f vs i [] = []
joined_from f vs i (p ∷ ps) = joined f (column i vs) ∷ joined_from f vs (i + 1) ps

-- one type for the views as a class, which is raw where one of them is
unfoldable pub joined_views : Table → (List Ty → Arg) → ClassId → List Ty → Ty
joined_views T f k vs = if one_raw (length (vars_of T k)) vs then Raw k else Class k (joined_from f vs 0 (vars_of T k))
