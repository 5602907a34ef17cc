-- The types that a running program keeps: what objects keep of theirs, and what type variables stand for.
use Rattle.std.specs.Prelude.{◌==◌, List, [], ◌∷◌, ◌++◌, map, length, replicate, Option, Some, None, slice_set, get_or, if◌then◌else◌}
use Rattle.jc_types.specs.declared.form.Ty.{Ty, Ty-F, out-Ty, roll-Ty, fold-Ty}
use Rattle.jc_types.specs.declared.form.Ty.TheVariants.{Class, NullTy, Prim, Array}
use Rattle.jc_types.specs.declared.form.Arg.{Arg, Arg-F, out-Arg, roll-Arg}
use Rattle.jc_types.specs.declared.form.Arg.TheVariants.{Exact, Any}
use Rattle.jc_types.specs.declared.form.Primitive.TheVariants.{Char}
use Rattle.jc_types.specs.declared.ids.ClassId.{ClassId}
use Rattle.jc_types.specs.declared.ids.VarId.{VarId}
use Rattle.jc_types.specs.declared.ids.CaptureId.{CaptureId}
use Rattle.jc_types.specs.declared.environment.Bounds.{Bounds}
use Rattle.jc_types.specs.declared.table.Table.{Table}
use Rattle.jc_types.specs.Accessors.{vars_of, lower_bound_of}
use Rattle.jc_types.specs.Arrays.{array_over}
use Rattle.jc_types.specs.Erasing.{erasure}
use Rattle.jc_judge.specs.Views.{view}
use Rattle.jc_running.specs.Outcomes.{Run, give}
use Rattle.jc_heaps.specs.declared.state.State.{State}
use Rattle.jc_heaps.specs.States.{change}
use Rattle.jc_meaning.specs.declared.frame.Binding.{Binding}
use Rattle.jc_meaning.specs.declared.frame.Frame.{Frame}
use Rattle.jc_meaning.specs.declared.frame.Read.{Read}
use Rattle.jc_heaps.specs.Making.{Keeping}

-- a state whose objects keep types, with the frame of the running method and the record of what was read
abbrev pub TypedState : Type 0
TypedState = State Ty Frame (List Read)

-- a computation on such a state
abbrev pub TypedRun : Type 0 → Type 0
TypedRun A = Run TypedState A

-- what a variable stands for: what it is bound to, or the null type
abbrev pub bound_to : VarId → List Binding → Ty
bound_to v [] = NullTy
bound_to v (b ∷ bs) = if b.variable.0 == v.0 then b.stands_for else bound_to v bs

-- .. by the outermost layer of the type, in which the variables are replaced already
abbrev pub close_step : List Binding → List Ty → Ty-F Arg Ty → Ty
close_step vars captured (Ty-F.Variable v) = bound_to v vars
close_step vars captured (Ty-F.Captured c) = get_or captured c.0 NullTy
close_step vars captured (Ty-F.Array t n) = array_over n t
close_step vars captured layer = roll-Ty layer

-- a type with what its variables stand for in their places
unfoldable pub close : List Binding → List Ty → Ty → Ty
close vars captured t = fold-Ty Arg Ty roll-Arg (close_step vars captured) t

-- type variables with what they are bound to; where there is nothing for one, it is the null type
abbrev pub bindings : List VarId → List Ty → List Binding
bindings [] ts = []
bindings (v ∷ vs) [] = record { variable = v; stands_for = NullTy } ∷ bindings vs []
bindings (v ∷ vs) (t ∷ ts) = record { variable = v; stands_for = t } ∷ bindings vs ts

-- the type of an argument; the null type where it is a wildcard
abbrev pub exact_or_null : Arg-F Arg Ty → Ty
exact_or_null (Arg-F.Exact t) = t
exact_or_null _ = NullTy

abbrev pub exact_types : List Arg → List Ty
exact_types args = map (λ a. exact_or_null (out-Arg a)) args

-- the arguments of a class type; none for another type
abbrev pub arguments_at : Ty-F Arg Ty → List Ty
arguments_at (Ty-F.Class id args) = exact_types args
arguments_at _ = []

abbrev pub arguments_in : Option Ty → List Ty
arguments_in (Some v) = arguments_at (out-Ty v)
arguments_in None = []

-- the arguments that a kept type has as a class (JLS 4.10.2); none where it has no such supertype, or a raw one
abbrev pub arguments_as : Table → ClassId → Ty → List Ty
arguments_as T k kept = arguments_in (view T k kept)

-- what the parameters of a class stand for in an object of a kept type
abbrev pub class_bindings : Table → ClassId → Ty → List Binding
class_bindings T k kept = bindings (vars_of T k) (arguments_as T k kept)

-- by the outermost layer of the type
abbrev pub kept_at : Table → Ty → Ty-F Arg Ty → Ty
kept_at T t (Ty-F.Raw k) = Class k (replicate (length (vars_of T k)) (Exact NullTy))
kept_at T t _ = t

-- what a new object of a closed class type keeps: a raw one keeps the null type for each parameter of its class
unfoldable pub kept_by : Table → Ty → Ty
kept_by T t = kept_at T t (out-Ty t)

-- What an object keeps whose type was unknown until now: its class alone was kept, and now it is its type. Another object keeps what it has
abbrev pub born_at : ClassId → Ty → Ty → Ty-F Arg Ty → Ty
born_at k t kept (Ty-F.Raw c) = if c.0 == k.0 then t else kept
born_at k t kept _ = kept

unfoldable pub born : ClassId → Ty → Ty → Ty
born k t kept = born_at k t kept (out-Ty kept)

-- by the outermost layer of the type, in which the raw types are replaced already
abbrev pub unbounded_step : Table → Ty-F Arg Ty → Ty
unbounded_step T (Ty-F.Raw k) = Class k (replicate (length (vars_of T k)) Any)
unbounded_step T layer = roll-Ty layer

-- what a new array of a closed array type keeps: a raw type inside keeps `?` for each parameter of its class
unfoldable pub kept_array : Table → Ty → Ty
kept_array T t = fold-Ty Arg Ty roll-Arg (unbounded_step T) t

-- how these kept types erase
abbrev pub typed_keeping : Table → Keeping Ty
typed_keeping T = record {
  erased = erasure T [];
  of_class = λ k. Class k [];
  of_chars = Array (Prim Char) 0;
}

-- a type with what the variables of the running method stand for
abbrev pub closed_in : TypedState → Ty → Ty
closed_in s t = close s.frame.variables s.frame.captured t

abbrev pub closed : Ty → TypedRun Ty
closed t u s = give (closed_in s t) u s

abbrev pub closed_all : List Ty → TypedRun (List Ty)
closed_all ts u s = give (map (closed_in s) ts) u s

-- a lower bound with what its variables stand for, or the null type where there is none
abbrev pub lower_or_null : List Binding → List Ty → Option Ty → Ty
lower_or_null vars captured None = NullTy
lower_or_null vars captured (Some l) = close vars captured l

-- what a captured variable stands for where no value says it: its lower bound, or the null type
abbrev pub unsaid : List Binding → List Ty → List Bounds → CaptureId → Ty
unsaid vars captured env c = lower_or_null vars captured (lower_bound_of env c)

-- those before stand for `captured` already
abbrev pub unsaid_on : List Binding → List Bounds → List Ty → List Bounds → List Ty
unsaid_on vars env captured [] = captured
unsaid_on vars env captured (b ∷ bs) = unsaid_on vars env (captured ++ lower_or_null vars captured b.lower ∷ []) bs

-- .. and all of them as a method begins
abbrev pub unsaid_all : List Binding → List Bounds → List Ty
unsaid_all vars env = unsaid_on vars env [] env

-- what a captured variable stands for from now on in the running method
abbrev pub set_captured : CaptureId → Ty → TypedRun (Unit {0})
set_captured c t = change (λ s. record s { frame = record s.frame { captured = slice_set s.frame.captured c.0 t } })
