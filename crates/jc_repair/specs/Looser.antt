-- A type above another one by their shapes alone: no question of bounds or supertypes is asked (JLS 4.5.1, 4.10.2, 4.10.3).
use Rattle.std.specs.Prelude.{◌≡◌, ℕ, ◌==◌, ◌&&◌, Bool, true, false, List, map}
use Rattle.jc_types.specs.declared.environment.Bounds.{Bounds}
use Rattle.jc_types.specs.declared.form.Arg.{Arg, Arg-F, out-Arg, para-Arg}
use Rattle.jc_types.specs.declared.form.Ty.{Ty, Ty-F, out-Ty, para-Ty}
use Rattle.jc_types.specs.declared.form.Ty.TheVariants.{Prim, Raw, Variable, Captured, NullTy}
use Rattle.jc_types.specs.declared.ids.ClassId.{ClassId}
use Rattle.jc_types.specs.declared.table.Table.{Table}
use Rattle.jc_types.specs.Sameness.{same, all_pass}
use Rattle.jc_judge.specs.Kinds.{Layer, ArgLayer}
use Rattle.jc_repair.specs.Repairing.{repaired}

-- `? extends U` contains T and `? extends T` where U is above T
abbrev pub in_extends : (Ty → Bool) → ArgLayer → Bool
in_extends f (Arg-F.Extends u) = f u
in_extends f Arg-F.Any = true
in_extends f _ = false

-- a type is contained in itself too
abbrev pub in_exact : Ty → (Ty → Bool) → ArgLayer → Bool
in_exact t f (Arg-F.Exact u) = same t u
in_exact t f l = in_extends f l

-- `? super T` is contained in itself and in `?`
abbrev pub in_super : Ty → ArgLayer → Bool
in_super t (Arg-F.Super u) = same t u
in_super t Arg-F.Any = true
in_super t _ = false

-- `?` is contained in `?` alone
abbrev pub in_any : ArgLayer → Bool
in_any Arg-F.Any = true
in_any _ = false

-- an argument is contained in another
abbrev pub arg_is_in_at : Arg-F (Arg × (Arg → Bool)) (Ty × (Ty → Bool)) → Arg → Bool
arg_is_in_at (Arg-F.Exact x) a = in_exact x.0 x.1 (out-Arg a)
arg_is_in_at Arg-F.Any a = in_any (out-Arg a)
arg_is_in_at (Arg-F.Extends x) a = in_extends x.1 (out-Arg a)
arg_is_in_at (Arg-F.Super x) a = in_super x.0 (out-Arg a)

-- the same class, whose arguments contain those of the type below
abbrev pub class_looser : ClassId → List (Arg → Bool) → Layer → Bool
class_looser i fs (Ty-F.Class j args) = (i.0 == j.0) && all_pass fs args
class_looser i fs _ = false

-- an array of as many dimensions, whose elements are above
abbrev pub array_looser : ℕ → (Ty → Bool) → Layer → Bool
array_looser n f (Ty-F.Array u m) = (n == m) && f u
array_looser n f _ = false

-- an intersection of as many parts, each above the one at its place
abbrev pub meet_looser : List (Ty → Bool) → Layer → Bool
meet_looser fs (Ty-F.Meet parts) = all_pass fs parts
meet_looser fs _ = false

-- of a type whose parts' answers are known: other types than these three are above themselves alone
abbrev pub looser_at : Ty-F (Arg × (Arg → Bool)) (Ty × (Ty → Bool)) → Ty → Bool
looser_at (Ty-F.Prim p) u = same (Prim p) u
looser_at (Ty-F.Class i xs) u = class_looser i (map (λ x. x.1) xs) (out-Ty u)
looser_at (Ty-F.Raw i) u = same (Raw i) u
looser_at (Ty-F.Array x n) u = array_looser n x.1 (out-Ty u)
looser_at (Ty-F.Variable v) u = same (Variable v) u
looser_at (Ty-F.Captured c) u = same (Captured c) u
looser_at (Ty-F.Meet xs) u = meet_looser (map (λ x. x.1) xs) (out-Ty u)
looser_at Ty-F.NullTy u = same NullTy u

-- the second type is above the first: each of its arguments contains the one that stands in its place, and the parts of intersections and the
-- elements of arrays are above each other
unfoldable pub is_looser : Ty → Ty → Bool
is_looser t = para-Ty (Arg → Bool) (Ty → Bool) arg_is_in_at looser_at t

-- the same of two arguments: the first is contained in the second
unfoldable pub arg_is_in : Arg → Arg → Bool
arg_is_in a = para-Arg (Arg → Bool) (Ty → Bool) arg_is_in_at looser_at a

-- the repair of a type is above it
abbrev pub RepairsAreAbove : Type 0
RepairsAreAbove = (T : Table) (env : List Bounds) (t : Ty) → is_looser t (repaired T env t) ≡ true
