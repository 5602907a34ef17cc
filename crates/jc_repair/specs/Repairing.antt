-- The repair of a least upper bound: class types in it that aren't well formed are made looser (JLS 4.5, 15.25).
use Rattle.std.specs.Prelude.{Bool, true, false, List, map, if◌then◌else◌}
use Rattle.jc_types.specs.declared.environment.Bounds.{Bounds}
use Rattle.jc_types.specs.declared.form.Arg.{Arg, Arg-F, out-Arg, para-Arg}
use Rattle.jc_types.specs.declared.form.Arg.TheVariants.{Exact, Any, Extends, Super}
use Rattle.jc_types.specs.declared.form.Ty.{Ty, Ty-F, roll-Ty, para-Ty}
use Rattle.jc_types.specs.declared.form.Ty.TheVariants.{Class, Array, Meet}
use Rattle.jc_types.specs.declared.table.Table.{Table}
use Rattle.jc_judge.specs.declared.question.Answer.{Answer}
use Rattle.jc_judge.specs.declared.question.Answer.TheVariants.{Yes, No, Deep}
use Rattle.jc_judge.specs.Forming.{formed_answer}
use Rattle.jc_judge.specs.Kinds.{ArgLayer}

-- an answer is Yes; Deep, which can't be told, is not
abbrev pub is_yes : Answer → Bool
is_yes Yes = true
is_yes No = false
is_yes Deep = false

-- a type is known to be well formed, and each class type inside it
abbrev pub is_sound : Table → List Bounds → Ty → Bool
is_sound T env t = is_yes (formed_answer T 64 env t)

-- an exact argument gets `extends`, and a super wildcard loses its bound
abbrev pub loosened_at : ArgLayer → Arg
loosened_at (Arg-F.Exact t) = Extends t
loosened_at Arg-F.Any = Any
loosened_at (Arg-F.Extends t) = Extends t
loosened_at (Arg-F.Super t) = Any

-- U becomes `? extends U`, and a super wildcard `?`
unfoldable pub loosened : Arg → Arg
loosened a = loosened_at (out-Arg a)

-- an argument, where the type in it is repaired
abbrev pub repaired_arg_at : Arg-F (Arg × Arg) (Ty × Ty) → Arg
repaired_arg_at (Arg-F.Exact x) = Exact x.1
repaired_arg_at Arg-F.Any = Any
repaired_arg_at (Arg-F.Extends x) = Extends x.1
repaired_arg_at (Arg-F.Super x) = Super x.1

-- a class type as it was decides, by itself and by the class types inside it, whether its arguments are loosened
abbrev pub repaired_at : Table → List Bounds → Ty-F (Arg × Arg) (Ty × Ty) → Ty
repaired_at T env (Ty-F.Class id xs) =
    if is_sound T env (Class id (map (λ x. x.0) xs)) then Class id (map (λ x. x.1) xs) else Class id (map loosened (map (λ x. x.1) xs))
repaired_at T env (Ty-F.Prim p) = roll-Ty (Ty-F.Prim p)
repaired_at T env (Ty-F.Raw id) = roll-Ty (Ty-F.Raw id)
repaired_at T env (Ty-F.Array x n) = Array x.1 n
repaired_at T env (Ty-F.Variable v) = roll-Ty (Ty-F.Variable v)
repaired_at T env (Ty-F.Captured c) = roll-Ty (Ty-F.Captured c)
repaired_at T env (Ty-F.Meet xs) = Meet (map (λ x. x.1) xs)
repaired_at T env Ty-F.NullTy = roll-Ty Ty-F.NullTy

-- the repair of a type: each class type in it that isn't known to be well formed as the type was, or that has such a type inside, gets
-- `? extends U` for each exact argument U, and `?` for each super wildcard
unfoldable pub repaired : Table → List Bounds → Ty → Ty
repaired T env t = para-Ty Arg Ty repaired_arg_at (repaired_at T env) t

-- the same of the type in an argument
unfoldable pub repaired_arg : Table → List Bounds → Arg → Arg
repaired_arg T env a = para-Arg Arg Ty repaired_arg_at (repaired_at T env) a
