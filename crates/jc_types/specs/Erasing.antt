-- Erasure (JLS 4.6).
use Rattle.std.specs.Prelude.{◌≡◌, ℕ, zero, suc, ◌+◌, ◌-◌, ◌^◌, min, Bool, true, false, Option, Some, None, List, [], ◌∷◌, length}
use Rattle.jc_types.specs.declared.form.Ty.{Ty, Ty-F, out-Ty, fold-Ty}
use Rattle.jc_types.specs.declared.form.Arg.{Arg}
use Rattle.jc_types.specs.declared.ids.VarId.{VarId}
use Rattle.jc_types.specs.declared.ids.CaptureId.{CaptureId}
use Rattle.jc_types.specs.declared.erased.Erased.{Erased}
use Rattle.jc_types.specs.declared.erased.Base.{Base}
use Rattle.jc_types.specs.declared.erased.Base.TheVariants as base
use Rattle.jc_types.specs.declared.environment.Bounds.{Bounds}
use Rattle.jc_types.specs.declared.table.Table.{Table}
use Rattle.jc_types.specs.Accessors.{bounds_of, uppers_of, variable_count}

-- a base without array dimensions
abbrev pub plain : Base → Erased
plain b = record { base = b; dims = 0 }

-- java.lang.Object, the first class of a table
abbrev pub object : Erased
object = plain (base.Class (record { 0 = 0 }))

-- that many more array dimensions
abbrev pub raised : ℕ → Erased → Erased
raised n e = record { base = e.base; dims = e.dims + n }

-- the first of the erasures, and Object where there is none
abbrev pub first_or_object : List Erased → Erased
first_or_object [] = object
first_or_object (e ∷ es) = e

-- a class or raw type erases to its class, an array to an array, an intersection to the erasure of its first part
abbrev pub erased_step : (VarId → Erased) → (CaptureId → Erased) → Ty-F (Unit {0}) Erased → Erased
erased_step vs cs (Ty-F.Prim p) = plain (base.Prim p)
erased_step vs cs (Ty-F.Class id args) = plain (base.Class id)
erased_step vs cs (Ty-F.Raw id) = plain (base.Class id)
erased_step vs cs (Ty-F.Array e n) = raised (n + 1) e
erased_step vs cs (Ty-F.Variable v) = vs v
erased_step vs cs (Ty-F.Captured c) = cs c
erased_step vs cs (Ty-F.Meet parts) = first_or_object parts
erased_step vs cs Ty-F.NullTy = plain base.NullTy

-- the erasure of a type, given those of the variables
unfoldable pub erased_by : (VarId → Erased) → (CaptureId → Erased) → Ty → Erased
erased_by vs cs t = fold-Ty (Unit {0}) Erased (λ _. tt) (erased_step vs cs) t

-- the erasure of the leftmost of these bounds, where at most n variables are gone through
unfoldable pub leftmost_within : Table → List Bounds → ℕ → List Ty → Erased
leftmost_within T env zero bs = object
leftmost_within T env (suc n) [] = object
leftmost_within T env (suc n) (b ∷ bs) =
    erased_by (λ v. leftmost_within T env n (bounds_of T v)) (λ c. leftmost_within T env n (uppers_of env c)) b

-- a variable erases to the erasure of its leftmost bound
unfoldable pub erased_within : Table → List Bounds → ℕ → Ty → Erased
erased_within T env n t =
    erased_by (λ v. leftmost_within T env n (bounds_of T v)) (λ c. leftmost_within T env n (uppers_of env c)) t

-- the number of dimensions stays at the greatest u32
abbrev pub capped : Erased → Erased
capped e = record { base = e.base; dims = min e.dims (2 ^ 32 - 1) }

-- no chain of bounds goes through more variables than there are, where none depends on itself
unfoldable pub erasure : Table → List Bounds → Ty → Erased
erasure T env t = capped (erased_within T env (variable_count T + length env) t)

-- neither an array nor an intersection with a part
abbrev pub is_inner : {A T : Type 0} → Ty-F A T → Bool
is_inner (Ty-F.Array t n) = false
is_inner (Ty-F.Meet (t ∷ ts)) = false
is_inner _ = true

-- what a type that is no variable, array or intersection erases to
abbrev pub own_base : Ty-F Arg Ty → Base
own_base (Ty-F.Prim p) = base.Prim p
own_base (Ty-F.Class id args) = base.Class id
own_base (Ty-F.Raw id) = base.Class id
own_base Ty-F.NullTy = base.NullTy
own_base _ = base.Class (record { 0 = 0 })

-- None for a type that is no variable
abbrev pub variable_bounds_at : Table → List Bounds → Ty-F Arg Ty → Option (List Ty)
variable_bounds_at T env (Ty-F.Variable v) = Some (bounds_of T v)
variable_bounds_at T env (Ty-F.Captured c) = Some (uppers_of env c)
variable_bounds_at T env _ = None

-- the upper bounds of a variable, declared or captured
unfoldable pub variable_bounds : Table → List Bounds → Ty → Option (List Ty)
variable_bounds T env t = variable_bounds_at T env (out-Ty t)

-- from one type through n array dimensions, and through first parts, to another
pub record Reaches (t u : Ty) (n : ℕ) : Type 0 where
  pub same : (vs : VarId → Erased) (cs : CaptureId → Erased) → capped (erased_by vs cs t) ≡ capped (raised n (erased_by vs cs u))
