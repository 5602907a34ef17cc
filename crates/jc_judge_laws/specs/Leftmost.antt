-- The variable from which a type's erasure comes, and where its leftmost bounds lead (JLS 4.4, 4.6).
use Rattle.std.specs.Prelude.{◌≡◌, ℕ, ◌+◌, ◌<◌, Option, Some, None, List, [], ◌∷◌, length}
use Rattle.jc_types.specs.declared.form.Ty.{Ty, Ty-F, fold-Ty}
use Rattle.jc_types.specs.declared.ids.VarId.{VarId}
use Rattle.jc_types.specs.declared.ids.CaptureId.{CaptureId}
use Rattle.jc_types.specs.declared.erased.Erased.{Erased}
use Rattle.jc_types.specs.declared.environment.Bounds.{Bounds}
use Rattle.jc_types.specs.declared.table.Table.{Table}
use Rattle.jc_types.specs.Accessors.{bounds_of, uppers_of, variable_count}
use Rattle.jc_types.specs.Erasing.{object, erasure}
use Rattle.jc_judge.specs.Supers.{IsAcyclic}

-- a type variable, declared or captured
pub data Ref : Type 0 where
  Declared : VarId → Ref
  Fresh : CaptureId → Ref

-- what the first of them has; None where it has none, or there is none
abbrev pub first_source : List (Option Ref) → Option Ref
first_source [] = None
first_source (r ∷ rs) = r

-- a layer whose parts are done: None where no variable is met
abbrev pub source_step : Ty-F (Unit {0}) (Option Ref) → Option Ref
source_step (Ty-F.Array r n) = r
source_step (Ty-F.Variable v) = Some (Declared v)
source_step (Ty-F.Captured c) = Some (Fresh c)
source_step (Ty-F.Meet rs) = first_source rs
source_step _ = None

-- the variable that a type is, is an array of, or has as its first part
unfoldable pub source : Ty → Option Ref
source t = fold-Ty (Unit {0}) (Option Ref) (λ _. tt) source_step t

-- the bounds of a declared variable, and the upper bounds of a captured one
abbrev pub bounds_at : Table → List Bounds → Ref → List Ty
bounds_at T env (Declared v) = bounds_of T v
bounds_at T env (Fresh c) = uppers_of env c

-- the first of the list, if there is one
abbrev pub head : List Ty → Option Ty
head [] = None
head (b ∷ bs) = Some b

-- the leftmost bound of a variable
abbrev pub leftmost : Table → List Bounds → Ref → Option Ty
leftmost T env r = head (bounds_at T env r)

-- the declared variables are counted first
abbrev pub number : Table → Ref → ℕ
number T (Declared v) = v.0
number T (Fresh c) = variable_count T + c.0

-- the erasure of variable x comes from that of variable y
abbrev pub Leads : Table → List Bounds → ℕ → ℕ → Type 0
Leads T env x y =
    (r : Ref) × (q : Ref) × (b : Ty) × (number T r ≡ x) × (number T q ≡ y) × (leftmost T env r ≡ Some b) × (source b ≡ Some q)

-- no variable depends on itself by its leftmost bound (JLS 4.4)
abbrev pub IsGrounded : Table → List Bounds → Type 0
IsGrounded T env = IsAcyclic (Leads T env)

-- the erasure of the leftmost of these bounds
abbrev pub bound_erasure : Table → List Bounds → List Ty → Erased
bound_erasure T env [] = object
bound_erasure T env (b ∷ bs) = erasure T env b

-- a captured variable is one of the env; of a declared one, and of none, nothing is asked
abbrev pub IsKnown : List Bounds → Option Ref → Type 0
IsKnown env None = Unit {0}
IsKnown env (Some (Declared v)) = Unit {0}
IsKnown env (Some (Fresh c)) = c.0 < length env

-- no leftmost bound leads to a captured variable that the env doesn't have
abbrev pub IsClosed : Table → List Bounds → Type 0
IsClosed T env = (r : Ref) (b : Ty) → leftmost T env r ≡ Some b → IsKnown env (source b)
