-- A type under another by its supertypes as they stand (JLS 4.5.1, 4.10.2, 4.10.3): nothing is captured, and no question of bounds is asked.
use Rattle.std.specs.Prelude.{◌≡◌, ◌≤◌, ℕ, zero, suc, true, Some, List, [], ◌∷◌}
use Rattle.jc_types.specs.declared.environment.Bounds.{Bounds}
use Rattle.jc_types.specs.declared.form.Arg.{Arg}
use Rattle.jc_types.specs.declared.form.Arg.TheVariants.{Any, Extends}
use Rattle.jc_types.specs.declared.form.Ty.{Ty}
use Rattle.jc_types.specs.declared.form.Ty.TheVariants.{Class, Raw, Meet}
use Rattle.jc_types.specs.declared.ids.ClassId.{ClassId}
use Rattle.jc_types.specs.declared.table.Table.{Table}
use Rattle.jc_types.specs.Sameness.{same}
use Rattle.jc_judge.specs.Kinds.{is_null}
use Rattle.jc_header_rules.specs.Checked.{IsAmong}
use Rattle.jc_lub.specs.Columns.{upper_of}
use Rattle.jc_lub.specs.Lubs.{depth, stripped, over, lub}
use Rattle.jc_lub.specs.Uncaptured.{object, same_args, args_of, up_view}

-- an argument is contained in another, where R tells which types are under which
pub data IsIn (R : Ty → Ty → Type 0) : Arg → Arg → Type 0 where
  as_it_is : (a b : Arg) → same_args a b ≡ true → IsIn R a b
  any : (a : Arg) → IsIn R a Any
  extending : (a : Arg) (t u : Ty) → upper_of a ≡ Some t → R t u → IsIn R a (Extends u)

-- as many arguments, each in the other of its place
abbrev pub AllIn : (Ty → Ty → Type 0) → List Arg → List Arg → Type 0
AllIn R [] [] = Unit {0}
AllIn R [] (b ∷ ys) = ⊥
AllIn R (a ∷ xs) [] = ⊥
AllIn R (a ∷ xs) (b ∷ ys) = IsIn R a b × AllIn R xs ys

-- a reference type under another, where R tells it of the types in their arguments: primitive types are no operands, and no arguments
pub data IsUnder (T : Table) (env : List Bounds) (R : Ty → Ty → Type 0) : Ty → Ty → Type 0 where
  itself : (t u : Ty) → same t u ≡ true → IsUnder T env R t u
  null : (t u : Ty) → is_null t ≡ true → IsUnder T env R t u
  top : (t : Ty) → IsUnder T env R t object
  as_raw : (t v : Ty) (k : ClassId) → up_view T env k t ≡ Some v → IsUnder T env R t (Raw k)
  as_class : (t v : Ty) (k : ClassId) (args : List Arg) → up_view T env k t ≡ Some v → AllIn R (args_of v) args → IsUnder T env R t (Class k args)
  parts : (t : Ty) (us : List Ty) → ((u : Ty) → IsAmong u us → IsUnder T env R t u) → IsUnder T env R t (Meet us)
  elements : (t u : Ty) (d : ℕ) → d ≤ depth t → IsUnder T env R (stripped d t) u → IsUnder T env R t (over d u)

-- with arguments at most n levels deep
abbrev pub IsUnderWithin : Table → List Bounds → ℕ → Ty → Ty → Type 0
IsUnderWithin T env zero t u = same t u ≡ true
IsUnderWithin T env (suc n) t u = IsUnder T env (IsUnderWithin T env n) t u

-- each of some reference types is under their least upper bound
abbrev pub OperandsAreUnder : Type 0
OperandsAreUnder = (T : Table) (env : List Bounds) (ts : List Ty) (t : Ty) → IsAmong t ts → IsUnderWithin T env 2 t (lub T env ts)
