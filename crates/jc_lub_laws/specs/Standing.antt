-- The least upper bound and values' kept types: what fits an operand fits the bound, level by level.
use Rattle.std.specs.Prelude.{◌≡◌, ℕ, ◌≤◌, false, Some, List, map, get_or}
use Rattle.jc_types.specs.declared.environment.Bounds.{Bounds}
use Rattle.jc_types.specs.declared.form.Arg.{Arg}
use Rattle.jc_types.specs.declared.form.Ty.{Ty}
use Rattle.jc_types.specs.declared.form.Ty.TheVariants.{NullTy}
use Rattle.jc_types.specs.declared.ids.CaptureId.{CaptureId}
use Rattle.jc_types.specs.declared.ids.ClassId.{ClassId}
use Rattle.jc_types.specs.declared.ids.VarId.{VarId}
use Rattle.jc_types.specs.declared.table.Table.{Table}
use Rattle.jc_types.specs.Accessors.{bounds_of, uppers_of}
use Rattle.jc_judge.specs.Kinds.{is_primitive}
use Rattle.jc_lub.specs.Columns.{upper_of}
use Rattle.jc_lub.specs.Lubs.{depth, stripped, lub}
use Rattle.jc_lub.specs.Uncaptured.{args_of, up_view}
use Rattle.jc_meaning.specs.declared.frame.Binding.{Binding}
use Rattle.jc_meaning.specs.Kept.{bound_to, close}
use Rattle.jc_meaning.specs.Levels.{BelowAll, BelowAt}
use Rattle.jc_header_rules.specs.Checked.{IsAmong, HasHeaders}

-- what variables and captured variables stand for are reference types, each below its upper bounds at a level
pub record Stand (T : Table) (n : ℕ) (env : List Bounds) (vars : List Binding) (captured : List Ty) : Type 0 where
  pub reference : (v : VarId) → is_primitive (bound_to v vars) ≡ false
  pub captured_reference : (c : CaptureId) → is_primitive (get_or captured c.0 NullTy) ≡ false
  pub within : (v : VarId) → BelowAll (BelowAt T n) (bound_to v vars) (map (close vars captured) (bounds_of T v))
  pub captured_within : (c : CaptureId) → BelowAll (BelowAt T n) (get_or captured c.0 NullTy) (map (close vars captured) (uppers_of env c))

-- a reference type, none of whose supertypes has `P` or `? extends P` with a primitive type P as an argument, nor has one of its elements, where it
-- is an array type (JLS 4.5.1)
pub record IsOperand (T : Table) (env : List Bounds) (t : Ty) : Type 0 where
  pub reference : is_primitive t ≡ false
  pub arguments : (d : ℕ) (k : ClassId) (v : Ty) (a : Arg) (u : Ty) → d ≤ depth t → up_view T env k (stripped d t) ≡ Some v → IsAmong a (args_of v) → upper_of a ≡ Some u → is_primitive u ≡ false

-- whatever the variables stand for, each operand is below the least upper bound at each level
abbrev pub OperandsAreBelow : Type 0
OperandsAreBelow =
    (T : Table) → HasHeaders T → (n : ℕ) (env : List Bounds) (vars : List Binding) (captured : List Ty) → Stand T n env vars captured
    → (ts : List Ty) → ((t : Ty) → IsAmong t ts → IsOperand T env t) → (t : Ty) → IsAmong t ts → BelowAt T n (close vars captured t) (close vars captured (lub T env ts))
