-- The type whose members a value has: a type variable has those of its bounds, which are captured in their turn (JLS 4.4, 4.9, 5.1.10).
use Rattle.std.specs.Prelude.{ℕ, zero, suc, ◌+◌, ◌||◌, not, is_none, Bool, false, List, [], ◌∷◌, ◌++◌, length, Option, Some, None, if◌then◌else◌}
use Rattle.jc_types.specs.declared.environment.Bounds.{Bounds}
use Rattle.jc_types.specs.declared.form.Ty.{Ty, out-Ty}
use Rattle.jc_types.specs.declared.table.Table.{Table}
use Rattle.jc_types.specs.Accessors.{variable_count}
use Rattle.jc_types.specs.Erasing.{variable_bounds}
use Rattle.jc_judge.specs.Capturing.{capture}
use Rattle.jc_judge.specs.Meeting.{as_one, flattened, parts_at}
use Rattle.jc_typed.specs.declared.lists.Capture.{Capture}
use Rattle.jc_exprs_exports.specs.Captured.{captures_of}

-- the upper bounds of a variable, or the type itself
abbrev pub bounds_or : Ty → Option (List Ty) → List Ty
bounds_or t None = t ∷ []
bounds_or t (Some bs) = bs

abbrev pub opened_parts : Table → List Bounds → List Ty → List Ty
opened_parts T env [] = []
opened_parts T env (t ∷ ts) = bounds_or t (variable_bounds T env t) ++ opened_parts T env ts

-- the intersection of a type's parts, where each variable stands for its upper bounds
abbrev pub opened : Table → List Bounds → Ty → Ty
opened T env t = as_one (flattened (opened_parts T env (parts_at t (out-Ty t))))

abbrev pub has_variable : Table → List Bounds → List Ty → Bool
has_variable T env [] = false
has_variable T env (t ∷ ts) = not (is_none (variable_bounds T env t)) || has_variable T env ts

-- the type is a variable, or has one as a part
abbrev pub is_open : Table → List Bounds → Ty → Bool
is_open T env t = has_variable T env (parts_at t (out-Ty t))

-- a type without variables as its parts, with the captured variables that were made on the way and their bounds
pub record Settled : Type 0 where
  pub ty : Ty
  pub captures : List Capture
  pub fresh : List Bounds

-- the capture of a type, where those variables are there already, and then what comes of the captured type
abbrev pub captured_then : Table → List Bounds → Ty → (List Bounds → Ty → Settled) → Settled
captured_then T env t next =
    let c = capture T (length env) t in
    let s = next (env ++ c.fresh) c.ty in
    record { ty = s.ty; captures = captures_of T (length env) t ++ s.captures; fresh = c.fresh ++ s.fresh }

-- opened and captured as long as there is a variable, at most so many times
abbrev pub settled_within : Table → ℕ → List Bounds → Ty → Settled
settled_within T zero env t = record { ty = t; captures = []; fresh = [] }
settled_within T (suc d) env t =
    if is_open T env t then captured_then T env (opened T env t) (settled_within T d) else record { ty = t; captures = []; fresh = [] }

-- The type whose members a value of static type t has. Where no variable depends on itself these are times enough
unfoldable pub settled : Table → List Bounds → Ty → Settled
settled T env t = captured_then T env t (settled_within T (variable_count T + length env + 1))
