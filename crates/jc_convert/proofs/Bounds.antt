-- One step to a variable's bound.
use Rattle.std.proofs.Common.{◌≡◌, ℕ, zero, suc, ◌<◌, ◌-◌, List, arith, ap}
use Rattle.jc_types.specs.declared.form.Ty.{Ty, out-Ty}
use Rattle.jc_types.specs.declared.table.Table.{Table}
use Rattle.jc_types.specs.declared.environment.Bounds.{Bounds}
use Rattle.jc_convert.specs.Casting.{bound_within, bound_at}

pub bound_once : (T : Table) (env : List Bounds) (n : ℕ) (t : Ty) → 0 < n → bound_within T env n t ≡ bound_at T env (bound_within T env (n - 1)) t (out-Ty t)
bound_once T env zero t lt = absurd (omega arith)
bound_once T env (suc n) t lt =
    let less : n ≡ suc n - 1 = omega arith in ap (λ (m : ℕ). bound_at T env (bound_within T env m) t (out-Ty t)) less
