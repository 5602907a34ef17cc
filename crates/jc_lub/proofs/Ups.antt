-- One step of a view.
use Rattle.std.proofs.Common.{◌≡◌, ℕ, zero, suc, ◌<◌, ◌-◌, List, arith, ap}
use Rattle.jc_types.specs.declared.form.Ty.{Ty, out-Ty}
use Rattle.jc_types.specs.declared.ids.ClassId.{ClassId}
use Rattle.jc_types.specs.declared.table.Table.{Table}
use Rattle.jc_types.specs.declared.environment.Bounds.{Bounds}
use Rattle.jc_judge.specs.Views.{first_of}
use Rattle.jc_lub.specs.Uncaptured.{up_view_within, up_view_at}

pub up_once : (T : Table) (env : List Bounds) (n : ℕ) (k : ClassId) (t : Ty) → 0 < n → up_view_within T env n k t ≡ up_view_at T env (first_of (up_view_within T env (n - 1) k)) k t (out-Ty t)
up_once T env zero k t lt = absurd (omega arith)
up_once T env (suc n) k t lt =
    let less : n ≡ suc n - 1 = omega arith in ap (λ (m : ℕ). up_view_at T env (first_of (up_view_within T env m k)) k t (out-Ty t)) less
