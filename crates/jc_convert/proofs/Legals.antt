-- One step of a question whether a cast is legal.
use Rattle.std.proofs.Common.{◌≡◌, ℕ, zero, suc, ◌<◌, ◌-◌, List, arith, ap}
use Rattle.jc_types.specs.declared.form.Ty.{Ty, out-Ty}
use Rattle.jc_types.specs.declared.table.Table.{Table}
use Rattle.jc_types.specs.declared.environment.Bounds.{Bounds}
use Rattle.jc_convert.specs.Casting.{legal_within, source_legal}

pub legal_once : (T : Table) (env : List Bounds) (n : ℕ) (s t : Ty) → 0 < n → legal_within T env n s t ≡ source_legal (legal_within T env (n - 1)) T env s t (out-Ty s) (out-Ty t)
legal_once T env zero s t lt = absurd (omega arith)
legal_once T env (suc n) s t lt =
    let less : n ≡ suc n - 1 = omega arith in ap (λ (m : ℕ). source_legal (legal_within T env m) T env s t (out-Ty s) (out-Ty t)) less
