-- Dimensions of arrays.
use Rattle.std.proofs.Common.{◌≡◌, ◌<◌, ◌≤◌, ◌+◌, ◌-◌, ℕ, suc, ap, arith}
use Rattle.jc_types.specs.declared.form.Ty.{Ty}
use Rattle.jc_types.specs.declared.form.Ty.TheVariants.{Array}
use Rattle.jc_types.specs.Arrays.{lowered}

pub stripped_whole : (u : Ty) (n d : ℕ) → n < d → lowered u (n + 1 - d) ≡ u
stripped_whole u n d l = let e : n + 1 - d ≡ 0 = omega arith in ap (lowered u) e

pub stripped_part : (u : Ty) (n d : ℕ) → d ≤ n → lowered u (n + 1 - d) ≡ Array u (n - d)
stripped_part u n d l = let e : n + 1 - d ≡ suc (n - d) = omega arith in ap (lowered u) e
