-- Heights that are capped.
use Rattle.std.proofs.Common.{◌≡◌, ℕ, suc, ◌<◌, ◌^◌, arith}
use Rattle.std.specs.Prelude.{nat_le, nat_lt}
use Rattle.std.proofs.lemmas.Bool.Decides.{nat_tests}
use Rattle.jc_tree.specs.Heights.{capped}

pub low_by : (m h : ℕ) → h < 2 ^ 32 → nat_lt (capped m) h ≡ nat_le (suc m) h
low_by m h lt = grind (arith, nat_tests)
