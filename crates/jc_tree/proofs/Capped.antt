-- A capped height by the capped heights of the parts.
use Rattle.std.proofs.Common.{◌≡◌, ℕ, suc, ◌+◌, min, max, arith}
use Rattle.jc_tree.specs.Heights.{capped}

pub capped_max : (a b : ℕ) → capped (max a b) ≡ max (capped a) (capped b)
capped_max a b = omega arith

pub capped_suc : (a : ℕ) → capped (suc a) ≡ min (capped a + 1) 4294967295
capped_suc a = omega arith
