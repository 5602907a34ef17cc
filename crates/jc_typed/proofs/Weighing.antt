-- Weights of lists that end in their last member.
use Rattle.std.proofs.Common.{◌≡◌, ℕ, zero, suc, ◌+◌, ◌*◌, List, [], ◌∷◌, ◌++◌, arith}
use Rattle.jc_types.specs.declared.constant.Op.{Op}
use Rattle.jc_typed.specs.Bulk.{capped, prefix_weight, prefixes_weight}

pub prefixes_more : (ops : List Op) (op : Op) → prefixes_weight (ops ++ op ∷ []) ≡ prefixes_weight ops + prefix_weight op
prefixes_more [] op = omega arith
prefixes_more (x ∷ ops) op = let e : prefixes_weight (ops ++ op ∷ []) ≡ prefixes_weight ops + prefix_weight op = prefixes_more ops op in omega (arith, e)

-- a number of times what a u64 holds of a number
pub capped_times : (c x : ℕ) → capped (capped x * c) ≡ capped (c * x)
capped_times zero x = grind arith
capped_times (suc c) x =
    let h : capped (capped x * c) ≡ capped (c * x) = capped_times c x in
    let e : capped x * suc c ≡ capped x * c + capped x = grind arith in
    let f : suc c * x ≡ x + c * x = grind arith in
    omega (arith, h, e, f)

-- .. where the number is a sum of a block's parts
pub capped_copies : (c a b r s t : ℕ) → a ≡ capped r → b ≡ capped s → t ≡ capped (capped (a + b) + 32) → capped (t * c) ≡ capped (c * (32 + r + s))
capped_copies c a b r s t ea eb et =
    let e : t ≡ capped (32 + r + s) = omega (arith, ea, eb, et) in
    rw e (capped_times c (32 + r + s))
