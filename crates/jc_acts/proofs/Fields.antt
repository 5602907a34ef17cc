-- The values of a program's static fields, one after the other.
use Rattle.std.proofs.Common.{◌≡◌, ℕ, zero, suc, ◌+◌, ◌-◌, ◌<◌, List, [], ◌∷◌, ◌++◌, refl, arith, append_assoc}
use Rattle.jc_types.specs.declared.table.Table.{Table}
use Rattle.jc_running.specs.declared.value.Value.{Value}
use Rattle.jc_heaps.specs.Layout.{default_of}
use Rattle.jc_meaning.specs.Meaning.{field_values}

unrolled : (T : Table) (at left : ℕ) → 0 < left → field_values T at left ≡ default_of T (record { 0 = at }) ∷ field_values T (at + 1) (left - 1)
unrolled T at zero h = absurd (omega arith)
unrolled T at (suc n) h =
    let a : suc at ≡ at + 1 = omega arith in
    let b : n ≡ suc n - 1 = omega arith in
    rw (← a, ← b) refl

pub one_more : (T : Table) (out out' : List Value) (d : Value) (at left : ℕ) (all : List Value) → 0 < left → out' ≡ out ++ d ∷ []
    → d ≡ default_of T (record { 0 = at }) → out ++ field_values T at left ≡ all → out' ++ field_values T (at + 1) (left - 1) ≡ all
one_more T out out' d at left all h p q r =
    let e : out ++ (default_of T (record { 0 = at }) ∷ field_values T (at + 1) (left - 1)) ≡ all = rw (unrolled T at left h) at r in
    rw (p, q, append_assoc) e
