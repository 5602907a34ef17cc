-- The value of digits, one by one.
use Rattle.std.proofs.Common.{◌≡◌, ℕ, ◌+◌, ◌*◌, ◌^◌, ◌<◌, ◌≤◌, Bool, true, false, cond, ◌&&◌, List, [], ◌∷◌, Some, None, refl, arith}
use Rattle.std.specs.Prelude.{◌==◌, nat_lt}
use Rattle.std.specs.List.{list_all}
use Rattle.std.specs.Char.{digit_value}
use Rattle.std.proofs.lemmas.Bool.Decides.{nat_tests}
use Rattle.std.proofs.Math.Nat.{mul-le-mul_left}
use Rattle.jc_lexer.specs.declared.symbol.Symbol.{Symbol}
use Rattle.jc_lexer.specs.Numbers.{whole_from, value_from, is_digit_of}

times_base : (value base : ℕ) → 1 ≤ base → value ≤ value * base
times_base value base h = grind (arith, mul-le-mul_left value h)

-- a value only grows
grows : (base value : ℕ) (digits : List Symbol) → 1 ≤ base → value ≤ value_from base value digits
grows base value [] h = omega arith
grows base value (s ∷ digits) h =
    elim (s.code == 95) as (λ b. value ≤ value_from base (cond b value (value * base + digit_value s.code)) digits) [
      | true ↦ grows base value digits h
      | false ↦ omega (arith, grows base (value * base + digit_value s.code) digits h, times_base value base h)
    ]

none_at : (b : Bool) (v : ℕ) → 2 ^ 64 ≤ v → cond (b && nat_lt v (2 ^ 64)) (Some v) None ≡ None
none_at true v h = grind (arith, nat_tests)
none_at false v h = refl

pub whole_digit : (base value : ℕ) (s : Symbol) (digits : List Symbol) → (s.code == 95) ≡ false → digit_value s.code < base →
    whole_from base value (s ∷ digits) ≡ whole_from base (value * base + digit_value s.code) digits
unfolding whole_from
whole_digit base value s digits h l =
    let t : nat_lt (digit_value s.code) base ≡ true = grind (arith, nat_tests) in
    rw (h, t) refl

pub whole_big : (base value : ℕ) (digits : List Symbol) → 1 ≤ base → 2 ^ 64 ≤ value → whole_from base value digits ≡ None
unfolding whole_from
whole_big base value digits b h =
    none_at (list_all (is_digit_of base) digits) (value_from base value digits) (omega (arith, grows base value digits b))
