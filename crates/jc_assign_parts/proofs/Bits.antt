-- One bit of a word.
use Rattle.std.proofs.Common.{◌≡◌, ℕ, zero, suc, ◌+◌, ◌-◌, ◌*◌, ◌%◌, ◌^◌, ◌<◌, ◌≤◌, ◌≢◌, Bool, true, false, not, ◌&&◌, ◌||◌, ◌==◌, min, max, bit_and, bit_or, bit_xor, if◌then◌else◌, refl, sym, ap, ap₂, ◌∙◌, arith}
use Rattle.std.specs.Int.{bit_at}
use Rattle.std.proofs.lemmas.Bool.{eq-eqb, eqb-true, ne_eqb, eqb-false}
use Rattle.std.proofs.lemmas.Nat.{one_shl}
use Rattle.std.proofs.lemmas.Nat.Bits.{bit_at-lt, bit_at_and, bit_at_or, bit_at_xor, bit_at_ones, bit_at-zero, bit_at-pow_same, bit_at-pow_other}
use Rattle.jc_assign_parts.specs.declared.lanes.Worlds.{Worlds}
use Rattle.jc_assign_parts.specs.Lanes.{Lane, bits, by_world}

min_one : (a b : ℕ) → a < 2 → b < 2 → (min a b == 1) ≡ ((a == 1) && (b == 1))
min_one zero zero p q = refl
min_one zero (suc zero) p q = refl
min_one zero (suc (suc b)) p q = absurd (omega (arith, q))
min_one (suc zero) zero p q = refl
min_one (suc zero) (suc zero) p q = refl
min_one (suc zero) (suc (suc b)) p q = absurd (omega (arith, q))
min_one (suc (suc a)) b p q = absurd (omega (arith, p))

max_one : (a b : ℕ) → a < 2 → b < 2 → (max a b == 1) ≡ ((a == 1) || (b == 1))
max_one zero zero p q = refl
max_one zero (suc zero) p q = refl
max_one zero (suc (suc b)) p q = absurd (omega (arith, q))
max_one (suc zero) zero p q = refl
max_one (suc zero) (suc zero) p q = refl
max_one (suc zero) (suc (suc b)) p q = absurd (omega (arith, q))
max_one (suc (suc a)) b p q = absurd (omega (arith, p))

less_one : (a b : ℕ) → a < 2 → b < 2 → ((a + min a b) % 2 == 1) ≡ ((a == 1) && not (b == 1))
less_one zero zero p q = refl
less_one zero (suc zero) p q = refl
less_one zero (suc (suc b)) p q = absurd (omega (arith, q))
less_one (suc zero) zero p q = refl
less_one (suc zero) (suc zero) p q = refl
less_one (suc zero) (suc (suc b)) p q = absurd (omega (arith, q))
less_one (suc (suc a)) b p q = absurd (omega (arith, p))

pub bits_and : (a b i : ℕ) → bits (bit_and a b) i ≡ (bits a i && bits b i)
unfolding bits
bits_and a b i = ap (λ (n : ℕ). n == 1) (bit_at_and a b (i % 64)) ∙ min_one (bit_at a (i % 64)) (bit_at b (i % 64)) (bit_at-lt a (i % 64)) (bit_at-lt b (i % 64))

pub bits_or : (a b i : ℕ) → bits (bit_or a b) i ≡ (bits a i || bits b i)
unfolding bits
bits_or a b i = ap (λ (n : ℕ). n == 1) (bit_at_or a b (i % 64)) ∙ max_one (bit_at a (i % 64)) (bit_at b (i % 64)) (bit_at-lt a (i % 64)) (bit_at-lt b (i % 64))

-- without the bits of b
pub bits_less : (a b i : ℕ) → bits (bit_xor a (bit_and a b)) i ≡ (bits a i && not (bits b i))
unfolding bits
bits_less a b i =
    ap (λ (n : ℕ). n == 1) (bit_at_xor a (bit_and a b) (i % 64) ∙ ap (λ (n : ℕ). (bit_at a (i % 64) + n) % 2) (bit_at_and a b (i % 64)))
    ∙ less_one (bit_at a (i % 64)) (bit_at b (i % 64)) (bit_at-lt a (i % 64)) (bit_at-lt b (i % 64))

pub bits_none : (i : ℕ) → bits 0 i ≡ false
unfolding bits
bits_none i = ap (λ (n : ℕ). n == 1) (bit_at-zero (i % 64))

pub bits_all : (i : ℕ) → bits 18446744073709551615 i ≡ true
unfolding bits
bits_all i = let h : i % 64 < 64 = omega arith in ap (λ (n : ℕ). n == 1) (bit_at_ones 64 (i % 64) h)

-- two tests that say the same
pub same_tests : (a b c d : ℕ) → (a ≡ b → c ≡ d) → (c ≡ d → a ≡ b) → (a == b) ≡ (c == d)
same_tests a b c d f g = by_test (a == b) refl
  where
    by_test : (x : Bool) → (a == b) ≡ x → (a == b) ≡ (c == d)
    by_test true e = e ∙ sym (eq-eqb c d (f (eqb-true a b e)))
    by_test false e = e ∙ sym (ne_eqb c d (λ h. eqb-false a b e (g h)))

pow_bit : (k j : ℕ) → (bit_at (2 ^ k) j == 1) ≡ (j == k)
pow_bit k j = by_test (j == k) refl
  where
    by_test : (x : Bool) → (j == k) ≡ x → (bit_at (2 ^ k) j == 1) ≡ (j == k)
    by_test true e = ap (λ (n : ℕ). n == 1) (ap (λ (n : ℕ). bit_at (2 ^ k) n) (eqb-true j k e) ∙ bit_at-pow_same k) ∙ sym e
    by_test false e = ap (λ (n : ℕ). n == 1) (bit_at-pow_other k j (eqb-false j k e)) ∙ sym e

pub bits_one : (k i : ℕ) → k < 64 → bits ((1 * 2 ^ k) % 2 ^ 64) i ≡ (i % 64 == k)
unfolding bits
bits_one k i h = ap (λ (n : ℕ). bit_at n (i % 64) == 1) (one_shl k 64 h) ∙ pow_bit k (i % 64)

chosen_and : (w p q r s : Bool) → (if w then p && q else (r && s)) ≡ ((if w then p else r) && (if w then q else s))
chosen_and true p q r s = refl
chosen_and false p q r s = refl

chosen_or : (w p q r s : Bool) → (if w then p || q else (r || s)) ≡ ((if w then p else r) || (if w then q else s))
chosen_or true p q r s = refl
chosen_or false p q r s = refl

chosen_less : (w p q r s : Bool) → (if w then p && not q else (r && not s)) ≡ ((if w then p else r) && not (if w then q else s))
chosen_less true p q r s = refl
chosen_less false p q r s = refl

chosen_same : (w p : Bool) → (if w then p else p) ≡ p
chosen_same true p = refl
chosen_same false p = refl

abbrev pub and_worlds : Worlds → Worlds → Worlds
and_worlds a b = record { no = bit_and a.no b.no; yes = bit_and a.yes b.yes }

abbrev pub or_worlds : Worlds → Worlds → Worlds
or_worlds a b = record { no = bit_or a.no b.no; yes = bit_or a.yes b.yes }

abbrev pub less_worlds : Worlds → Worlds → Worlds
less_worlds a b = record { no = bit_xor a.no (bit_and a.no b.no); yes = bit_xor a.yes (bit_and a.yes b.yes) }

abbrev pub both_worlds : ℕ → Worlds
both_worlds n = record { no = n; yes = n }

pub world_and : (a b : Worlds) (l : Lane) → by_world (and_worlds a b) l ≡ (by_world a l && by_world b l)
unfolding by_world
world_and a b l = ap₂ (λ (x y : Bool). if l.world then x else y) (bits_and a.yes b.yes l.at) (bits_and a.no b.no l.at) ∙ chosen_and l.world _ _ _ _

pub world_or : (a b : Worlds) (l : Lane) → by_world (or_worlds a b) l ≡ (by_world a l || by_world b l)
unfolding by_world
world_or a b l = ap₂ (λ (x y : Bool). if l.world then x else y) (bits_or a.yes b.yes l.at) (bits_or a.no b.no l.at) ∙ chosen_or l.world _ _ _ _

pub world_less : (a b : Worlds) (l : Lane) → by_world (less_worlds a b) l ≡ (by_world a l && not (by_world b l))
unfolding by_world
world_less a b l = ap₂ (λ (x y : Bool). if l.world then x else y) (bits_less a.yes b.yes l.at) (bits_less a.no b.no l.at) ∙ chosen_less l.world _ _ _ _

pub world_both : (n : ℕ) (l : Lane) → by_world (both_worlds n) l ≡ bits n l.at
unfolding by_world
world_both n l = chosen_same l.world (bits n l.at)
