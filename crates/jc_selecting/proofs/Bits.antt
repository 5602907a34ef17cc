-- Maps by the bits of numbers.
use Rattle.std.proofs.Common.{◌≡◌, ◌≢◌, ◌<◌, ◌+◌, ◌∙◌, ◌==◌, ◌/◌, ◌%◌, ℕ, zero, suc, Bool, true, false, refl, sym, ap, arith, if◌then◌else◌}
use Rattle.std.specs.declared.option.Option.{Option}
use Rattle.std.specs.declared.option.Option.TheVariants.{Some, None}
use Rattle.std.specs.declared.alloc.Global.{Global}
use Rattle.std.specs.declared.rc.Rc.{Rc}
use Rattle.jc_rules.proofs.Truths.{equal_numbers, other_numbers}
use Rattle.jc_selecting.specs.Held.{content, even_of, half_of, held, held_on, odd_of, value_of}
use Rattle.jc_selecting.specs.declared.map.Branch.{Branch}

-- what stands at a number, by the number's tests
abbrev pub by_tests : ℕ → Option Branch → ℕ → Bool → Bool → Option (ℕ × ℕ)
by_tests n branch key z o = if z then value_of branch else if o then held_on n (odd_of branch) (key / 2) else held_on n (even_of branch) (key / 2)

held_suc : (n : ℕ) (branch : Option Branch) (key : ℕ) → held_on (suc n) branch key ≡ by_tests n branch key (key == 0) (key % 2 == 1)
unfolding held_on
held_suc n branch key = refl

held_zero : (branch : Option Branch) (key : ℕ) → held_on 0 branch key ≡ None
unfolding held_on
held_zero branch key = refl

-- at zero, at an odd and at an even number
held_by : (n : ℕ) (b a : Option Branch) (k : ℕ) (x : Option (ℕ × ℕ)) → (k ≡ 0 → value_of b ≡ x) → (k ≢ 0 → k % 2 ≡ 1 → held_on n (odd_of b) (k / 2) ≡ x) → (k ≢ 0 → k % 2 ≢ 1 → held_on n (even_of b) (k / 2) ≡ x) → held_on (suc n) b k ≡ x
held_by n b a k x v o e = held_suc n b k ∙ by (k == 0) (k % 2 == 1) refl refl
  where
    by : (z t : Bool) → (k == 0) ≡ z → (k % 2 == 1) ≡ t → by_tests n b k z t ≡ x
    by true t p q = v (equal_numbers k 0 p)
    by false true p q = o (other_numbers k 0 p) (equal_numbers (k % 2) 1 q)
    by false false p q = e (other_numbers k 0 p) (other_numbers (k % 2) 1 q)

at_zero : (n : ℕ) (b : Option Branch) (k : ℕ) → k ≡ 0 → held_on (suc n) b k ≡ value_of b
at_zero n b k z = held_by n b b k (value_of b) (λ y. refl) (λ y o. absurd (y z)) (λ y o. absurd (y z))

at_odd : (n : ℕ) (b : Option Branch) (k : ℕ) → k ≢ 0 → k % 2 ≡ 1 → held_on (suc n) b k ≡ held_on n (odd_of b) (k / 2)
at_odd n b k z o = held_by n b b k (held_on n (odd_of b) (k / 2)) (λ y. absurd (z y)) (λ y p. refl) (λ y p. absurd (p o))

at_even : (n : ℕ) (b : Option Branch) (k : ℕ) → k ≢ 0 → k % 2 ≢ 1 → held_on (suc n) b k ≡ held_on n (even_of b) (k / 2)
at_even n b k z o = held_by n b b k (held_on n (even_of b) (k / 2)) (λ y. absurd (z y)) (λ y p. absurd (o p)) (λ y p. refl)

-- nothing stands where there is no branch
pub held_none : (n key : ℕ) → held_on n None key ≡ None
held_none zero key = held_zero None key
held_none (suc n) key = held_by n None None key None (λ z. refl) (λ z o. held_none n (key / 2)) (λ z o. held_none n (key / 2))

-- over as many bits as there are, and more
pub held_more : (n m : ℕ) (b : Option Branch) (k : ℕ) → k < n → k < m → held_on n b k ≡ held_on m b k
held_more zero m b k h g = absurd (omega (arith, h))
held_more (suc n) zero b k h g = absurd (omega (arith, g))
held_more (suc n) (suc m) b k h g = held_by n b b k (held_on (suc m) b k)
    (λ z. sym (at_zero m b k z))
    (λ z o. held_more n m (odd_of b) (k / 2) (omega (arith, h, z)) (omega (arith, g, z)) ∙ sym (at_odd m b k z o))
    (λ z o. held_more n m (even_of b) (k / 2) (omega (arith, h, z)) (omega (arith, g, z)) ∙ sym (at_even m b k z o))

-- ---- a branch with another value at a number

pub here_zero : (b : Option Branch) (x : Option (ℕ × ℕ)) (key : ℕ) → key ≡ 0 → value_of b ≡ x → (n : ℕ) → key < n → held_on n b key ≡ x
here_zero b x key z v zero h = absurd (omega (arith, h))
here_zero b x key z v (suc n) h = at_zero n b key z ∙ v

pub here_odd : (b new : Option Branch) (x : Option (ℕ × ℕ)) (key : ℕ) → key ≢ 0 → key % 2 ≡ 1 → odd_of b ≡ new → ((m : ℕ) → key / 2 < m → held_on m new (key / 2) ≡ x) → (n : ℕ) → key < n → held_on n b key ≡ x
here_odd b new x key z o is more zero h = absurd (omega (arith, h))
here_odd b new x key z o is more (suc n) h = at_odd n b key z o ∙ ap (λ (c : Option Branch). held_on n c (key / 2)) is ∙ more n (omega (arith, h, z))

pub here_even : (b new : Option Branch) (x : Option (ℕ × ℕ)) (key : ℕ) → key ≢ 0 → key % 2 ≢ 1 → even_of b ≡ new → ((m : ℕ) → key / 2 < m → held_on m new (key / 2) ≡ x) → (n : ℕ) → key < n → held_on n b key ≡ x
here_even b new x key z o is more zero h = absurd (omega (arith, h))
here_even b new x key z o is more (suc n) h = at_even n b key z o ∙ ap (λ (c : Option Branch). held_on n c (key / 2)) is ∙ more n (omega (arith, h, z))

-- the others stay
held_as : (n : ℕ) (b a : Option Branch) (k : ℕ) → (k ≡ 0 → value_of b ≡ value_of a) → (k % 2 ≡ 1 → held_on n (odd_of b) (k / 2) ≡ held_on n (odd_of a) (k / 2)) → (k % 2 ≢ 1 → held_on n (even_of b) (k / 2) ≡ held_on n (even_of a) (k / 2)) →
    held_on (suc n) b k ≡ held_on (suc n) a k
held_as n b a k v o e = held_by n b a k (held_on (suc n) a k) (λ z. v z ∙ sym (at_zero n a k z)) (λ z p. o p ∙ sym (at_odd n a k z p)) (λ z p. e p ∙ sym (at_even n a k z p))

pub others_zero : (b a : Option Branch) (key : ℕ) → key ≡ 0 → odd_of b ≡ odd_of a → even_of b ≡ even_of a → (n k : ℕ) → k ≢ key → held_on n b k ≡ held_on n a k
others_zero b a key z o e zero k other = held_zero b k ∙ sym (held_zero a k)
others_zero b a key z o e (suc n) k other = held_as n b a k (λ y. absurd (other (y ∙ sym z))) (λ p. ap (λ (c : Option Branch). held_on n c (k / 2)) o) (λ p. ap (λ (c : Option Branch). held_on n c (k / 2)) e)

pub others_odd : (b a new : Option Branch) (key : ℕ) → key % 2 ≡ 1 → value_of b ≡ value_of a → odd_of b ≡ new → even_of b ≡ even_of a → ((m j : ℕ) → j ≢ key / 2 → held_on m new j ≡ held_on m (odd_of a) j) →
    (n k : ℕ) → k ≢ key → held_on n b k ≡ held_on n a k
others_odd b a new key odd v o e more zero k other = held_zero b k ∙ sym (held_zero a k)
others_odd b a new key odd v o e more (suc n) k other = held_as n b a k (λ y. v)
    (λ p. ap (λ (c : Option Branch). held_on n c (k / 2)) o ∙ more n (k / 2) (λ same. other (omega (arith, p, odd, same))))
    (λ p. ap (λ (c : Option Branch). held_on n c (k / 2)) e)

pub others_even : (b a new : Option Branch) (key : ℕ) → key % 2 ≢ 1 → value_of b ≡ value_of a → even_of b ≡ new → odd_of b ≡ odd_of a → ((m j : ℕ) → j ≢ key / 2 → held_on m new j ≡ held_on m (even_of a) j) →
    (n k : ℕ) → k ≢ key → held_on n b k ≡ held_on n a k
others_even b a new key even v e o more zero k other = held_zero b k ∙ sym (held_zero a k)
others_even b a new key even v e o more (suc n) k other = held_as n b a k (λ y. v)
    (λ p. ap (λ (c : Option Branch). held_on n c (k / 2)) o)
    (λ p. ap (λ (c : Option Branch). held_on n c (k / 2)) e ∙ more n (k / 2) (λ same. other (omega (arith, p, even, same))))

-- with an entry more
pub held_with : (b a : Option Branch) (key : ℕ) (x : ℕ × ℕ) → ((n : ℕ) → key < n → held_on n b key ≡ Some x) → ((n k : ℕ) → k ≢ key → held_on n b k ≡ held_on n a k) → (k : ℕ) → held b k ≡ (if k == key then Some x else held a k)
held_with b a key x here others k = by (k == key) refl
  where
    by : (t : Bool) → (k == key) ≡ t → held b k ≡ (if t then Some x else held a k)
    by true e = let same : k ≡ key = equal_numbers k key e in ap (λ (j : ℕ). held b j) same ∙ here (key + 1) (omega arith)
    by false e = others (k + 1) k (other_numbers k key e)

-- ---- a search

pub search_odd : (b c : Option Branch) (k : ℕ) (whole : Option (ℕ × ℕ)) → k ≢ 0 → k % 2 ≡ 1 → c ≡ odd_of b → held b k ≡ whole → held c (k / 2) ≡ whole
search_odd b c k whole z o is e =
    ap (λ (d : Option Branch). held d (k / 2)) is
    ∙ held_more (k / 2 + 1) k (odd_of b) (k / 2) (omega arith) (omega (arith, z))
    ∙ sym (ap (λ (n : ℕ). held_on n b k) (let s : k + 1 ≡ suc k = omega arith in s) ∙ at_odd k b k z o) ∙ e

pub search_even : (b c : Option Branch) (k : ℕ) (whole : Option (ℕ × ℕ)) → k ≢ 0 → k % 2 ≢ 1 → c ≡ even_of b → held b k ≡ whole → held c (k / 2) ≡ whole
search_even b c k whole z o is e =
    ap (λ (d : Option Branch). held d (k / 2)) is
    ∙ held_more (k / 2 + 1) k (even_of b) (k / 2) (omega arith) (omega (arith, z))
    ∙ sym (ap (λ (n : ℕ). held_on n b k) (let s : k + 1 ≡ suc k = omega arith in s) ∙ at_even k b k z o) ∙ e

pub search_zero : (b : Option Branch) (k : ℕ) (whole : Option (ℕ × ℕ)) → k ≡ 0 → held b k ≡ whole → value_of b ≡ whole
search_zero b k whole z e = sym (ap (λ (n : ℕ). held_on n b k) (let s : k + 1 ≡ suc k = omega arith in s) ∙ at_zero k b k z) ∙ e

pub search_half : (b c : Option Branch) (k : ℕ) (whole : Option (ℕ × ℕ)) → k ≢ 0 → c ≡ half_of b k → held b k ≡ whole → held c (k / 2) ≡ whole
search_half b c k whole z is e = by (k % 2 == 1) refl
  where
    by : (t : Bool) → (k % 2 == 1) ≡ t → held c (k / 2) ≡ whole
    by true o = search_odd b c k whole z (equal_numbers (k % 2) 1 o) (is ∙ ap (λ (t : Bool). if t then odd_of b else even_of b) o) e
    by false o = search_even b c k whole z (other_numbers (k % 2) 1 o) (is ∙ ap (λ (t : Bool). if t then odd_of b else even_of b) o) e

pub search_none : (branch : Option (Rc Branch Global)) (k : ℕ) (whole : Option (ℕ × ℕ)) → branch ≡ None → held (content branch) k ≡ whole → None ≡ whole
search_none branch k whole none e = sym (ap (λ (c : Option (Rc Branch Global)). held (content c) k) none ∙ held_none (k + 1) k) ∙ e
