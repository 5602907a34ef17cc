-- A whole literal, read alone, is the literal (JLS 3.10.1).
use Rattle.std.proofs.Common.{◌≡◌, ℕ, zero, suc, ◌+◌, ◌-◌, ◌<◌, ◌≤◌, Bool, true, false, cond, List, [], ◌∷◌, length, take, drop, drop-drop, length-drop, Option, Some, None, refl, sym, ap, ◌∙◌, subst, arith}
use Rattle.std.specs.Prelude.{◌||◌, ◌&&◌, ◌==◌, nat_lt, not}
use Rattle.std.proofs.lemmas.Bool.Decides.{nat_tests}
use Rattle.std.proofs.lemmas.List.{drop-take, length-take-le}
use Rattle.std.proofs.lemmas.List.Sums.{prefix_len-le-length}
use Rattle.std.proofs.lemmas.Bool.{or_parts}
use Rattle.jc_lexer.specs.declared.number.Numeral.{Numeral}
use Rattle.jc_lexer.specs.declared.number.Numeral.TheVariants.{Whole, Malformed, Real, Cut}
use Rattle.jc_lexer.specs.declared.number.Tail.{Tail}
use Rattle.jc_lexer.specs.declared.number.Tail.TheVariants.{Follows, Absent, Broken}
use Rattle.jc_lexer.specs.declared.symbol.Class.TheVariants.{Digits, HexDigits}
use Rattle.jc_lexer.specs.declared.symbol.Symbol.{Symbol}
use Rattle.jc_lexer.specs.declared.symbol.TheConstants.{END}
use Rattle.jc_lexer.specs.Numbers.{whole_of, whole_value, fraction, power, decimal_after, decimal_number, hex_tail, hex_after, hex_number, binary_after, binary_number, number}
use Rattle.jc_lexer.specs.Symbols.{code_at, passes, run_length, is_break}
use Rattle.jc_lexer_laws.proofs.Calm.{IsCalm, calm}
use Rattle.jc_lexer_laws.proofs.Slices.{no, yes, code_alike, run_alike}

-- a text that begins with the same symbols, so many, and ends or has a suffix behind them
pub record Ends (a u : List Symbol) (len : ℕ) : Type 0 where
  pub same : take len u ≡ take len a
  pub calm : IsCalm (code_at u len)

-- no fraction and no exponent stand behind it

calm_fraction : (t : List Symbol) → IsCalm (code_at t 0) → fraction t ≡ Absent
unfolding fraction
calm_fraction t k =
    let c = code_at t 0 in
    no (is_break c) _ _ (calm is_break c k refl refl refl) ∙
    (no ((c == 101) || (c == 69)) _ _ (calm (λ d. (d == 101) || (d == 69)) c k refl refl refl) ∙
    no ((c == 46) || (c == 102) || (c == 70) || (c == 100) || (c == 68)) _ _ (calm (λ d. (d == 46) || (d == 102) || (d == 70) || (d == 100) || (d == 68)) c k refl refl refl))

calm_power : (t : List Symbol) → IsCalm (code_at t 0) → power t ≡ Absent
unfolding power
calm_power t k =
    let c = code_at t 0 in
    no (is_break c) _ _ (calm is_break c k refl refl refl) ∙ no ((c == 112) || (c == 80)) _ _ (calm (λ d. (d == 112) || (d == 80)) c k refl refl refl)

calm_hex : (t : List Symbol) → IsCalm (code_at t 0) → hex_tail true t ≡ Absent
unfolding hex_tail
calm_hex t k = no (code_at t 0 == 46) _ _ (calm (λ d. d == 46) (code_at t 0) k refl refl refl) ∙ calm_power t k

-- how many symbols a literal has

whole_len : (decimal : Bool) (n : ℕ) (o : Option ℕ) (value : ℕ) (d : Bool) (len : ℕ) → whole_of decimal n o ≡ Whole value d len → n ≡ len
whole_len decimal n None value d len e = cc
whole_len decimal n (Some v) value d len e = cc

either_len : (b : Bool) (x y : Numeral) (n value : ℕ) (d : Bool) (len : ℕ) → (x ≡ Whole value d len → n ≡ len) → (y ≡ Whole value d len → n ≡ len) → cond b x y ≡ Whole value d len → n ≡ len
either_len true x y n value d len p q e = p e
either_len false x y n value d len p q e = q e

digits_len : (digits : List Symbol) (value : ℕ) (d : Bool) (len : ℕ) → decimal_after Absent digits ≡ Whole value d len → length digits ≡ len
unfolding decimal_after
digits_len digits value d len e =
    either_len ((code_at digits 0 == 48) && nat_lt 1 (length digits)) _ _ (length digits) value d len
    (whole_len false (length digits) (whole_value 8 digits) value d len) (whole_len true (length digits) (whole_value 10 digits) value d len) e

after_absent : (t : Tail) (digits : List Symbol) (value : ℕ) (d : Bool) (len : ℕ) → decimal_after t digits ≡ Whole value d len → t ≡ Absent
unfolding decimal_after
after_absent Follows digits value d len e = absurd (let f : Real ≡ Whole value d len = e in cc)
after_absent Broken digits value d len e = absurd (let f : Cut ≡ Whole value d len = e in cc)
after_absent Absent digits value d len e = refl

-- the two tests before what stands behind the digits
pub record Passed (cut bad : Bool) (x : Numeral) (value : ℕ) (d : Bool) (len : ℕ) : Type 0 where
  pub whole : cut ≡ false
  pub good : bad ≡ false
  pub is : x ≡ Whole value d len

passed : (cut bad : Bool) (x : Numeral) (value : ℕ) (d : Bool) (len : ℕ) → cond cut Cut (cond bad Malformed x) ≡ Whole value d len → Passed cut bad x value d len
passed true bad x value d len e = absurd (let f : Cut ≡ Whole value d len = e in cc)
passed false true x value d len e = absurd (let f : Malformed ≡ Whole value d len = e in cc)
passed false false x value d len e = record { whole = refl; good = refl; is = e }

is_some : (n : ℕ) → (n == 0) ≡ false → 0 < n
is_some zero e = absurd (let f : true ≡ false = e in cc)
is_some (suc n) e = omega arith

both_of : (a b : Bool) → a ≡ false → b ≡ false → (a || b) ≡ false
both_of true b e f = e
both_of false b e f = f

length_of : (n : ℕ) (a : List Symbol) → n ≤ length a → length (take n a) ≡ n
length_of n a l = length-take-le n a l

code_drop : (k : ℕ) (u : List Symbol) → code_at (drop k u) 0 ≡ code_at u k
code_drop zero u = refl
code_drop (suc k) [] = refl
code_drop (suc k) (s ∷ u) = code_drop k u

calm_behind : (a u : List Symbol) (k : ℕ) → Ends a u k → IsCalm (code_at (drop k u) 0)
calm_behind a u k ends = subst IsCalm (sym (code_drop k u)) ends.calm

digits_alike : (a u : List Symbol) (k : ℕ) → run_length Digits a ≡ k → Ends a u k → run_length Digits u ≡ k
digits_alike a u k r ends = run_alike Digits k a u r ends.same (calm (passes Digits) (code_at u k) ends.calm refl refl refl)

hexes_alike : (a u : List Symbol) (k : ℕ) → run_length HexDigits a ≡ k → Ends a u k → run_length HexDigits u ≡ k
hexes_alike a u k r ends = run_alike HexDigits k a u r ends.same (calm (passes HexDigits) (code_at u k) ends.calm refl refl refl)

-- the last of so many symbols, and whether there are any
last_alike : (a u : List Symbol) (k : ℕ) → Ends a u k → ((k == 0) || (code_at a (k - 1) == 95)) ≡ false → ((k == 0) || (code_at u (k - 1) == 95)) ≡ false
last_alike a u k ends good =
    let p = or_parts (k == 0) (code_at a (k - 1) == 95) good in
    let some : 0 < k = is_some k p.0 in
    let same : code_at u (k - 1) ≡ code_at a (k - 1) = code_alike k (k - 1) a u ends.same (omega (arith, some)) in
    both_of (k == 0) (code_at u (k - 1) == 95) p.0 (ap (λ (c : ℕ). c == 95) same ∙ p.1)

decimal_of : (a u : List Symbol) (k : ℕ) → run_length Digits u ≡ k → Ends a u k → ((k == 0) || (code_at u (k - 1) == 95)) ≡ false → decimal_number u ≡ decimal_after Absent (take k a)
unfolding decimal_number
decimal_of a u k r ends good =
    ap (λ (n : ℕ). cond (is_break (code_at (drop n u) 0)) Cut (cond ((n == 0) || (code_at u (n - 1) == 95)) Malformed (decimal_after (fraction (drop n u)) (take n u)))) r ∙
    (no (is_break (code_at (drop k u) 0)) _ _ (calm is_break (code_at (drop k u) 0) (calm_behind a u k ends) refl refl refl) ∙
    (no ((k == 0) || (code_at u (k - 1) == 95)) _ _ good ∙
    (ap (λ (t : Tail). decimal_after t (take k u)) (calm_fraction (drop k u) (calm_behind a u k ends)) ∙ ap (decimal_after Absent) ends.same)))

abbrev IsDecimal : List Symbol → ℕ → Bool → ℕ → ℕ → Type 0
IsDecimal a value d len k = (((k == 0) || (code_at a (k - 1) == 95)) ≡ false) × (decimal_after Absent (take k a) ≡ Whole value d len) × (k ≤ length a) × (k ≡ len)

is_decimal_number : (a : List Symbol) (value : ℕ) (d : Bool) (len : ℕ) → decimal_number a ≡ Whole value d len → IsDecimal a value d len (run_length Digits a)
unfolding decimal_number
is_decimal_number a value d len e =
    let k = run_length Digits a in
    let p = passed (is_break (code_at (drop k a) 0)) ((k == 0) || (code_at a (k - 1) == 95)) (decimal_after (fraction (drop k a)) (take k a)) value d len e in
    let within : k ≤ length a = prefix_len-le-length _ a in
    let absent : fraction (drop k a) ≡ Absent = after_absent (fraction (drop k a)) (take k a) value d len p.is in
    let is : decimal_after Absent (take k a) ≡ Whole value d len = subst (λ (t : Tail). decimal_after t (take k a) ≡ Whole value d len) absent p.is in
    (p.good, is, within, sym (length_of k a within) ∙ digits_len (take k a) value d len is)

decimal_whole : (a u : List Symbol) (value : ℕ) (d : Bool) (len k : ℕ) → run_length Digits a ≡ k → IsDecimal a value d len k → Ends a u len → (decimal_number u ≡ Whole value d len) × (len ≤ length a)
decimal_whole a u value d len k r p ends =
    let here : Ends a u k = subst (Ends a u) (sym p.3) ends in
    (decimal_of a u k (digits_alike a u k r here) here (last_alike a u k here p.0) ∙ p.1, omega (arith, p.2, p.3))

decimal_alone : (a u : List Symbol) (value : ℕ) (d : Bool) (len : ℕ) → decimal_number a ≡ Whole value d len → Ends a u len → (decimal_number u ≡ Whole value d len) × (len ≤ length a)
decimal_alone a u value d len e ends = decimal_whole a u value d len (run_length Digits a) refl (is_decimal_number a value d len e) ends

-- behind `0x`

hex_absent : (t : Tail) (digits : List Symbol) (value : ℕ) (d : Bool) (len : ℕ) → hex_after t digits ≡ Whole value d len → t ≡ Absent
unfolding hex_after
hex_absent Follows digits value d len e = absurd (let f : Real ≡ Whole value d len = e in cc)
hex_absent Broken digits value d len e = absurd (let f : Cut ≡ Whole value d len = e in cc)
hex_absent Absent digits value d len e = refl

hexes_len : (digits : List Symbol) (value : ℕ) (d : Bool) (len : ℕ) → hex_after Absent digits ≡ Whole value d len → (0 < length digits) × (length digits + 2 ≡ len)
unfolding hex_after
hexes_len [] value d len e = absurd (let f : Malformed ≡ Whole value d len = e in cc)
hexes_len (s ∷ digits) value d len e = (omega arith, whole_len false (length (s ∷ digits) + 2) (whole_value 16 (s ∷ digits)) value d len e)

abbrev hex_tested : Bool → Bool → Bool → Numeral → Numeral
hex_tested under bad cut x = cond under Malformed (cond bad (cond cut Cut Malformed) x)

hex_passed : (under bad cut : Bool) (x : Numeral) (value : ℕ) (d : Bool) (len : ℕ) → hex_tested under bad cut x ≡ Whole value d len → (under ≡ false) × (bad ≡ false) × (x ≡ Whole value d len)
hex_passed true bad cut x value d len e = absurd (let f : Malformed ≡ Whole value d len = e in cc)
hex_passed false true true x value d len e = absurd (let f : Cut ≡ Whole value d len = e in cc)
hex_passed false true false x value d len e = absurd (let f : Malformed ≡ Whole value d len = e in cc)
hex_passed false false cut x value d len e = (refl, refl, e)

abbrev IsHex : List Symbol → ℕ → Bool → ℕ → ℕ → Type 0
IsHex a value d len k =
    ((code_at a 0 == 95) ≡ false) × ((nat_lt 0 k && (code_at a (k - 1) == 95)) ≡ false) × (hex_after Absent (take k a) ≡ Whole value d len) × (k ≤ length a) × (0 < k) × (k + 2 ≡ len)

is_hex_number : (a : List Symbol) (value : ℕ) (d : Bool) (len : ℕ) → hex_number a ≡ Whole value d len → IsHex a value d len (run_length HexDigits a)
unfolding hex_number
is_hex_number a value d len e =
    let k = run_length HexDigits a in
    let p = hex_passed (code_at a 0 == 95) (nat_lt 0 k && (code_at a (k - 1) == 95)) (is_break (code_at (drop k a) 0)) (hex_after (hex_tail (nat_lt 0 k) (drop k a)) (take k a)) value d len e in
    let within : k ≤ length a = prefix_len-le-length _ a in
    let absent : hex_tail (nat_lt 0 k) (drop k a) ≡ Absent = hex_absent (hex_tail (nat_lt 0 k) (drop k a)) (take k a) value d len p.2 in
    let is : hex_after Absent (take k a) ≡ Whole value d len = subst (λ (t : Tail). hex_after t (take k a) ≡ Whole value d len) absent p.2 in
    let l = hexes_len (take k a) value d len is in
    let same : length (take k a) ≡ k = length_of k a within in
    (p.0, p.1, is, within, omega (arith, l.0, same), omega (arith, l.1, same))

hex_of : (a u : List Symbol) (k : ℕ) → run_length HexDigits u ≡ k → Ends a u k → 0 < k → (code_at u 0 == 95) ≡ false → (nat_lt 0 k && (code_at u (k - 1) == 95)) ≡ false →
    hex_number u ≡ hex_after Absent (take k a)
unfolding hex_number
hex_of a u k r ends some under bad =
    let lt : nat_lt 0 k ≡ true = grind (arith, nat_tests) in
    ap (λ (n : ℕ). hex_tested (code_at u 0 == 95) (nat_lt 0 n && (code_at u (n - 1) == 95)) (is_break (code_at (drop n u) 0)) (hex_after (hex_tail (nat_lt 0 n) (drop n u)) (take n u))) r ∙
    (no (code_at u 0 == 95) _ _ under ∙ (no (nat_lt 0 k && (code_at u (k - 1) == 95)) _ _ bad ∙
    (ap (λ (b : Bool). hex_after (hex_tail b (drop k u)) (take k u)) lt ∙
    (ap (λ (t : Tail). hex_after t (take k u)) (calm_hex (drop k u) (calm_behind a u k ends)) ∙ ap (hex_after Absent) ends.same))))

hex_whole : (a u : List Symbol) (value : ℕ) (d : Bool) (len k : ℕ) → run_length HexDigits a ≡ k → IsHex a value d len k → Ends a u k → hex_number u ≡ Whole value d len
hex_whole a u value d len k r p ends =
    let front : code_at u 0 ≡ code_at a 0 = code_alike k 0 a u ends.same p.4 in
    let last : code_at u (k - 1) ≡ code_at a (k - 1) = code_alike k (k - 1) a u ends.same (omega (arith, p.4)) in
    hex_of a u k (hexes_alike a u k r ends) ends p.4 (ap (λ (c : ℕ). c == 95) front ∙ p.0) (ap (λ (c : ℕ). nat_lt 0 k && (c == 95)) last ∙ p.1) ∙ p.2

-- behind `0b`

abbrev binary_tested : Bool → Bool → Bool → Numeral → Numeral
binary_tested under cut bad x = cond under Malformed (cond cut Cut (cond bad Malformed x))

binary_passed : (under cut bad : Bool) (x : Numeral) (value : ℕ) (d : Bool) (len : ℕ) → binary_tested under cut bad x ≡ Whole value d len → (under ≡ false) × (bad ≡ false) × (x ≡ Whole value d len)
binary_passed true cut bad x value d len e = absurd (let f : Malformed ≡ Whole value d len = e in cc)
binary_passed false true bad x value d len e = absurd (let f : Cut ≡ Whole value d len = e in cc)
binary_passed false false true x value d len e = absurd (let f : Malformed ≡ Whole value d len = e in cc)
binary_passed false false false x value d len e = (refl, refl, e)

abbrev IsBinary : Option ℕ → List Symbol → ℕ → Bool → ℕ → ℕ → Type 0
IsBinary o a value d len k =
    ((code_at a 0 == 95) ≡ false) × (((k == 0) || (code_at a (k - 1) == 95)) ≡ false) × (o ≡ Some value) × (d ≡ false) × (k + 2 ≡ len)

is_binary : (o : Option ℕ) (k : ℕ) (a : List Symbol) (value : ℕ) (d : Bool) (len : ℕ) → binary_after o k a ≡ Whole value d len → IsBinary o a value d len k
unfolding binary_after
is_binary None k a value d len e = absurd (let f : Malformed ≡ Whole value d len = e in cc)
is_binary (Some v) k a value d len e =
    let p = binary_passed (code_at a 0 == 95) (is_break (code_at a k)) ((k == 0) || (code_at a (k - 1) == 95)) (Whole v false (k + 2)) value d len e in
    let is : Whole v false (k + 2) ≡ Whole value d len = p.2 in
    (p.0, p.1, cc, cc, cc)

binary_is : (o : Option ℕ) (k : ℕ) (a u : List Symbol) (value : ℕ) (d : Bool) (len : ℕ) → Ends a u k → IsBinary o a value d len k → binary_after o k u ≡ Whole value d len
unfolding binary_after
binary_is None k a u value d len ends p = absurd (let f : ◌≡◌ {A = Option ℕ} None (Some value) = p.2 in cc)
binary_is (Some v) k a u value d len ends p =
    let some : 0 < k = is_some k (or_parts (k == 0) (code_at a (k - 1) == 95) p.1).0 in
    let front : code_at u 0 ≡ code_at a 0 = code_alike k 0 a u ends.same some in
    no (code_at u 0 == 95) _ _ (ap (λ (c : ℕ). c == 95) front ∙ p.0) ∙
    (no (is_break (code_at u k)) _ _ (calm is_break (code_at u k) ends.calm refl refl refl) ∙
    (no ((k == 0) || (code_at u (k - 1) == 95)) _ _ (last_alike a u k ends p.1) ∙
    (let v_is : v ≡ value = (let f : Some v ≡ Some value = p.2 in cc) in let d_is : d ≡ false = p.3 in let len_is : k + 2 ≡ len = p.4 in cc)))

is_binary_number : (a : List Symbol) (value : ℕ) (d : Bool) (len : ℕ) → binary_number a ≡ Whole value d len → IsBinary (whole_value 2 (take (run_length Digits a) a)) a value d len (run_length Digits a)
unfolding binary_number
is_binary_number a value d len e = is_binary (whole_value 2 (take (run_length Digits a) a)) (run_length Digits a) a value d len e

binary_whole : (a u : List Symbol) (value : ℕ) (d : Bool) (len k : ℕ) → run_length Digits a ≡ k → IsBinary (whole_value 2 (take k a)) a value d len k → Ends a u k → binary_number u ≡ Whole value d len
unfolding binary_number
binary_whole a u value d len k r p ends =
    ap (λ (n : ℕ). binary_after (whole_value 2 (take n u)) n u) (digits_alike a u k r ends) ∙
    (ap (λ (t : List Symbol). binary_after (whole_value 2 t) k u) ends.same ∙ binary_is (whole_value 2 (take k a)) k a u value d len ends p)

-- what a number is by its first two characters
abbrev chosen : Bool → Bool → Bool → List Symbol → Numeral
chosen other hex binary text = cond other (decimal_number text) (cond hex (hex_number (drop 2 text)) (cond binary (binary_number (drop 2 text)) (decimal_number text)))

abbrev is_other : ℕ → Bool
is_other c = not (c == 48)

abbrev is_hex : ℕ → Bool
is_hex c = (c == 120) || (c == 88)

abbrev is_two : ℕ → Bool
is_two c = (c == 98) || (c == 66)

code_behind : (k : ℕ) (u : List Symbol) → code_at (drop 2 u) k ≡ code_at u (2 + k)
code_behind k u = sym (code_drop k (drop 2 u)) ∙ (ap (λ (t : List Symbol). code_at t 0) (drop-drop k 2 u) ∙ code_drop (2 + k) u)

ends_behind : (k len : ℕ) (a u : List Symbol) → k + 2 ≡ len → Ends a u len → Ends (drop 2 a) (drop 2 u) k
ends_behind k len a u e ends =
    let there : 2 + k ≡ len = omega (arith, e) in
    let taken : take (2 + k) u ≡ take (2 + k) a = subst (λ (n : ℕ). take n u ≡ take n a) (sym there) ends.same in
    record {
      same = sym (drop-take 2 k u) ∙ (ap (drop 2) taken ∙ drop-take 2 k a);
      calm = subst IsCalm (sym (code_behind k u)) (subst (λ (n : ℕ). IsCalm (code_at u n)) (sym there) ends.calm);
    }

length_behind : (k : ℕ) (a : List Symbol) → 0 < k → k ≤ length (drop 2 a) → k + 2 ≤ length a
length_behind k a l w = let e : length (drop 2 a) ≡ length a - 2 = length-drop 2 a in omega (arith, e, w, l)

abbrev WholeAgain : Numeral → List Symbol → ℕ → Bool → ℕ → Type 0
WholeAgain n a value d len = (n ≡ Whole value d len) × (len ≤ length a)

hex_again : (a u : List Symbol) (value : ℕ) (d : Bool) (len k : ℕ) → run_length HexDigits (drop 2 a) ≡ k → IsHex (drop 2 a) value d len k → Ends a u len → WholeAgain (hex_number (drop 2 u)) a value d len
hex_again a u value d len k r p ends =
    (hex_whole (drop 2 a) (drop 2 u) value d len k r p (ends_behind k len a u p.5 ends), (let l = length_behind k a p.4 p.3 in omega (arith, l, p.5)))

hex_alone : (a u : List Symbol) (value : ℕ) (d : Bool) (len : ℕ) → hex_number (drop 2 a) ≡ Whole value d len → Ends a u len → WholeAgain (hex_number (drop 2 u)) a value d len
hex_alone a u value d len e ends = hex_again a u value d len (run_length HexDigits (drop 2 a)) refl (is_hex_number (drop 2 a) value d len e) ends

hex_two : (a : List Symbol) (value : ℕ) (d : Bool) (len : ℕ) → hex_number (drop 2 a) ≡ Whole value d len → 1 < len
hex_two a value d len e = let p = is_hex_number (drop 2 a) value d len e in omega (arith, p.5)

binary_again : (a u : List Symbol) (value : ℕ) (d : Bool) (len k : ℕ) → run_length Digits (drop 2 a) ≡ k → IsBinary (whole_value 2 (take k (drop 2 a))) (drop 2 a) value d len k → Ends a u len → WholeAgain (binary_number (drop 2 u)) a value d len
binary_again a u value d len k r p ends =
    let some : 0 < k = is_some k (or_parts (k == 0) (code_at (drop 2 a) (k - 1) == 95) p.1).0 in
    let within : run_length Digits (drop 2 a) ≤ length (drop 2 a) = prefix_len-le-length _ (drop 2 a) in
    (binary_whole (drop 2 a) (drop 2 u) value d len k r p (ends_behind k len a u p.4 ends), (let l = length_behind k a some (omega (arith, within, r)) in omega (arith, l, p.4)))

binary_alone : (a u : List Symbol) (value : ℕ) (d : Bool) (len : ℕ) → binary_number (drop 2 a) ≡ Whole value d len → Ends a u len → WholeAgain (binary_number (drop 2 u)) a value d len
binary_alone a u value d len e ends = binary_again a u value d len (run_length Digits (drop 2 a)) refl (is_binary_number (drop 2 a) value d len e) ends

binary_two : (a : List Symbol) (value : ℕ) (d : Bool) (len : ℕ) → binary_number (drop 2 a) ≡ Whole value d len → 1 < len
binary_two a value d len e = let p = is_binary_number (drop 2 a) value d len e in omega (arith, p.4)

-- the second character, where there is one, or what is none of a prefix
second_is : (P : ℕ → Bool) (a u : List Symbol) (len : ℕ) → 0 < len → Ends a u len → P END ≡ false → P 76 ≡ false → P 108 ≡ false → P (code_at a 1) ≡ false → P (code_at u 1) ≡ false
second_is P a u zero l ends p q r f = absurd (omega arith)
second_is P a u (suc zero) l ends p q r f = calm P (code_at u 1) ends.calm p q r
second_is P a u (suc (suc n)) l ends p q r f = ap P (code_alike (suc (suc n)) 1 a u ends.same (omega arith)) ∙ f

module _ (a u : List Symbol) (value : ℕ) (d : Bool) (len : ℕ) (some : 0 < len) (ends : Ends a u len) where
  front : code_at u 0 ≡ code_at a 0
  front = code_alike len 0 a u ends.same some

  second : 1 < len → code_at u 1 ≡ code_at a 1
  second l = code_alike len 1 a u ends.same l

  by_tests : (other hex two : Bool) → is_other (code_at a 0) ≡ other → is_hex (code_at a 1) ≡ hex → is_two (code_at a 1) ≡ two → chosen other hex two a ≡ Whole value d len → WholeAgain (number u) a value d len
  unfolding number
  by_tests true hex two o h t e =
      let w = decimal_alone a u value d len e ends in
      (yes (is_other (code_at u 0)) _ _ (ap is_other front ∙ o) ∙ w.0, w.1)
  by_tests false true two o h t e =
      let w = hex_alone a u value d len e ends in
      let l = hex_two a value d len e in
      (no (is_other (code_at u 0)) _ _ (ap is_other front ∙ o) ∙ (yes (is_hex (code_at u 1)) _ _ (ap is_hex (second l) ∙ h) ∙ w.0), w.1)
  by_tests false false true o h t e =
      let w = binary_alone a u value d len e ends in
      let l = binary_two a value d len e in
      (no (is_other (code_at u 0)) _ _ (ap is_other front ∙ o) ∙ (no (is_hex (code_at u 1)) _ _ (ap is_hex (second l) ∙ h) ∙ (yes (is_two (code_at u 1)) _ _ (ap is_two (second l) ∙ t) ∙ w.0)), w.1)
  by_tests false false false o h t e =
      let w = decimal_alone a u value d len e ends in
      (no (is_other (code_at u 0)) _ _ (ap is_other front ∙ o) ∙ (no (is_hex (code_at u 1)) _ _ (second_is is_hex a u len some ends refl refl refl h) ∙ (no (is_two (code_at u 1)) _ _ (second_is is_two a u len some ends refl refl refl t) ∙ w.0)), w.1)

-- a whole literal, read where its symbols end or its suffix stands behind them, is the same
pub number_alone : (a u : List Symbol) (value : ℕ) (d : Bool) (len : ℕ) → 0 < len → Ends a u len → number a ≡ Whole value d len → (number u ≡ Whole value d len) × (len ≤ length a)
unfolding number
number_alone a u value d len some ends e = by_tests a u value d len some ends (is_other (code_at a 0)) (is_hex (code_at a 1)) (is_two (code_at a 1)) refl refl refl e
