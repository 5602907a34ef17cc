-- Numbers that were written are read again.
use Rattle.std.proofs.Common.{◌≡◌, ◌<◌, ◌^◌, ℕ, suc, ◌-◌, ◌%◌, ℤ, pos, negsuc, Bool, true, false, cond, ltb, List, [], ◌∷◌, ◌++◌, length, Result, Ok, refl, ap, ◌∙◌, append_assoc, arith}
use Rattle.std.specs.List.{flat_map}
use Rattle.std.specs.Int.{Width, w8, w16, w32, w64, byte_len, from_be_bytes, to_be_bytes, cast_signed, cast_unsigned}
use Rattle.std.proofs.lemmas.Bool.{le-ltb, lt-ltb, ltb-true}
use Rattle.std.proofs.lemmas.Int.{to_z-of_z}
use Rattle.std.proofs.lemmas.List.{take_at, drop_at, length-append}
use Rattle.std.proofs.lemmas.Nat.{from_be_bytes-to_be_bytes_2, from_be_bytes-to_be_bytes_4, from_be_bytes-to_be_bytes_8}
use mir.Val.{SFits}
use Rattle.jc_class_out.specs.declared.format.Flaw.{Flaw}
use Rattle.jc_class_out.specs.Reading.{number_at, many, listed}
use Rattle.jc_class_out.specs.Spelling.{counted}
use Rattle.jc_class_out.specs.Fitting.{is_signed}

pub record IsWide (w : Width) (limit : ℕ) : Type 0 where
  pub len : (n : ℕ) → length (to_be_bytes w n) ≡ byte_len w
  pub again : (n : ℕ) → n < limit → from_be_bytes w (to_be_bytes w n) ≡ n

pub wide16 : IsWide w16 (2 ^ 16)
wide16 = record { len = λ n. refl; again = λ n lt. from_be_bytes-to_be_bytes_2 n lt }

pub wide32 : IsWide w32 (2 ^ 32)
wide32 = record { len = λ n. refl; again = λ n lt. from_be_bytes-to_be_bytes_4 n lt }

pub wide64 : IsWide w64 (2 ^ 64)
wide64 = record { len = λ n. refl; again = λ n lt. from_be_bytes-to_be_bytes_8 n lt }

pub number_again : (w : Width) (limit : ℕ) (wide : IsWide w limit) (n : ℕ) (rest : List ℕ) → n < limit → number_at w (to_be_bytes w n ++ rest) ≡ Ok (n, rest)
number_again w limit wide n rest lt =
    let len = wide.len n in
    let long : ltb (length (to_be_bytes w n ++ rest)) (byte_len w) ≡ false = le-ltb _ _ (omega (arith, length-append (to_be_bytes w n) rest)) in
    rw (long, take_at (to_be_bytes w n) rest (byte_len w) len, drop_at (to_be_bytes w n) rest (byte_len w) len, wide.again n lt) refl

pub u2_again : (n : ℕ) (rest : List ℕ) → n < 65536 → number_at w16 (to_be_bytes w16 n ++ rest) ≡ Ok (n, rest)
u2_again n rest lt = number_again w16 (2 ^ 16) wide16 n rest lt

pub u4_again : (n : ℕ) (rest : List ℕ) → n < 2 ^ 32 → number_at w32 (to_be_bytes w32 n ++ rest) ≡ Ok (n, rest)
u4_again n rest lt = number_again w32 (2 ^ 32) wide32 n rest lt

pub u8_again : (n : ℕ) (rest : List ℕ) → n < 2 ^ 64 → number_at w64 (to_be_bytes w64 n ++ rest) ≡ Ok (n, rest)
u8_again n rest lt = number_again w64 (2 ^ 64) wide64 n rest lt

-- numbers below the limit of their field
pub whole_u1 : (n : ℕ) → n < 256 → n % 256 ≡ n
whole_u1 n lt = omega arith

pub whole_u2 : (n : ℕ) → n < 65536 → n % 65536 ≡ n
whole_u2 n lt = omega arith

pub whole_u4 : (n : ℕ) → n < 2 ^ 32 → n % 2 ^ 32 ≡ n
whole_u4 n lt = omega arith

-- ---- tests

pub if_true : {A : Type 0} (b : Bool) (x y : A) → b ≡ true → cond b x y ≡ x
if_true b x y h = rw h refl

-- ---- signed numbers

pub fits32 : (z : ℤ) → is_signed (2 ^ 31) z ≡ true → SFits w32 z
fits32 (pos n) h = record { sfits = ltb-true n (2 ^ 31) h }
fits32 (negsuc n) h = record { sfits = ltb-true n (2 ^ 31) h }

pub fits64 : (z : ℤ) → is_signed (2 ^ 63) z ≡ true → SFits w64 z
fits64 (pos n) h = record { sfits = ltb-true n (2 ^ 63) h }
fits64 (negsuc n) h = record { sfits = ltb-true n (2 ^ 63) h }

pub fits16 : (z : ℤ) → is_signed (2 ^ 15) z ≡ true → SFits w16 z
fits16 (pos n) h = record { sfits = ltb-true n (2 ^ 15) h }
fits16 (negsuc n) h = record { sfits = ltb-true n (2 ^ 15) h }

pub unsigned32 : (z : ℤ) → is_signed (2 ^ 31) z ≡ true → cast_unsigned w32 z < 2 ^ 32
unsigned32 (pos n) h = let l = ltb-true n (2 ^ 31) h in omega (arith, l)
unsigned32 (negsuc n) h = let l = ltb-true n (2 ^ 31) h in omega (arith, l)

pub unsigned64 : (z : ℤ) → is_signed (2 ^ 63) z ≡ true → cast_unsigned w64 z < 2 ^ 64
unsigned64 (pos n) h = let l = ltb-true n (2 ^ 63) h in omega (arith, l)
unsigned64 (negsuc n) h = let l = ltb-true n (2 ^ 63) h in omega (arith, l)

pub unsigned16 : (z : ℤ) → is_signed (2 ^ 15) z ≡ true → cast_unsigned w16 z < 2 ^ 16
unsigned16 (pos n) h = let l = ltb-true n (2 ^ 15) h in omega (arith, l)
unsigned16 (negsuc n) h = let l = ltb-true n (2 ^ 15) h in omega (arith, l)

pub signed32 : (z : ℤ) → is_signed (2 ^ 31) z ≡ true → cast_signed w32 (cast_unsigned w32 z) ≡ z
signed32 z h = to_z-of_z w32 z (fits32 z h)

pub signed64 : (z : ℤ) → is_signed (2 ^ 63) z ≡ true → cast_signed w64 (cast_unsigned w64 z) ≡ z
signed64 z h = to_z-of_z w64 z (fits64 z h)

pub signed16 : (z : ℤ) → is_signed (2 ^ 15) z ≡ true → cast_signed w16 (cast_unsigned w16 z) ≡ z
signed16 z h = to_z-of_z w16 z (fits16 z h)

-- the low byte, or the low two bytes, of a number that has room there
pub low_byte_32 : (z : ℤ) → is_signed (2 ^ 7) z ≡ true → cast_signed w8 (cast_unsigned w32 z % 256) ≡ z
low_byte_32 (pos n) h = let l = ltb-true n 128 h in let e : n % 256 ≡ n = omega (arith, l) in let t : ltb n 128 ≡ true = lt-ltb n 128 l in rw (e, t) refl
low_byte_32 (negsuc n) h =
    let l = ltb-true n 128 h in
    let e : (2 ^ 32 - suc n) % 256 ≡ 256 - suc n = omega (arith, l) in
    let t : ltb (256 - suc n) 128 ≡ false = le-ltb _ _ (omega (arith, l)) in
    let k : 256 - suc (256 - suc n) ≡ n = omega (arith, l) in
    rw (e, t, k) refl

pub low_u2_32 : (z : ℤ) → is_signed (2 ^ 15) z ≡ true → cast_signed w16 (cast_unsigned w32 z % 65536) ≡ z
low_u2_32 (pos n) h = let l = ltb-true n 32768 h in let e : n % 65536 ≡ n = omega (arith, l) in let t : ltb n 32768 ≡ true = lt-ltb n 32768 l in rw (e, t) refl
low_u2_32 (negsuc n) h =
    let l = ltb-true n 32768 h in
    let e : (2 ^ 32 - suc n) % 65536 ≡ 65536 - suc n = omega (arith, l) in
    let t : ltb (65536 - suc n) 32768 ≡ false = le-ltb _ _ (omega (arith, l)) in
    let k : 65536 - suc (65536 - suc n) ≡ n = omega (arith, l) in
    rw (e, t, k) refl

pub low_byte_16 : (z : ℤ) → is_signed (2 ^ 7) z ≡ true → cast_signed w8 (cast_unsigned w16 z % 256) ≡ z
low_byte_16 (pos n) h = let l = ltb-true n 128 h in let e : n % 256 ≡ n = omega (arith, l) in let t : ltb n 128 ≡ true = lt-ltb n 128 l in rw (e, t) refl
low_byte_16 (negsuc n) h =
    let l = ltb-true n 128 h in
    let e : (65536 - suc n) % 256 ≡ 256 - suc n = omega (arith, l) in
    let t : ltb (256 - suc n) 128 ≡ false = le-ltb _ _ (omega (arith, l)) in
    let k : 256 - suc (256 - suc n) ≡ n = omega (arith, l) in
    rw (e, t, k) refl

-- ---- one after the other

-- each of them is read again, whatever follows it
abbrev pub EachAgain : {A : Type 0} → (List ℕ → Result (A × List ℕ) Flaw) → (A → List ℕ) → List A → Type 0
EachAgain f spell [] = Unit {0}
EachAgain {A} f spell (x ∷ xs) = ((rest : List ℕ) → f (spell x ++ rest) ≡ Ok (x, rest)) × EachAgain f spell xs

pub many_again : {A : Type 0} (f : List ℕ → Result (A × List ℕ) Flaw) (spell : A → List ℕ) (xs : List A) (rest : List ℕ) → EachAgain f spell xs → many f (length xs) (flat_map spell xs ++ rest) ≡ Ok (xs, rest)
unfolding many
many_again f spell [] rest h = refl
many_again f spell (x ∷ xs) rest h =
    let regrouped : (spell x ++ flat_map spell xs) ++ rest ≡ spell x ++ (flat_map spell xs ++ rest) = append_assoc (spell x) (flat_map spell xs) rest in
    let one : f ((spell x ++ flat_map spell xs) ++ rest) ≡ Ok (x, flat_map spell xs ++ rest) = ap f regrouped ∙ h.0 (flat_map spell xs ++ rest) in
    rw (one, many_again f spell xs rest h.1) refl

pub listed_again : {A : Type 0} (f : List ℕ → Result (A × List ℕ) Flaw) (spell : A → List ℕ) (xs : List A) (rest : List ℕ) → length xs < 65536 → EachAgain f spell xs → listed f (counted spell xs ++ rest) ≡ Ok (xs, rest)
unfolding listed counted
listed_again f spell xs rest lt h =
    let e : length xs % 65536 ≡ length xs = whole_u2 (length xs) lt in
    let regrouped : (to_be_bytes w16 (length xs) ++ flat_map spell xs) ++ rest ≡ to_be_bytes w16 (length xs) ++ (flat_map spell xs ++ rest) = append_assoc (to_be_bytes w16 (length xs)) (flat_map spell xs) rest in
    let n = u2_again (length xs) (flat_map spell xs ++ rest) lt in
    rw (e, regrouped, n) (many_again f spell xs rest h)
