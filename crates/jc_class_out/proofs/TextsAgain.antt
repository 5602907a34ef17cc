-- A text that was spelled is read again.
use Rattle.std.proofs.Common.{◌≡◌, ◌<◌, ◌≤◌, ◌^◌, ℕ, zero, suc, ◌+◌, ◌-◌, ◌*◌, ◌/◌, ◌%◌, Bool, true, false, cond, eqb, ltb, List, [], ◌∷◌, ◌++◌, length, Some, Ok, refl, sym, ap, ◌∙◌, append_assoc, arith, inl, inr}
use lib.Dec.{leb}
use Rattle.std.specs.Prelude.{◌||◌}
use Rattle.std.specs.List.{list_all}
use Rattle.std.specs.Int.{w16, to_be_bytes}
use Rattle.std.proofs.lemmas.Bool.{cases_lt, ltb-true, le-ltb, lt-ltb, le-leb, ne_eqb, or_right, and_parts, or_left}
use Rattle.std.proofs.lemmas.List.{take_at, drop_at, length-append}
use Rattle.jc_class_out.specs.Texts.{unit_bytes, text_bytes, unit_at, units_on, text_of_bytes}
use Rattle.jc_class_out.specs.Pool.{text_at}
use Rattle.jc_class_out.specs.Fitting.{text_fits, is_u16}
use Rattle.jc_class_out.proofs.Numbers.{u2_again, whole_u2}

one_again : (u : ℕ) (rest : List ℕ) → 0 < u → u < 0x80 → unit_at (u ∷ rest) ≡ Some (u, rest)
one_again u rest h g = rw (le-leb 1 u h, lt-ltb u 0x80 g) refl

-- the tests of two and three bytes, as numbers
two_by : (a b : ℕ) (rest : List ℕ) → 0xC2 ≤ a → a < 0xE0 → 0x80 ≤ b → b < 0xC0 → unit_at (a ∷ b ∷ rest) ≡ Some ((a - 0xC0) * 64 + (b - 0x80), rest)
two_by a b rest h g k l = rw (le-leb 1 a (omega (arith, h)), le-ltb a 0x80 (omega (arith, h)), le-leb 0xC0 a (omega (arith, h)), lt-ltb a 0xE0 g, le-leb 0x80 b k, lt-ltb b 0xC0 l, ne_eqb a 0xC0 (λ e. omega (arith, e, h)), le-leb 0xC2 a h) refl

two_again : (u : ℕ) (rest : List ℕ) → 0x80 ≤ u → u < 0x800 → unit_at ((0xC0 + u / 64) ∷ (0x80 + u % 64) ∷ rest) ≡ Some (u, rest)
two_again u rest h g =
    let e : (0xC0 + u / 64 - 0xC0) * 64 + (0x80 + u % 64 - 0x80) ≡ u = omega arith in
    two_by (0xC0 + u / 64) (0x80 + u % 64) rest (omega arith) (omega arith) (omega arith) (omega arith) ∙ ap (λ (x : ℕ). Some (x, rest)) e

three_by : (a b c : ℕ) (rest : List ℕ) → 0xE0 ≤ a → a < 0xF0 → 0x80 ≤ b → b < 0xC0 → 0x80 ≤ c → c < 0xC0 → (leb 0xE1 a || leb 0xA0 b) ≡ true → unit_at (a ∷ b ∷ c ∷ rest) ≡ Some ((a - 0xE0) * 4096 + (b - 0x80) * 64 + (c - 0x80), rest)
three_by a b c rest h g k l m n long = rw (le-leb 1 a (omega (arith, h)), le-ltb a 0x80 (omega (arith, h)), le-leb 0xC0 a (omega (arith, h)), le-ltb a 0xE0 h, le-leb 0xE0 a h, lt-ltb a 0xF0 g, le-leb 0x80 b k, lt-ltb b 0xC0 l, le-leb 0x80 c m, lt-ltb c 0xC0 n, long) refl

three_long : (u : ℕ) → 0x800 ≤ u → u < 2 ^ 16 → (leb 0xE1 (0xE0 + u / 4096) || leb 0xA0 (0x80 + u / 64 % 64)) ≡ true
three_long u h g = elim (cases_lt u 4096) [
  | inl lt ↦ or_right _ _ (le-leb 0xA0 (0x80 + u / 64 % 64) (omega (arith, h, lt)))
  | inr ge ↦ or_left _ _ (le-leb 0xE1 (0xE0 + u / 4096) (omega (arith, ge)))
]

three_again : (u : ℕ) (rest : List ℕ) → 0x800 ≤ u → u < 2 ^ 16 → unit_at ((0xE0 + u / 4096) ∷ (0x80 + u / 64 % 64) ∷ (0x80 + u % 64) ∷ rest) ≡ Some (u, rest)
three_again u rest h g =
    let e : (0xE0 + u / 4096 - 0xE0) * 4096 + (0x80 + u / 64 % 64 - 0x80) * 64 + (0x80 + u % 64 - 0x80) ≡ u = omega arith in
    three_by (0xE0 + u / 4096) (0x80 + u / 64 % 64) (0x80 + u % 64) rest (omega arith) (omega arith) (omega arith) (omega arith) (omega arith) (omega arith) (three_long u h g) ∙ ap (λ (x : ℕ). Some (x, rest)) e

pub unit_again : (u : ℕ) (rest : List ℕ) → u < 2 ^ 16 → unit_at (unit_bytes u ++ rest) ≡ Some (u, rest)
unit_again zero rest g = refl
unit_again (suc v) rest g =
    let u : ℕ = suc v in
    let nz : eqb (suc v) 0 ≡ false = ne_eqb (suc v) 0 (λ e. omega (arith, e)) in
    elim (cases_lt u 0x80) [
      | inl a ↦ rw (nz, lt-ltb u 0x80 a) (one_again u rest (omega arith) a)
      | inr a ↦ elim (cases_lt u 0x800) [
        | inl b ↦ rw (nz, le-ltb u 0x80 a, lt-ltb u 0x800 b) (two_again u rest a b)
        | inr b ↦ rw (nz, le-ltb u 0x80 a, le-ltb u 0x800 b) (three_again u rest b g)
      ]
    ]

bytes_by : (a b c : Bool) (p q r s : List ℕ) (x y z w : ℕ) (ps qs rs ss : List ℕ) → (P : List ℕ → Type 0) → P (x ∷ ps) → P (y ∷ qs) → P (z ∷ rs) → P (w ∷ ss) → P (cond a (x ∷ ps) (cond b (y ∷ qs) (cond c (z ∷ rs) (w ∷ ss))))
bytes_by true b c p q r s x y z w ps qs rs ss P i j k l = i
bytes_by false true c p q r s x y z w ps qs rs ss P i j k l = j
bytes_by false false true p q r s x y z w ps qs rs ss P i j k l = k
bytes_by false false false p q r s x y z w ps qs rs ss P i j k l = l

abbrev Starts : List ℕ → Type 0
Starts bytes = (x : ℕ) × (xs : List ℕ) × (bytes ≡ x ∷ xs)

starts : (u : ℕ) → Starts (unit_bytes u)
starts u = bytes_by (eqb u 0) (ltb u 0x80) (ltb u 0x800) [] [] [] [] 0xC0 u (0xC0 + u / 64) (0xE0 + u / 4096) (0x80 ∷ []) [] ((0x80 + u % 64) ∷ []) ((0x80 + u / 64 % 64) ∷ (0x80 + u % 64) ∷ []) Starts
    (0xC0, 0x80 ∷ [], refl) (u, [], refl) (0xC0 + u / 64, (0x80 + u % 64) ∷ [], refl) (0xE0 + u / 4096, (0x80 + u / 64 % 64) ∷ (0x80 + u % 64) ∷ [], refl)

-- with room for the units that are left
units_step : (n u : ℕ) (bytes more : List ℕ) (us : List ℕ) → Starts bytes → unit_at (bytes ++ more) ≡ Some (u, more) → units_on n more ≡ Some us → units_on (suc n) (bytes ++ more) ≡ Some (u ∷ us)
unfolding units_on
units_step n u bytes more us s one rest =
    let whole : bytes ++ more ≡ s.0 ∷ (s.1 ++ more) = ap (λ (b : List ℕ). b ++ more) s.2 in
    let here : unit_at (s.0 ∷ (s.1 ++ more)) ≡ Some (u, more) = ap unit_at (sym whole) ∙ one in
    ap (units_on (suc n)) whole ∙ rw (here, rest) refl

units_again : (us : List ℕ) (n : ℕ) → list_all is_u16 us ≡ true → length (text_bytes us) ≤ n → units_on n (text_bytes us) ≡ Some us
unfolding units_on
units_again [] n h le = refl
units_again (u ∷ us) zero h le =
    let s = starts u in
    absurd (omega (arith, le, length-append (unit_bytes u) (text_bytes us), ap length s.2))
units_again (u ∷ us) (suc n) h le =
    let p = and_parts (is_u16 u) (list_all is_u16 us) h in
    let s = starts u in
    let l : length (text_bytes us) ≤ n = omega (arith, le, length-append (unit_bytes u) (text_bytes us), ap length s.2) in
    units_step n u (unit_bytes u) (text_bytes us) us s (unit_again u (text_bytes us) (ltb-true u 65536 p.0)) (units_again us n p.1 l)

pub text_bytes_again : (t : List ℕ) → text_fits t ≡ true → text_of_bytes (text_bytes t) ≡ Some t
unfolding text_fits
text_bytes_again t h = units_again t (length (text_bytes t)) ((and_parts (list_all is_u16 t) (ltb (length (text_bytes t)) 65536) h).0) (omega arith)

pub text_again : (t rest : List ℕ) → text_fits t ≡ true → text_at ((to_be_bytes w16 (length (text_bytes t) % 65536) ++ text_bytes t) ++ rest) ≡ Ok (t, rest)
unfolding text_at text_fits
text_again t rest h =
    let bytes = text_bytes t in
    let lt : length (text_bytes t) < 65536 = ltb-true _ _ ((and_parts (list_all is_u16 t) (ltb (length (text_bytes t)) 65536) h).1) in
    let e : length (text_bytes t) % 65536 ≡ length (text_bytes t) = whole_u2 (length (text_bytes t)) lt in
    let regrouped : (to_be_bytes w16 (length (text_bytes t)) ++ text_bytes t) ++ rest ≡ to_be_bytes w16 (length (text_bytes t)) ++ (text_bytes t ++ rest) = append_assoc (to_be_bytes w16 (length (text_bytes t))) (text_bytes t) rest in
    let long : ltb (length (text_bytes t ++ rest)) (length (text_bytes t)) ≡ false = le-ltb _ _ (omega (arith, length-append (text_bytes t) rest)) in
    let n = u2_again (length (text_bytes t)) (text_bytes t ++ rest) lt in
    rw (e, regrouped, n, long, take_at (text_bytes t) rest (length (text_bytes t)) refl, drop_at (text_bytes t) rest (length (text_bytes t)) refl, text_bytes_again t h) refl
