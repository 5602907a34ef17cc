-- A text that was read takes as many bytes as its spelling.
use Rattle.std.proofs.Common.{◌≡◌, ◌<◌, ◌≤◌, ℕ, zero, suc, ◌+◌, ◌-◌, ◌*◌, Bool, true, false, cond, eqb, List, [], ◌∷◌, length, Option, Some, None, refl, subst, arith, inl, inr}
use lib.Dec.{leb}
use Rattle.std.specs.Prelude.{◌&&◌, ◌||◌, option_and_then, nat_lt, nat_le}
use Rattle.std.specs.List.{list_all}
use Rattle.std.proofs.lemmas.Bool.{ltb-true, leb-true, eqb-true, ne_eqb, lt-ltb, le-ltb, or_cases, and_parts}
use Rattle.std.proofs.lemmas.List.{length-append}
use Rattle.jc_class_out.specs.Texts.{unit_bytes, text_bytes, is_more, two, three, unit_at, units_on, text_of_bytes}
use Rattle.jc_class_out.specs.Fitting.{is_u16}

-- what holds of all that there may be
record Sure {A : Type 0} (P : A → Type 0) (o : Option A) : Type 0 where
  holds : (x : A) → o ≡ Some x → P x

some_is : {A : Type 0} (x y : A) (r s : Option A) → r ≡ Some x → s ≡ Some y → r ≡ s → x ≡ y
some_is x y r s h g e = cc

none_not : {A : Type 0} (y : A) (r : Option A) → r ≡ None → r ≡ Some y → ⊥
none_not y r h g = cc

sure_some : {A : Type 0} (P : A → Type 0) (x : A) → P x → Sure P (Some x)
sure_some P x h = record { holds = λ y e. subst P (some_is x y (Some x) (Some y) refl refl e) h }

sure_none : {A : Type 0} (P : A → Type 0) → Sure P None
sure_none P = record { holds = λ y h. absurd (none_not y None refl h) }

sure_if : {A : Type 0} (P : A → Type 0) (b : Bool) (x y : Option A) → (b ≡ true → Sure P x) → (b ≡ false → Sure P y) → Sure P (cond b x y)
sure_if P true x y g h = g refl
sure_if P false x y g h = h refl

sure_then : {A B : Type 0} (P : A → Type 0) (Q : B → Type 0) (o : Option A) (f : A → Option B) → Sure P o → ((a : A) → P a → Sure Q (f a)) → Sure Q (option_and_then f o)
sure_then P Q (Some x) f g h = h x (g.holds x refl)
sure_then P Q None f g h = sure_none Q

-- a unit of two bytes, and what is behind it
abbrev UnitOk : List ℕ → ℕ × List ℕ → Type 0
UnitOk bytes x = (x.0 < 65536) × (length bytes ≡ length (unit_bytes x.0) + length x.1)

one_long : (u : ℕ) → 1 ≤ u → u < 0x80 → length (unit_bytes u) ≡ 1
one_long u h g = rw (ne_eqb u 0 (λ e. omega (arith, e, h)), lt-ltb u 0x80 g) refl

two_long : (u : ℕ) → 0x80 ≤ u → u < 0x800 → length (unit_bytes u) ≡ 2
two_long u h g = rw (ne_eqb u 0 (λ e. omega (arith, e, h)), le-ltb u 0x80 h, lt-ltb u 0x800 g) refl

three_long : (u : ℕ) → 0x800 ≤ u → length (unit_bytes u) ≡ 3
three_long u h = rw (ne_eqb u 0 (λ e. omega (arith, e, h)), le-ltb u 0x80 (omega (arith, h)), le-ltb u 0x800 h) refl

one_good : (a : ℕ) (rest : List ℕ) → (nat_le 1 a && nat_lt a 0x80) ≡ true → UnitOk (a ∷ rest) (a, rest)
one_good a rest h =
    let p = and_parts (nat_le 1 a) (nat_lt a 0x80) h in
    let lo = leb-true 1 a p.0 in
    let hi = ltb-true a 0x80 p.1 in
    (omega (arith, hi), omega (arith, one_long a lo hi))

two_size : (a b : ℕ) → 0xC0 ≤ a → a < 0xE0 → 0x80 ≤ b → b < 0xC0 → ((eqb a 0xC0 && eqb b 0x80) || leb 0xC2 a) ≡ true → length (unit_bytes ((a - 0xC0) * 64 + (b - 0x80))) ≡ 2
two_size a b h g i j t = elim (or_cases (eqb a 0xC0 && eqb b 0x80) (leb 0xC2 a) t) [
  | inl z ↦ (let p = and_parts (eqb a 0xC0) (eqb b 0x80) z in let n : (a - 0xC0) * 64 + (b - 0x80) ≡ 0 = omega (arith, eqb-true a 0xC0 p.0, eqb-true b 0x80 p.1) in rw n refl)
  | inr z ↦ (let le = leb-true 0xC2 a z in two_long ((a - 0xC0) * 64 + (b - 0x80)) (omega (arith, le, g, i, j)) (omega (arith, le, g, i, j)))
]

two_good : (a : ℕ) (rest : List ℕ) → (nat_le 0xC0 a && nat_lt a 0xE0) ≡ true → Sure (UnitOk (a ∷ rest)) (two a rest)
two_good a [] h = sure_none (UnitOk (a ∷ []))
two_good a (b ∷ rest) h = sure_if (UnitOk (a ∷ b ∷ rest)) (is_more b && ((eqb a 0xC0 && eqb b 0x80) || leb 0xC2 a)) _ _ (λ t.
    let p = and_parts (nat_le 0xC0 a) (nat_lt a 0xE0) h in
    let q = and_parts (is_more b) ((eqb a 0xC0 && eqb b 0x80) || leb 0xC2 a) t in
    let m = and_parts (nat_le 0x80 b) (nat_lt b 0xC0) q.0 in
    let alo = leb-true 0xC0 a p.0 in
    let ahi = ltb-true a 0xE0 p.1 in
    let blo = leb-true 0x80 b m.0 in
    let bhi = ltb-true b 0xC0 m.1 in
    sure_some (UnitOk (a ∷ b ∷ rest)) _ (omega (arith, alo, ahi, blo, bhi), omega (arith, two_size a b alo ahi blo bhi q.1))) (λ t. sure_none (UnitOk (a ∷ b ∷ rest)))

three_size : (a b c : ℕ) → 0xE0 ≤ a → 0x80 ≤ b → 0x80 ≤ c → (leb 0xE1 a || leb 0xA0 b) ≡ true → length (unit_bytes ((a - 0xE0) * 4096 + (b - 0x80) * 64 + (c - 0x80))) ≡ 3
three_size a b c h i j t = elim (or_cases (leb 0xE1 a) (leb 0xA0 b) t) [
  | inl z ↦ (let le = leb-true 0xE1 a z in three_long ((a - 0xE0) * 4096 + (b - 0x80) * 64 + (c - 0x80)) (omega (arith, le)))
  | inr z ↦ (let le = leb-true 0xA0 b z in three_long ((a - 0xE0) * 4096 + (b - 0x80) * 64 + (c - 0x80)) (omega (arith, le)))
]

three_good : (a : ℕ) (rest : List ℕ) → (nat_le 0xE0 a && nat_lt a 0xF0) ≡ true → Sure (UnitOk (a ∷ rest)) (three a rest)
three_good a [] h = sure_none (UnitOk (a ∷ []))
three_good a (b ∷ []) h = sure_none (UnitOk (a ∷ b ∷ []))
three_good a (b ∷ c ∷ rest) h = sure_if (UnitOk (a ∷ b ∷ c ∷ rest)) (is_more b && (is_more c && (leb 0xE1 a || leb 0xA0 b))) _ _ (λ t.
    let p = and_parts (nat_le 0xE0 a) (nat_lt a 0xF0) h in
    let q = and_parts (is_more b) (is_more c && (leb 0xE1 a || leb 0xA0 b)) t in
    let s = and_parts (is_more c) (leb 0xE1 a || leb 0xA0 b) q.1 in
    let m = and_parts (nat_le 0x80 b) (nat_lt b 0xC0) q.0 in
    let n = and_parts (nat_le 0x80 c) (nat_lt c 0xC0) s.0 in
    let alo = leb-true 0xE0 a p.0 in
    let ahi = ltb-true a 0xF0 p.1 in
    let blo = leb-true 0x80 b m.0 in
    let bhi = ltb-true b 0xC0 m.1 in
    let clo = leb-true 0x80 c n.0 in
    let chi = ltb-true c 0xC0 n.1 in
    sure_some (UnitOk (a ∷ b ∷ c ∷ rest)) _ (omega (arith, alo, ahi, blo, bhi, clo, chi), omega (arith, three_size a b c alo blo clo s.1))) (λ t. sure_none (UnitOk (a ∷ b ∷ c ∷ rest)))

unit_good : (bytes : List ℕ) → Sure (UnitOk bytes) (unit_at bytes)
unit_good [] = sure_none (UnitOk [])
unit_good (a ∷ rest) = sure_if (UnitOk (a ∷ rest)) (nat_le 1 a && nat_lt a 0x80) _ _ (λ h. sure_some (UnitOk (a ∷ rest)) (a, rest) (one_good a rest h))
    (λ g. sure_if (UnitOk (a ∷ rest)) (nat_le 0xC0 a && nat_lt a 0xE0) _ _ (λ h. two_good a rest h)
    (λ i. sure_if (UnitOk (a ∷ rest)) (nat_le 0xE0 a && nat_lt a 0xF0) _ _ (λ h. three_good a rest h) (λ j. sure_none (UnitOk (a ∷ rest)))))

-- units of two bytes, and their bytes are those that were read
abbrev pub TextOk : List ℕ → List ℕ → Type 0
TextOk bytes units = (list_all is_u16 units ≡ true) × (length bytes ≡ length (text_bytes units))

units_good : (n : ℕ) (bytes : List ℕ) → Sure (TextOk bytes) (units_on n bytes)
unfolding units_on
units_good n [] = sure_some (TextOk []) [] (refl, refl)
units_good zero (b ∷ bytes) = sure_none (TextOk (b ∷ bytes))
units_good (suc n) (b ∷ bytes) =
    sure_then (UnitOk (b ∷ bytes)) (TextOk (b ∷ bytes)) (unit_at (b ∷ bytes)) _ (unit_good (b ∷ bytes))
    (λ u pu. sure_then (TextOk u.1) (TextOk (b ∷ bytes)) (units_on n u.1) _ (units_good n u.1)
    (λ us pus. sure_some (TextOk (b ∷ bytes)) (u.0 ∷ us) (rw (lt-ltb u.0 65536 pu.0) pus.0, omega (arith, pu.1, pus.1, length-append (unit_bytes u.0) (text_bytes us)))))

pub text_good : (bytes units : List ℕ) → text_of_bytes bytes ≡ Some units → TextOk bytes units
text_good bytes units h = (units_good (length bytes) bytes).holds units h
