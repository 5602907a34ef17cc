-- The offsets of a decoded text rise.
use Rattle.std.proofs.Common.{◌≡◌, ℕ, zero, suc, ◌+◌, ◌-◌, ◌*◌, ◌<◌, ◌≤◌, Bool, true, false, cond, List, [], ◌∷◌, length, drop, Option, Some, None, refl, arith}
use Rattle.jc_lexer.specs.declared.decode.Reading.{Reading}
use Rattle.jc_lexer.specs.declared.decode.Reading.TheVariants as reading_of
use Rattle.jc_lexer.specs.declared.symbol.Symbol.{Symbol}
use Rattle.jc_lexer.specs.Decoding.{two_bytes, three_bytes, four_bytes, utf8, escape, escaped, escape_marks, four_digits, unit, paired, with_second, character, text_after, text_from}
use Rattle.jc_lexer.specs.Symbols.{from_at}

-- a reading takes some bytes
abbrev TakesSome : Reading → Type 0
TakesSome (reading_of.Read code len odd) = 0 < len
TakesSome reading_of.NotUtf8 = Unit {0}
TakesSome reading_of.BadEscape = Unit {0}

record Takes (r : Reading) : Type 0 where
  some : TakesSome r

either : (b : Bool) (x y : Reading) → Takes x → Takes y → Takes (cond b x y)
either true x y p q = p
either false x y p q = q

one : (code len : ℕ) (odd : Bool) → 0 < len → Takes (reading_of.Read code len odd)
one code len odd p = record { some = p }

no_text : Takes reading_of.NotUtf8
no_text = record { some = tt }

no_escape : Takes reading_of.BadEscape
no_escape = record { some = tt }

two_take : (bytes : List ℕ) (odd : Bool) → Takes (two_bytes bytes odd)
two_take bytes odd = either _ _ _ (one _ 2 odd (omega arith)) no_text

three_take : (bytes : List ℕ) (odd : Bool) → Takes (three_bytes bytes odd)
three_take bytes odd = either _ _ _ (one _ 3 odd (omega arith)) no_text

four_take : (bytes : List ℕ) (odd : Bool) → Takes (four_bytes bytes odd)
four_take bytes odd = either _ _ _ (one _ 4 odd (omega arith)) no_text

utf8_takes : (bytes : List ℕ) (odd : Bool) → Takes (utf8 bytes odd)
unfolding utf8
utf8_takes bytes odd =
    either _ _ _ (one _ 1 odd (omega arith)) (either _ _ _ no_text (either _ _ _ (two_take bytes odd) (either _ _ _ (three_take bytes odd) (either _ _ _ (four_take bytes odd) no_text))))

escaped_takes : (marks : ℕ) (o : Option ℕ) → Takes (escaped marks o)
escaped_takes marks None = no_escape
escaped_takes marks (Some code) = one code (marks + 5) false (omega arith)

unit_takes : (bytes : List ℕ) (odd : Bool) → Takes (unit bytes odd)
unfolding unit escape
unit_takes bytes odd =
    either _ _ _ (escaped_takes (escape_marks (drop 1 bytes)) (four_digits (drop (escape_marks (drop 1 bytes)) (drop 1 bytes)))) (utf8_takes bytes _)

paired_takes : (r : Reading) (high taken : ℕ) (second : Reading) → Takes r → 0 < taken → Takes (paired r high taken second)
paired_takes r high taken (reading_of.Read code len odd) p q = either _ _ _ (one (0x10000 + (high - 0xD800) * 1024 + (code - 0xDC00)) (taken + len) odd (omega (arith, q))) p
paired_takes r high taken reading_of.NotUtf8 p q = p
paired_takes r high taken reading_of.BadEscape p q = p

second_takes : (bytes : List ℕ) (r : Reading) → Takes r → Takes (with_second bytes r)
second_takes bytes (reading_of.Read code len odd) p = either _ _ _ (paired_takes (reading_of.Read code len odd) code len (unit (drop len bytes) odd) p p.some) p
second_takes bytes reading_of.NotUtf8 p = p
second_takes bytes reading_of.BadEscape p = p

takes : (bytes : List ℕ) (odd : Bool) → Takes (character bytes odd)
unfolding character
takes bytes odd = second_takes bytes (unit bytes odd) (unit_takes bytes odd)

-- each symbol stands behind the one before it
abbrev pub Rising : List Symbol → Type 0
Rising [] = Unit {0}
Rising (s ∷ text) = (0 < length text → s.from < from_at text 0) × Rising text

pub rising_behind : (n : ℕ) (text : List Symbol) → Rising text → Rising (drop n text)
rising_behind zero text r = r
rising_behind (suc n) [] r = tt
rising_behind (suc n) (s ∷ text) r = rising_behind n text r.1

no_symbols : List Symbol
no_symbols = []

no_more : (n : ℕ) → 0 < length (drop n no_symbols) → ⊥
unfolding no_symbols
no_more zero l = omega (arith, l)
no_more (suc n) l = omega (arith, l)

not_before : (n : ℕ) (text : List Symbol) → Rising text → 0 < length (drop n text) → from_at text 0 ≤ from_at (drop n text) 0
unfolding no_symbols
not_before zero text r l = omega arith
not_before (suc n) [] r l = omega (arith, l)
not_before (suc n) (s ∷ []) r l = absurd (no_more n l)
not_before (suc n) (s ∷ (d ∷ text)) r l =
    let near : s.from < d.from = r.0 (omega arith) in
    let far : d.from ≤ from_at (drop n (d ∷ text)) 0 = not_before n (d ∷ text) r.1 l in
    omega (arith, near, far)

pub from_rises : (n : ℕ) (text : List Symbol) → Rising text → 0 < length (drop n text) → from_at text 0 ≤ from_at (drop n text) 0
from_rises n text r l = not_before n text r l

pub from_rises_far : (n : ℕ) (text : List Symbol) → Rising text → 0 < n → 0 < length (drop n text) → from_at text 0 < from_at (drop n text) 0
from_rises_far zero text r z l = absurd (omega arith)
from_rises_far (suc n) [] r z l = absurd (omega arith)
from_rises_far (suc n) (s ∷ text) r z l =
    let some : 0 < length text = there n text l in
    let near : s.from < from_at text 0 = r.0 some in
    let far : from_at text 0 ≤ from_at (drop n text) 0 = not_before n text r.1 l in
    omega (arith, near, far)
  where
    there : (n : ℕ) (text : List Symbol) → 0 < length (drop n text) → 0 < length text
    there zero text l = l
    there (suc n) [] l = l
    there (suc n) (d ∷ text) l = omega arith

module _ (n : ℕ) (at : ℕ) (ih : (at : ℕ) (odd : Bool) (bytes : List ℕ) → (from_at (text_from n at odd bytes) 0 ≡ at) × Rising (text_from n at odd bytes)) where
  after : (bytes : List ℕ) (r : Reading) → Takes r → let text = text_after (λ len next. text_from n (at + len) next (drop len bytes)) at r in (from_at text 0 ≡ at) × Rising text
  after bytes (reading_of.Read code len odd) p =
      let more = ih (at + len) odd (drop len bytes) in
      (refl, (λ some. omega (arith, p.some, more.0), more.1))
  after bytes reading_of.NotUtf8 p = (refl, (λ some. omega (arith, some), tt))
  after bytes reading_of.BadEscape p = (refl, (λ some. omega (arith, some), tt))

pub text_rises : (n at : ℕ) (odd : Bool) (bytes : List ℕ) → (from_at (text_from n at odd bytes) 0 ≡ at) × Rising (text_from n at odd bytes)
unfolding text_from
text_rises zero at odd bytes = (refl, (λ some. omega (arith, some), tt))
text_rises (suc n) at odd [] = (refl, (λ some. omega (arith, some), tt))
text_rises (suc n) at odd (b ∷ bytes) = after n at (text_rises n) (b ∷ bytes) (character (b ∷ bytes) odd) (takes (b ∷ bytes) odd)
