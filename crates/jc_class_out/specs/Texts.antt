-- Modified UTF-8 (JVMS 4.4.7): NUL has two bytes, each UTF-16 unit is coded by itself, and no other spelling is read.
use Rattle.std.specs.Prelude.{ℕ, zero, suc, Bool, ◌&&◌, ◌||◌, ◌==◌, ◌+◌, ◌-◌, ◌*◌, ◌/◌, ◌%◌, nat_lt, nat_le, List, [], ◌∷◌, length, Option, Some, None, option_and_then, if◌then◌else◌}
use Rattle.std.specs.List.{flat_map}

-- the bytes of a unit
abbrev pub unit_bytes : ℕ → List ℕ
unit_bytes u =
    if u == 0 then 0xC0 ∷ 0x80 ∷ [] else
    if nat_lt u 0x80 then u ∷ [] else
    if nat_lt u 0x800 then (0xC0 + u / 64) ∷ (0x80 + u % 64) ∷ [] else
    (0xE0 + u / 4096) ∷ (0x80 + u / 64 % 64) ∷ (0x80 + u % 64) ∷ []

-- the bytes of a text
abbrev pub text_bytes : List ℕ → List ℕ
text_bytes units = flat_map unit_bytes units

-- a byte behind the first of a unit
abbrev pub is_more : ℕ → Bool
is_more b = nat_le 0x80 b && nat_lt b 0xC0

-- a unit of two bytes, and one of three; a longer spelling than is needed is none, but that of NUL
abbrev pub two : ℕ → List ℕ → Option (ℕ × List ℕ)
two a [] = None
two a (b ∷ rest) =
    if is_more b && ((a == 0xC0 && b == 0x80) || nat_le 0xC2 a) then Some ((a - 0xC0) * 64 + (b - 0x80), rest) else None

abbrev pub three : ℕ → List ℕ → Option (ℕ × List ℕ)
three a [] = None
three a (b ∷ []) = None
three a (b ∷ c ∷ rest) =
    if is_more b && (is_more c && (nat_le 0xE1 a || nat_le 0xA0 b)) then Some ((a - 0xE0) * 4096 + (b - 0x80) * 64 + (c - 0x80), rest) else None

-- the first unit, and the bytes behind it
abbrev pub unit_at : List ℕ → Option (ℕ × List ℕ)
unit_at [] = None
unit_at (a ∷ rest) =
    if nat_le 1 a && nat_lt a 0x80 then Some (a, rest) else
    if nat_le 0xC0 a && nat_lt a 0xE0 then two a rest else
    if nat_le 0xE0 a && nat_lt a 0xF0 then three a rest else None

-- at most so many units, until the bytes end
unfoldable pub units_on : ℕ → List ℕ → Option (List ℕ)
units_on n [] = Some []
units_on zero (b ∷ bytes) = None
units_on (suc n) (b ∷ bytes) = option_and_then (λ (u : ℕ × List ℕ). option_and_then (λ (us : List ℕ). Some (u.0 ∷ us)) (units_on n u.1)) (unit_at (b ∷ bytes))

-- the text of which these are the bytes
abbrev pub text_of_bytes : List ℕ → Option (List ℕ)
text_of_bytes bytes = units_on (length bytes) bytes
