-- Whole literals (JLS 3.10.1), and what tells them from floating-point ones (JLS 3.10.2).
use Rattle.std.specs.Prelude.{ℕ, ◌+◌, ◌-◌, ◌*◌, ◌^◌, ◌<◌, Bool, true, false, not, ◌&&◌, ◌||◌, ◌==◌, nat_lt, List, [], ◌∷◌, length, take, drop, Option, Some, None, if◌then◌else◌}
use Rattle.std.specs.List.{list_all}
use Rattle.std.specs.Char.{digit_value}
use Rattle.jc_lexer.specs.declared.number.Numeral.{Numeral}
use Rattle.jc_lexer.specs.declared.number.Numeral.TheVariants.{Whole, Malformed, Real, Cut}
use Rattle.jc_lexer.specs.declared.number.Tail.{Tail}
use Rattle.jc_lexer.specs.declared.number.Tail.TheVariants.{Follows, Absent, Broken}
use Rattle.jc_lexer.specs.declared.symbol.Symbol.{Symbol}
use Rattle.jc_lexer.specs.declared.symbol.Class.TheVariants.{Digits, HexDigits}
use Rattle.jc_lexer.specs.Symbols.{code_at, run_length, is_break, is_decimal}

-- a digit of the base, or an underscore between digits
abbrev pub is_digit_of : ℕ → Symbol → Bool
is_digit_of base s = (s.code == 95) || nat_lt (digit_value s.code) base

-- the value of digits behind those of a value
abbrev pub value_from : ℕ → ℕ → List Symbol → ℕ
value_from base value [] = value
value_from base value (s ∷ digits) = value_from base (if s.code == 95 then value else value * base + digit_value s.code) digits

-- the value of digits behind those of a value; None where one is no digit of the base and no underscore, or where it is 2^64 or more
unfoldable pub whole_from : ℕ → ℕ → List Symbol → Option ℕ
whole_from base value digits =
    if list_all (is_digit_of base) digits && nat_lt (value_from base value digits) (2 ^ 64) then Some (value_from base value digits) else None

-- the value of digits in a base, if all are its digits and the value is at most 18446744073709551615
abbrev pub whole_value : ℕ → List Symbol → Option ℕ
whole_value base digits = whole_from base 0 digits

-- a whole literal is some symbols
abbrev pub HasSymbols : Numeral → Type 0
HasSymbols (Whole value decimal len) = 0 < len
HasSymbols Malformed = Unit {0}
HasSymbols Real = Unit {0}
HasSymbols Cut = Unit {0}

-- a whole literal of so many symbols, malformed where its digits have no value
abbrev pub whole_of : Bool → ℕ → Option ℕ → Numeral
whole_of decimal len (Some value) = Whole value decimal len
whole_of decimal len None = Malformed

-- the whole literal that digits spell in a base; `len` symbols are those of its prefix too, `decimal` says that it is in base 10
abbrev pub whole : ℕ → Bool → ℕ → List Symbol → Numeral
whole base decimal len digits = whole_of decimal len (whole_value base digits)

-- JLS 3.10.2, ExponentPart and BinaryExponent behind their letter: an optional sign and a digit
unfoldable pub exponent : List Symbol → Tail
exponent text =
    if is_decimal (code_at text 0) then Follows
    else if is_break (code_at text 0) then Broken
    else if (code_at text 0 == 43) || (code_at text 0 == 45) then
    (if is_decimal (code_at text 1) then Follows else if is_break (code_at text 1) then Broken else Absent)
    else Absent

-- JLS 3.10.2, behind the digits of a decimal literal: a point, an exponent, or one of `f F d D`
unfoldable pub fraction : List Symbol → Tail
fraction text =
    let c = code_at text 0 in
    if is_break c then Broken
    else if (c == 101) || (c == 69) then exponent (drop 1 text)
    else if (c == 46) || (c == 102) || (c == 70) || (c == 100) || (c == 68) then Follows
    else Absent

-- JLS 3.10.2, BinaryExponent
unfoldable pub power : List Symbol → Tail
power text =
    let c = code_at text 0 in
    if is_break c then Broken else if (c == 112) || (c == 80) then exponent (drop 1 text) else Absent

-- JLS 3.10.2, HexSignificand behind its point: digits on one side at least, none of which begins or ends with an underscore
unfoldable pub hex_point : Bool → List Symbol → Tail
hex_point some text =
    let len = run_length HexDigits text in
    let rest = drop len text in
    if code_at text 0 == 95 then Absent
    else if is_break (code_at rest 0) then Broken
    else if (if len == 0 then some else not (code_at text (len - 1) == 95)) then power rest
    else Absent

-- JLS 3.10.2, behind the hexadecimal digits, of which there may be none before a point
unfoldable pub hex_tail : Bool → List Symbol → Tail
hex_tail some text =
    if code_at text 0 == 46 then hex_point some (drop 1 text)
    else if some then power text
    else if is_break (code_at text 0) then Broken
    else Absent

-- JLS 3.10.1: an octal numeral begins with 0 and has further digits
unfoldable pub decimal_after : Tail → List Symbol → Numeral
decimal_after Follows digits = Real
decimal_after Broken digits = Cut
decimal_after Absent digits =
    if (code_at digits 0 == 48) && nat_lt 1 (length digits) then whole 8 false (length digits) digits else whole 10 true (length digits) digits

-- the digits may not end with an underscore
unfoldable pub decimal_number : List Symbol → Numeral
decimal_number text =
    let len = run_length Digits text in
    let rest = drop len text in
    if is_break (code_at rest 0) then Cut
    else if (len == 0) || (code_at text (len - 1) == 95) then Malformed
    else decimal_after (fraction rest) (take len text)

-- a hexadecimal literal by its digits and by what stands behind them; without digits it is malformed
unfoldable pub hex_after : Tail → List Symbol → Numeral
hex_after Follows digits = Real
hex_after Broken digits = Cut
hex_after Absent [] = Malformed
hex_after Absent (d ∷ digits) = whole 16 false (length (d ∷ digits) + 2) (d ∷ digits)

-- behind `0x`: digits, which may not begin or end with an underscore
unfoldable pub hex_number : List Symbol → Numeral
hex_number text =
    let len = run_length HexDigits text in
    let rest = drop len text in
    if code_at text 0 == 95 then Malformed
    else if nat_lt 0 len && (code_at text (len - 1) == 95) then (if is_break (code_at rest 0) then Cut else Malformed)
    else hex_after (hex_tail (nat_lt 0 len) rest) (take len text)

-- a binary literal by the value of its digits, which is None as in `whole_value`; `len` counts them without the `0b`
unfoldable pub binary_after : Option ℕ → ℕ → List Symbol → Numeral
binary_after None len text = Malformed
binary_after (Some value) len text =
    if code_at text 0 == 95 then Malformed
    else if is_break (code_at text len) then Cut
    else if (len == 0) || (code_at text (len - 1) == 95) then Malformed
    else Whole value false (len + 2)

-- behind `0b`: digits, which may not begin or end with an underscore
unfoldable pub binary_number : List Symbol → Numeral
binary_number text = let len = run_length Digits text in binary_after (whole_value 2 (take len text)) len text

-- a text that begins with a digit: the number that it begins with
unfoldable pub number : List Symbol → Numeral
number text =
    let letter = code_at text 1 in
    if not (code_at text 0 == 48) then decimal_number text
    else if (letter == 120) || (letter == 88) then hex_number (drop 2 text)
    else if (letter == 98) || (letter == 66) then binary_number (drop 2 text)
    else decimal_number text
