-- How bytes decode to a text: strict UTF-8 (Unicode 6.0, table 3-7), and Unicode escapes (JLS 3.3).
use Rattle.std.specs.Prelude.{Option, Some, None, option_and_then, ◌^◌, ℕ, zero, suc, ◌+◌, ◌-◌, ◌*◌, ◌%◌, ◌<◌, ◌≤◌, Bool, false, not, ◌&&◌, ◌==◌, nat_le, nat_lt, List, [], ◌∷◌, length, get_or, drop, if◌then◌else◌}
use Rattle.std.specs.List.{prefix_len}
use Rattle.std.specs.Char.{digit_value}
use Rattle.jc_lexer.specs.declared.decode.Reading.{Reading}
use Rattle.jc_lexer.specs.declared.decode.Reading.TheVariants.{Read, NotUtf8, BadEscape}
use Rattle.jc_lexer.specs.declared.symbol.Symbol.{Symbol}
use Rattle.jc_lexer.specs.Symbols.{is_high}
use Rattle.jc_lexer.specs.declared.symbol.TheConstants.{END, NOT_UTF8, BAD_ESCAPE}

-- a byte that goes on a sequence
abbrev pub is_tail : ℕ → Bool
is_tail b = nat_le 0x80 b && nat_le b 0xBF

-- sequences of two, three and four bytes, whose first byte `utf8` has sorted. A byte that is lacking counts as 0, which goes on none.
-- The second one is bounded so that none spells a character in more bytes than it needs, a surrogate, or one above 10FFFF
abbrev pub two_bytes : List ℕ → Bool → Reading
two_bytes bytes odd =
    let a = get_or bytes 0 0 in
    let b = get_or bytes 1 0 in
    if is_tail b then Read (a % 32 * 64 + b % 64) 2 odd else NotUtf8

abbrev pub three_bytes : List ℕ → Bool → Reading
three_bytes bytes odd =
    let a = get_or bytes 0 0 in
    let b = get_or bytes 1 0 in
    let c = get_or bytes 2 0 in
    let least = if a == 0xE0 then 0xA0 else 0x80 in
    let greatest = if a == 0xED then 0x9F else 0xBF in
    if nat_le least b && nat_le b greatest && is_tail c then Read (a % 16 * 4096 + b % 64 * 64 + c % 64) 3 odd else NotUtf8

abbrev pub four_bytes : List ℕ → Bool → Reading
four_bytes bytes odd =
    let a = get_or bytes 0 0 in
    let b = get_or bytes 1 0 in
    let c = get_or bytes 2 0 in
    let d = get_or bytes 3 0 in
    let least = if a == 0xF0 then 0x90 else 0x80 in
    let greatest = if a == 0xF4 then 0x8F else 0xBF in
    if nat_le least b && nat_le b greatest && is_tail c && is_tail d then Read (a % 8 * 262144 + b % 64 * 4096 + c % 64 * 64 + d % 64) 4 odd else NotUtf8

-- the character that bytes begin with in UTF-8
unfoldable pub utf8 : List ℕ → Bool → Reading
utf8 bytes odd =
    let a = get_or bytes 0 0 in
    if nat_lt a 0x80 then Read a 1 odd
    else if nat_lt a 0xC2 then NotUtf8
    else if nat_lt a 0xE0 then two_bytes bytes odd
    else if nat_lt a 0xF0 then three_bytes bytes odd
    else if nat_lt a 0xF5 then four_bytes bytes odd
    else NotUtf8

-- JLS 3.3, HexDigit: its value, in capital or small letters; None of any other byte
abbrev pub hex_digit : ℕ → Option ℕ
hex_digit b = if nat_lt (digit_value b) 16 then Some (digit_value b) else None

-- goes on with the value, or is None where there is none
infixl 10 ◌>>=◌
abbrev pub ◌>>=◌ : {A B : Type 0} → Option A → (A → Option B) → Option B
o >>= f = option_and_then f o

-- the number that four hexadecimal digits spell
unfoldable pub four_digits : List ℕ → Option ℕ
four_digits bytes = do
  a ← hex_digit (get_or bytes 0 0)
  b ← hex_digit (get_or bytes 1 0)
  c ← hex_digit (get_or bytes 2 0)
  d ← hex_digit (get_or bytes 3 0)
  Some (a * 4096 + b * 256 + c * 16 + d)

-- how many `u` bytes begin with
abbrev pub escape_marks : List ℕ → ℕ
escape_marks bytes = prefix_len (λ (b : ℕ). b == 117) bytes

-- an escape with so many `u`, malformed where its digits spell nothing; its own backslash isn't counted among those before the next one
abbrev pub escaped : ℕ → Option ℕ → Reading
escaped marks None = BadEscape
escaped marks (Some code) = Read code (marks + 5) false

-- JLS 3.3: a backslash, one `u` or more, and four hexadecimal digits
unfoldable pub escape : List ℕ → Reading
escape bytes =
    let marks = escape_marks (drop 1 bytes) in
    escaped marks (four_digits (drop marks (drop 1 bytes)))

-- a character in UTF-8, or an escape where an even number of backslashes stands before its own
unfoldable pub unit : List ℕ → Bool → Reading
unit bytes odd =
    let backslash = get_or bytes 0 0 == 92 in
    if backslash && not odd && (get_or bytes 1 0 == 117) then escape bytes else utf8 bytes (backslash && not odd)

-- JLS 3.1: a unit that is the second of a pair
abbrev pub is_low : ℕ → Bool
is_low c = nat_le 0xDC00 c && nat_le c 0xDFFF

-- JLS 3.1: a high and a low surrogate are one character
abbrev pub paired : Reading → ℕ → ℕ → Reading → Reading
paired first high taken (Read code len odd) =
    if is_low code then Read (0x10000 + (high - 0xD800) * 1024 + (code - 0xDC00)) (taken + len) odd else first
paired first high taken NotUtf8 = first
paired first high taken BadEscape = first

-- a high surrogate, which only an escape spells, is one character with a low one that is read right behind it;
-- else it stands alone, and so does whatever else was read first
abbrev pub with_second : List ℕ → Reading → Reading
with_second bytes (Read code len odd) =
    if is_high code && nat_lt len (length bytes) then paired (Read code len odd) code len (unit (drop len bytes) odd) else Read code len odd
with_second bytes NotUtf8 = NotUtf8
with_second bytes BadEscape = BadEscape

-- the character that bytes begin with, and whether an odd number of backslashes then stands behind it
unfoldable pub character : List ℕ → Bool → Reading
character bytes odd = with_second bytes (unit bytes odd)

-- the character that was read, before the text behind it; or the mark of what breaks the text off, which is its last symbol
abbrev pub text_after : (ℕ → Bool → List Symbol) → ℕ → Reading → List Symbol
text_after more at (Read code len odd) = record { code = code; from = at } ∷ more len odd
text_after more at NotUtf8 = record { code = NOT_UTF8; from = at } ∷ []
text_after more at BadEscape = record { code = BAD_ESCAPE; from = at } ∷ []

-- the text of the bytes that stand from an offset on, where `odd` says whether an odd number of backslashes stands before them;
-- the first argument bounds the number of characters
unfoldable pub text_from : ℕ → ℕ → Bool → List ℕ → List Symbol
text_from zero at odd bytes = record { code = END; from = at } ∷ []
text_from (suc n) at odd [] = record { code = END; from = at } ∷ []
text_from (suc n) at odd (b ∷ bytes) =
    text_after (λ len next. text_from n (at + len) next (drop len (b ∷ bytes))) at (character (b ∷ bytes) odd)

-- the text of a source
abbrev pub text_of : List ℕ → List Symbol
text_of bytes = text_from (length bytes) 0 false bytes

-- what a reading takes is there
abbrev pub Fits : List ℕ → Reading → Type 0
Fits bytes (Read code len odd) = (0 < len) × (len ≤ length bytes)
Fits bytes NotUtf8 = Unit {0}
Fits bytes BadEscape = Unit {0}

-- what a reading takes is less than 2^32 bytes
abbrev pub IsShort : Reading → Type 0
IsShort (Read code len odd) = len < 2 ^ 32
IsShort NotUtf8 = Unit {0}
IsShort BadEscape = Unit {0}
