-- Character and string literals (JLS 3.10.4, 3.10.5) and their escape sequences (JLS 3.10.6).
use Rattle.std.specs.Prelude.{ℕ, zero, suc, ◌+◌, ◌-◌, ◌*◌, ◌/◌, ◌%◌, ◌<◌, ◌≤◌, Bool, not, ◌&&◌, ◌==◌, nat_le, nat_lt, List, [], ◌∷◌, ◌++◌, length, drop, Option, Some, None, if◌then◌else◌}
use Rattle.jc_lexer.specs.declared.literal.Flaw.{Flaw}
use Rattle.jc_lexer.specs.declared.literal.Flaw.TheVariants.{Wrong, Open, Torn}
use Rattle.jc_lexer.specs.declared.literal.Element.{Element}
use Rattle.jc_lexer.specs.declared.literal.Element.TheVariants.{Unit as One, Pair, Flawed}
use Rattle.jc_lexer.specs.declared.literal.CharBody.{CharBody}
use Rattle.jc_lexer.specs.declared.literal.CharBody.TheVariants.{Shut, Amiss}
use Rattle.jc_lexer.specs.declared.literal.StringBody.{StringBody}
use Rattle.jc_lexer.specs.declared.literal.StringBody.TheVariants.{Closed, Broken}
use Rattle.jc_lexer.specs.declared.symbol.Symbol.{Symbol}
use Rattle.jc_lexer.specs.Symbols.{code_at, is_break, is_line_end}

-- JLS 3.10.6, OctalDigit: `0` to `7`
abbrev pub is_octal : ℕ → Bool
is_octal c = nat_le 48 c && nat_le c 55

-- why a character goes on no literal
abbrev pub flaw_at : ℕ → Flaw
flaw_at c = if is_line_end c then Open else if is_break c then Torn else Wrong

-- JLS 3.10.6: `\b \t \n \f \r \" \' \\`
abbrev pub simple_escape : ℕ → Option ℕ
simple_escape letter =
    if letter == 98 then Some 8
    else if letter == 116 then Some 9
    else if letter == 110 then Some 10
    else if letter == 102 then Some 12
    else if letter == 114 then Some 13
    else if letter == 34 then Some 34
    else if letter == 39 then Some 39
    else if letter == 92 then Some 92
    else None

-- JLS 3.10.6: one or two octal digits, or three up to 377, as many as there are
unfoldable pub octal_escape : List Symbol → Element
octal_escape text =
    let first = code_at text 1 - 48 in
    let second = code_at text 2 in
    let third = code_at text 3 in
    if not (is_octal second) then One first 2
    else if nat_lt first 4 && is_octal third then One ((first * 8 + (second - 48)) * 8 + (third - 48)) 4
    else One (first * 8 + (second - 48)) 3

-- a backslash and a letter with the unit that they spell, or why the letter goes on no literal where they spell none
abbrev pub escaped : ℕ → Option ℕ → Element
escaped letter (Some unit) = One unit 2
escaped letter None = Flawed (flaw_at letter)

-- JLS 3.10.6: what a backslash, at the start of the text, begins
unfoldable pub escape_sequence : List Symbol → Element
escape_sequence text =
    let letter = code_at text 1 in
    if is_octal letter then octal_escape text else escaped letter (simple_escape letter)

-- what a text begins with inside of a literal; a character above FFFF is two units (JLS 3.1)
unfoldable pub element_at : List Symbol → Element
element_at text =
    let c = code_at text 0 in
    if is_line_end c then Flawed Open
    else if is_break c then Flawed Torn
    else if c == 92 then escape_sequence text
    else if nat_lt c 0x10000 then One c 1
    else Pair (0xD800 + (c - 0x10000) / 1024 % 1024) (0xDC00 + (c - 0x10000) % 1024)

-- an element is there
abbrev pub FitsIn : List Symbol → Element → Type 0
FitsIn text (One unit len) = (0 < len) × (len ≤ length text)
FitsIn text (Pair high low) = 1 ≤ length text
FitsIn text (Flawed flaw) = Unit {0}

-- a literal's body and its quote are at most one symbol more than the text
abbrev pub IsWithin : ℕ → CharBody → Type 0
IsWithin room (Shut unit len) = len ≤ room + 1
IsWithin room (Amiss flaw) = Unit {0}

-- the same of a string literal
abbrev pub IsBodyWithin : ℕ → StringBody → Type 0
IsBodyWithin room (Closed units len) = len ≤ room + 1
IsBodyWithin room (Broken flaw) = Unit {0}

-- a character literal by its one element, with the quote that closes it; a character of two units makes none (JLS 3.10.4)
abbrev pub char_after : Element → List Symbol → CharBody
char_after (One unit len) text = if code_at text len == 39 then Shut unit (len + 1) else Amiss (flaw_at (code_at text len))
char_after (Pair high low) text = Amiss Wrong
char_after (Flawed flaw) text = Amiss flaw

-- JLS 3.10.4: one unit and a quote
unfoldable pub char_body : List Symbol → CharBody
char_body text = if code_at text 0 == 39 then Amiss Wrong else char_after (element_at text) text

-- units that so many symbols spell, before the body behind them
abbrev pub with_units : List ℕ → ℕ → StringBody → StringBody
with_units units len (Closed more rest) = Closed (units ++ more) (len + rest)
with_units units len (Broken flaw) = Broken flaw

-- an element before the body that goes on behind its symbols
abbrev pub string_after : (ℕ → StringBody) → Element → StringBody
string_after more (One unit len) = with_units (unit ∷ []) len (more len)
string_after more (Pair high low) = with_units (high ∷ low ∷ []) 1 (more 1)
string_after more (Flawed flaw) = Broken flaw

-- JLS 3.10.5: elements up to a quote; the first argument bounds their number
unfoldable pub string_from : ℕ → List Symbol → StringBody
string_from zero text = Broken Open
string_from (suc n) text =
    if code_at text 0 == 34 then Closed [] 1 else string_after (λ len. string_from n (drop len text)) (element_at text)

-- what stands behind the quote that opens a string literal; the bound is large enough, since each element takes a symbol
abbrev pub string_body : List Symbol → StringBody
string_body text = string_from (length text + 1) text
