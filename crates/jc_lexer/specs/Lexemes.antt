-- What a text begins with (JLS 3.5 to 3.12).
use Rattle.std.specs.Prelude.{ℕ, ◌+◌, ◌-◌, ◌<◌, Bool, true, not, ◌&&◌, ◌||◌, ◌==◌, List, [], ◌∷◌, length, map, take, drop, slice_get, Option, Some, None, if◌then◌else◌}
use Rattle.std.specs.List.{prefix_len}
use Rattle.std.specs.Str.{encode_utf8_all}
use Rattle.jc_lexer.specs.declared.fault.LexFault.{LexFault}
use Rattle.jc_lexer.specs.declared.fault.LexFault.TheVariants.{NotUtf8, BadEscape, BadCharacter, BadLiteral, OpenComment, OpenText, Floating, Dollar}
use Rattle.jc_lexer.specs.declared.lexeme.Step.{Step}
use Rattle.jc_lexer.specs.declared.lexeme.Step.TheVariants.{Gap, Lexeme, End, Fault}
use Rattle.jc_lexer.specs.declared.literal.Flaw.{Flaw}
use Rattle.jc_lexer.specs.declared.literal.Flaw.TheVariants.{Wrong, Open, Torn}
use Rattle.jc_lexer.specs.declared.literal.CharBody.{CharBody}
use Rattle.jc_lexer.specs.declared.literal.CharBody.TheVariants.{Shut, Amiss}
use Rattle.jc_lexer.specs.declared.literal.StringBody.{StringBody}
use Rattle.jc_lexer.specs.declared.literal.StringBody.TheVariants.{Closed, Broken}
use Rattle.jc_lexer.specs.declared.number.Numeral.{Numeral}
use Rattle.jc_lexer.specs.declared.number.Numeral.TheVariants.{Whole, Malformed, Real, Cut}
use Rattle.jc_lexer.specs.declared.signs.Spelling.{Spelling}
use Rattle.jc_lexer.specs.declared.symbol.Symbol.{Symbol}
use Rattle.jc_lexer.specs.declared.symbol.Class.TheVariants.{Space, Line}
use Rattle.jc_lexer.specs.declared.symbol.TheConstants.{END, BAD_ESCAPE}
use Rattle.jc_lexer.specs.declared.token.TokenKind.TheVariants.{Number, CharLit, StringLit, Sign as Signed}
use Rattle.jc_lexer.specs.Literals.{char_body, string_body}
use Rattle.jc_lexer.specs.Numbers.{number}
use Rattle.jc_lexer.specs.Signs.{sign_at}
use Rattle.jc_lexer.specs.Symbols.{code_at, from_at, run_length, is_break, is_space, is_decimal, is_high, is_word_start, is_word_part}
use Rattle.jc_lexer.specs.Words.{word_kind}

-- a step takes some symbols
abbrev pub IsProgress : Step → Type 0
IsProgress (Gap len) = 0 < len
IsProgress (Lexeme kind len) = 0 < len
IsProgress End = Unit {0}
IsProgress (Fault fault) = Unit {0}

-- the fault that the last symbol of a text marks, at its offset; where the text has no symbol, bytes at 0 that are no UTF-8
abbrev pub fault_of_mark : Option Symbol → LexFault
fault_of_mark (Some mark) = if mark.code == BAD_ESCAPE then BadEscape mark.from else NotUtf8 mark.from
fault_of_mark None = NotUtf8 0

-- the fault that a text breaks off at, which its last symbol marks
unfoldable pub torn : List Symbol → LexFault
torn text = fault_of_mark (slice_get text (length text - 1))

-- the last symbol of a text marks the end of the source; a text without symbols counts as ended
abbrev pub is_end_mark : Option Symbol → Bool
is_end_mark (Some mark) = mark.code == END
is_end_mark None = true

-- a text goes on to the end of its source
unfoldable pub is_ended : List Symbol → Bool
is_ended text = is_end_mark (slice_get text (length text - 1))

-- `*/` stands at a place
abbrev pub closes_at : List Symbol → ℕ → Bool
closes_at text place = (code_at text place == 42) && (code_at text (place + 1) == 47)

-- where the first `*/` of a text ends; `told` symbols stand before the text
abbrev pub closing : ℕ → List Symbol → Option ℕ
closing told [] = None
closing told (s ∷ text) = if (s.code == 42) && (code_at text 0 == 47) then Some (told + 2) else closing (told + 1) text

-- a comment as long as its `/*` and what goes on up to its `*/` and with it; without one the comment is open, or the text breaks off inside of it
abbrev pub comment_of : List Symbol → Option ℕ → Step
comment_of text (Some len) = Gap (len + 2)
comment_of text None = if is_ended text then Fault (OpenComment (from_at text 0)) else Fault (torn text)

-- JLS 3.7, a traditional comment
unfoldable pub comment : List Symbol → Step
comment text = comment_of text (closing 0 (drop 2 text))

-- how many letters and digits a text begins with
abbrev pub part_length : List Symbol → ℕ
part_length text = prefix_len (λ (s : Symbol). is_word_part s.code) text

-- the lexeme that a word of so many symbols is, by its text in UTF-8
abbrev pub word_step : List ℕ → ℕ → Step
word_step text len = Lexeme (word_kind text) len

-- JLS 3.8: a letter, and the letters and digits that the text behind it begins with
unfoldable pub word : ℕ → List Symbol → Step
word letter text =
    word_step (encode_utf8_all (letter ∷ map (λ (s : Symbol). s.code) (take (part_length text) text))) (part_length text + 1)

-- JLS 3.10.1: a number with its suffix `L` or `l`
abbrev pub numeric : List Symbol → Numeral → Step
numeric text (Whole value decimal len) =
    let long = (code_at text len == 76) || (code_at text len == 108) in
    Lexeme (Number value long decimal) (if long then len + 1 else len)
numeric text Malformed = Fault (BadLiteral (from_at text 0))
numeric text Real = Fault (Floating (from_at text 0))
numeric text Cut = Fault (torn text)

-- the fault of a character or string literal: at the quote that opens it, or where the text breaks off
abbrev pub flawed : Flaw → List Symbol → Step
flawed Wrong text = Fault (BadLiteral (from_at text 0))
flawed Open text = Fault (OpenText (from_at text 0))
flawed Torn text = Fault (torn text)

-- a literal by what stands behind the quote that opens it, which is one symbol more
abbrev pub character_of : List Symbol → CharBody → Step
character_of text (Shut unit len) = Lexeme (CharLit unit) (len + 1)
character_of text (Amiss flaw) = flawed flaw text

-- JLS 3.10.4
unfoldable pub character : List Symbol → Step
character text = character_of text (char_body (drop 1 text))

-- the same of a string literal
abbrev pub string_of : List Symbol → StringBody → Step
string_of text (Closed units len) = Lexeme (StringLit units) (len + 1)
string_of text (Broken flaw) = flawed flaw text

-- JLS 3.10.5
unfoldable pub string_step : List Symbol → Step
string_step text = string_of text (string_body (drop 1 text))

-- a sign, or what is wrong with a character that begins none
abbrev pub sign_of : List Symbol → Option Spelling → Step
sign_of text (Some spelling) = Lexeme (Signed spelling.sign) spelling.len
sign_of text None =
    if code_at text 0 == 36 then Fault (Dollar (from_at text 0))
    else if is_high (code_at text 0) && is_break (code_at text 1) then Fault (torn text)
    else Fault (BadCharacter (from_at text 0))

-- JLS 3.11 and 3.12, or the fault of a character that begins no lexeme. A high surrogate before a break isn't known to be alone
unfoldable pub sign : List Symbol → Step
sign text = sign_of text (sign_at text)

-- the lexeme that a text begins with, where it doesn't begin with white space or a comment
unfoldable pub lexeme : List Symbol → Step
lexeme text =
    let c = code_at text 0 in
    if is_word_start c then word c (drop 1 text)
    else if is_decimal c then numeric text (number text)
    else if c == 34 then string_step text
    else if c == 39 then character text
    else if (c == 46) && is_decimal (code_at text 1) then Fault (Floating (from_at text 0))
    else sign text

-- what a text begins with: white space (JLS 3.6), a comment (JLS 3.7), or a lexeme
unfoldable pub first : List Symbol → Step
first text =
    let c = code_at text 0 in
    let d = code_at text 1 in
    if c == END then End
    else if is_break c then Fault (torn text)
    else if is_space c then Gap (run_length Space (drop 1 text) + 1)
    else if (c == 47) && (d == 47) then Gap (run_length Line (drop 2 text) + 2)
    else if (c == 47) && (d == 42) then comment text
    else lexeme text

-- a text doesn't end or break off, and begins with no white space or comment
unfoldable pub begins_lexeme : List Symbol → Bool
begins_lexeme text =
    let c = code_at text 0 in
    let d = code_at text 1 in
    not (c == END) && not (is_break c) && not (is_space c) && not ((c == 47) && ((d == 47) || (d == 42)))
