-- The characters of a text, and the classes that JLS 3 sorts them into.
use Rattle.std.specs.Prelude.{ℕ, Bool, not, ◌&&◌, ◌||◌, ◌==◌, nat_le, nat_lt, List, slice_get, option_map, unwrap_or}
use Rattle.std.specs.Char.{digit_value}
use Rattle.std.specs.List.{prefix_len}
use Rattle.unicode_ident.specs.Ident.{is_xid_start, is_xid_continue}
use Rattle.jc_lexer.specs.declared.symbol.Symbol.{Symbol}
use Rattle.jc_lexer.specs.declared.symbol.Class.{Class}
use Rattle.jc_lexer.specs.declared.symbol.Class.TheVariants.{Space, Line, Digits, HexDigits}
use Rattle.jc_lexer.specs.declared.symbol.TheConstants.{END, NOT_UTF8, BAD_ESCAPE}

-- a Unicode scalar value: at most 10FFFF, and no surrogate
abbrev pub is_scalar : ℕ → Bool
is_scalar c = nat_lt c 0xD800 || (nat_le 0xE000 c && nat_le c 0x10FFFF)

-- JLS 3.8, with Unicode's XID_Start and `_` as the letters, and no dollar sign
abbrev pub is_word_start : ℕ → Bool
is_word_start c = is_scalar c && (is_xid_start c || (c == 95))

-- JLS 3.8, with XID_Continue, to which `_` belongs, as the letters and digits
abbrev pub is_word_part : ℕ → Bool
is_word_part c = is_scalar c && is_xid_continue c

-- JLS 3.10.1: a digit `0` to `9`
abbrev pub is_decimal : ℕ → Bool
is_decimal c = nat_le 48 c && nat_le c 57

-- JLS 3.4: a line feed or a carriage return; also the end of the source
abbrev pub is_line_end : ℕ → Bool
is_line_end c = (c == 10) || (c == 13) || (c == END)

-- the text breaks off here
abbrev pub is_break : ℕ → Bool
is_break c = (c == NOT_UTF8) || (c == BAD_ESCAPE)

-- JLS 3.1: a unit that is the first of a pair
abbrev pub is_high : ℕ → Bool
is_high c = nat_le 0xD800 c && nat_le c 0xDBFF

-- JLS 3.6: a space, a tab, a line feed, a carriage return or a form feed
abbrev pub is_space : ℕ → Bool
is_space c = (c == 32) || (c == 9) || (c == 10) || (c == 13) || (c == 12)

-- a character belongs to a class: white space, what goes on an end-of-line comment (JLS 3.7), or digits and underscores of base 10 or 16
abbrev pub passes : Class → ℕ → Bool
passes Space c = is_space c
passes Line c = not (is_line_end c) && not (is_break c)
passes Digits c = nat_lt (digit_value c) 10 || (c == 95)
passes HexDigits c = nat_lt (digit_value c) 16 || (c == 95)

-- the code of the symbol at a place
-- or the mark of a source's end where there is none
abbrev pub code_at : List Symbol → ℕ → ℕ
code_at text place = unwrap_or (option_map (λ (s : Symbol). s.code) (slice_get text place)) END

-- the offset of the symbol at a place, where there is one
-- and else 0
abbrev pub from_at : List Symbol → ℕ → ℕ
from_at text place = unwrap_or (option_map (λ (s : Symbol). s.from) (slice_get text place)) 0

-- the longest run of a class that the text begins with
abbrev pub run_length : Class → List Symbol → ℕ
run_length class text = prefix_len (λ (s : Symbol). passes class s.code) text
