-- A whole literal is some symbols.
use Rattle.std.proofs.Common.{◌≡◌, ℕ, zero, suc, ◌+◌, ◌-◌, ◌<◌, Bool, true, false, cond, List, [], ◌∷◌, length, take, drop, Option, Some, None, refl, arith}
use Rattle.std.specs.Prelude.{◌||◌, ◌&&◌, ◌==◌, nat_lt}
use Rattle.jc_lexer.specs.declared.number.Numeral.{Numeral}
use Rattle.jc_lexer.specs.declared.number.Numeral.TheVariants as numeral_of
use Rattle.jc_lexer.specs.declared.number.Tail.{Tail}
use Rattle.jc_lexer.specs.declared.number.Tail.TheVariants as tail_of
use Rattle.jc_lexer.specs.declared.symbol.Symbol.{Symbol}
use Rattle.jc_lexer.specs.declared.symbol.Class.TheVariants.{Digits, HexDigits}
use Rattle.jc_lexer.specs.Numbers.{HasSymbols, whole_of, whole_value, fraction, decimal_after, decimal_number, hex_tail, hex_after, hex_number, binary_after, binary_number, number}
use Rattle.jc_lexer.specs.Symbols.{code_at, run_length, is_break}

record Has (n : Numeral) : Type 0 where
  some : HasSymbols n

either : (b : Bool) (x y : Numeral) → Has x → Has y → Has (cond b x y)
either true x y p q = p
either false x y p q = q

malformed : Has numeral_of.Malformed
malformed = record { some = tt }

real : Has numeral_of.Real
real = record { some = tt }

cut : Has numeral_of.Cut
cut = record { some = tt }

whole_has : (decimal : Bool) (len : ℕ) (o : Option ℕ) → 0 < len → Has (whole_of decimal len o)
whole_has decimal len None l = malformed
whole_has decimal len (Some value) l = record { some = l }

decimal_has : (t : Tail) (digits : List Symbol) → 0 < length digits → Has (decimal_after t digits)
unfolding decimal_after
decimal_has tail_of.Follows digits l = real
decimal_has tail_of.Broken digits l = cut
decimal_has tail_of.Absent digits l = either _ _ _ (whole_has false (length digits) (whole_value 8 digits) l) (whole_has true (length digits) (whole_value 10 digits) l)

some_digits : (len : ℕ) (s : Symbol) (text : List Symbol) → (len == 0) ≡ false → 0 < length (take len (s ∷ text))
some_digits zero s text e = cc
some_digits (suc len) s text e = omega arith

module _ (s : Symbol) (text : List Symbol) where
  abbrev len : ℕ
  len = run_length Digits (s ∷ text)

  ends : (a b : Bool) → (len == 0) ≡ a → Has (cond (a || b) numeral_of.Malformed (decimal_after (fraction (drop len (s ∷ text))) (take len (s ∷ text))))
  ends true b e = malformed
  ends false true e = malformed
  ends false false e = decimal_has (fraction (drop len (s ∷ text))) (take len (s ∷ text)) (some_digits len s text e)

  decimals_have : Has (decimal_number (s ∷ text))
  unfolding decimal_number
  decimals_have = either (is_break (code_at (drop len (s ∷ text)) 0)) numeral_of.Cut _ cut (ends (len == 0) (code_at (s ∷ text) (len - 1) == 95) refl)

hex_has : (t : Tail) (digits : List Symbol) → Has (hex_after t digits)
unfolding hex_after
hex_has tail_of.Follows digits = real
hex_has tail_of.Broken digits = cut
hex_has tail_of.Absent [] = malformed
hex_has tail_of.Absent (d ∷ digits) = whole_has false (length (d ∷ digits) + 2) (whole_value 16 (d ∷ digits)) (omega arith)

hexes_have : (text : List Symbol) → Has (hex_number text)
unfolding hex_number
hexes_have text =
    let len = run_length HexDigits text in
    either (code_at text 0 == 95) _ _ malformed (either (nat_lt 0 len && (code_at text (len - 1) == 95)) _ _ (either (is_break (code_at (drop len text) 0)) _ _ cut malformed) (hex_has (hex_tail (nat_lt 0 (run_length HexDigits text)) (drop (run_length HexDigits text) text)) (take (run_length HexDigits text) text)))

binary_has : (o : Option ℕ) (len : ℕ) (text : List Symbol) → Has (binary_after o len text)
unfolding binary_after
binary_has None len text = malformed
binary_has (Some value) len text =
    let one : Has (numeral_of.Whole value false (len + 2)) = record { some = omega arith } in
    either _ _ _ malformed (either _ _ _ cut (either _ _ _ malformed one))

binaries_have : (text : List Symbol) → Has (binary_number text)
unfolding binary_number
binaries_have text = binary_has (whole_value 2 (take (run_length Digits text) text)) (run_length Digits text) text

numbers_have : (s : Symbol) (text : List Symbol) → Has (number (s ∷ text))
unfolding number
numbers_have s text = either _ _ _ (decimals_have s text) (either _ _ _ (hexes_have (drop 2 (s ∷ text))) (either _ _ _ (binaries_have (drop 2 (s ∷ text))) (decimals_have s text)))

pub number_has : (s : Symbol) (text : List Symbol) → HasSymbols (number (s ∷ text))
number_has s text = (numbers_have s text).some
