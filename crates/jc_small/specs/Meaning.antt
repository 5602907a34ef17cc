-- What a small program does (JLS 15.18.2: whole numbers are added from the left and wrap; `write` puts out the low byte).
use Rattle.std.specs.Prelude.{ℕ, ◌%◌, List, [], ◌∷◌, map, take, length, ℤ, pos, nat_lt, if◌then◌else◌}
use Rattle.std.specs.Int.{w32, int_wrapping_add, cast_unsigned}
use Rattle.jc_small.specs.Small.{Program}

-- the sum of a number and those behind it
abbrev pub sum_after : ℤ → List ℕ → ℤ
sum_after a [] = a
sum_after a (n ∷ ns) = sum_after (int_wrapping_add w32 a (pos n)) ns

-- a sum of no numbers is 0; a program has none
abbrev pub sum_of : List ℕ → ℤ
sum_of [] = pos 0
sum_of (n ∷ ns) = sum_after (pos n) ns

-- a write puts out the low byte of its sum
abbrev pub byte_of : List ℕ → ℕ
byte_of ns = cast_unsigned w32 (sum_of ns) % 256

-- whether a program goes on or has ended
pub data Ending : Type 0 where
  Going : Ending
  Ended : Ending

-- what is seen of a program: the bytes that it put out, the bytes of input that it took, and its ending
pub record Shown : Type 0 where
  pub output : List ℕ
  pub taken : ℕ
  pub ending : Ending

-- what a source shows within a number of units: a write takes one of them, and the end of `main` the last
abbrev pub source_shows : Program → ℕ → Shown
source_shows program units = record {
  output = take units (map byte_of program);
  taken = 0;
  ending = if nat_lt (length program) units then Ended else Going;
}
