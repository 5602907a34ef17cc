-- A byte of ASCII that is no backslash is a character by itself.
use Rattle.std.proofs.Common.{◌≡◌, ℕ, ◌<◌, Bool, true, false, List, sym, ap, ◌∙◌, arith, cond, length, drop}
use Rattle.std.specs.Prelude.{◌&&◌, not, ◌==◌, nat_lt, nat_le, get_or}
use Rattle.std.proofs.lemmas.Bool.Decides.{nat_tests}
use Rattle.jc_lexer.specs.Symbols.{is_high}
use Rattle.jc_lexer.specs.Decoding.{two_bytes, three_bytes, four_bytes, utf8, escape, unit, paired, with_second, character}
use Rattle.jc_lexer.specs.declared.decode.Reading.{Reading}
use Rattle.jc_lexer.specs.declared.decode.Reading.TheVariants.{Read, NotUtf8}

pub plain_character : (bytes : List ℕ) (odd : Bool) (a : ℕ) → a ≡ get_or bytes 0 0 → a < 128 → (a ≡ 92 → ⊥) → Read a 1 false ≡ character bytes odd
unfolding character unit utf8
plain_character bytes odd a e small other = ap (λ (n : ℕ). Read n 1 false) e ∙ sym (ap (with_second bytes) (ap unit_by no_backslash ∙ ap utf8_by ascii) ∙ ap second_by no_surrogate)
  where
    b : ℕ
    b = get_or bytes 0 0

    no_backslash : (b == 92) ≡ false
    no_backslash = let no : b ≡ 92 → ⊥ = λ i. other (e ∙ i) in grind (arith, nat_tests)

    ascii : nat_lt b 128 ≡ true
    ascii = let l : b < 128 = omega (arith, e) in grind (arith, nat_tests)

    no_surrogate : is_high b ≡ false
    no_surrogate = let l : b < 128 = omega (arith, e) in ap (λ (t : Bool). t && nat_le b 0xDBFF) low
      where
        low : nat_le 0xD800 b ≡ false
        low = let l : b < 128 = omega (arith, e) in grind (arith, nat_tests)

    unit_by : Bool → Reading
    unit_by backslash = cond (backslash && not odd && (get_or bytes 1 0 == 117)) (escape bytes) (utf8 bytes (backslash && not odd))

    utf8_by : Bool → Reading
    utf8_by t =
        cond t (Read b 1 false)
        (cond (nat_lt b 0xC2) NotUtf8 (cond (nat_lt b 0xE0) (two_bytes bytes false) (cond (nat_lt b 0xF0) (three_bytes bytes false) (cond (nat_lt b 0xF5) (four_bytes bytes false) NotUtf8))))

    second_by : Bool → Reading
    second_by t = cond (t && nat_lt 1 (length bytes)) (paired (Read b 1 false) b 1 (unit (drop 1 bytes) false)) (Read b 1 false)
