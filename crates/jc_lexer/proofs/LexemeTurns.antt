-- The loops over a lexeme, turn by turn.
use Rattle.std.proofs.Common.{◌≡◌, ℕ, zero, suc, ◌+◌, ◌<◌, true, cond, List, [], ◌∷◌, ◌++◌, Some, length, get_or, take, drop, map, refl, ap, ◌∙◌, arith, add-one}
use Rattle.std.specs.Prelude.{◌==◌, ◌&&◌}
use Rattle.std.specs.Char.{encode_utf8}
use Rattle.std.specs.Str.{encode_utf8_all}
use Rattle.std.proofs.lemmas.List.{map_more, append-nil}
use Rattle.std.proofs.lemmas.List.Sums.{prefix_len-drop_yes}
use Rattle.std.proofs.lemmas.Str.{encodes-append}
use Rattle.jc_lexer.specs.declared.symbol.Symbol.{Symbol}
use Rattle.jc_lexer.specs.Symbols.{code_at, is_word_part}
use Rattle.jc_lexer.specs.Lexemes.{closing, closes_at, part_length}

closing_on : (text : List Symbol) (n told : ℕ) → n < length text →
    closing told (drop n text) ≡ cond ((code_at text n == 42) && (code_at text (suc n) == 47)) (Some (told + 2)) (closing (told + 1) (drop (suc n) text))
closing_on [] n told h = absurd (omega arith)
closing_on (s ∷ text) zero told h = refl
closing_on (s ∷ text) (suc n) told h = closing_on text n told (omega arith)

-- the first end of a comment stands here, or it is that of the rest
pub closing_turn : (text : List Symbol) (n : ℕ) → n < length text →
    closing n (drop n text) ≡ cond (closes_at text n) (Some (n + 2)) (closing (n + 1) (drop (n + 1) text))
closing_turn text n h = rw add-one (let e = closing_on text n n h in rw add-one at e)

-- a word with one more letter
pub word_more : (letter : ℕ) (text : List Symbol) (n : ℕ) (d : Symbol) → n < length text →
    encode_utf8_all (letter ∷ map (λ (s : Symbol). s.code) (take (n + 1) text)) ≡ encode_utf8_all (letter ∷ map (λ (s : Symbol). s.code) (take n text)) ++ encode_utf8 (get_or text n d).code
word_more letter text n d h =
    let c = (get_or text n d).code in
    let told = map (λ (s : Symbol). s.code) (take n text) in
    let more : encode_utf8_all (c ∷ []) ≡ encode_utf8 c = append-nil (encode_utf8 c) in
    ap (λ l. encode_utf8_all (letter ∷ l)) (map_more (λ (s : Symbol). s.code) text n d h) ∙ encodes-append (letter ∷ told) (c ∷ []) ∙ ap (λ l. encode_utf8_all (letter ∷ told) ++ l) more

pub parts_more : (text : List Symbol) (n : ℕ) (d : Symbol) → n < length text → is_word_part (get_or text n d).code ≡ true → part_length (drop n text) ≡ 1 + part_length (drop (n + 1) text)
parts_more text n d h e = prefix_len-drop_yes (λ (s : Symbol). is_word_part s.code) text n d h e
