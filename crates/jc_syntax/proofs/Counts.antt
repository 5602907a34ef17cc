-- A source of the lexical stage has few bytes and few tokens.
use Rattle.std.proofs.Common.{◌≡◌, ℕ, zero, suc, ◌+◌, ◌<◌, ◌≤◌, ◌^◌, Bool, true, false, List, [], ◌∷◌, length, get_or, drop, Ok, Err, refl, ap, subst, arith, ltb-false}
use Rattle.std.specs.Prelude.{Result, nat_lt, if◌then◌else◌}
use Rattle.jc_rules.specs.declared.rule.Refusal.{Refusal}
use Rattle.jc_lexer.specs.declared.fault.LexFault.{LexFault}
use Rattle.jc_lexer.specs.declared.files.TheConstants.{MOST_BYTES}
use Rattle.jc_lexer.specs.declared.lexeme.Step.{Step}
use Rattle.jc_lexer.specs.declared.lexeme.Step.TheVariants.{Gap, Lexeme, End, Fault}
use Rattle.jc_lexer.specs.declared.symbol.Symbol.{Symbol}
use Rattle.jc_lexer.specs.declared.token.Token.{Token}
use Rattle.jc_lexer.specs.declared.decode.Reading.{Reading}
use Rattle.jc_lexer.specs.declared.decode.Reading.TheVariants.{Read, NotUtf8, BadEscape}
use Rattle.jc_lexer.specs.Decoding.{text_from, text_of, text_after, character}
use Rattle.jc_lexer.specs.Lexemes.{first}
use Rattle.jc_lexer.specs.Lexing.{lexed_from, lexed_after, lexed_text, lexed, with_token}
use Rattle.jc_lexer.specs.Files.{lexed_file, lexed_files, then_files, with_list, file_result, refusal}

symbols_after : (n at : ℕ) (more : ℕ → Bool → List Symbol) (r : Reading) → ((len : ℕ) (odd : Bool) → length (more len odd) ≤ n) → length (text_after more at r) ≤ suc n
symbols_after n at more (Read code len odd) few = omega (arith, few len odd)
symbols_after n at more NotUtf8 few = omega arith
symbols_after n at more BadEscape few = omega arith

symbols : (n at : ℕ) (odd : Bool) (bytes : List ℕ) → length (text_from n at odd bytes) ≤ suc n
unfolding text_from
symbols zero at odd bytes = omega arith
symbols (suc n) at odd [] = omega arith
symbols (suc n) at odd (b ∷ bytes) =
    symbols_after (suc n) at (λ len next. text_from n (at + len) next (drop len (b ∷ bytes))) (character (b ∷ bytes) odd) (λ len next. symbols n (at + len) next (drop len (b ∷ bytes)))

-- at most so many tokens
abbrev Few : ℕ → Result (List Token) LexFault → Type 0
Few n (Ok list) = length list ≤ n
Few n (Err fault) = Unit {0}

with_few : (n : ℕ) (t : Token) (r : Result (List Token) LexFault) → Few n r → Few (suc n) (with_token t r)
with_few n t (Ok list) few = omega (arith, few)
with_few n t (Err fault) few = tt

more_few : (n : ℕ) (r : Result (List Token) LexFault) → Few n r → Few (suc n) r
more_few n (Ok list) few = omega (arith, few)
more_few n (Err fault) few = tt

after_few : (n : ℕ) (more : ℕ → Result (List Token) LexFault) (text : List Symbol) (step : Step) → ((len : ℕ) → Few n (more len)) → Few (suc n) (lexed_after more text step)
after_few n more text (Gap len) few = more_few n (more len) (few len)
after_few n more text (Lexeme kind len) few = with_few n _ (more len) (few len)
after_few n more text End few = omega arith
after_few n more text (Fault fault) few = tt

few_from : (n : ℕ) (text : List Symbol) → Few n (lexed_from n text)
unfolding lexed_from
few_from zero text = omega arith
few_from (suc n) [] = omega arith
few_from (suc n) (s ∷ text) = after_few n (λ len. lexed_from n (drop len (s ∷ text))) (s ∷ text) (first (s ∷ text)) (λ len. few_from n (drop len (s ∷ text)))

few_text : (text : List Symbol) → Few (length text) (lexed_text text)
unfolding lexed_text
few_text text = few_from (length text) text

few_bytes : (bytes : List ℕ) (r : Result (List Token) LexFault) → Few (length (text_of bytes)) r → Few (suc (length bytes)) r
few_bytes bytes (Ok list) few = omega (arith, few, symbols (length bytes) 0 false bytes)
few_bytes bytes (Err fault) few = tt

-- both the bytes and the tokens of a source are fewer than 2^32
abbrev pub IsShort : List ℕ → List Token → Type 0
IsShort bytes list = (length list < 2 ^ 32) × (length bytes < 2 ^ 32)

abbrev FileShort : List ℕ → Result (List Token) Refusal → Type 0
FileShort bytes (Ok list) = IsShort bytes list
FileShort bytes (Err refused) = Unit {0}

short_result : (file : ℕ) (bytes : List ℕ) → length bytes ≤ MOST_BYTES → (r : Result (List Token) LexFault) → Few (suc (length bytes)) r → FileShort bytes (file_result file r)
short_result file bytes short (Ok list) few = (omega (arith, few, short), omega (arith, short))
short_result file bytes short (Err fault) few = tt

short_file : (file before : ℕ) (bytes : List ℕ) → FileShort bytes (lexed_file file before bytes)
unfolding lexed_file
short_file file before bytes = by_size (nat_lt MOST_BYTES (before + length bytes)) refl
  where
    by_size : (b : Bool) → nat_lt MOST_BYTES (before + length bytes) ≡ b → FileShort bytes (if b then Err (refusal 101 file 0) else file_result file (lexed bytes))
    by_size true e = tt
    by_size false e = short_result file bytes (omega (arith, ltb-false MOST_BYTES (before + length bytes) e)) (lexed bytes) (few_bytes bytes (lexed bytes) (few_text (text_of bytes)))

abbrev pub AreShort : List (List ℕ) → List (List Token) → Type 0
AreShort [] [] = Unit {0}
AreShort [] (list ∷ lists) = ⊥
AreShort (bytes ∷ texts) [] = ⊥
AreShort (bytes ∷ texts) (list ∷ lists) = IsShort bytes list × AreShort texts lists

abbrev AllShort : List (List ℕ) → Result (List (List Token)) Refusal → Type 0
AllShort texts (Ok lists) = AreShort texts lists
AllShort texts (Err refused) = Unit {0}

with_short : (bytes : List ℕ) (texts : List (List ℕ)) (list : List Token) (rest : Result (List (List Token)) Refusal) → IsShort bytes list → AllShort texts rest → AllShort (bytes ∷ texts) (with_list list rest)
with_short bytes texts list (Ok lists) s t = (s, t)
with_short bytes texts list (Err refused) s t = tt

then_short : (bytes : List ℕ) (texts : List (List ℕ)) (r : Result (List Token) Refusal) (rest : Result (List (List Token)) Refusal) → FileShort bytes r → AllShort texts rest → AllShort (bytes ∷ texts) (then_files r rest)
then_short bytes texts (Ok list) rest s t = with_short bytes texts list rest s t
then_short bytes texts (Err refused) rest s t = tt

short_files : (file before : ℕ) (texts : List (List ℕ)) → AllShort texts (lexed_files file before texts)
unfolding lexed_files
short_files file before [] = tt
short_files file before (bytes ∷ texts) = then_short bytes texts _ _ (short_file file before bytes) (short_files (file + 1) (before + length bytes) texts)

pub short_lists : (texts : List (List ℕ)) (lists : List (List Token)) → lexed_files 1 0 texts ≡ Ok lists → AreShort texts lists
short_lists texts lists e = subst (λ (r : Result (List (List Token)) Refusal). AllShort texts r) e (short_files 1 0 texts)

pub as_many : (texts : List (List ℕ)) (lists : List (List Token)) → AreShort texts lists → length lists ≡ length texts
as_many [] [] s = refl
as_many [] (list ∷ lists) s = absurd s
as_many (bytes ∷ texts) [] s = absurd s
as_many (bytes ∷ texts) (list ∷ lists) s = ap suc (as_many texts lists s.1)

pub short_at : (texts : List (List ℕ)) (lists : List (List Token)) → AreShort texts lists → (n : ℕ) → n < length lists → IsShort (get_or texts n []) (get_or lists n [])
short_at [] [] s n l = absurd (omega (arith, l))
short_at [] (list ∷ lists) s n l = absurd s
short_at (bytes ∷ texts) [] s n l = absurd s
short_at (bytes ∷ texts) (list ∷ lists) s zero l = s.0
short_at (bytes ∷ texts) (list ∷ lists) s (suc n) l = short_at texts lists s.1 n (omega (arith, l))
