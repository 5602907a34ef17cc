-- What a text begins with: some symbols, spelled as they are.
use Rattle.std.proofs.Common.{◌≡◌, ℕ, ◌+◌, ◌<◌, Bool, true, false, cond, List, [], ◌∷◌, map, take, drop, Option, Some, None, refl, sym, ap, ◌∙◌, add-one, arith}
use Rattle.std.specs.Prelude.{◌==◌, ◌&&◌, ◌||◌, nat_le, nat_lt}
use Rattle.std.proofs.lemmas.Bool.Decides.{nat_tests}
use Rattle.std.specs.Str.{bytes_eq, encode_utf8_all}
use Rattle.std.specs.List.{list_all}
use Rattle.std.proofs.lemmas.Slice.Eq.{bytes_eq-Decides}
use Rattle.std.proofs.lemmas.Bool.{and_parts}
use Rattle.jc_lexer.specs.declared.fault.LexFault.{LexFault}
use Rattle.jc_lexer.specs.declared.fault.LexFault.TheVariants.{BadCharacter, Dollar}
use Rattle.jc_lexer.specs.declared.lexeme.Step.{Step}
use Rattle.jc_lexer.specs.declared.lexeme.Step.TheVariants.{Gap, Lexeme, End, Fault}
use Rattle.jc_lexer.specs.declared.literal.CharBody.{CharBody}
use Rattle.jc_lexer.specs.declared.literal.CharBody.TheVariants.{Shut, Amiss}
use Rattle.jc_lexer.specs.declared.literal.Flaw.{Flaw}
use Rattle.jc_lexer.specs.declared.literal.Flaw.TheVariants as flaw_of
use Rattle.jc_lexer.specs.declared.literal.StringBody.{StringBody}
use Rattle.jc_lexer.specs.declared.literal.StringBody.TheVariants.{Closed, Broken}
use Rattle.jc_lexer.specs.declared.number.Numeral.{Numeral}
use Rattle.jc_lexer.specs.declared.number.Numeral.TheVariants as numeral_of
use Rattle.jc_lexer.specs.declared.signs.Spelling.{Spelling}
use Rattle.jc_lexer.specs.declared.symbol.Class.TheVariants.{Space, Line}
use Rattle.jc_lexer.specs.declared.symbol.Symbol.{Symbol}
use Rattle.jc_lexer.specs.declared.symbol.TheConstants.{END}
use Rattle.jc_lexer.specs.declared.token.Key.{Key}
use Rattle.jc_lexer.specs.Lexemes.{first, lexeme, comment, comment_of, closing, word, part_length, numeric, flawed, character, character_of, string_step, string_of, sign, sign_of, torn}
use Rattle.jc_lexer.specs.Literals.{char_body, string_body}
use Rattle.jc_lexer.specs.Numbers.{HasSymbols, number}
use Rattle.jc_lexer.specs.Signs.{begins, sign_in, sign_at}
use Rattle.jc_lexer.specs.Symbols.{code_at, from_at, is_break, is_decimal, is_high, is_space, is_word_start, run_length}
use Rattle.jc_lexer.specs.Words.{spelling, key_in, word_or_key, word_kind}
use Rattle.jc_lexer_laws.specs.TokensAreTold.{letters, IsSpelled}
use Rattle.jc_lexer_laws.proofs.Literals.{Begins, character_whole, number_whole, string_whole}
use Rattle.jc_lexer_laws.proofs.Numerals.{number_has}
use Rattle.jc_lexer_laws.proofs.Tables.{keys, signs}

-- a lexeme is some symbols of a text, and spelled as they are
abbrev pub IsOf : List Symbol → Step → Type 0
IsOf text (Lexeme kind len) = (0 < len) × IsSpelled kind (take len text)
IsOf text (Gap len) = Unit {0}
IsOf text End = Unit {0}
IsOf text (Fault fault) = Unit {0}

pub record Of (text : List Symbol) (step : Step) : Type 0 where
  pub is : IsOf text step

either : (text : List Symbol) (b : Bool) (x y : Step) → Of text x → Of text y → Of text (cond b x y)
either text true x y p q = p
either text false x y p q = q

gap : (text : List Symbol) (len : ℕ) → Of text (Gap len)
gap text len = record { is = tt }

ending : (text : List Symbol) → Of text End
ending text = record { is = tt }

fault : (text : List Symbol) (f : LexFault) → Of text (Fault f)
fault text f = record { is = tt }

-- words

abbrev IsKeyOf : List ℕ → Option Key → Type 0
IsKeyOf text None = Unit {0}
IsKeyOf text (Some key) = spelling key ≡ text

key_of : (keys : List Key) (text : List ℕ) → IsKeyOf text (key_in keys text)
key_of [] text = tt
key_of (key ∷ keys) text = from (bytes_eq (spelling key) text) refl (key_of keys text)
  where
    from : (b : Bool) → bytes_eq (spelling key) text ≡ b → IsKeyOf text (key_in keys text) → IsKeyOf text (cond b (Some key) (key_in keys text))
    from true e rest = (bytes_eq-Decides (spelling key) text).0 e
    from false e rest = rest

kind_spelled : (text : List ℕ) (o : Option Key) (symbols : List Symbol) → IsKeyOf text o → text ≡ letters symbols → IsSpelled (word_or_key text o) symbols
kind_spelled text None symbols k e = e
kind_spelled text (Some key) symbols k e = k ∙ e

word_is : (s : Symbol) (text : List Symbol) → Of (s ∷ text) (word s.code text)
unfolding word word_kind
word_is s text =
    let n = part_length text in
    let spelled = encode_utf8_all (s.code ∷ map (λ (d : Symbol). d.code) (take n text)) in
    record { is = (omega arith, kind_spelled spelled (key_in keys spelled) (take (n + 1) (s ∷ text)) (key_of keys spelled) (ap (λ (k : ℕ). letters (take k (s ∷ text))) (sym (add-one n)))) }

-- literals and signs

longer : (b : Bool) (len : ℕ) → 0 < len → 0 < cond b (len + 1) len
longer true len h = omega arith
longer false len h = h

numeric_is : (text : List Symbol) (n : Numeral) → HasSymbols n → Begins (code_at text 0) → is_decimal (code_at text 0) ≡ true → number text ≡ n → Of text (numeric text n)
numeric_is text (numeral_of.Whole value decimal len) h b d e = record { is = (longer ((code_at text len == 76) || (code_at text len == 108)) len h, number_whole text value len decimal h b d e) }
numeric_is text numeral_of.Malformed h b d e = fault text _
numeric_is text numeral_of.Real h b d e = fault text _
numeric_is text numeral_of.Cut h b d e = fault text _

flawed_is : (text : List Symbol) (f : Flaw) → Of text (flawed f text)
flawed_is text flaw_of.Wrong = fault text _
flawed_is text flaw_of.Open = fault text _
flawed_is text flaw_of.Torn = fault text _

string_is : (s : Symbol) (text : List Symbol) (body : StringBody) → Begins s.code → is_decimal s.code ≡ false → (s.code == 34) ≡ true → string_body text ≡ body → Of (s ∷ text) (string_of (s ∷ text) body)
string_is s text (Closed units len) b d q e = record { is = (omega arith, string_whole s text units len b d q e) }
string_is s text (Broken flaw) b d q e = flawed_is (s ∷ text) flaw

character_is : (s : Symbol) (text : List Symbol) (body : CharBody) → Begins s.code → is_decimal s.code ≡ false → (s.code == 34) ≡ false → (s.code == 39) ≡ true → char_body text ≡ body →
    Of (s ∷ text) (character_of (s ∷ text) body)
character_is s text (Shut unit len) b d q r e = record { is = (omega arith, character_whole s text unit len b d q r e) }
character_is s text (Amiss flaw) b d q r e = flawed_is (s ∷ text) flaw

abbrev HasLength : Option Spelling → Type 0
HasLength None = Unit {0}
HasLength (Some s) = 0 < s.len

abbrev HaveLengths : List Spelling → Type 0
HaveLengths [] = Unit {0}
HaveLengths (s ∷ signs) = (0 < s.len) × HaveLengths signs

sign_has : (signs : List Spelling) (text : List Symbol) → HaveLengths signs → HasLength (sign_in signs text)
sign_has [] text h = tt
sign_has (s ∷ signs) text h = from (begins s text) (sign_has signs text h.1)
  where
    from : (b : Bool) → HasLength (sign_in signs text) → HasLength (cond b (Some s) (sign_in signs text))
    from true rest = h.0
    from false rest = rest

sign_is : (text : List Symbol) (o : Option Spelling) → HasLength o → Of text (sign_of text o)
sign_is text None h =
    either text (code_at text 0 == 36) _ _ (fault text (Dollar (from_at text 0)))
    (either text (is_high (code_at text 0) && is_break (code_at text 1)) _ _ (fault text (torn text)) (fault text (BadCharacter (from_at text 0))))
sign_is text (Some s) h = record { is = (h, tt) }

lengths_of : (signs : List Spelling) → list_all (λ (s : Spelling). nat_lt 0 s.len) signs ≡ true → HaveLengths signs
lengths_of [] h = tt
lengths_of (s ∷ signs) h =
    let p = and_parts (nat_lt 0 s.len) (list_all (λ (s : Spelling). nat_lt 0 s.len) signs) h in
    let e : nat_lt 0 s.len ≡ true = p.0 in
    let l : 0 < s.len = grind (arith, nat_tests) in
    (l, lengths_of signs p.1)

signs_are : (text : List Symbol) → Of text (sign text)
unfolding sign sign_at
signs_are text = sign_is text (sign_in signs text) (sign_has signs text (lengths_of signs refl))

-- what a text begins with

-- a test with what it tells
split : (text : List Symbol) (b : Bool) (x y : Step) → (b ≡ true → Of text x) → (b ≡ false → Of text y) → Of text (cond b x y)
split text true x y p q = p refl
split text false x y p q = q refl

no_slash : (c d : ℕ) → (c == d) ≡ true → (d == 47) ≡ false → (c == 47) ≡ false
no_slash c d e f = let same : c ≡ d = grind (arith, nat_tests) in ap (λ (k : ℕ). k == 47) same ∙ f

digit_is_no_slash : (c : ℕ) → is_decimal c ≡ true → (c == 47) ≡ false
digit_is_no_slash c e = let p = and_parts (nat_le 48 c) (nat_le c 57) e in let l : nat_le 48 c ≡ true = p.0 in grind (arith, nat_tests)

module _ (s : Symbol) (text : List Symbol) (end : (s.code == END) ≡ false) (whole : is_break s.code ≡ false) (black : is_space s.code ≡ false) where
  begins_at : (s.code == 47) ≡ false → is_word_start s.code ≡ false → Begins s.code
  begins_at slash word = record { no_end = end; no_break = whole; no_space = black; no_slash = slash; no_word = word }

  lexeme_is : Of (s ∷ text) (lexeme (s ∷ text))
  unfolding lexeme character string_step
  lexeme_is =
      let all = s ∷ text in
      split all (is_word_start s.code) _ _ (λ w. word_is s text) (λ w.
      split all (is_decimal s.code) _ _ (λ d. numeric_is all (number all) (number_has s text) (begins_at (digit_is_no_slash s.code d) w) d refl) (λ d.
      split all (s.code == 34) _ _ (λ q. string_is s text (string_body text) (begins_at (no_slash s.code 34 q refl) w) d q refl) (λ q.
      split all (s.code == 39) _ _ (λ r. character_is s text (char_body text) (begins_at (no_slash s.code 39 r refl) w) d q r refl) (λ r.
      either all _ _ _ (fault all _) (signs_are all)))))

comment_is : (whole text : List Symbol) (o : Option ℕ) → Of whole (comment_of text o)
comment_is whole text (Some len) = gap whole _
comment_is whole text None = either whole _ _ _ (fault whole _) (fault whole _)

pub first_is : (s : Symbol) (text : List Symbol) → Of (s ∷ text) (first (s ∷ text))
unfolding first comment
first_is s text =
    let all = s ∷ text in
    let c = code_at all 0 in
    let d = code_at all 1 in
    split all (c == END) _ _ (λ e. ending all) (λ end. split all (is_break c) _ _ (λ e. fault all _) (λ whole.
    split all (is_space c) _ _ (λ e. gap all (run_length Space (drop 1 all) + 1)) (λ black.
    either all ((c == 47) && (d == 47)) _ _ (gap all (run_length Line (drop 2 all) + 2))
    (either all ((c == 47) && (d == 42)) _ _ (comment_is all all (closing 0 (drop 2 all))) (lexeme_is s text end whole black)))))
