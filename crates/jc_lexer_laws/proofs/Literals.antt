-- A literal that a text begins with is that of its symbols alone.
use Rattle.std.proofs.Common.{◌≡◌, ℕ, zero, suc, ◌+◌, ◌<◌, ◌≤◌, Bool, true, false, cond, List, [], ◌∷◌, length, take, ◌⊎◌, inl, inr, refl, sym, ap, ◌∙◌, subst, add-one, arith}
use Rattle.std.specs.Prelude.{◌||◌, ◌&&◌, ◌==◌}
use Rattle.std.proofs.lemmas.Bool.Decides.{nat_tests}
use Rattle.std.proofs.lemmas.List.{length-take-le}
use Rattle.jc_lexer.specs.declared.lexeme.Step.{Step}
use Rattle.jc_lexer.specs.declared.lexeme.Step.TheVariants.{Lexeme}
use Rattle.jc_lexer.specs.declared.literal.CharBody.TheVariants.{Shut}
use Rattle.jc_lexer.specs.declared.literal.StringBody.TheVariants.{Closed}
use Rattle.jc_lexer.specs.declared.number.Numeral.{Numeral}
use Rattle.jc_lexer.specs.declared.number.Numeral.TheVariants.{Whole}
use Rattle.jc_lexer.specs.declared.symbol.Symbol.{Symbol}
use Rattle.jc_lexer.specs.declared.symbol.TheConstants.{END}
use Rattle.jc_lexer.specs.declared.token.TokenKind.TheVariants.{Number, CharLit, StringLit}
use Rattle.jc_lexer.specs.Lexemes.{first, lexeme, numeric, character, character_of, string_step, string_of}
use Rattle.jc_lexer.specs.Literals.{char_body, string_body}
use Rattle.jc_lexer.specs.Numbers.{number}
use Rattle.jc_lexer.specs.Symbols.{code_at, is_break, is_decimal, is_space, is_word_start}
use Rattle.jc_lexer_laws.specs.TokensAreTold.{IsWhole}
use Rattle.jc_lexer_laws.proofs.Calm.{IsCalm}
use Rattle.jc_lexer_laws.proofs.Quoted.{char_alone, string_alone}
use Rattle.jc_lexer_laws.proofs.Slices.{no, yes, code_take, code_end, there}
use Rattle.jc_lexer_laws.proofs.WholeNumbers.{Ends, number_alone}

-- a character that no end, break, white space, comment or word begins with
pub record Begins (c : ℕ) : Type 0 where
  pub no_end : (c == END) ≡ false
  pub no_break : is_break c ≡ false
  pub no_space : is_space c ≡ false
  pub no_slash : (c == 47) ≡ false
  pub no_word : is_word_start c ≡ false

none : (a b : Bool) → a ≡ false → (a && b) ≡ false
none true b e = absurd (let f : true ≡ false = e in cc)
none false b e = refl

-- such a text is a lexeme at once
at_once : (u : List Symbol) → Begins (code_at u 0) → first u ≡ lexeme u
unfolding first
at_once u b =
    let c = code_at u 0 in
    let d = code_at u 1 in
    no (c == END) _ _ b.no_end ∙ (no (is_break c) _ _ b.no_break ∙ (no (is_space c) _ _ b.no_space ∙
    (no ((c == 47) && (d == 47)) _ _ (none (c == 47) (d == 47) b.no_slash) ∙ no ((c == 47) && (d == 42)) _ _ (none (c == 47) (d == 42) b.no_slash))))

as_number : (u : List Symbol) → Begins (code_at u 0) → is_decimal (code_at u 0) ≡ true → first u ≡ numeric u (number u)
unfolding lexeme
as_number u b e = at_once u b ∙ (no (is_word_start (code_at u 0)) _ _ b.no_word ∙ yes (is_decimal (code_at u 0)) _ _ e)

as_string : (u : List Symbol) → Begins (code_at u 0) → is_decimal (code_at u 0) ≡ false → (code_at u 0 == 34) ≡ true → first u ≡ string_step u
unfolding lexeme
as_string u b e q = at_once u b ∙ (no (is_word_start (code_at u 0)) _ _ b.no_word ∙ (no (is_decimal (code_at u 0)) _ _ e ∙ yes (code_at u 0 == 34) _ _ q))

as_character : (u : List Symbol) → Begins (code_at u 0) → is_decimal (code_at u 0) ≡ false → (code_at u 0 == 34) ≡ false → (code_at u 0 == 39) ≡ true → first u ≡ character u
unfolding lexeme
as_character u b e q r = at_once u b ∙ (no (is_word_start (code_at u 0)) _ _ b.no_word ∙ (no (is_decimal (code_at u 0)) _ _ e ∙ (no (code_at u 0 == 34) _ _ q ∙ yes (code_at u 0 == 39) _ _ r)))

-- whole literals

take_less : (m n : ℕ) (a : List Symbol) → n ≤ m → take n (take m a) ≡ take n a
take_less m zero a l = refl
take_less zero (suc n) a l = absurd (omega arith)
take_less (suc m) (suc n) [] l = refl
take_less (suc m) (suc n) (s ∷ a) l = ap (λ (t : List Symbol). s ∷ t) (take_less m n a (omega arith))

abbrev is_long : ℕ → Bool
is_long c = (c == 76) || (c == 108)

long_is_calm : (c : ℕ) → is_long c ≡ true → IsCalm c
long_is_calm c e = record { cases = by_tests (c == 76) (c == 108) refl refl e }
  where
    by_tests : (p q : Bool) → (c == 76) ≡ p → (c == 108) ≡ q → (p || q) ≡ true → (c ≡ END) ⊎ ((c ≡ 76) ⊎ (c ≡ 108))
    by_tests true q e f g = inr (inl (let same : c ≡ 76 = grind (arith, nat_tests) in same))
    by_tests false true e f g = inr (inr (let same : c ≡ 108 = grind (arith, nat_tests) in same))
    by_tests false false e f g = absurd (let h : false ≡ true = g in cc)

long_is_there : (c : ℕ) → IsCalm c → is_long c ≡ true → (c == END) ≡ false
long_is_there c k e = by_cases k.cases
  where
    by_cases : (c ≡ END) ⊎ ((c ≡ 76) ⊎ (c ≡ 108)) → (c == END) ≡ false
    by_cases (inl f) = absurd (let g : is_long END ≡ true = ap is_long (sym f) ∙ e in let h : false ≡ true = g in cc)
    by_cases (inr (inl f)) = ap (λ (d : ℕ). d == END) f
    by_cases (inr (inr f)) = ap (λ (d : ℕ). d == END) f

abbrev numbered : Bool → ℕ → Bool → ℕ → Step
numbered long value decimal len = Lexeme (Number value long decimal) (cond long (len + 1) len)

numeric_of : (u : List Symbol) (n : Numeral) (value len : ℕ) (decimal long : Bool) → n ≡ Whole value decimal len → is_long (code_at u len) ≡ long → numeric u n ≡ numbered long value decimal len
numeric_of u n value len decimal long e f = ap (numeric u) e ∙ ap (λ (b : Bool). numbered b value decimal len) f

module _ (a : List Symbol) (value len : ℕ) (decimal : Bool) (some : 0 < len) (b : Begins (code_at a 0)) (digit : is_decimal (code_at a 0) ≡ true) (e : number a ≡ Whole value decimal len) where
  number_of : (m : ℕ) (long : Bool) → len ≤ m → m ≤ length a → m ≡ cond long (len + 1) len → IsCalm (code_at (take m a) len) → is_long (code_at (take m a) len) ≡ long → IsWhole (Number value long decimal) (take m a)
  number_of m long l w same calm is =
      let front : code_at (take m a) 0 ≡ code_at a 0 = code_take m 0 a (omega (arith, l, some)) in
      let ends : Ends a (take m a) len = record { same = take_less m len a l; calm = calm } in
      let p = number_alone a (take m a) value decimal len some ends e in
      as_number (take m a) (subst Begins (sym front) b) (ap is_decimal front ∙ digit) ∙
      (numeric_of (take m a) (number (take m a)) value len decimal long p.0 is ∙ ap (Lexeme (Number value long decimal)) (sym same ∙ sym (length-take-le m a w)))

  inside : len ≤ length a
  inside = (number_alone a (take len a) value decimal len some (record { same = take_less len len a (omega arith); calm = record { cases = inl (code_end len a) } }) e).1

  number_is : (long : Bool) → is_long (code_at a len) ≡ long → IsWhole (Number value long decimal) (take (cond long (len + 1) len) a)
  number_is true f =
      let same : code_at (take (len + 1) a) len ≡ code_at a len = code_take (len + 1) len a (omega arith) in
      let k = long_is_calm (code_at a len) f in
      let more : len < length a = there a len (long_is_there (code_at a len) k f) in
      number_of (len + 1) true (omega arith) (omega (arith, more)) refl (subst IsCalm (sym same) k) (ap is_long same ∙ f)
  number_is false f =
      let end : code_at (take len a) len ≡ END = code_end len a in
      number_of len false (omega arith) inside refl (record { cases = inl end }) (ap is_long end)

pub number_whole : (a : List Symbol) (value len : ℕ) (decimal : Bool) → 0 < len → Begins (code_at a 0) → is_decimal (code_at a 0) ≡ true → number a ≡ Whole value decimal len →
    IsWhole (Number value (is_long (code_at a len)) decimal) (take (cond (is_long (code_at a len)) (len + 1) len) a)
number_whole a value len decimal some b digit e = number_is a value len decimal some b digit e (is_long (code_at a len)) refl

-- characters and strings

character_again : (s : Symbol) (text : List Symbol) (unit len : ℕ) → Begins s.code → is_decimal s.code ≡ false → (s.code == 34) ≡ false → (s.code == 39) ≡ true → char_body (take len text) ≡ Shut unit len → len ≤ length text →
    IsWhole (CharLit unit) (s ∷ take len text)
unfolding character
character_again s text unit len b d q r e l =
    as_character (s ∷ take len text) b d q r ∙
    (ap (character_of (s ∷ take len text)) e ∙ ap (Lexeme (CharLit unit)) (let same : length (take len text) ≡ len = length-take-le len text l in omega (arith, same)))

pub character_whole : (s : Symbol) (text : List Symbol) (unit len : ℕ) → Begins s.code → is_decimal s.code ≡ false → (s.code == 34) ≡ false → (s.code == 39) ≡ true → char_body text ≡ Shut unit len →
    IsWhole (CharLit unit) (take (len + 1) (s ∷ text))
character_whole s text unit len b d q r e =
    let p = char_alone text unit len e in
    subst (λ (n : ℕ). IsWhole (CharLit unit) (take n (s ∷ text))) (sym (add-one len)) (character_again s text unit len b d q r p.0 p.1)

string_again : (s : Symbol) (text : List Symbol) (units : List ℕ) (len : ℕ) → Begins s.code → is_decimal s.code ≡ false → (s.code == 34) ≡ true → string_body (take len text) ≡ Closed units len → len ≤ length text →
    IsWhole (StringLit units) (s ∷ take len text)
unfolding string_step
string_again s text units len b d q e l =
    as_string (s ∷ take len text) b d q ∙
    (ap (string_of (s ∷ take len text)) e ∙ ap (Lexeme (StringLit units)) (let same : length (take len text) ≡ len = length-take-le len text l in omega (arith, same)))

pub string_whole : (s : Symbol) (text : List Symbol) (units : List ℕ) (len : ℕ) → Begins s.code → is_decimal s.code ≡ false → (s.code == 34) ≡ true → string_body text ≡ Closed units len →
    IsWhole (StringLit units) (take (len + 1) (s ∷ text))
string_whole s text units len b d q e =
    let n = length text + 1 in
    let within = (string_alone n len text units len e (omega arith)).within in
    let same : length (take len text) ≡ len = length-take-le len text within in
    let p = string_alone n (length (take len text) + 1) text units len e (omega (arith, same)) in
    subst (λ (n : ℕ). IsWhole (StringLit units) (take n (s ∷ text))) (sym (add-one len)) (string_again s text units len b d q p.body within)
