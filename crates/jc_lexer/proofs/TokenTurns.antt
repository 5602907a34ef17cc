-- The loop over a text's lexemes, turn by turn.
use Rattle.std.proofs.Common.{◌≡◌, ℕ, zero, suc, ◌<◌, ◌≤◌, Bool, true, false, List, [], ◌∷◌, ◌++◌, Ok, Err, length, drop, refl, sym, ap, ◌∙◌, arith, length-drop, append_assoc}
use Rattle.std.specs.Prelude.{Result, ◌==◌}
use Rattle.std.proofs.lemmas.Bool.Decides.{nat_tests}
use Rattle.std.proofs.lemmas.List.{append-nil}
use Rattle.jc_lexer.specs.declared.fault.LexFault.{LexFault}
use Rattle.jc_lexer.specs.declared.lexeme.Step.{Step}
use Rattle.jc_lexer.specs.declared.lexeme.Step.TheVariants.{Gap, Lexeme, End, Fault}
use Rattle.jc_lexer.specs.declared.symbol.Symbol.{Symbol}
use Rattle.jc_lexer.specs.declared.token.Token.{Token}
use Rattle.jc_lexer.specs.declared.token.TokenKind.{TokenKind}
use Rattle.jc_lexer.specs.Lexemes.{first, begins_lexeme}
use Rattle.jc_lexer.specs.Symbols.{from_at}
use Rattle.jc_lexer.specs.Lexing.{token, with_token, lexed_after, lexed_from, lexed_text}

-- tokens before those of a text
abbrev pub with_tokens : List Token → Result (List Token) LexFault → Result (List Token) LexFault
with_tokens tokens (Ok list) = Ok (tokens ++ list)
with_tokens tokens (Err fault) = Err fault

with_none : (r : Result (List Token) LexFault) → with_tokens [] r ≡ r
with_none (Ok list) = refl
with_none (Err fault) = refl

with_more : (tokens : List Token) (t : Token) (r : Result (List Token) LexFault) → with_tokens tokens (with_token t r) ≡ with_tokens (tokens ++ (t ∷ [])) r
with_more tokens t (Ok list) = ap (λ l. Ok l) (sym (append_assoc tokens (t ∷ []) list))
with_more tokens t (Err fault) = refl

-- the text's tokens are those so far, and then those of the rest
pub record IsLexedTo (text : List Symbol) (tokens : List Token) (rest : List Symbol) : Type 0 where
  pub bound : ℕ
  pub enough : length rest ≤ bound
  pub same : lexed_text text ≡ with_tokens tokens (lexed_from bound rest)

pub begins_lexed : (text : List Symbol) → IsLexedTo text [] text
unfolding lexed_text
begins_lexed text = record { bound = length text; enough = omega arith; same = sym (with_none (lexed_from (length text) text)) }

turn : (n : ℕ) (rest : List Symbol) (s : Step) → length rest ≤ n → 0 < length rest → s ≡ first rest →
    (k : ℕ) × (n ≡ suc k) × (lexed_from n rest ≡ lexed_after (λ len. lexed_from k (drop len rest)) rest s)
unfolding lexed_from
turn zero rest s h z e = absurd (omega arith)
turn (suc k) [] s h z e = absurd (omega arith)
turn (suc k) (c ∷ rest) s h z e = (k, refl, ap (lexed_after (λ len. lexed_from k (drop len (c ∷ rest))) (c ∷ rest)) (sym e))

module _ (text : List Symbol) (tokens : List Token) (rest : List Symbol) (h : IsLexedTo text tokens rest) (z : 0 < length rest) where
  pub gap_on : (len : ℕ) (behind : List Symbol) → Gap len ≡ first rest → 0 < len → behind ≡ drop len rest → IsLexedTo text tokens behind
  gap_on len behind e some cut =
      let t = turn h.bound rest (Gap len) h.enough z e in
      record {
        bound = t.0;
        enough = omega (arith, t.1, h.enough, ap length cut, length-drop len rest);
        same = h.same ∙ ap (with_tokens tokens) (t.2 ∙ ap (lexed_from t.0) (sym cut));
      }

  pub lexeme_on : (kind : TokenKind) (len : ℕ) (behind : List Symbol) (more : List Token) → Lexeme kind len ≡ first rest → 0 < len → behind ≡ drop len rest →
      more ≡ tokens ++ (token kind rest behind ∷ []) → IsLexedTo text more behind
  lexeme_on kind len behind more e some cut grown =
      let t = turn h.bound rest (Lexeme kind len) h.enough z e in
      let moved : with_token (token kind rest (drop len rest)) (lexed_from t.0 (drop len rest)) ≡ with_token (token kind rest behind) (lexed_from t.0 behind) =
      ap (λ (l : List Symbol). with_token (token kind rest l) (lexed_from t.0 l)) (sym cut) in
      record {
        bound = t.0;
        enough = omega (arith, t.1, h.enough, ap length cut, length-drop len rest);
        same = h.same ∙ ap (with_tokens tokens) (t.2 ∙ moved) ∙ with_more tokens (token kind rest behind) (lexed_from t.0 behind)
            ∙ ap (λ (l : List Token). with_tokens l (lexed_from t.0 behind)) (sym grown);
      }

  pub lexed_end : End ≡ first rest → lexed_text text ≡ Ok tokens
  lexed_end e =
      let t = turn h.bound rest End h.enough z e in
      h.same ∙ ap (with_tokens tokens) t.2 ∙ ap (λ l. Ok l) (append-nil tokens)

  pub lexed_fault : (fault : LexFault) → Fault fault ≡ first rest → lexed_text text ≡ Err fault
  lexed_fault fault e =
      let t = turn h.bound rest (Fault fault) h.enough z e in
      h.same ∙ ap (with_tokens tokens) t.2

none_left : (n : ℕ) (rest : List Symbol) → length rest ≡ 0 → lexed_from n rest ≡ Ok []
unfolding lexed_from
none_left zero rest h = refl
none_left (suc n) [] h = refl
none_left (suc n) (s ∷ rest) h = absurd (omega arith)

pub lexed_out : (text : List Symbol) (tokens : List Token) (rest : List Symbol) → IsLexedTo text tokens rest → length rest ≡ 0 → lexed_text text ≡ Ok tokens
lexed_out text tokens rest h e =
    h.same ∙ ap (with_tokens tokens) (none_left h.bound rest e) ∙ ap (λ l. Ok l) (append-nil tokens)

pub token_is : (kind : TokenKind) (text next : List Symbol) (from to : ℕ) (touches : Bool) → from ≡ from_at text 0 → to ≡ from_at next 0 → touches ≡ begins_lexeme next →
    ◌≡◌ {A = Token} (record { kind = kind; from = from; to = to; touches = touches }) (token kind text next)
token_is kind text next from to touches e f g =
    ap (λ (x : ℕ). let t : Token = record { kind = kind; from = x; to = to; touches = touches } in t) e
    ∙ ap (λ (x : ℕ). let t : Token = record { kind = kind; from = from_at text 0; to = x; touches = touches } in t) f
    ∙ ap (λ (x : Bool). let t : Token = record { kind = kind; from = from_at text 0; to = from_at next 0; touches = x } in t) g

pub some_left : (text : List Symbol) (empty : Bool) → empty ≡ (length text == 0) → empty ≡ false → 0 < length text
some_left [] empty e f = let h : true ≡ false = sym e ∙ f in cc
some_left (s ∷ text) empty e f = omega arith

pub none_left_of : (text : List Symbol) (empty : Bool) → empty ≡ (length text == 0) → empty ≡ true → length text ≡ 0
none_left_of text empty e f = let h : (length text == 0) ≡ true = sym e ∙ f in grind (arith, nat_tests)
