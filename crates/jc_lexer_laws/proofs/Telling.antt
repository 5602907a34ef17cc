-- The tokens of a text, one behind the other.
use Rattle.std.proofs.Common.{◌≡◌, ℕ, zero, suc, ◌+◌, ◌<◌, ◌≤◌, false, List, [], ◌∷◌, length, drop, drop-drop, Ok, Err, refl, sym, ap, ◌∙◌, subst, arith}
use Rattle.std.specs.Prelude.{Result}
use Rattle.jc_lexer.specs.declared.fault.LexFault.{LexFault}
use Rattle.jc_lexer.specs.declared.lexeme.Step.{Step}
use Rattle.jc_lexer.specs.declared.lexeme.Step.TheVariants.{Gap, Lexeme, End, Fault}
use Rattle.jc_lexer.specs.declared.symbol.Symbol.{Symbol}
use Rattle.jc_lexer.specs.declared.token.Token.{Token}
use Rattle.jc_lexer.specs.declared.token.TokenKind.{TokenKind}
use Rattle.jc_lexer.specs.Decoding.{text_of}
use Rattle.jc_lexer.specs.Lexemes.{first}
use Rattle.jc_lexer.specs.Lexing.{token, with_token, lexed_after, lexed_from, lexed_text, lexed}
use Rattle.jc_lexer.specs.Symbols.{from_at}
use Rattle.jc_lexer_laws.specs.TokensAreTold.{AreInOrder, BeginsWith, EndsBefore, StandInOrder, TokensAreTold}
use Rattle.jc_lexer_laws.proofs.Decoded.{Rising, from_rises, from_rises_far, rising_behind, text_rises}
use Rattle.jc_lexer_laws.proofs.Steps.{IsOf, first_is}

-- the first token doesn't stand before an offset
abbrev BeginBehind : ℕ → List Token → Type 0
BeginBehind at [] = Unit {0}
BeginBehind at (t ∷ tokens) = at ≤ t.from

record AreTold (text : List Symbol) (tokens : List Token) : Type 0 where
  stand : StandInOrder tokens text
  order : AreInOrder tokens
  begin : BeginBehind (from_at text 0) tokens

-- nothing is told by an empty text
none_told : (n : ℕ) (tokens : List Token) → lexed_from n [] ≡ Ok tokens → tokens ≡ []
unfolding lexed_from
none_told zero tokens e = cc
none_told (suc n) tokens e = cc

told_none : (text : List Symbol) (tokens : List Token) → ◌≡◌ {A = Result (List Token) LexFault} (Ok []) (Ok tokens) → AreTold text tokens
told_none text tokens e =
    let same : [] ≡ tokens = cc in
    subst (λ (l : List Token). AreTold text l) same (record { stand = tt; order = tt; begin = tt })

further : (n : ℕ) (text : List Symbol) (tokens : List Token) → StandInOrder tokens (drop n text) → StandInOrder tokens text
further n text [] w = tt
further n text (t ∷ tokens) w =
    let p = subst (λ (v : List Symbol). BeginsWith v t w.1 × StandInOrder tokens (drop w.1 v)) (drop-drop w.0 n text) (w.2, w.3) in
    (n + w.0, w.1, p.0, p.1)

module _ (n : ℕ) (text : List Symbol) (r : Rising text) (ih : (text : List Symbol) (tokens : List Token) → Rising text → lexed_from n text ≡ Ok tokens → AreTold text tokens) where
  begin_later : (len : ℕ) (tokens : List Token) → lexed_from n (drop len text) ≡ Ok tokens → BeginBehind (from_at (drop len text) 0) tokens → BeginBehind (from_at text 0) tokens
  begin_later len [] e b = tt
  begin_later len (t ∷ tokens) e b = by_rest (drop len text) refl
    where
      by_rest : (rest : List Symbol) → drop len text ≡ rest → from_at text 0 ≤ t.from
      by_rest [] q = absurd (let z : (t ∷ tokens) ≡ [] = none_told n (t ∷ tokens) (sym (ap (lexed_from n) q) ∙ e) in cc)
      by_rest (s ∷ rest) q = omega (arith, from_rises len text r (omega (arith, ap length q)), b)

  gap_told : (len : ℕ) (tokens : List Token) → lexed_from n (drop len text) ≡ Ok tokens → AreTold text tokens
  gap_told len tokens e =
      let w = ih (drop len text) tokens (rising_behind len text r) e in
      record { stand = further len text tokens w.stand; order = w.order; begin = begin_later len tokens e w.begin }

  ends_before : (kind : TokenKind) (len : ℕ) (tokens : List Token) → 0 < len → lexed_from n (drop len text) ≡ Ok tokens → BeginBehind (from_at (drop len text) 0) tokens →
      EndsBefore (token kind text (drop len text)) tokens
  ends_before kind len [] z e b = tt
  ends_before kind len (t ∷ tokens) z e b = by_rest (drop len text) refl
    where
      by_rest : (rest : List Symbol) → drop len text ≡ rest → (from_at text 0 < from_at (drop len text) 0) × (from_at (drop len text) 0 ≤ t.from)
      by_rest [] q = absurd (let w : (t ∷ tokens) ≡ [] = none_told n (t ∷ tokens) (sym (ap (lexed_from n) q) ∙ e) in cc)
      by_rest (s ∷ rest) q = (from_rises_far len text r z (omega (arith, ap length q)), b)

  lexeme_told : (kind : TokenKind) (len : ℕ) (more tokens : List Token) → first text ≡ Lexeme kind len → IsOf text (Lexeme kind len) → lexed_from n (drop len text) ≡ Ok more →
      (token kind text (drop len text) ∷ more) ≡ tokens → AreTold text tokens
  lexeme_told kind len more tokens f p e same =
      let w = ih (drop len text) more (rising_behind len text r) e in
      let t : Token = token kind text (drop len text) in
      subst (λ (l : List Token). AreTold text l) same (record {
        stand = (0, len, (p.0, f, p.1, refl, refl, refl), w.stand);
        order = (ends_before kind len more p.0 e w.begin, w.order);
        begin = omega arith;
      })

  step_told : (step : Step) (tokens : List Token) → first text ≡ step → IsOf text step → lexed_after (λ len. lexed_from n (drop len text)) text step ≡ Ok tokens → AreTold text tokens
  step_told (Gap len) tokens f p e = gap_told len tokens e
  step_told (Lexeme kind len) tokens f p e = by_rest (lexed_from n (drop len text)) refl e
    where
      by_rest : (rest : Result (List Token) LexFault) → lexed_from n (drop len text) ≡ rest → with_token (token kind text (drop len text)) rest ≡ Ok tokens → AreTold text tokens
      by_rest (Ok more) q e = lexeme_told kind len more tokens f p q (let same : (token kind text (drop len text) ∷ more) ≡ tokens = cc in same)
      by_rest (Err fault) q e = absurd (let no : Err fault ≡ Ok tokens = e in cc)
  step_told End tokens f p e = told_none text tokens e
  step_told (Fault fault) tokens f p e = absurd (let no : Err fault ≡ Ok tokens = e in cc)

told : (n : ℕ) (text : List Symbol) (tokens : List Token) → Rising text → lexed_from n text ≡ Ok tokens → AreTold text tokens
unfolding lexed_from
told zero text tokens r e = told_none text tokens e
told (suc n) [] tokens r e = told_none [] tokens e
told (suc n) (s ∷ text) tokens r e = step_told n (s ∷ text) r (told n) (first (s ∷ text)) tokens refl (first_is s text).is e

whole_told : (bytes : List ℕ) (tokens : List Token) → lexed bytes ≡ Ok tokens → AreTold (text_of bytes) tokens
unfolding lexed_text
whole_told bytes tokens e = told (length (text_of bytes)) (text_of bytes) tokens (text_rises (length bytes) 0 false bytes).1 e

pub tokens_are_told : TokensAreTold
tokens_are_told = record {
  in_order = λ bytes tokens e. (whole_told bytes tokens e).order;
  in_text = λ bytes tokens e. (whole_told bytes tokens e).stand;
}
