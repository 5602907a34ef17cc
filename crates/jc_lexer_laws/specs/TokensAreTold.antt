-- What the tokens of a source say of it (JLS 3.2).
use Rattle.std.specs.Prelude.{◌≡◌, ℕ, ◌<◌, ◌≤◌, List, [], ◌∷◌, length, map, take, drop, Ok}
use Rattle.std.specs.Str.{encode_utf8_all}
use Rattle.jc_lexer.specs.declared.lexeme.Step.TheVariants.{Lexeme}
use Rattle.jc_lexer.specs.declared.symbol.Symbol.{Symbol}
use Rattle.jc_lexer.specs.declared.token.Token.{Token}
use Rattle.jc_lexer.specs.declared.token.TokenKind.{TokenKind}
use Rattle.jc_lexer.specs.declared.token.TokenKind.TheVariants as kind_of
use Rattle.jc_lexer.specs.Decoding.{text_of}
use Rattle.jc_lexer.specs.Lexemes.{first, begins_lexeme}
use Rattle.jc_lexer.specs.Lexing.{lexed}
use Rattle.jc_lexer.specs.Symbols.{from_at}
use Rattle.jc_lexer.specs.Words.{spelling}

-- the characters of a text, its Unicode escapes translated (JLS 3.3), in UTF-8
abbrev pub letters : List Symbol → List ℕ
letters text = encode_utf8_all (map (λ (s : Symbol). s.code) text)

-- JLS 3.10: read alone, the symbols are the literal, which ends with the last of them
abbrev pub IsWhole : TokenKind → List Symbol → Type 0
IsWhole kind symbols = first symbols ≡ Lexeme kind (length symbols)

-- an identifier (JLS 3.8) and a keyword (JLS 3.9) are spelled as their symbols are, and a literal is what its symbols alone are
abbrev pub IsSpelled : TokenKind → List Symbol → Type 0
IsSpelled (kind_of.Word text) symbols = text ≡ letters symbols
IsSpelled (kind_of.Key key) symbols = spelling key ≡ letters symbols
IsSpelled (kind_of.Number value long decimal) symbols = IsWhole (kind_of.Number value long decimal) symbols
IsSpelled (kind_of.CharLit unit) symbols = IsWhole (kind_of.CharLit unit) symbols
IsSpelled (kind_of.StringLit units) symbols = IsWhole (kind_of.StringLit units) symbols
IsSpelled (kind_of.Sign sign) symbols = Unit {0}

-- a text begins with the token, which is so many of its symbols
abbrev pub BeginsWith : List Symbol → Token → ℕ → Type 0
BeginsWith text t len =
    (0 < len) × (first text ≡ Lexeme t.kind len) × IsSpelled t.kind (take len text)
    × (t.from ≡ from_at text 0) × (t.to ≡ from_at (drop len text) 0) × (t.touches ≡ begins_lexeme (drop len text))

-- the tokens stand in a text one behind the other: before each stand so many symbols, and then those that are its own
abbrev pub StandInOrder : List Token → List Symbol → Type 0
StandInOrder [] text = Unit {0}
StandInOrder (t ∷ tokens) text = (gap : ℕ) × (len : ℕ) × BeginsWith (drop gap text) t len × StandInOrder tokens (drop len (drop gap text))

-- a token ends behind its first byte and not behind the first one of the next token
abbrev pub EndsBefore : Token → List Token → Type 0
EndsBefore t [] = Unit {0}
EndsBefore t (next ∷ tokens) = (t.from < t.to) × (t.to ≤ next.from)

-- each token ends where the next one begins or before it; of the last one nothing is told
abbrev pub AreInOrder : List Token → Type 0
AreInOrder [] = Unit {0}
AreInOrder (t ∷ tokens) = EndsBefore t tokens × AreInOrder tokens

-- what holds of every source that the lexer takes: its tokens don't overlap, and stand in its text as it says
pub record TokensAreTold : Type 0 where
  pub in_order : (bytes : List ℕ) (tokens : List Token) → lexed bytes ≡ Ok tokens → AreInOrder tokens
  pub in_text : (bytes : List ℕ) (tokens : List Token) → lexed bytes ≡ Ok tokens → StandInOrder tokens (text_of bytes)
