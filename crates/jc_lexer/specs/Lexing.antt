-- The tokens of a source (JLS 3.2), or its fault.
use Rattle.std.specs.Prelude.{◌≡◌, ℕ, zero, suc, List, [], ◌∷◌, length, drop, Result, Ok, Err}
use Rattle.jc_rules.specs.declared.stop.Stop.{Stop}
use Rattle.jc_rules.specs.declared.stop.Stop.TheVariants.{Refused, WantOfMemory}
use Rattle.jc_lexer.specs.declared.fault.LexFault.{LexFault}
use Rattle.jc_lexer.specs.declared.lexeme.Step.{Step}
use Rattle.jc_lexer.specs.declared.lexeme.Step.TheVariants.{Gap, Lexeme, End, Fault}
use Rattle.jc_lexer.specs.declared.symbol.Symbol.{Symbol}
use Rattle.jc_lexer.specs.declared.token.Token.{Token}
use Rattle.jc_lexer.specs.declared.token.TokenKind.{TokenKind}
use Rattle.jc_lexer.specs.Decoding.{text_of}
use Rattle.jc_lexer.specs.Lexemes.{first, begins_lexeme}
use Rattle.jc_lexer.specs.Symbols.{from_at}

-- a token that stands at the start of a text, with what stands behind it
abbrev pub token : TokenKind → List Symbol → List Symbol → Token
token kind text next = record { kind = kind; from = from_at text 0; to = from_at next 0; touches = begins_lexeme next }

-- a token before those behind it, or the fault that stands behind it
abbrev pub with_token : Token → Result (List Token) LexFault → Result (List Token) LexFault
with_token t (Ok list) = Ok (t ∷ list)
with_token t (Err fault) = Err fault

-- the tokens of a text by what it begins with and the tokens behind that; white space and comments are none
abbrev pub lexed_after : (ℕ → Result (List Token) LexFault) → List Symbol → Step → Result (List Token) LexFault
lexed_after more text (Gap len) = more len
lexed_after more text (Lexeme kind len) = with_token (token kind text (drop len text)) (more len)
lexed_after more text End = Ok []
lexed_after more text (Fault fault) = Err fault

-- JLS 3.2: white space, comments and lexemes one behind the other, each as long as it can be; the first argument bounds their number
unfoldable pub lexed_from : ℕ → List Symbol → Result (List Token) LexFault
lexed_from zero text = Ok []
lexed_from (suc n) [] = Ok []
lexed_from (suc n) (s ∷ text) = lexed_after (λ len. lexed_from n (drop len (s ∷ text))) (s ∷ text) (first (s ∷ text))

-- the tokens of a text, or its fault
unfoldable pub lexed_text : List Symbol → Result (List Token) LexFault
lexed_text text = lexed_from (length text) text

-- the tokens of a source, or its fault
abbrev pub lexed : List ℕ → Result (List Token) LexFault
lexed bytes = lexed_text (text_of bytes)

-- a call that is stopped by a fault is stopped by that of the text
abbrev pub IsTextFault : List Symbol → Stop LexFault → Type 0
IsTextFault text (Refused fault) = lexed_text text ≡ Err fault
IsTextFault text WantOfMemory = Unit {0}

-- the same of a source
abbrev pub IsSourceFault : List ℕ → Stop LexFault → Type 0
IsSourceFault bytes stop = IsTextFault (text_of bytes) stop
