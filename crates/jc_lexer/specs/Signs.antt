-- Separators and operators (JLS 3.11, 3.12).
use Rattle.std.specs.Prelude.{◌≡◌, ◌≤◌, Bool, true, ◌&&◌, ◌||◌, ◌==◌, nat_lt, List, [], ◌∷◌, Option, Some, None, if◌then◌else◌}
use Rattle.jc_lexer.specs.declared.signs.Spelling.{Spelling}
use Rattle.jc_lexer.specs.declared.signs.TheConstants.{SIGNS}
use Rattle.jc_lexer.specs.declared.symbol.Symbol.{Symbol}
use Rattle.jc_lexer.specs.Symbols.{code_at}

-- a text begins with a sign
abbrev pub begins : Spelling → List Symbol → Bool
begins s text =
    (code_at text 0 == s.first) && (nat_lt s.len 2 || (code_at text 1 == s.second)) && (nat_lt s.len 3 || (code_at text 2 == s.third))

-- the first sign of a list that a text begins with; of the table it is the longest one
abbrev pub sign_in : List Spelling → List Symbol → Option Spelling
sign_in [] text = None
sign_in (s ∷ signs) text = if begins s text then Some s else sign_in signs text

-- each sign of a list that a text begins with has the property
abbrev pub EachBegins : List Spelling → List Symbol → (Spelling → Type 0) → Type 0
EachBegins [] text P = Unit {0}
EachBegins (s ∷ signs) text P = (begins s text ≡ true → P s) × EachBegins signs text P

-- the sign is one that the text begins with, and the longest of those; or it begins with none
abbrev pub IsLongest : List Symbol → Option Spelling → Type 0
IsLongest text None = EachBegins SIGNS text (λ s. ⊥)
IsLongest text (Some found) = (begins found text ≡ true) × EachBegins SIGNS text (λ s. s.len ≤ found.len)

-- the sign of the table that a text begins with; None where it begins with none
unfoldable pub sign_at : List Symbol → Option Spelling
sign_at text = sign_in SIGNS text
