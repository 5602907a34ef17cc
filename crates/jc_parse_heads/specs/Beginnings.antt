-- What begins with a token.
use Rattle.std.specs.Prelude.{ℕ, Bool, true, false, List, ◌∷◌}
use Rattle.jc_lexer.specs.declared.token.Key.TheVariants as key_of
use Rattle.jc_lexer.specs.declared.token.Sign.TheVariants as sign_of
use Rattle.jc_lexer.specs.declared.token.TokenKind.{TokenKind}
use Rattle.jc_lexer.specs.declared.token.TokenKind.TheVariants as kind_of
use Rattle.jc_reading.specs.Kinds.{key_code, sign_code}
use Rattle.jc_part_laws.specs.PartReading.{modifier_word_codes}

-- the codes of the tokens that a modifier begins with: `@`, or a word (JLS 8.1.1, 8.3.1, 8.4.3)
abbrev pub modifier_codes : List ℕ
modifier_codes = sign_code sign_of.At ∷ modifier_word_codes

-- and those that a declaration of a type begins with, its modifiers among them
abbrev pub declaration_codes : List ℕ
declaration_codes = key_code key_of.Class ∷ key_code key_of.Interface ∷ modifier_codes

-- a name
abbrev pub begins_word : TokenKind → Bool
begins_word (kind_of.Word text) = true
begins_word _ = false

-- a brace, a semicolon or a keyword that a statement begins with, `if` aside
abbrev pub begins_statement : TokenKind → Bool
begins_statement (kind_of.Sign sign_of.LeftBrace) = true
begins_statement (kind_of.Sign sign_of.Semicolon) = true
begins_statement (kind_of.Key key_of.While) = true
begins_statement (kind_of.Key key_of.Do) = true
begins_statement (kind_of.Key key_of.For) = true
begins_statement (kind_of.Key key_of.Switch) = true
begins_statement (kind_of.Key key_of.Return) = true
begins_statement (kind_of.Key key_of.Break) = true
begins_statement (kind_of.Key key_of.Continue) = true
begins_statement (kind_of.Key key_of.Throw) = true
begins_statement (kind_of.Key key_of.Try) = true
begins_statement _ = false

-- a modifier
abbrev pub begins_modifier : TokenKind → Bool
begins_modifier (kind_of.Sign sign_of.At) = true
begins_modifier (kind_of.Key key_of.Public) = true
begins_modifier (kind_of.Key key_of.Protected) = true
begins_modifier (kind_of.Key key_of.Private) = true
begins_modifier (kind_of.Key key_of.Static) = true
begins_modifier (kind_of.Key key_of.Abstract) = true
begins_modifier (kind_of.Key key_of.Final) = true
begins_modifier (kind_of.Key key_of.Native) = true
begins_modifier (kind_of.Key key_of.Volatile) = true
begins_modifier (kind_of.Key key_of.Transient) = true
begins_modifier _ = false

-- what the head of a declaration begins with behind its modifiers
abbrev pub begins_rest : TokenKind → Bool
begins_rest (kind_of.Key key_of.Class) = true
begins_rest (kind_of.Key key_of.Interface) = true
begins_rest (kind_of.Sign sign_of.At) = true
begins_rest _ = false

-- a modifier or the head of a declaration
abbrev pub begins_declaration : TokenKind → Bool
begins_declaration (kind_of.Key key_of.Class) = true
begins_declaration (kind_of.Key key_of.Interface) = true
begins_declaration (kind_of.Sign sign_of.At) = true
begins_declaration (kind_of.Key key_of.Public) = true
begins_declaration (kind_of.Key key_of.Protected) = true
begins_declaration (kind_of.Key key_of.Private) = true
begins_declaration (kind_of.Key key_of.Static) = true
begins_declaration (kind_of.Key key_of.Abstract) = true
begins_declaration (kind_of.Key key_of.Final) = true
begins_declaration (kind_of.Key key_of.Native) = true
begins_declaration (kind_of.Key key_of.Volatile) = true
begins_declaration (kind_of.Key key_of.Transient) = true
begins_declaration _ = false
