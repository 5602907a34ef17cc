-- The fixed lexemes of the small language, as tokens (JLS 3.9, 3.11, 3.12).
use Rattle.std.specs.Prelude.{ℕ, Bool, true, false, List, codes}
use Rattle.std.specs.Str.{bytes_eq}
use Rattle.jc_lexer.specs.declared.token.Key.{Key}
use Rattle.jc_lexer.specs.declared.token.Key.TheVariants as key_of
use Rattle.jc_lexer.specs.declared.token.Sign.{Sign}
use Rattle.jc_lexer.specs.declared.token.Sign.TheVariants as sign_of
use Rattle.jc_lexer.specs.declared.token.TokenKind.{TokenKind}
use Rattle.jc_lexer.specs.declared.token.TokenKind.TheVariants as kind_of
use Rattle.jc_small.specs.declared.fixed.Fixed.{Fixed}
use Rattle.jc_small.specs.declared.fixed.Fixed.TheVariants as fixed_of

-- the token that a lexeme is
abbrev pub kind_of_fixed : Fixed → TokenKind
kind_of_fixed fixed_of.Class = kind_of.Key key_of.Class
kind_of_fixed fixed_of.Public = kind_of.Key key_of.Public
kind_of_fixed fixed_of.Static = kind_of.Key key_of.Static
kind_of_fixed fixed_of.Void = kind_of.Key key_of.Void
kind_of_fixed fixed_of.MainClass = kind_of.Word (codes "Main")
kind_of_fixed fixed_of.MainMethod = kind_of.Word (codes "main")
kind_of_fixed fixed_of.StringClass = kind_of.Word (codes "String")
kind_of_fixed fixed_of.Args = kind_of.Word (codes "args")
kind_of_fixed fixed_of.System = kind_of.Word (codes "System")
kind_of_fixed fixed_of.Out = kind_of.Word (codes "out")
kind_of_fixed fixed_of.Write = kind_of.Word (codes "write")
kind_of_fixed fixed_of.Dot = kind_of.Sign sign_of.Dot
kind_of_fixed fixed_of.Plus = kind_of.Sign sign_of.Plus
kind_of_fixed fixed_of.Semicolon = kind_of.Sign sign_of.Semicolon
kind_of_fixed fixed_of.LeftParen = kind_of.Sign sign_of.LeftParen
kind_of_fixed fixed_of.RightParen = kind_of.Sign sign_of.RightParen
kind_of_fixed fixed_of.LeftBracket = kind_of.Sign sign_of.LeftBracket
kind_of_fixed fixed_of.RightBracket = kind_of.Sign sign_of.RightBracket
kind_of_fixed fixed_of.LeftBrace = kind_of.Sign sign_of.LeftBrace
kind_of_fixed fixed_of.RightBrace = kind_of.Sign sign_of.RightBrace

-- a keyword is this lexeme
abbrev pub is_key : Fixed → Key → Bool
is_key fixed_of.Class key_of.Class = true
is_key fixed_of.Public key_of.Public = true
is_key fixed_of.Static key_of.Static = true
is_key fixed_of.Void key_of.Void = true
is_key _ _ = false

-- the same of a sign, and of a name
abbrev pub is_sign : Fixed → Sign → Bool
is_sign fixed_of.Dot sign_of.Dot = true
is_sign fixed_of.Plus sign_of.Plus = true
is_sign fixed_of.Semicolon sign_of.Semicolon = true
is_sign fixed_of.LeftParen sign_of.LeftParen = true
is_sign fixed_of.RightParen sign_of.RightParen = true
is_sign fixed_of.LeftBracket sign_of.LeftBracket = true
is_sign fixed_of.RightBracket sign_of.RightBracket = true
is_sign fixed_of.LeftBrace sign_of.LeftBrace = true
is_sign fixed_of.RightBrace sign_of.RightBrace = true
is_sign _ _ = false

abbrev pub is_word : Fixed → List ℕ → Bool
is_word fixed_of.MainClass text = bytes_eq text (codes "Main")
is_word fixed_of.MainMethod text = bytes_eq text (codes "main")
is_word fixed_of.StringClass text = bytes_eq text (codes "String")
is_word fixed_of.Args text = bytes_eq text (codes "args")
is_word fixed_of.System text = bytes_eq text (codes "System")
is_word fixed_of.Out text = bytes_eq text (codes "out")
is_word fixed_of.Write text = bytes_eq text (codes "write")
is_word _ text = false

-- a token is this lexeme
abbrev pub is : Fixed → TokenKind → Bool
is fixed (kind_of.Key key) = is_key fixed key
is fixed (kind_of.Sign sign) = is_sign fixed sign
is fixed (kind_of.Word text) = is_word fixed text
is fixed _ = false
