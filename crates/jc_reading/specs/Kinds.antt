-- A number for each kind of token, so that kinds are compared by numbers.
use Rattle.std.specs.Prelude.{ℕ, ◌==◌, ◌||◌, Bool, false, List, [], ◌∷◌}
use Rattle.jc_lexer.specs.declared.token.Key.{Key}
use Rattle.jc_lexer.specs.declared.token.Key.TheVariants as key_of
use Rattle.jc_lexer.specs.declared.token.Sign.{Sign}
use Rattle.jc_lexer.specs.declared.token.Sign.TheVariants as sign_of
use Rattle.jc_lexer.specs.declared.token.Token.{Token}
use Rattle.jc_lexer.specs.declared.token.TokenKind.{TokenKind}
use Rattle.jc_lexer.specs.declared.token.TokenKind.TheVariants as kind_of

-- keywords have the numbers from 10 to 62, each its own; `true`, `false` and `null` are among them
abbrev pub key_code : Key → ℕ
key_code key_of.Abstract = 10
key_code key_of.Assert = 11
key_code key_of.Boolean = 12
key_code key_of.Break = 13
key_code key_of.Byte = 14
key_code key_of.Case = 15
key_code key_of.Catch = 16
key_code key_of.Char = 17
key_code key_of.Class = 18
key_code key_of.Const = 19
key_code key_of.Continue = 20
key_code key_of.Default = 21
key_code key_of.Do = 22
key_code key_of.Double = 23
key_code key_of.Else = 24
key_code key_of.Enum = 25
key_code key_of.Extends = 26
key_code key_of.Final = 27
key_code key_of.Finally = 28
key_code key_of.Float = 29
key_code key_of.For = 30
key_code key_of.Goto = 31
key_code key_of.If = 32
key_code key_of.Implements = 33
key_code key_of.Import = 34
key_code key_of.Instanceof = 35
key_code key_of.Int = 36
key_code key_of.Interface = 37
key_code key_of.Long = 38
key_code key_of.Native = 39
key_code key_of.New = 40
key_code key_of.Package = 41
key_code key_of.Private = 42
key_code key_of.Protected = 43
key_code key_of.Public = 44
key_code key_of.Return = 45
key_code key_of.Short = 46
key_code key_of.Static = 47
key_code key_of.Strictfp = 48
key_code key_of.Super = 49
key_code key_of.Switch = 50
key_code key_of.Synchronized = 51
key_code key_of.This = 52
key_code key_of.Throw = 53
key_code key_of.Throws = 54
key_code key_of.Transient = 55
key_code key_of.Try = 56
key_code key_of.Void = 57
key_code key_of.Volatile = 58
key_code key_of.While = 59
key_code key_of.True = 60
key_code key_of.False = 61
key_code key_of.Null = 62

-- signs have the numbers from 100 to 142, each its own
abbrev pub sign_code : Sign → ℕ
sign_code sign_of.Ellipsis = 100
sign_code sign_of.ShiftLeftAssign = 101
sign_code sign_of.Equal = 102
sign_code sign_of.LessEqual = 103
sign_code sign_of.NotEqual = 104
sign_code sign_of.AndAnd = 105
sign_code sign_of.OrOr = 106
sign_code sign_of.Increment = 107
sign_code sign_of.Decrement = 108
sign_code sign_of.ShiftLeft = 109
sign_code sign_of.PlusAssign = 110
sign_code sign_of.MinusAssign = 111
sign_code sign_of.StarAssign = 112
sign_code sign_of.SlashAssign = 113
sign_code sign_of.AndAssign = 114
sign_code sign_of.OrAssign = 115
sign_code sign_of.CaretAssign = 116
sign_code sign_of.PercentAssign = 117
sign_code sign_of.Dot = 118
sign_code sign_of.Semicolon = 119
sign_code sign_of.LeftParen = 120
sign_code sign_of.RightParen = 121
sign_code sign_of.Comma = 122
sign_code sign_of.LeftBrace = 123
sign_code sign_of.RightBrace = 124
sign_code sign_of.Assign = 125
sign_code sign_of.LeftBracket = 126
sign_code sign_of.RightBracket = 127
sign_code sign_of.Less = 128
sign_code sign_of.Greater = 129
sign_code sign_of.Plus = 130
sign_code sign_of.Minus = 131
sign_code sign_of.Star = 132
sign_code sign_of.Slash = 133
sign_code sign_of.Not = 134
sign_code sign_of.And = 135
sign_code sign_of.Or = 136
sign_code sign_of.Question = 137
sign_code sign_of.Colon = 138
sign_code sign_of.At = 139
sign_code sign_of.Percent = 140
sign_code sign_of.Caret = 141
sign_code sign_of.Tilde = 142

-- the number of identifiers
abbrev pub word_code : ℕ
word_code = 0

-- identifiers are 0, numbers 1, characters 2 and strings 3, whatever their values; 999, below, is the number of no kind
abbrev pub kind_code : TokenKind → ℕ
kind_code (kind_of.Word text) = 0
kind_code (kind_of.Number value long decimal) = 1
kind_code (kind_of.CharLit unit) = 2
kind_code (kind_of.StringLit units) = 3
kind_code (kind_of.Key k) = key_code k
kind_code (kind_of.Sign s) = sign_code s

-- what stands at the front, or that nothing does
abbrev pub front_code : List Token → ℕ
front_code [] = 999
front_code (t ∷ ts) = kind_code t.kind

-- the number is in the list
abbrev pub is_in : List ℕ → ℕ → Bool
is_in [] n = false
is_in (c ∷ codes) n = (c == n) || is_in codes n

-- a token of one of these kinds stands at the front
abbrev pub one_of : List ℕ → List Token → Bool
one_of codes ts = is_in codes (front_code ts)
