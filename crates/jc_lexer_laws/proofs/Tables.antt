-- The lexer's two tables, as they compute: its keywords, and its signs with their spellings.
use Rattle.std.specs.Prelude.{ℕ, List, [], ◌∷◌}
use Rattle.jc_lexer.specs.declared.signs.Spelling.{Spelling}
use Rattle.jc_lexer.specs.declared.token.Key.{Key}
use Rattle.jc_lexer.specs.declared.token.Key.TheVariants as key_of
use Rattle.jc_lexer.specs.declared.token.Sign.{Sign}
use Rattle.jc_lexer.specs.declared.token.Sign.TheVariants as sign_of

abbrev pub keys : List Key
keys =
    key_of.Abstract ∷ key_of.Assert ∷ key_of.Boolean ∷ key_of.Break ∷ key_of.Byte ∷ key_of.Case ∷ key_of.Catch ∷ key_of.Char ∷
    key_of.Class ∷ key_of.Const ∷ key_of.Continue ∷ key_of.Default ∷ key_of.Do ∷ key_of.Double ∷ key_of.Else ∷ key_of.Enum ∷
    key_of.Extends ∷ key_of.Final ∷ key_of.Finally ∷ key_of.Float ∷ key_of.For ∷ key_of.Goto ∷ key_of.If ∷ key_of.Implements ∷
    key_of.Import ∷ key_of.Instanceof ∷ key_of.Int ∷ key_of.Interface ∷ key_of.Long ∷ key_of.Native ∷ key_of.New ∷ key_of.Package ∷
    key_of.Private ∷ key_of.Protected ∷ key_of.Public ∷ key_of.Return ∷ key_of.Short ∷ key_of.Static ∷ key_of.Strictfp ∷ key_of.Super ∷
    key_of.Switch ∷ key_of.Synchronized ∷ key_of.This ∷ key_of.Throw ∷ key_of.Throws ∷ key_of.Transient ∷ key_of.Try ∷ key_of.Void ∷
    key_of.Volatile ∷ key_of.While ∷ key_of.True ∷ key_of.False ∷ key_of.Null ∷ []

abbrev spelled : Sign → ℕ → ℕ → ℕ → ℕ → Spelling
spelled sign len first second third = record { sign = sign; len = len; first = first; second = second; third = third }

abbrev pub signs : List Spelling
signs =
    spelled sign_of.Ellipsis 3 46 46 46 ∷ spelled sign_of.Dot 1 46 0 0 ∷ spelled sign_of.ShiftLeftAssign 3 60 60 61 ∷
    spelled sign_of.LessEqual 2 60 61 0 ∷ spelled sign_of.ShiftLeft 2 60 60 0 ∷ spelled sign_of.Less 1 60 0 0 ∷
    spelled sign_of.Equal 2 61 61 0 ∷ spelled sign_of.Assign 1 61 0 0 ∷ spelled sign_of.NotEqual 2 33 61 0 ∷
    spelled sign_of.Not 1 33 0 0 ∷ spelled sign_of.AndAnd 2 38 38 0 ∷ spelled sign_of.AndAssign 2 38 61 0 ∷
    spelled sign_of.And 1 38 0 0 ∷ spelled sign_of.OrOr 2 124 124 0 ∷ spelled sign_of.OrAssign 2 124 61 0 ∷
    spelled sign_of.Or 1 124 0 0 ∷ spelled sign_of.Increment 2 43 43 0 ∷ spelled sign_of.PlusAssign 2 43 61 0 ∷
    spelled sign_of.Plus 1 43 0 0 ∷ spelled sign_of.Decrement 2 45 45 0 ∷ spelled sign_of.MinusAssign 2 45 61 0 ∷
    spelled sign_of.Minus 1 45 0 0 ∷ spelled sign_of.StarAssign 2 42 61 0 ∷ spelled sign_of.Star 1 42 0 0 ∷
    spelled sign_of.SlashAssign 2 47 61 0 ∷ spelled sign_of.Slash 1 47 0 0 ∷ spelled sign_of.CaretAssign 2 94 61 0 ∷
    spelled sign_of.Caret 1 94 0 0 ∷ spelled sign_of.PercentAssign 2 37 61 0 ∷ spelled sign_of.Percent 1 37 0 0 ∷
    spelled sign_of.Semicolon 1 59 0 0 ∷ spelled sign_of.LeftParen 1 40 0 0 ∷ spelled sign_of.RightParen 1 41 0 0 ∷
    spelled sign_of.Comma 1 44 0 0 ∷ spelled sign_of.LeftBrace 1 123 0 0 ∷ spelled sign_of.RightBrace 1 125 0 0 ∷
    spelled sign_of.LeftBracket 1 91 0 0 ∷ spelled sign_of.RightBracket 1 93 0 0 ∷ spelled sign_of.Greater 1 62 0 0 ∷
    spelled sign_of.Question 1 63 0 0 ∷ spelled sign_of.Colon 1 58 0 0 ∷ spelled sign_of.At 1 64 0 0 ∷
    spelled sign_of.Tilde 1 126 0 0 ∷ []
