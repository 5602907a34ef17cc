-- A kind is told by its number.
use Rattle.std.specs.Prelude.{◌≡◌, ℕ, suc, ◌==◌, cond, List, [], ◌∷◌, Option, Some, None}
use Rattle.std.proofs.Common.{refl, sym, ap, ◌∙◌, subst}
use Rattle.jc_lexer.specs.declared.token.Key.{Key}
use Rattle.jc_lexer.specs.declared.token.Key.TheVariants as key_of
use Rattle.jc_lexer.specs.declared.token.Sign.{Sign}
use Rattle.jc_lexer.specs.declared.token.Sign.TheVariants as sign_of
use Rattle.jc_lexer.specs.declared.token.TokenKind.{TokenKind}
use Rattle.jc_lexer.specs.declared.token.TokenKind.TheVariants as kind_of
use Rattle.jc_reading.specs.Kinds.{key_code, sign_code, kind_code}

-- the entry of a table at a number
at_code : {A : Type 0} → ℕ → ℕ → List A → Option A
at_code from n [] = None
at_code from n (a ∷ list) = cond (from == n) (Some a) (at_code (suc from) n list)

key_table : List Key
key_table = key_of.Abstract ∷ key_of.Assert ∷ key_of.Boolean ∷ key_of.Break ∷ key_of.Byte ∷ key_of.Case ∷ key_of.Catch ∷ key_of.Char ∷ key_of.Class ∷ key_of.Const ∷ key_of.Continue ∷ key_of.Default ∷ key_of.Do ∷ key_of.Double ∷ key_of.Else ∷ key_of.Enum ∷ key_of.Extends ∷ key_of.Final ∷ key_of.Finally ∷ key_of.Float ∷ key_of.For ∷ key_of.Goto ∷ key_of.If ∷ key_of.Implements ∷ key_of.Import ∷ key_of.Instanceof ∷ key_of.Int ∷ key_of.Interface ∷ key_of.Long ∷ key_of.Native ∷ key_of.New ∷ key_of.Package ∷ key_of.Private ∷ key_of.Protected ∷ key_of.Public ∷ key_of.Return ∷ key_of.Short ∷ key_of.Static ∷ key_of.Strictfp ∷ key_of.Super ∷ key_of.Switch ∷ key_of.Synchronized ∷ key_of.This ∷ key_of.Throw ∷ key_of.Throws ∷ key_of.Transient ∷ key_of.Try ∷ key_of.Void ∷ key_of.Volatile ∷ key_of.While ∷ key_of.True ∷ key_of.False ∷ key_of.Null ∷ []

sign_table : List Sign
sign_table = sign_of.Ellipsis ∷ sign_of.ShiftLeftAssign ∷ sign_of.Equal ∷ sign_of.LessEqual ∷ sign_of.NotEqual ∷ sign_of.AndAnd ∷ sign_of.OrOr ∷ sign_of.Increment ∷ sign_of.Decrement ∷ sign_of.ShiftLeft ∷ sign_of.PlusAssign ∷ sign_of.MinusAssign ∷ sign_of.StarAssign ∷ sign_of.SlashAssign ∷ sign_of.AndAssign ∷ sign_of.OrAssign ∷ sign_of.CaretAssign ∷ sign_of.PercentAssign ∷ sign_of.Dot ∷ sign_of.Semicolon ∷ sign_of.LeftParen ∷ sign_of.RightParen ∷ sign_of.Comma ∷ sign_of.LeftBrace ∷ sign_of.RightBrace ∷ sign_of.Assign ∷ sign_of.LeftBracket ∷ sign_of.RightBracket ∷ sign_of.Less ∷ sign_of.Greater ∷ sign_of.Plus ∷ sign_of.Minus ∷ sign_of.Star ∷ sign_of.Slash ∷ sign_of.Not ∷ sign_of.And ∷ sign_of.Or ∷ sign_of.Question ∷ sign_of.Colon ∷ sign_of.At ∷ sign_of.Percent ∷ sign_of.Caret ∷ sign_of.Tilde ∷ []

key_back : (x : Key) → at_code 10 (key_code x) key_table ≡ Some x
unfolding at_code key_table
key_back key_of.Abstract = refl
key_back key_of.Assert = refl
key_back key_of.Boolean = refl
key_back key_of.Break = refl
key_back key_of.Byte = refl
key_back key_of.Case = refl
key_back key_of.Catch = refl
key_back key_of.Char = refl
key_back key_of.Class = refl
key_back key_of.Const = refl
key_back key_of.Continue = refl
key_back key_of.Default = refl
key_back key_of.Do = refl
key_back key_of.Double = refl
key_back key_of.Else = refl
key_back key_of.Enum = refl
key_back key_of.Extends = refl
key_back key_of.Final = refl
key_back key_of.Finally = refl
key_back key_of.Float = refl
key_back key_of.For = refl
key_back key_of.Goto = refl
key_back key_of.If = refl
key_back key_of.Implements = refl
key_back key_of.Import = refl
key_back key_of.Instanceof = refl
key_back key_of.Int = refl
key_back key_of.Interface = refl
key_back key_of.Long = refl
key_back key_of.Native = refl
key_back key_of.New = refl
key_back key_of.Package = refl
key_back key_of.Private = refl
key_back key_of.Protected = refl
key_back key_of.Public = refl
key_back key_of.Return = refl
key_back key_of.Short = refl
key_back key_of.Static = refl
key_back key_of.Strictfp = refl
key_back key_of.Super = refl
key_back key_of.Switch = refl
key_back key_of.Synchronized = refl
key_back key_of.This = refl
key_back key_of.Throw = refl
key_back key_of.Throws = refl
key_back key_of.Transient = refl
key_back key_of.Try = refl
key_back key_of.Void = refl
key_back key_of.Volatile = refl
key_back key_of.While = refl
key_back key_of.True = refl
key_back key_of.False = refl
key_back key_of.Null = refl

sign_back : (x : Sign) → at_code 100 (sign_code x) sign_table ≡ Some x
unfolding at_code sign_table
sign_back sign_of.Ellipsis = refl
sign_back sign_of.ShiftLeftAssign = refl
sign_back sign_of.Equal = refl
sign_back sign_of.LessEqual = refl
sign_back sign_of.NotEqual = refl
sign_back sign_of.AndAnd = refl
sign_back sign_of.OrOr = refl
sign_back sign_of.Increment = refl
sign_back sign_of.Decrement = refl
sign_back sign_of.ShiftLeft = refl
sign_back sign_of.PlusAssign = refl
sign_back sign_of.MinusAssign = refl
sign_back sign_of.StarAssign = refl
sign_back sign_of.SlashAssign = refl
sign_back sign_of.AndAssign = refl
sign_back sign_of.OrAssign = refl
sign_back sign_of.CaretAssign = refl
sign_back sign_of.PercentAssign = refl
sign_back sign_of.Dot = refl
sign_back sign_of.Semicolon = refl
sign_back sign_of.LeftParen = refl
sign_back sign_of.RightParen = refl
sign_back sign_of.Comma = refl
sign_back sign_of.LeftBrace = refl
sign_back sign_of.RightBrace = refl
sign_back sign_of.Assign = refl
sign_back sign_of.LeftBracket = refl
sign_back sign_of.RightBracket = refl
sign_back sign_of.Less = refl
sign_back sign_of.Greater = refl
sign_back sign_of.Plus = refl
sign_back sign_of.Minus = refl
sign_back sign_of.Star = refl
sign_back sign_of.Slash = refl
sign_back sign_of.Not = refl
sign_back sign_of.And = refl
sign_back sign_of.Or = refl
sign_back sign_of.Question = refl
sign_back sign_of.Colon = refl
sign_back sign_of.At = refl
sign_back sign_of.Percent = refl
sign_back sign_of.Caret = refl
sign_back sign_of.Tilde = refl

no_sign : (x : Key) → at_code 100 (key_code x) sign_table ≡ None
unfolding at_code sign_table
no_sign key_of.Abstract = refl
no_sign key_of.Assert = refl
no_sign key_of.Boolean = refl
no_sign key_of.Break = refl
no_sign key_of.Byte = refl
no_sign key_of.Case = refl
no_sign key_of.Catch = refl
no_sign key_of.Char = refl
no_sign key_of.Class = refl
no_sign key_of.Const = refl
no_sign key_of.Continue = refl
no_sign key_of.Default = refl
no_sign key_of.Do = refl
no_sign key_of.Double = refl
no_sign key_of.Else = refl
no_sign key_of.Enum = refl
no_sign key_of.Extends = refl
no_sign key_of.Final = refl
no_sign key_of.Finally = refl
no_sign key_of.Float = refl
no_sign key_of.For = refl
no_sign key_of.Goto = refl
no_sign key_of.If = refl
no_sign key_of.Implements = refl
no_sign key_of.Import = refl
no_sign key_of.Instanceof = refl
no_sign key_of.Int = refl
no_sign key_of.Interface = refl
no_sign key_of.Long = refl
no_sign key_of.Native = refl
no_sign key_of.New = refl
no_sign key_of.Package = refl
no_sign key_of.Private = refl
no_sign key_of.Protected = refl
no_sign key_of.Public = refl
no_sign key_of.Return = refl
no_sign key_of.Short = refl
no_sign key_of.Static = refl
no_sign key_of.Strictfp = refl
no_sign key_of.Super = refl
no_sign key_of.Switch = refl
no_sign key_of.Synchronized = refl
no_sign key_of.This = refl
no_sign key_of.Throw = refl
no_sign key_of.Throws = refl
no_sign key_of.Transient = refl
no_sign key_of.Try = refl
no_sign key_of.Void = refl
no_sign key_of.Volatile = refl
no_sign key_of.While = refl
no_sign key_of.True = refl
no_sign key_of.False = refl
no_sign key_of.Null = refl

no_key : (x : Sign) → at_code 10 (sign_code x) key_table ≡ None
unfolding at_code key_table
no_key sign_of.Ellipsis = refl
no_key sign_of.ShiftLeftAssign = refl
no_key sign_of.Equal = refl
no_key sign_of.LessEqual = refl
no_key sign_of.NotEqual = refl
no_key sign_of.AndAnd = refl
no_key sign_of.OrOr = refl
no_key sign_of.Increment = refl
no_key sign_of.Decrement = refl
no_key sign_of.ShiftLeft = refl
no_key sign_of.PlusAssign = refl
no_key sign_of.MinusAssign = refl
no_key sign_of.StarAssign = refl
no_key sign_of.SlashAssign = refl
no_key sign_of.AndAssign = refl
no_key sign_of.OrAssign = refl
no_key sign_of.CaretAssign = refl
no_key sign_of.PercentAssign = refl
no_key sign_of.Dot = refl
no_key sign_of.Semicolon = refl
no_key sign_of.LeftParen = refl
no_key sign_of.RightParen = refl
no_key sign_of.Comma = refl
no_key sign_of.LeftBrace = refl
no_key sign_of.RightBrace = refl
no_key sign_of.Assign = refl
no_key sign_of.LeftBracket = refl
no_key sign_of.RightBracket = refl
no_key sign_of.Less = refl
no_key sign_of.Greater = refl
no_key sign_of.Plus = refl
no_key sign_of.Minus = refl
no_key sign_of.Star = refl
no_key sign_of.Slash = refl
no_key sign_of.Not = refl
no_key sign_of.And = refl
no_key sign_of.Or = refl
no_key sign_of.Question = refl
no_key sign_of.Colon = refl
no_key sign_of.At = refl
no_key sign_of.Percent = refl
no_key sign_of.Caret = refl
no_key sign_of.Tilde = refl

or_this : {A : Type 0} → A → Option A → A
or_this a (Some x) = x
or_this a None = a

pub some_is : {A : Type 0} (a b : A) → Some a ≡ Some b → a ≡ b
unfolding or_this
some_is a b e = ap (or_this a) e

IsNone : {A : Type 0} → Option A → Type 0
IsNone None = Unit {0}
IsNone (Some a) = ⊥

pub none_is : {A : Type 0} (a : A) → None ≡ Some a → ⊥
unfolding IsNone
none_is a e = subst (λ o. IsNone o) e tt

pub kind_is_sign : (k : TokenKind) (s : Sign) → kind_code k ≡ sign_code s → k ≡ kind_of.Sign s
unfolding at_code sign_table
kind_is_sign (kind_of.Word text) s e = absurd (none_is s (ap (λ n. at_code 100 n sign_table) e ∙ sign_back s))
kind_is_sign (kind_of.Number value long decimal) s e = absurd (none_is s (ap (λ n. at_code 100 n sign_table) e ∙ sign_back s))
kind_is_sign (kind_of.CharLit unit) s e = absurd (none_is s (ap (λ n. at_code 100 n sign_table) e ∙ sign_back s))
kind_is_sign (kind_of.StringLit units) s e = absurd (none_is s (ap (λ n. at_code 100 n sign_table) e ∙ sign_back s))
kind_is_sign (kind_of.Key k) s e = absurd (none_is s (sym (no_sign k) ∙ ap (λ n. at_code 100 n sign_table) e ∙ sign_back s))
kind_is_sign (kind_of.Sign t) s e = ap (λ x. kind_of.Sign x) (some_is t s (sym (sign_back t) ∙ ap (λ n. at_code 100 n sign_table) e ∙ sign_back s))

pub kind_is_key : (k : TokenKind) (s : Key) → kind_code k ≡ key_code s → k ≡ kind_of.Key s
unfolding at_code key_table
kind_is_key (kind_of.Word text) s e = absurd (none_is s (ap (λ n. at_code 10 n key_table) e ∙ key_back s))
kind_is_key (kind_of.Number value long decimal) s e = absurd (none_is s (ap (λ n. at_code 10 n key_table) e ∙ key_back s))
kind_is_key (kind_of.CharLit unit) s e = absurd (none_is s (ap (λ n. at_code 10 n key_table) e ∙ key_back s))
kind_is_key (kind_of.StringLit units) s e = absurd (none_is s (ap (λ n. at_code 10 n key_table) e ∙ key_back s))
kind_is_key (kind_of.Sign k) s e = absurd (none_is s (sym (no_key k) ∙ ap (λ n. at_code 10 n key_table) e ∙ key_back s))
kind_is_key (kind_of.Key t) s e = ap (λ x. kind_of.Key x) (some_is t s (sym (key_back t) ∙ ap (λ n. at_code 10 n key_table) e ∙ key_back s))
