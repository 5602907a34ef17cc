-- The program of tokens, read from left to right.
use Rattle.std.specs.Prelude.{ℕ, ◌+◌, true, false, ◌==◌, nat_le, List, [], ◌∷◌, ◌++◌, slice_get, if◌then◌else◌}
use Rattle.std.specs.declared.option.Option.{Option}
use Rattle.std.specs.declared.option.Option.TheVariants.{Some, None}
use Rattle.jc_lexer.specs.declared.token.TokenKind.{TokenKind}
use Rattle.jc_lexer.specs.declared.token.TokenKind.TheVariants as kind_of
use Rattle.jc_small.specs.declared.fixed.Fixed.{Fixed}
use Rattle.jc_small.specs.declared.fixed.Fixed.TheVariants as fixed_of
use Rattle.jc_small.specs.declared.reading.Point.{Point}
use Rattle.jc_small.specs.declared.reading.Point.TheVariants.{Head, Statement, Write, Number, AfterNumber, Semicolon, LastBrace, End}
use Rattle.jc_small.specs.declared.reading.Effect.{Effect}
use Rattle.jc_small.specs.declared.reading.Effect.TheVariants.{Nothing, Add, Close}
use Rattle.jc_small.specs.declared.reading.Moved.{Moved}
use Rattle.jc_small.specs.Lexemes.{is}
use Rattle.jc_small.specs.Small.{Program, head, write_rest}

-- a number that an int holds: at most 2147483647 (JLS 3.10.1)
abbrev pub small_number : ℕ → Option ℕ
small_number n = if nat_le n 2147483647 then Some n else None

-- the int that a decimal number without L is
abbrev pub number_of : TokenKind → Option ℕ
number_of (kind_of.Number n false true) = small_number n
number_of _ = None

-- a token that is allowed leads to this point and has this effect; None stands for one that isn't
abbrev pub to : Point → Effect → Option Moved
to point effect = Some (record { point = point; effect = effect })

-- on to a point, if the token is the lexeme that is wanted
abbrev pub by_lexeme : Option Fixed → TokenKind → Point → Option Moved
by_lexeme None t point = None
by_lexeme (Some f) t point = if is f t then to point Nothing else None

-- behind a number that fits, which is added to the open sum
abbrev pub by_number : Option ℕ → Option Moved
by_number None = None
by_number (Some n) = to AfterNumber (Add n)

-- the point and the effect behind a token
unfoldable pub moved : Point → TokenKind → Option Moved
moved (Head k) t = by_lexeme (slice_get head k) t (if k == 13 then Statement else Head (k + 1))
moved Statement t = if is fixed_of.System t then to (Write 0) Nothing else if is fixed_of.RightBrace t then to LastBrace Nothing else None
moved (Write k) t = by_lexeme (slice_get write_rest k) t (if k == 4 then Number else Write (k + 1))
moved Number t = by_number (number_of t)
moved AfterNumber t = if is fixed_of.Plus t then to Number Nothing else if is fixed_of.RightParen t then to Semicolon Nothing else None
moved Semicolon t = if is fixed_of.Semicolon t then to Statement Close else None
moved LastBrace t = if is fixed_of.RightBrace t then to End Nothing else None
moved End t = None

-- the program and the open sum behind an effect
abbrev pub done_by : Effect → Program → List ℕ → Program
done_by Close done now = done ++ now ∷ []
done_by (Add n) done now = done
done_by Nothing done now = done

-- the open sum: a closed statement leaves none, and a number stands at its end
abbrev pub now_by : Effect → List ℕ → List ℕ
now_by Close now = []
now_by (Add n) now = now ++ n ∷ []
now_by Nothing now = now

-- the tokens are a program only where they end behind the last brace
abbrev pub at_end : Point → Program → Option Program
at_end End done = Some done
at_end (Head k) done = None
at_end Statement done = None
at_end (Write k) done = None
at_end Number done = None
at_end AfterNumber done = None
at_end Semicolon done = None
at_end LastBrace done = None

-- the program of the tokens from a point on
abbrev pub go_on : (Point → Program → List ℕ → Option Program) → Option Moved → Program → List ℕ → Option Program
go_on next None done now = None
go_on next (Some m) done now = next m.point (done_by m.effect done now) (now_by m.effect now)

-- token by token; None as soon as one isn't allowed
unfoldable pub run : List TokenKind → Point → Program → List ℕ → Option Program
run [] point done now = at_end point done
run (t ∷ ts) point done now = go_on (run ts) (moved point t) done now
