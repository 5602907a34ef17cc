-- What a tree tells of its tokens.
use Rattle.std.specs.Prelude.{ℕ, zero, suc, Bool, false, List, [], ◌∷◌, Option, Some, None}
use Rattle.jc_lexer.specs.declared.token.Key.{Key}
use Rattle.jc_lexer.specs.declared.token.Sign.{Sign}
use Rattle.jc_lexer.specs.declared.token.Sign.TheVariants.{Comma, Dot, LeftBracket, RightBracket, LeftParen, RightParen}
use Rattle.jc_lexer.specs.declared.token.TokenKind.{TokenKind}
use Rattle.jc_lexer.specs.declared.token.TokenKind.TheVariants.{Word, Key as Keyed, Sign as Signed}
use Rattle.jc_tree.specs.declared.name.Ident.{Ident}

-- a token: its kind, its offset where the tree has it, whether the next token has to touch it, and whether no `>` before it may touch it
pub record Told : Type 0 where
  pub kind : TokenKind
  pub at : Option ℕ
  pub joins : Bool
  pub apart : Bool

-- a token that need touch no other, and may
abbrev pub told : TokenKind → Option ℕ → Told
told kind at = record { kind = kind; at = at; joins = false; apart = false }

-- a sign, a keyword or an identifier; those with `_at`, and the identifier, have an offset that the tree tells
abbrev pub sign : Sign → Told
sign s = told (Signed s) None

abbrev pub sign_at : Sign → ℕ → Told
sign_at s at = told (Signed s) (Some at)

abbrev pub key : Key → Told
key k = told (Keyed k) None

abbrev pub key_at : Key → ℕ → Told
key_at k at = told (Keyed k) (Some at)

abbrev pub ident : Ident → Told
ident i = told (Word i.text) (Some i.at)

-- tokens, and then others
abbrev pub Spelled : Type 0
Spelled = List Told → List Told

-- one behind the other
abbrev pub each : List Spelled → Spelled
each [] r = r
each (s ∷ spelled) r = s (each spelled r)

-- each behind a comma
abbrev pub after_commas : List Spelled → Spelled
after_commas [] r = r
after_commas (s ∷ spelled) r = sign Comma ∷ s (after_commas spelled r)

-- with commas between them
abbrev pub commas : List Spelled → Spelled
commas [] r = r
commas (s ∷ spelled) r = s (after_commas spelled r)

-- between parentheses, with commas between them
abbrev pub actuals : List Spelled → Spelled
actuals spelled r = sign LeftParen ∷ commas spelled (sign RightParen ∷ r)

-- each behind a dot
abbrev pub after_dots : List Spelled → Spelled
after_dots [] r = r
after_dots (s ∷ spelled) r = sign Dot ∷ s (after_dots spelled r)

-- identifiers, each behind a dot
abbrev pub names_after : List Ident → Spelled
names_after [] r = r
names_after (i ∷ names) r = sign Dot ∷ ident i ∷ names_after names r

-- pairs of brackets
abbrev pub brackets : ℕ → Spelled
brackets zero r = r
brackets (suc n) r = sign LeftBracket ∷ sign RightBracket ∷ brackets n r
