-- Tokens that a tree spells.
use Rattle.std.specs.Prelude.{◌≡◌, ℕ, ◌≤◌, Bool, true, false, ◌&&◌, List, [], ◌∷◌, ◌++◌, Option, Some, None}
use Rattle.jc_lexer.specs.declared.token.Sign.{Sign}
use Rattle.jc_lexer.specs.declared.token.Sign.TheVariants as sign_of
use Rattle.jc_lexer.specs.declared.token.Token.{Token}
use Rattle.jc_lexer.specs.declared.token.TokenKind.{TokenKind}
use Rattle.jc_lexer.specs.declared.token.TokenKind.TheVariants.{Sign as Signed}
use Rattle.jc_tree.specs.declared.types.TypeTree.{TypeTree}
use Rattle.jc_tree.specs.declared.expression.Expr.{Expr}
use Rattle.jc_tree.specs.Heights.{type_height, expr_height, source_height}
use Rattle.jc_grammar.specs.Told.{Told}
use Rattle.jc_grammar.specs.Types.{type_tokens}
use Rattle.jc_grammar.specs.Expressions.{expr_tokens}
use Rattle.jc_grammar.specs.Shapes.{is_expr}
use Rattle.jc_grammar.specs.Statements.{file_tokens}
use Rattle.jc_grammar.specs.Units.{is_file}
use Rattle.jc_tree.specs.declared.statement.SourceFile.{SourceFile}

-- the sign `>`; `>=`, `>>` and the longer operators that begin with it are runs of tokens that touch
abbrev pub is_greater_sign : Sign → Bool
is_greater_sign sign_of.Greater = true
is_greater_sign _ = false

-- the token is that sign
abbrev pub is_greater : TokenKind → Bool
is_greater (Signed s) = is_greater_sign s
is_greater _ = false

-- the offset `from` of a token is the one that is told; where none is told, any
abbrev pub StandsAt : Option ℕ → ℕ → Type 0
StandsAt None from = Unit {0}
StandsAt (Some at) from = from ≡ at

-- the tokens are those that are told, where `touched` says whether a `>` before the first one touches it
abbrev pub AreTold : Bool → List Told → List Token → Type 0
AreTold touched [] [] = Unit {0}
AreTold touched [] (t ∷ tokens) = ⊥
AreTold touched (d ∷ told) [] = ⊥
AreTold touched (d ∷ told) (t ∷ tokens) =
    (t.kind ≡ d.kind) × StandsAt d.at t.from × (d.joins ≡ true → t.touches ≡ true) × (d.apart ≡ true → touched ≡ false)
    × AreTold (is_greater t.kind && t.touches) told tokens

-- trees of more than this height spell nothing
abbrev pub most_height : ℕ
most_height = 200

-- a type of at most this height stands at the front of tokens, and others follow
abbrev pub SpellsType : ℕ → List Token → TypeTree → List Token → Type 0
SpellsType height tokens ty rest =
    (type_height ty ≤ height) × (front : List Token) × (tokens ≡ front ++ rest) × AreTold false (type_tokens ty []) front

-- some type of at most this height begins with the tokens
abbrev pub BeginsType : ℕ → List Token → Type 0
BeginsType height tokens = (ty : TypeTree) × (more : List Token) × SpellsType height (tokens ++ more) ty []

-- none does, whatever tokens follow
abbrev pub NoTypeBegins : ℕ → List Token → Type 0
NoTypeBegins height tokens = (ty : TypeTree) (more : List Token) → SpellsType height (tokens ++ more) ty [] → ⊥

-- an expression of at most this height stands at the front of tokens, and others follow
abbrev pub SpellsExpr : ℕ → List Token → Expr → List Token → Type 0
SpellsExpr height tokens expr rest =
    (expr_height expr ≤ height) × (is_expr expr ≡ true) × (front : List Token) × (tokens ≡ front ++ rest) × AreTold false (expr_tokens expr []) front

-- some expression of at most this height begins with the tokens
abbrev pub BeginsExpr : ℕ → List Token → Type 0
BeginsExpr height tokens = (expr : Expr) × (more : List Token) × SpellsExpr height (tokens ++ more) expr []

-- none does, whatever tokens follow
abbrev pub NoExprBegins : ℕ → List Token → Type 0
NoExprBegins height tokens = (expr : Expr) (more : List Token) → SpellsExpr height (tokens ++ more) expr [] → ⊥

-- the tokens are those of a source file of at most this height
abbrev pub SpellsFile : ℕ → List Token → SourceFile → Type 0
SpellsFile height tokens file = (source_height file ≤ height) × (is_file file ≡ true) × AreTold false (file_tokens file []) tokens

-- some source file of at most this height begins with the tokens
abbrev pub BeginsFile : ℕ → List Token → Type 0
BeginsFile height tokens = (file : SourceFile) × (more : List Token) × SpellsFile height (tokens ++ more) file

-- none does, whatever tokens follow
abbrev pub NoFileBegins : ℕ → List Token → Type 0
NoFileBegins height tokens = (file : SourceFile) (more : List Token) → SpellsFile height (tokens ++ more) file → ⊥
