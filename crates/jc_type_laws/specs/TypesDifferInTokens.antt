-- No type has the tokens of another (JLS 4).
use Rattle.std.specs.Prelude.{◌≡◌, ℕ, List}
use Rattle.jc_lexer.specs.declared.token.Token.{Token}
use Rattle.jc_tree.specs.declared.types.TypeTree.{TypeTree}
use Rattle.jc_grammar.specs.Spelling.{SpellsType}
use Rattle.jc_parse_type.specs.TypeAnswers.{TypeStands}

-- two types with the same tokens, and the same tokens behind them, are one
pub record TypesDifferInTokens : Type 0 where
  -- at the front of tokens, of any two heights
  pub one_type : (height other_height : ℕ) (tokens : List Token) (ty other : TypeTree) (rest : List Token) → SpellsType height tokens ty rest → SpellsType other_height tokens other rest → other ≡ ty
  -- at a token, so of what the parser of types answers
  pub one_type_at : (tokens : List Token) (at : ℕ) (ty other : TypeTree) (next : ℕ) → TypeStands tokens at ty next → TypeStands tokens at other next → other ≡ ty
