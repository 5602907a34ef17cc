-- What the parser of expressions answers (JLS 15).
use Rattle.std.specs.Prelude.{◌≡◌, ℕ, ◌+◌, ◌-◌, ◌<◌, ◌≤◌, ◌⊎◌, List, length, take, drop}
use Rattle.jc_lexer.specs.declared.token.Token.{Token}
use Rattle.jc_rules.specs.declared.stop.Stop.{Stop}
use Rattle.jc_rules.specs.declared.stop.Stop.TheVariants as stop_of
use Rattle.jc_tree.specs.declared.fault.ParseFault.{ParseFault}
use Rattle.jc_tree.specs.declared.fault.ParseFault.TheVariants as fault_of
use Rattle.jc_tree.specs.declared.expression.Expr.{Expr}
use Rattle.jc_grammar.specs.Spelling.{most_height, SpellsExpr, BeginsExpr, NoExprBegins}

-- an expression stands at a token, and `next` is the token behind it
abbrev pub ExprStands : List Token → ℕ → Expr → ℕ → Type 0
ExprStands tokens at expr next = SpellsExpr most_height (drop at tokens) expr (drop next tokens)

-- no other expression has the same tokens
abbrev pub IsOnlyExpr : List Token → ℕ → Expr → ℕ → Type 0
IsOnlyExpr tokens at expr next = (other : Expr) → ExprStands tokens at other next → other ≡ expr

-- the first token such that no expression begins with the tokens up to and with it
abbrev pub IsExprReach : List Token → ℕ → ℕ → Type 0
IsExprReach tokens at reach =
    (at ≤ reach) × (reach ≤ length tokens) × BeginsExpr most_height (take (reach - at) (drop at tokens))
    × (reach < length tokens → NoExprBegins most_height (take (reach + 1 - at) (drop at tokens)))

-- no expression begins there, and the fault names the reach
abbrev pub NoExprFault : List Token → ℕ → ParseFault → Type 0
NoExprFault tokens at (fault_of.Syntax token) =
    IsExprReach tokens at token × ((expr : Expr) (rest : List Token) → SpellsExpr most_height (drop at tokens) expr rest → ⊥)
NoExprFault tokens at (fault_of.LeftOut rule token) = ⊥

-- a refusal tells a fault; where memory is wanting nothing is told of the tokens
abbrev pub NoExprStands : List Token → ℕ → Stop ParseFault → Type 0
NoExprStands tokens at (stop_of.Refused fault) = NoExprFault tokens at fault
NoExprStands tokens at stop_of.WantOfMemory = Unit {0}

-- the longest expression at a place, the only tree of its tokens, with the token behind it and the reach
pub record LongestExpr (tokens : List Token) (at : ℕ) : Type 0 where
  pub expr : Expr
  pub next : ℕ
  pub reach : ℕ
  pub stands : ExprStands tokens at expr next
  pub only : IsOnlyExpr tokens at expr next
  pub longest : (other : Expr) (rest : List Token) → SpellsExpr most_height (drop at tokens) other rest → length tokens ≤ next + length rest
  pub is_reach : IsExprReach tokens at reach

-- no two expressions of at most 200 heights have the same tokens, and at each place stands a longest one or none
pub record ExpressionsAreTold : Type 0 where
  pub one_expr : (tokens : List Token) (at : ℕ) (expr other : Expr) (next : ℕ) → ExprStands tokens at expr next → ExprStands tokens at other next → other ≡ expr
  pub decided : (tokens : List Token) (at : ℕ) → at ≤ length tokens → LongestExpr tokens at ⊎ ((place : ℕ) × NoExprFault tokens at (fault_of.Syntax place))
