-- What the parser of types answers (JLS 4).
use Rattle.std.specs.Prelude.{ℕ, ◌+◌, ◌-◌, ◌<◌, ◌≤◌, List, length, take, drop}
use Rattle.jc_lexer.specs.declared.token.Token.{Token}
use Rattle.jc_rules.specs.declared.stop.Stop.{Stop}
use Rattle.jc_rules.specs.declared.stop.Stop.TheVariants as stop_of
use Rattle.jc_tree.specs.declared.fault.ParseFault.{ParseFault}
use Rattle.jc_tree.specs.declared.fault.ParseFault.TheVariants as fault_of
use Rattle.jc_tree.specs.declared.types.TypeTree.{TypeTree}
use Rattle.jc_grammar.specs.Spelling.{most_height, SpellsType, BeginsType, NoTypeBegins}

-- a type stands at a token, and `next` is the token behind it
abbrev pub TypeStands : List Token → ℕ → TypeTree → ℕ → Type 0
TypeStands tokens at ty next = SpellsType most_height (drop at tokens) ty (drop next tokens)

-- the first token such that no type begins with the tokens up to and with it
abbrev pub IsTypeReach : List Token → ℕ → ℕ → Type 0
IsTypeReach tokens at reach =
    (at ≤ reach) × (reach ≤ length tokens) × BeginsType most_height (take (reach - at) (drop at tokens))
    × (reach < length tokens → NoTypeBegins most_height (take (reach + 1 - at) (drop at tokens)))

-- no type begins there, and the fault names the reach
abbrev pub NoTypeFault : List Token → ℕ → ParseFault → Type 0
NoTypeFault tokens at (fault_of.Syntax token) =
    IsTypeReach tokens at token × ((ty : TypeTree) (rest : List Token) → SpellsType most_height (drop at tokens) ty rest → ⊥)
NoTypeFault tokens at (fault_of.LeftOut rule token) = ⊥

-- why there is no type; of want of memory nothing is said
abbrev pub NoTypeStands : List Token → ℕ → Stop ParseFault → Type 0
NoTypeStands tokens at (stop_of.Refused fault) = NoTypeFault tokens at fault
NoTypeStands tokens at stop_of.WantOfMemory = Unit {0}
