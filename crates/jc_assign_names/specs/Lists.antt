-- Lists of operands by the places of their members, the last one first.
use Rattle.std.specs.Prelude.{◌≡◌, ℕ, ◌-◌, ◌<◌, List, [], ◌∷◌, ◌++◌, drop}
use Rattle.jc_rules.specs.declared.rule.Place.{Place}
use Rattle.jc_typed.specs.declared.nodes.Node.{Node}
use Rattle.jc_typed.specs.Trees.{Named, Operand, Operands, NoOperands, MoreOperands, Links, NoLinks, MoreLinks}
use Rattle.jc_typed.specs.Parts.{operand_of}
use Rattle.jc_assign_names.specs.declared.listed.NameAt.{NameAt}

abbrev pub operands_onto : List Node → Operands → List ℕ → Operands
operands_onto ns base [] = base
operands_onto ns base (p ∷ ps) = MoreOperands (operands_onto ns base ps) (operand_of ns p)

abbrev pub operands_by : List Node → List ℕ → Operands
operands_by ns ps = operands_onto ns NoOperands ps

-- the right operands of a chain
abbrev pub rights : Links → Operands
rights NoLinks = NoOperands
rights (MoreLinks before joint left right) = MoreOperands (rights before) right

-- each of these stands below a place
abbrev pub AllBelow : ℕ → List ℕ → Type 0
AllBelow k [] = Unit {0}
AllBelow k (p ∷ ps) = (p < k) × AllBelow k ps

-- the operand at this place stands in front of those that were walked, where so many are left of a list at `at`
pub record IsNext (ns : List Node) (at : ℕ) (ps : List ℕ) (left p : ℕ) : Type 0 where
  pub next : operands_by ns (drop (left - 1) ps) ≡ MoreOperands (operands_by ns (drop left ps)) (operand_of ns p)
  pub below : p < at

-- named locals, as the code has them
abbrev pub named_at : NameAt → Named
named_at n = record { place = n.place; local = n.local }

abbrev pub named_by : List NameAt → List Named
named_by [] = []
named_by (n ∷ ns) = named_at n ∷ named_by ns
