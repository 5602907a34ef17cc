-- Lists of statements by the places of their members, the last one first.
use Rattle.std.specs.Prelude.{◌≡◌, ℕ, ◌-◌, ◌<◌, List, [], ◌∷◌, drop}
use Rattle.jc_typed.specs.declared.nodes.Node.{Node}
use Rattle.jc_typed.specs.Trees.{Stmts, NoStmts, MoreStmts}
use Rattle.jc_typed.specs.Parts.{stmt_of}

abbrev pub stmts_onto : List Node → Stmts → List ℕ → Stmts
stmts_onto ns base [] = base
stmts_onto ns base (p ∷ ps) = MoreStmts (stmts_onto ns base ps) (stmt_of ns p)

abbrev pub stmts_by : List Node → List ℕ → Stmts
stmts_by ns ps = stmts_onto ns NoStmts ps

-- each of these stands below a place
abbrev pub AllBelow : ℕ → List ℕ → Type 0
AllBelow k [] = Unit {0}
AllBelow k (p ∷ ps) = (p < k) × AllBelow k ps

-- the statement at this place stands in front of those that were walked, where so many are left of a list at `at`
pub record IsNext (ns : List Node) (at : ℕ) (ps : List ℕ) (left p : ℕ) : Type 0 where
  pub next : stmts_by ns (drop (left - 1) ps) ≡ MoreStmts (stmts_by ns (drop left ps)) (stmt_of ns p)
  pub below : p < at
