-- What stands in the code's heads and clauses, by the arena.
use Rattle.std.specs.Prelude.{ℕ, ◌<◌, Bool, true, false, List, [], ◌∷◌, Option, Some, None}
use Rattle.jc_tree.specs.declared.expression.Expr.{Expr as Parsed}
use Rattle.jc_tree.specs.declared.statement.ForInit.{ForInit}
use Rattle.jc_typed.specs.declared.nodes.Node.{Node}
use Rattle.jc_typed.specs.declared.statements.StmtForm.{StmtForm as FormNode}
use Rattle.jc_typed.specs.declared.statements.StmtForm.TheVariants as s
use Rattle.jc_typed.specs.Parts.{cases_of, catches_of, declared_of, operands_of, stmts_of}
use Rattle.jc_typed.specs.Trees.{Case, Declared, NoCatches, NoStmts, Operands}
use Rattle.jc_stmts_spec.specs.Courses.{Answer, AKey}
use Rattle.jc_stmts_spec.specs.Assembling.{Cased, Clauses, Made, Placed, an_operand_if, begun, made, some_operands}
use Rattle.jc_stmts_answers.specs.declared.answers.AnswerAt.{AnswerAt}
use Rattle.jc_stmts_answers.specs.declared.answers.AnswerAt.TheVariants as a
use Rattle.jc_stmts_answers.specs.declared.answers.ElementsAt.{ElementsAt}
use Rattle.jc_stmts_assembling.specs.declared.heads.HeadAt.{HeadAt}
use Rattle.jc_stmts_assembling.specs.declared.groups.CasedAt.{CasedAt}
use Rattle.jc_stmts_assembling.specs.declared.groups.ClausesAt.{ClausesAt}

-- the head of a basic `for`
pub record Head : Type 0 where
  pub declared : Declared
  pub before : Operands
  pub test : Operands
  pub update : Operands

unfoldable pub head_made : ForInit → Option Parsed → List Parsed → List Answer → Made Head
head_made init test update left =
    let b = begun init left in
    let t = an_operand_if test b.left in
    let u = some_operands update t.left in
    made (record { declared = b.it.declared; before = b.it.before; test = t.it; update = u.it }) u.left

abbrev pub head_of : List Node → HeadAt → Head
head_of ns h = record { declared = declared_of ns h.declared; before = operands_of ns h.before; test = operands_of ns h.test; update = operands_of ns h.update }

abbrev pub HeadBelow : ℕ → HeadAt → Type 0
HeadBelow k h = (h.declared < k) × (h.before < k) × (h.test < k) × (h.update < k)

-- labels and statements of a `switch` so far
abbrev pub cased_of : List Node → CasedAt → Cased
cased_of ns c = record { cases = cases_of ns c.cases; stmts = stmts_of ns c.stmts; count = c.count }

abbrev pub CasedBelow : ℕ → CasedAt → Type 0
CasedBelow k c = (c.cases < k) × (c.stmts < k)

abbrev pub no_cased : Cased
no_cased = record { cases = []; stmts = NoStmts; count = 0 }

-- clauses of a `try` so far
abbrev pub clauses_of : List Node → ClausesAt → Clauses
clauses_of ns c = record { catches = catches_of ns c.catches; last = stmts_of ns c.last }

abbrev pub no_clauses_yet : Clauses
no_clauses_yet = record { catches = NoCatches; last = NoStmts }

abbrev pub ClausesBelow : ℕ → ClausesAt → Type 0
ClausesBelow k c = (c.catches < k) × (c.last < k)

-- ---- locals and labels

abbrev pub no_local : Placed
no_local = record { place = record { file = 0; at = 0 }; number = 0 }

abbrev pub local_at : List AnswerAt → Placed
local_at (a.ALocal place number ∷ xs) = record { place = place; number = number }
local_at xs = no_local

abbrev pub behind_local : List AnswerAt → List AnswerAt
behind_local (a.ALocal place number ∷ xs) = xs
behind_local xs = xs

-- a label without a constant, and the one of a constant
abbrev pub no_case : ℕ → Case
no_case n = record { key = None; skips = n; named = [] }

abbrev pub keyed : ℕ → List Answer → Made Case
keyed n (AKey key named ∷ left) = made (record { key = Some key; skips = n; named = named }) left
keyed n left = made (no_case n) left

-- ---- the form of an enhanced `for`

abbrev pub each_by : Bool → ℕ → ElementsAt → ℕ → ℕ → FormNode
each_by true n e l body = s.ForArray n e.of e.ty e.captures e.steps l body
each_by false n e l body = s.ForIterable n e.of e.ty e.captures e.steps l body

abbrev pub each_node : ℕ → ElementsAt → ℕ → ℕ → FormNode
each_node n e l body = each_by e.is_array n e l body
