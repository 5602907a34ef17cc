-- Reachability (JLS 14.21) and exceptions (JLS 11.2) through statements. Where the order of parts tells nothing, the last comes first.
use Rattle.std.specs.Prelude.{ℕ, suc, Bool, true, false, not, ◌&&◌, ◌||◌, ◌==◌, List, [], ◌∷◌, ◌++◌, Option, Some, None, is_some, is_none, if◌then◌else◌}
use Rattle.std.specs.List.{list_any}
use Rattle.jc_rules.specs.declared.rule.Place.{Place}
use Rattle.jc_types.specs.declared.form.Ty.{Ty}
use Rattle.jc_types.specs.declared.table.Table.{Table}
use Rattle.jc_types.specs.declared.environment.Bounds.{Bounds}
use Rattle.jc_typed.specs.Copies.{is_among}
use Rattle.jc_typed.specs.Trees.{Case, Expr, NoExpr, expr, Operand, NoOperand, operand, Form, Local, Operands, NoOperands, MoreOperands, Stmt, stmt, StmtForm, Empty, Block, Locals, Effect, If, Labelled, While, Do, For, ForArray, ForIterable, Switch, Return, Break, Continue, Throw, Try, Construct, Initialise, Stmts, NoStmts, MoreStmts, Arms, NoArms, MoreArms, Catches, NoCatches, MoreCatches}
use Rattle.jc_flow_spec.specs.declared.flow.Flow.{Flow}
use Rattle.jc_flow_spec.specs.declared.flow.Thrown.{Thrown}
use Rattle.jc_flow_spec.specs.declared.flow.Ways.{Ways}
use Rattle.jc_flow_spec.specs.declared.flow.Exact.{Exact}
use Rattle.jc_flow_spec.specs.Throwing.{is_useless, rethrown, uncaught}
use Rattle.jc_flow_spec.specs.States.{with_live, with_ways, with_thrown, no_ways, breaks_if, throws, breaks_out, goes_on, again, left, label_end, do_end, switch_end, either, branch, reached, closed, through, catching, caught, exact_or}
use Rattle.jc_flow_spec.specs.Expressions.{operand_flow, operands_flow, declared_flow, is_true, is_false}

-- the test of a `for` may fail, and may hold; none always holds (JLS 14.14.1.2)
abbrev pub may_fail : Operands → Bool
may_fail NoOperands = false
may_fail (MoreOperands before test) = not (is_true test)

abbrev pub may_hold : Operands → Bool
may_hold NoOperands = true
may_hold (MoreOperands before test) = not (is_false test)

-- the types that a `throw` throws: those of a parameter that is thrown again, or that of the expression (JLS 11.2.2, 14.18)
abbrev pub form_thrown : Ty → Form → List Exact → List Ty
form_thrown t (Local n) exact = exact_or (t ∷ []) n exact
form_thrown t _ exact = t ∷ []

abbrev pub expr_thrown : Expr → List Exact → List Ty
expr_thrown NoExpr exact = []
expr_thrown (expr place t captures form) exact = form_thrown t form exact

abbrev pub operand_thrown : Operand → List Exact → List Ty
operand_thrown NoOperand exact = []
operand_thrown (operand place of_it steps) exact = expr_thrown of_it exact

-- `throw` throws, and control doesn't go on
unfoldable pub thrown_on : Place → Operand → Flow → Flow
thrown_on p of_it s = with_live false (throws p (operand_thrown of_it s.exact) s)

-- the number of statements of a list
abbrev pub stmt_count : Stmts → ℕ
stmt_count NoStmts = 0
stmt_count (MoreStmts before last) = suc (stmt_count before)

-- a statement with this many others before it bears a label (JLS 14.11); some label is `default`
abbrev pub is_labelled : List Case → ℕ → Bool
is_labelled cases i = list_any (λ c. c.skips == i) cases

abbrev pub has_default : List Case → Bool
has_default cases = list_any (λ c. is_none c.key) cases

-- behind its selector, where `entry` holds, control comes to a label besides by falling there
unfoldable pub at_label : Bool → Bool → Flow → Flow
at_label entry labelled s = with_live (s.live || (entry && labelled)) s

-- control comes from the selector to the end of a switch without `default`, and of one whose last label has no statement
abbrev pub passes : List Case → ℕ → Bool
passes cases n = not (has_default cases) || is_labelled cases n

module _ (T : Table) (env : List Bounds) (assigned : List ℕ) where
  -- the block of a catch clause, whose parameter is thrown again exactly where nothing assigns it
  abbrev pub catch_block : ℕ → List Ty → (Flow → Flow) → Flow → Flow
  catch_block n types block s = if is_among n assigned then block s else caught (block (catching n types s))

  -- a clause: 704 where one of its alternatives catches nothing, and its block, which control comes to as to the `try`
  abbrev pub clause : Bool → List Thrown → Catches → Place → ℕ → List Ty → (Flow → Flow) → Flow → Flow
  clause entry thrown before p n types block s =
      branch entry (catch_block n (rethrown T env before types thrown) block) (breaks_if (list_any (is_useless T env thrown before) types) 704 p s)

  -- from the end of the block of a `try` on: its clauses, where some of what it throws isn't caught
  abbrev pub clauses_end : (List Thrown → Flow → Flow) → Catches → Flow → Flow
  clauses_end clauses catches s = clauses s.ways.thrown (with_thrown (uncaught T env catches s.ways.thrown) s)

  abbrev mutual
    pub stmt_flow : Stmt → Flow → Flow
    stmt_flow (stmt p form) s = stmt_form_flow p form (reached p s)

    -- by the form of the statement, where it has been told whether control comes to it
    pub stmt_form_flow : Place → StmtForm → Flow → Flow
    stmt_form_flow p Empty s = s
    stmt_form_flow p (Block ss) s = stmts_flow ss s
    stmt_form_flow p (Locals ds) s = declared_flow ds s
    stmt_form_flow p (Effect of_it) s = operand_flow of_it s
    stmt_form_flow p (If arms other) s = arms_flow s.live arms (stmts_flow other s)
    stmt_form_flow p (Labelled t body) s = label_end t (stmt_flow body s)
    stmt_form_flow p (While t test body) s = left t (s.live && not (is_true test)) (stmt_flow body (with_live (s.live && not (is_false test)) (operand_flow test s)))
    stmt_form_flow p (Do t body test) s = do_end t (not (is_true test)) (operand_flow test (again t (stmt_flow body s)))
    stmt_form_flow p (For t ds before test update body) s =
        left t (s.live && may_fail test) (stmt_flow body (with_live (s.live && may_hold test) (declared_flow ds (operands_flow before (operands_flow test (operands_flow update s))))))
    stmt_form_flow p (ForArray t of_it ty captures steps n body) s = left t s.live (stmt_flow body (operand_flow of_it s))
    stmt_form_flow p (ForIterable t of_it ty captures steps n body) s = left t s.live (stmt_flow body (operand_flow of_it s))
    stmt_form_flow p (Switch t of_it cases ss) s = switch_end t (s.live && passes cases (stmt_count ss)) (labelled_flow s.live cases ss (with_live false (operand_flow of_it s)))
    stmt_form_flow p (Return value) s = with_live false (operands_flow value s)
    stmt_form_flow p (Break t) s = breaks_out t s
    stmt_form_flow p (Continue t) s = goes_on t s
    stmt_form_flow p (Throw of_it) s = thrown_on p of_it (operand_flow of_it s)
    stmt_form_flow p (Try body catches last copies) s = finally_flow s.live s.ways last (clauses_end (λ thrown. catches_flow s.live thrown catches) catches (stmt_flow body (with_ways no_ways s)))
    stmt_form_flow p (Construct m args phase thrown is_raw) s = throws p thrown (operands_flow args s)
    stmt_form_flow p (Initialise f value) s = operand_flow value s

    -- one statement after the other (JLS 14.21: blocks)
    pub stmts_flow : Stmts → Flow → Flow
    stmts_flow NoStmts s = s
    stmts_flow (MoreStmts before last) s = stmt_flow last (stmts_flow before s)

    -- the statements of a switch block
    pub labelled_flow : Bool → List Case → Stmts → Flow → Flow
    labelled_flow entry cases NoStmts s = s
    labelled_flow entry cases (MoreStmts before last) s = stmt_flow last (at_label entry (is_labelled cases (stmt_count before)) (labelled_flow entry cases before s))

    -- the arms of an `if`, each reachable where the `if` is, behind what follows them
    pub arms_flow : Bool → Arms → Flow → Flow
    arms_flow entry NoArms s = s
    arms_flow entry (MoreArms before test taken) s = arms_flow entry before (branch entry (stmt_flow taken) (operand_flow test s))

    -- the clauses behind a block that throws these types, the last one first
    pub catches_flow : Bool → List Thrown → Catches → Flow → Flow
    catches_flow entry thrown NoCatches s = s
    catches_flow entry thrown (MoreCatches before p n types body) s = catches_flow entry thrown before (clause entry thrown before p n types (stmt_flow body) s)

    -- the block behind `finally`, reachable where the `try` is
    pub finally_flow : Bool → Ways → Stmts → Flow → Flow
    finally_flow entry outer NoStmts s = closed outer s
    finally_flow entry outer (MoreStmts before last) s = through outer s.live s.ways (stmt_flow last (stmts_flow before (with_live entry (with_ways no_ways s))))
