-- Typed statements, each by its own parts, as the walk makes them.
use Rattle.std.specs.Prelude.{ℕ, List, [], ◌∷◌, ◌++◌}
use Rattle.jc_tree.specs.declared.statement.Clause.{Clause, Clause-F, out-Clause}
use Rattle.jc_tree.specs.declared.statement.ClauseHead.{ClauseHead}
use Rattle.jc_tree.specs.declared.statement.ClauseHead.TheVariants as head
use Rattle.jc_tree.specs.declared.statement.Declaration.{Declaration}
use Rattle.jc_tree.specs.declared.statement.ForHead.{ForHead}
use Rattle.jc_tree.specs.declared.statement.ForHead.TheVariants as for_head
use Rattle.jc_tree.specs.declared.statement.Member.{Member}
use Rattle.jc_tree.specs.declared.statement.Stmt.{Stmt as Source}
use Rattle.jc_typed.specs.Bulk.{capped}
use Rattle.jc_typed.specs.Copies.{copies_of}
use Rattle.jc_typed.specs.Trees.{Stmt, stmt, Empty, Block, If, Labelled, While, Do, For, Switch, Try, Stmts, NoStmts, MoreStmts, Arms, NoArms, MoreArms, NoCatches, MoreCatches}
use Rattle.jc_stmts_spec.specs.Courses.{Answer, AnEach, Elements}
use Rattle.jc_stmts_spec.specs.Plans.{Jumps, OfLoop, OfSwitch, OfLabel, inside}
use Rattle.jc_stmts_spec.specs.Assembling.{Cased, Clauses, Made, a_case, a_local, an_operand, assembled, at, caught_types, count_of, each_of, made}
use Rattle.jc_stmts_plan.specs.Flat.{loop_of}
use Rattle.jc_stmts_assembling.specs.Heads.{head_made}

-- of a statement, by where jumps go and the answers that are left
unfoldable pub made_of : ℕ → Source → Jumps → List Answer → Made Stmt
made_of file s j left = (assembled file s).make j left

-- statements that follow one another, behind some
unfoldable pub stmts_made : ℕ → Stmts → List Source → Jumps → List Answer → Made Stmts
stmts_made file before [] j left = made before left
stmts_made file before (s ∷ ss) j left = let m = made_of file s j left in stmts_made file (MoreStmts before m.it) ss j m.left

-- a block at an offset
unfoldable pub block_made : ℕ → ℕ → List Source → Jumps → List Answer → Made Stmt
block_made file n ss j left = let m = stmts_made file NoStmts ss j left in made (stmt (at file n) (Block m.it)) m.left

-- the one statement behind a test; no statement stands for an empty one
unfoldable pub only_made : ℕ → ℕ → List Source → Jumps → List Answer → Made Stmt
only_made file n [] j left = made (stmt (at file n) Empty) left
only_made file n (s ∷ ss) j left = made_of file s j left

abbrev pub ClauseLayer : Type 0
ClauseLayer = Clause-F Member Source Clause Declaration

-- ---- arms of an `if`

unfoldable pub arm_made : ℕ → Arms → ClauseLayer → Jumps → List Answer → Made Arms
arm_made file before c j left =
    let test = an_operand left in
    let body = only_made file c.at c.items j test.left in
    made (MoreArms before test.it body.it) body.left

unfoldable pub arms_made : ℕ → Arms → List Clause → Jumps → List Answer → Made Arms
arms_made file before [] j left = made before left
arms_made file before (c ∷ cs) j left = let a = arm_made file before (out-Clause c) j left in arms_made file a.it cs j a.left

unfoldable pub if_made : ℕ → ℕ → List Clause → List Source → Jumps → List Answer → Made Stmt
if_made file n cs otherwise j left =
    let a = arms_made file NoArms cs j left in
    let o = stmts_made file NoStmts otherwise j a.left in
    made (stmt (at file n) (If a.it o.it)) o.left

abbrev pub arm_at : ClauseLayer → ℕ
arm_at c = c.at

abbrev pub first_arm : List Clause → ℕ
first_arm [] = 0
first_arm (c ∷ cs) = arm_at (out-Clause c)

-- ---- loops and labels

unfoldable pub labelled_made : ℕ → ℕ → List ℕ → Source → Jumps → List Answer → Made Stmt
labelled_made file n text body j left =
    let b = made_of file body (inside (OfLabel n text (loop_of body)) j) left in made (stmt (at file n) (Labelled n b.it)) b.left

unfoldable pub while_made : ℕ → ℕ → Source → Jumps → List Answer → Made Stmt
while_made file n body j left =
    let test = an_operand left in
    let b = made_of file body (inside (OfLoop n) j) test.left in
    made (stmt (at file n) (While n test.it b.it)) b.left

unfoldable pub do_made : ℕ → ℕ → Source → Jumps → List Answer → Made Stmt
do_made file n body j left =
    let b = made_of file body (inside (OfLoop n) j) left in
    let test = an_operand b.left in
    made (stmt (at file n) (Do n b.it test.it)) test.left

-- .. of a `for`, where jumps go as they do inside of it
unfoldable pub over_made : ℕ → ℕ → Elements → Source → Jumps → List Answer → Made Stmt
over_made file n e body j left =
    let l = a_local left in
    let s = made_of file body j l.left in
    made (stmt (at file n) (each_of n e l.it.number s.it)) s.left

unfoldable pub each_made : ℕ → ℕ → Source → Jumps → List Answer → Made Stmt
each_made file n body j (AnEach e ∷ left) = over_made file n e body j left
each_made file n body j left = made (stmt (at file n) Empty) left

unfoldable pub for_made : ℕ → ℕ → ForHead → Source → Jumps → List Answer → Made Stmt
for_made file n (for_head.Basic init test update) body j left =
    let h = head_made init test update left in
    let s = made_of file body j h.left in
    made (stmt (at file n) (For n h.it.declared h.it.before h.it.test h.it.update s.it)) s.left
for_made file n (for_head.Enhanced modifiers ty name dims iterable) body j left = each_made file n body j left

-- ---- `switch`

unfoldable pub group_made : ℕ → Cased → ClauseLayer → Jumps → List Answer → Made Cased
group_made file c g j left =
    let k = a_case g.head (count_of c.stmts) left in
    let s = stmts_made file c.stmts g.items j k.left in
    made (record { cases = c.cases ++ k.it ∷ []; stmts = s.it; count = count_of s.it }) s.left

unfoldable pub groups_made : ℕ → Cased → List Clause → Jumps → List Answer → Made Cased
groups_made file c [] j left = made c left
groups_made file c (g ∷ gs) j left = let d = group_made file c (out-Clause g) j left in groups_made file d.it gs j d.left

unfoldable pub switch_made : ℕ → ℕ → List Clause → Jumps → List Answer → Made Stmt
switch_made file n gs j left =
    let o = an_operand left in
    let c = groups_made file (record { cases = []; stmts = NoStmts; count = 0 }) gs (inside (OfSwitch n) j) o.left in
    made (stmt (at file n) (Switch n o.it c.it.cases c.it.stmts)) c.left

-- ---- `try`

unfoldable pub catch_made : ℕ → Clauses → ClauseLayer → Jumps → List Answer → Made Clauses
catch_made file c g j left =
    let ts = caught_types left in
    let l = a_local ts.left in
    let b = block_made file g.at g.items j l.left in
    made (record { catches = MoreCatches c.catches (at file g.at) l.it.number ts.it b.it; last = c.last }) b.left

unfoldable pub finally_made : ℕ → Clauses → ClauseLayer → Jumps → List Answer → Made Clauses
finally_made file c g j left =
    let b = block_made file g.at g.items j left in made (record { catches = c.catches; last = MoreStmts NoStmts b.it }) b.left

unfoldable pub clause_made : ℕ → Clauses → ClauseLayer → ClauseHead → Jumps → List Answer → Made Clauses
clause_made file c g (head.Catch modifiers first more name) j left = catch_made file c g j left
clause_made file c g h j left = finally_made file c g j left

abbrev pub clause_head : ClauseLayer → ClauseHead
clause_head c = c.head

unfoldable pub clauses_made : ℕ → Clauses → List Clause → Jumps → List Answer → Made Clauses
clauses_made file c [] j left = made c left
clauses_made file c (g ∷ gs) j left = let d = clause_made file c (out-Clause g) (clause_head (out-Clause g)) j left in clauses_made file d.it gs j d.left

unfoldable pub try_made : ℕ → ℕ → List Source → List Clause → Jumps → List Answer → Made Stmt
try_made file n items gs j left =
    let b = block_made file n items j left in
    let c = clauses_made file (record { catches = NoCatches; last = NoStmts }) gs j b.left in
    made (stmt (at file n) (Try b.it c.it.catches c.it.last (capped (copies_of b.it c.it.catches)))) c.left
