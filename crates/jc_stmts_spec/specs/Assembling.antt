-- The typed statements of a body, made of the parsed ones and the answers to their items, which are taken in order (JLS 14). Nothing is asked here.
use Rattle.std.specs.Prelude.{ℕ, ◌+◌, Bool, true, false, List, [], ◌∷◌, ◌++◌, map, Option, Some, None}
use Rattle.jc_rules.specs.declared.rule.Place.{Place}
use Rattle.jc_tree.specs.declared.expression.Expr.{Expr as Parsed}
use Rattle.jc_tree.specs.declared.expression.Init.{Init}
use Rattle.jc_tree.specs.declared.statement.Clause.{Clause-F}
use Rattle.jc_tree.specs.declared.statement.ClauseHead.{ClauseHead}
use Rattle.jc_tree.specs.declared.statement.ClauseHead.TheVariants as head
use Rattle.jc_tree.specs.declared.statement.ForHead.{ForHead}
use Rattle.jc_tree.specs.declared.statement.ForHead.TheVariants as for_head
use Rattle.jc_tree.specs.declared.statement.ForInit.{ForInit}
use Rattle.jc_tree.specs.declared.statement.ForInit.TheVariants as for_init
use Rattle.jc_tree.specs.declared.statement.LocalVars.{LocalVars}
use Rattle.jc_tree.specs.declared.statement.Stmt.{Stmt as Source, Stmt-F, fold-Stmt}
use Rattle.jc_tree.specs.declared.statement.Var.{Var}
use Rattle.jc_tree.specs.Offsets.{first_offset_of_expr, first_offset_of_locals}
use Rattle.jc_types.specs.declared.form.Ty.{Ty}
use Rattle.jc_typed.specs.Bulk.{capped}
use Rattle.jc_typed.specs.Copies.{copies_of}
use Rattle.jc_typed.specs.Trees.{Operand, NoOperand, Operands, NoOperands, MoreOperands, Declared, NoDeclared, MoreDeclared, Case, Stmt, stmt, StmtForm, Empty, Block, Locals, Effect, If, Labelled, While, Do, For, ForArray, ForIterable, Switch, Return, Break, Continue, Throw, Try, Stmts, NoStmts, MoreStmts, Arms, NoArms, MoreArms, Catches, NoCatches, MoreCatches}
use Rattle.jc_exprs_nodes_spec.specs.Typeds.{one_operand}
use Rattle.jc_stmts_spec.specs.Courses.{Answer, AnOperand, ALocal, AKey, AnEach, SomeTypes, Elements}
use Rattle.jc_stmts_spec.specs.Plans.{Jumps, OfLoop, OfSwitch, OfLabel, inside, break_target, continue_target}

-- ---- answers that are left

-- what is made of the first of them, and the others
pub record Made (A : Type 0) : Type 0 where
  pub it : A
  pub left : List Answer

abbrev pub made : {A : Type 0} → A → List Answer → Made A
made a left = record { it = a; left = left }

-- the operand of an expression
abbrev pub an_operand : List Answer → Made Operand
an_operand (AnOperand o ∷ left) = made o left
an_operand left = made NoOperand left

-- the operands of several expressions, or of none or one
abbrev pub operands_behind : Operands → List Parsed → List Answer → Made Operands
operands_behind before [] left = made before left
operands_behind before (e ∷ es) left = let o = an_operand left in operands_behind (MoreOperands before o.it) es o.left

abbrev pub some_operands : List Parsed → List Answer → Made Operands
some_operands es left = operands_behind NoOperands es left

abbrev pub an_operand_if : Option Parsed → List Answer → Made Operands
an_operand_if None left = made NoOperands left
an_operand_if (Some e) left = let o = an_operand left in made (one_operand o.it) o.left

-- a local with its place
pub record Placed : Type 0 where
  pub place : Place
  pub number : ℕ

abbrev pub a_local : List Answer → Made Placed
a_local (ALocal place n ∷ left) = made (record { place = place; number = n }) left
a_local left = made (record { place = record { file = 0; at = 0 }; number = 0 }) left

-- ---- declared variables

abbrev pub initial : Option Init → List Answer → Made Operands
initial None left = made NoOperands left
initial (Some i) left = let o = an_operand left in made (one_operand o.it) o.left

abbrev pub declared_more : Declared → Var → List Answer → Made Declared
declared_more before v left =
    let l = a_local left in let o = initial v.init l.left in made (MoreDeclared before l.it.place l.it.number o.it) o.left

abbrev pub declared_all : Declared → List Var → List Answer → Made Declared
declared_all before [] left = made before left
declared_all before (v ∷ vs) left = let d = declared_more before v left in declared_all d.it vs d.left

abbrev pub declared_in : LocalVars → List Answer → Made Declared
declared_in ls left = declared_all NoDeclared (ls.first ∷ ls.more) left

-- ---- statements

-- a statement by where jumps go, and the answers that are left; and the loop that it is, as its plan has it
pub record Assembled : Type 0 where
  pub make : Jumps → List Answer → Made Stmt
  pub start : ℕ
  pub loop : Option ℕ

-- at an offset of a file
abbrev pub at : ℕ → ℕ → Place
at file n = record { file = file; at = n }

abbrev pub plainly : ℕ → ℕ → (Jumps → List Answer → Made StmtForm) → Assembled
plainly file n f = record { make = λ j left. let m = f j left in made (stmt (at file n) m.it) m.left; start = n; loop = None }

abbrev pub looping : ℕ → ℕ → (Jumps → List Answer → Made StmtForm) → Assembled
looping file n f = record { make = λ j left. let m = f (inside (OfLoop n) j) left in made (stmt (at file n) m.it) m.left; start = n; loop = Some n }

abbrev pub stmts_behind : Stmts → List Assembled → Jumps → List Answer → Made Stmts
stmts_behind before [] j left = made before left
stmts_behind before (a ∷ rest) j left = let s = a.make j left in stmts_behind (MoreStmts before s.it) rest j s.left

abbrev pub all_stmts : List Assembled → Jumps → List Answer → Made Stmts
all_stmts ss j left = stmts_behind NoStmts ss j left

-- a block at an offset
abbrev pub block : ℕ → ℕ → List Assembled → Jumps → List Answer → Made Stmt
block file n ss j left = let m = all_stmts ss j left in made (stmt (at file n) (Block m.it)) m.left

-- the one statement behind a test; no statement stands for an empty one
abbrev pub only_stmt : ℕ → ℕ → List Assembled → Jumps → List Answer → Made Stmt
only_stmt file n [] j left = made (stmt (at file n) Empty) left
only_stmt file n (a ∷ rest) j left = a.make j left

-- a part of a statement, with its head
pub record Group : Type 0 where
  pub at : ℕ
  pub head : ClauseHead
  pub items : List Assembled

abbrev pub clause_step : Clause-F (Unit {0}) Assembled Group (Unit {0}) → Group
clause_step c = record { at = c.at; head = c.head; items = c.items }

-- ---- `if` (JLS 14.9)

abbrev pub arms : ℕ → Arms → List Group → Jumps → List Answer → Made Arms
arms file before [] j left = made before left
arms file before (g ∷ gs) j left =
    let test = an_operand left in let body = only_stmt file g.at g.items j test.left in arms file (MoreArms before test.it body.it) gs j body.left

abbrev pub if_form : ℕ → List Group → List Assembled → Jumps → List Answer → Made StmtForm
if_form file gs otherwise j left =
    let a = arms file NoArms gs j left in let o = all_stmts otherwise j a.left in made (If a.it o.it) o.left

abbrev pub first_at : List Group → ℕ
first_at [] = 0
first_at (g ∷ gs) = g.at

-- ---- loops (JLS 14.12 to 14.14)

abbrev pub while_form : ℕ → Assembled → Jumps → List Answer → Made StmtForm
while_form n body j left = let test = an_operand left in let b = body.make j test.left in made (While n test.it b.it) b.left

abbrev pub do_form : ℕ → Assembled → Jumps → List Answer → Made StmtForm
do_form n body j left = let b = body.make j left in let test = an_operand b.left in made (Do n b.it test.it) test.left

-- what the head of a `for` declares, or else the expressions that it begins with
pub record Begun : Type 0 where
  pub declared : Declared
  pub before : Operands

abbrev pub begun : ForInit → List Answer → Made Begun
begun (for_init.Local ls) left = let d = declared_in ls left in made (record { declared = d.it; before = NoOperands }) d.left
begun (for_init.Effects es) left = let o = some_operands es left in made (record { declared = NoDeclared; before = o.it }) o.left

abbrev pub basic_form : ℕ → ForInit → Option Parsed → List Parsed → Assembled → Jumps → List Answer → Made StmtForm
basic_form n init test update body j left =
    let b = begun init left in
    let t = an_operand_if test b.left in
    let u = some_operands update t.left in
    let s = body.make j u.left in
    made (For n b.it.declared b.it.before t.it u.it s.it) s.left

abbrev pub each_of : ℕ → Elements → ℕ → Stmt → StmtForm
each_of n e l body = each_by n e l body e.is_array
  where
    each_by : ℕ → Elements → ℕ → Stmt → Bool → StmtForm
    each_by n e l body true = ForArray n e.of_it e.ty e.captures e.steps l body
    each_by n e l body false = ForIterable n e.of_it e.ty e.captures e.steps l body

abbrev pub each_form : ℕ → Assembled → Jumps → List Answer → Made StmtForm
each_form n body j (AnEach e ∷ left) =
    let l = a_local left in let s = body.make j l.left in made (each_of n e l.it.number s.it) s.left
each_form n body j left = made Empty left

abbrev pub for_form : ℕ → ForHead → Assembled → Jumps → List Answer → Made StmtForm
for_form n (for_head.Basic init test update) body j left = basic_form n init test update body j left
for_form n (for_head.Enhanced modifiers ty name dims iterable) body j left = each_form n body j left

-- ---- `switch` (JLS 14.11)

-- labels and statements so far, and how many statements these are
pub record Cased : Type 0 where
  pub cases : List Case
  pub stmts : Stmts
  pub count : ℕ

abbrev pub count_of : Stmts → ℕ
count_of NoStmts = 0
count_of (MoreStmts before last) = count_of before + 1

abbrev pub a_case : ClauseHead → ℕ → List Answer → Made Case
a_case (head.Case e) n (AKey key named ∷ left) = made (record { key = Some key; skips = n; named = named }) left
a_case h n left = made (record { key = None; skips = n; named = [] }) left

abbrev pub cased_more : Cased → Group → Jumps → List Answer → Made Cased
cased_more c g j left =
    let k = a_case g.head (count_of c.stmts) left in
    let s = stmts_behind c.stmts g.items j k.left in
    made (record { cases = c.cases ++ k.it ∷ []; stmts = s.it; count = count_of s.it }) s.left

abbrev pub cased : Cased → List Group → Jumps → List Answer → Made Cased
cased c [] j left = made c left
cased c (g ∷ gs) j left = let d = cased_more c g j left in cased d.it gs j d.left

abbrev pub switch_form : ℕ → List Group → Jumps → List Answer → Made StmtForm
switch_form n gs j left =
    let o = an_operand left in
    let c = cased (record { cases = []; stmts = NoStmts; count = 0 }) gs (inside (OfSwitch n) j) o.left in
    made (Switch n o.it c.it.cases c.it.stmts) c.left

-- ---- jumps (JLS 14.15 to 14.17)

abbrev pub or_zero : Option ℕ → ℕ
or_zero (Some n) = n
or_zero None = 0

-- ---- `try` (JLS 14.20)

pub record Clauses : Type 0 where
  pub catches : Catches
  pub last : Stmts

abbrev pub caught_types : List Answer → Made (List Ty)
caught_types (SomeTypes ts ∷ left) = made ts left
caught_types left = made [] left

abbrev pub a_catch : ℕ → Clauses → Group → Jumps → List Answer → Made Clauses
a_catch file c g j left =
    let ts = caught_types left in
    let l = a_local ts.left in
    let b = block file g.at g.items j l.left in
    made (record { catches = MoreCatches c.catches (at file g.at) l.it.number ts.it b.it; last = c.last }) b.left

abbrev pub a_finally : ℕ → Clauses → Group → Jumps → List Answer → Made Clauses
a_finally file c g j left = let b = block file g.at g.items j left in made (record { catches = c.catches; last = MoreStmts NoStmts b.it }) b.left

abbrev pub a_clause : ℕ → Clauses → Group → ClauseHead → Jumps → List Answer → Made Clauses
a_clause file c g (head.Catch modifiers first more name) j left = a_catch file c g j left
a_clause file c g h j left = a_finally file c g j left

abbrev pub clauses : ℕ → Clauses → List Group → Jumps → List Answer → Made Clauses
clauses file c [] j left = made c left
clauses file c (g ∷ gs) j left = let d = a_clause file c g g.head j left in clauses file d.it gs j d.left

abbrev pub try_form : ℕ → ℕ → List Assembled → List Group → Jumps → List Answer → Made StmtForm
try_form file n items gs j left =
    let b = block file n items j left in
    let c = clauses file (record { catches = NoCatches; last = NoStmts }) gs j b.left in
    made (Try b.it c.it.catches c.it.last (capped (copies_of b.it c.it.catches))) c.left

-- ---- a row for each form

abbrev pub labelled : ℕ → ℕ → List ℕ → Assembled → Assembled
labelled file n text body =
    record {
      make = λ j left. let b = body.make (inside (OfLabel n text body.loop) j) left in made (stmt (at file n) (Labelled n b.it)) b.left;
      start = n;
      loop = None;
    }

abbrev pub stmt_step : ℕ → Stmt-F (Unit {0}) Assembled Group (Unit {0}) → Assembled
stmt_step file (Stmt-F.Local it) = plainly file (first_offset_of_locals it) (λ j left. let d = declared_in it left in made (Locals d.it) d.left)
stmt_step file (Stmt-F.Declared it) = plainly file 0 (λ j left. made Empty left)
stmt_step file (Stmt-F.Block n items) = plainly file n (λ j left. let m = all_stmts items j left in made (Block m.it) m.left)
stmt_step file (Stmt-F.Empty n) = plainly file n (λ j left. made Empty left)
stmt_step file (Stmt-F.Effect it) = plainly file (first_offset_of_expr it) (λ j left. let o = an_operand left in made (Effect o.it) o.left)
stmt_step file (Stmt-F.Labeled label body) = labelled file label.at label.text body
stmt_step file (Stmt-F.If gs otherwise) = plainly file (first_at gs) (if_form file gs otherwise)
stmt_step file (Stmt-F.While n test body) = looping file n (while_form n body)
stmt_step file (Stmt-F.Do n body test) = looping file n (do_form n body)
stmt_step file (Stmt-F.For n head body) = looping file n (for_form n head body)
stmt_step file (Stmt-F.Switch n selector groups) = plainly file n (switch_form n groups)
stmt_step file (Stmt-F.Return n value) = plainly file n (λ j left. let o = an_operand_if value left in made (Return o.it) o.left)
stmt_step file (Stmt-F.Break n label) = plainly file n (λ j left. made (Break (or_zero (break_target label j))) left)
stmt_step file (Stmt-F.Continue n label) = plainly file n (λ j left. made (Continue (or_zero (continue_target label j))) left)
stmt_step file (Stmt-F.Throw n value) = plainly file n (λ j left. let o = an_operand left in made (Throw o.it) o.left)
stmt_step file (Stmt-F.Try n resources items gs) = plainly file n (try_form file n items gs)
stmt_step file (Stmt-F.ThisCall n actuals) = plainly file n (λ j left. made Empty left)
stmt_step file (Stmt-F.SuperCall n actuals) = plainly file n (λ j left. made Empty left)

unfoldable pub assembled : ℕ → Source → Assembled
assembled file s = fold-Stmt (Unit {0}) Assembled Group (Unit {0}) (λ m. tt) (stmt_step file) clause_step (λ d. tt) s

-- statements of a file that follow one another
unfoldable pub assemble : ℕ → Jumps → List Source → List Answer → Made Stmts
assemble file j ss left = all_stmts (map (assembled file) ss) j left
