-- The typed statement of each form by its parts.
use Rattle.std.proofs.Common.{◌≡◌, ℕ, List, [], ◌∷◌, ◌++◌, map, Option, refl, ap, ◌∙◌}
use Rattle.jc_tree.specs.declared.expression.Expr.{Expr}
use Rattle.jc_tree.specs.declared.name.Ident.{Ident}
use Rattle.jc_tree.specs.declared.statement.Clause.{Clause, fold_out-Clause, out-Clause}
use Rattle.jc_tree.specs.declared.statement.ClauseHead.{ClauseHead}
use Rattle.jc_tree.specs.declared.statement.ClauseHead.TheVariants as head
use Rattle.jc_tree.specs.declared.statement.Declaration.{Declaration}
use Rattle.jc_tree.specs.declared.statement.ForHead.{ForHead}
use Rattle.jc_tree.specs.declared.statement.ForHead.TheVariants as for_head
use Rattle.jc_tree.specs.declared.statement.LocalVars.{LocalVars}
use Rattle.jc_tree.specs.declared.statement.Member.{Member}
use Rattle.jc_tree.specs.declared.statement.Resources.{Resources}
use Rattle.jc_tree.specs.declared.statement.Stmt.{Stmt as Source, Stmt-F, fold_out-Stmt, out-Stmt}
use Rattle.jc_tree.specs.declared.statement.Stmt.TheVariants as anStmt
use Rattle.jc_tree.specs.Offsets.{first_offset_of_expr, first_offset_of_locals}
use Rattle.jc_typed.specs.Bulk.{capped}
use Rattle.jc_typed.specs.Copies.{copies_of}
use Rattle.jc_typed.specs.Trees.{Stmt, stmt, Empty, Block, Locals, Effect, If, Labelled, Switch, Return, Break, Continue, Throw, Try, Stmts, NoStmts, MoreStmts, Arms, NoArms, MoreArms, NoCatches, MoreCatches}
use Rattle.jc_stmts_spec.specs.Courses.{Answer, AnOperand, ALocal, AKey, AnEach, SomeTypes}
use Rattle.jc_stmts_spec.specs.Plans.{Jumps, OfLoop, OfSwitch, OfLabel, inside, break_target, continue_target}
use Rattle.jc_stmts_spec.specs.Assembling.{Assembled, Cased, Clauses, Group, Made, a_case, a_clause, a_local, an_operand, an_operand_if, arms, assemble, assembled, at, block, cased, cased_more, caught_types, clause_step, clauses, count_of, declared_in, first_at, for_form, made, only_stmt, or_zero, stmt_step, stmts_behind}
use Rattle.jc_stmts_assembling.specs.Heads.{head_made}
use Rattle.jc_stmts_assembling.specs.Flat.{ClauseLayer, arm_made, arms_made, block_made, catch_made, clause_made, clauses_made, do_made, each_made, finally_made, first_arm, for_made, group_made, groups_made, if_made, labelled_made, made_of, only_made, over_made, stmts_made, switch_made, try_made, while_made}
use Rattle.jc_stmts_assembling.proofs.Loops.{clause_of, declaration_of, layer, loop_agrees, member_of}

-- ---- one layer at a time

assembled-out : (file : ℕ) (node : Source) → assembled file node ≡ stmt_step file (layer file (out-Stmt node))
unfolding assembled clause_of member_of declaration_of
assembled-out file node = fold_out-Stmt (Unit {0}) Assembled Group (Unit {0}) (λ x. tt) (stmt_step file) clause_step (λ d. tt) node

made-at : (file : ℕ) (node : Source) (l : Stmt-F Member Source Clause Declaration) → out-Stmt node ≡ l → (j : Jumps) (left : List Answer) →
    made_of file node j left ≡ (stmt_step file (layer file l)).make j left
unfolding made_of
made-at file node l e j left =
    ap (λ (a : Assembled). a.make j left) (assembled-out file node ∙ ap (λ (l : Stmt-F Member Source Clause Declaration). stmt_step file (layer file l)) e)

abbrev group_of : ℕ → ClauseLayer → Group
group_of file l = record { at = l.at; head = l.head; items = map (assembled file) l.items }

clause-parts : (file : ℕ) (c : Clause) → clause_of file c ≡ group_of file (out-Clause c)
unfolding assembled clause_of member_of declaration_of
clause-parts file c = fold_out-Clause (Unit {0}) Assembled Group (Unit {0}) (λ x. tt) (stmt_step file) clause_step (λ d. tt) c

-- ---- lists of parts

stmts_are : (file : ℕ) (before : Stmts) (ss : List Source) (j : Jumps) (left : List Answer) → stmts_behind before (map (assembled file) ss) j left ≡ stmts_made file before ss j left
unfolding stmts_made made_of
stmts_are file before [] j left = refl
stmts_are file before (s ∷ ss) j left =
    let m = (assembled file s).make j left in stmts_are file (MoreStmts before m.it) ss j m.left

only_are : (file n : ℕ) (ss : List Source) (j : Jumps) (left : List Answer) → only_stmt file n (map (assembled file) ss) j left ≡ only_made file n ss j left
unfolding only_made made_of
only_are file n [] j left = refl
only_are file n (s ∷ ss) j left = refl

block_is : (file n : ℕ) (ss : List Source) (j : Jumps) (left : List Answer) → block file n (map (assembled file) ss) j left ≡ block_made file n ss j left
unfolding block_made
block_is file n ss j left = ap (λ (m : Made Stmts). made (stmt (at file n) (Block m.it)) m.left) (stmts_are file NoStmts ss j left)

arms_are : (file : ℕ) (before : Arms) (cs : List Clause) (j : Jumps) (left : List Answer) → arms file before (map (clause_of file) cs) j left ≡ arms_made file before cs j left
unfolding arms_made arm_made
arms_are file before [] j left = refl
arms_are file before (c ∷ cs) j left =
    let l = out-Clause c in
    let test = an_operand left in
    let body = only_made file l.at l.items j test.left in
    ap (λ (g : Group). arms file before (g ∷ map (clause_of file) cs) j left) (clause-parts file c)
    ∙ ap (λ (b : Made Stmt). arms file (MoreArms before test.it b.it) (map (clause_of file) cs) j b.left) (only_are file l.at l.items j test.left)
    ∙ arms_are file (MoreArms before test.it body.it) cs j body.left

group_is : (file : ℕ) (c : Cased) (l : ClauseLayer) (j : Jumps) (left : List Answer) → cased_more c (group_of file l) j left ≡ group_made file c l j left
unfolding group_made
group_is file c l j left =
    let k = a_case l.head (count_of c.stmts) left in
    ap (λ (s : Made Stmts). made (let x : Cased = record { cases = c.cases ++ k.it ∷ []; stmts = s.it; count = count_of s.it } in x) s.left) (stmts_are file c.stmts l.items j k.left)

groups_are : (file : ℕ) (c : Cased) (gs : List Clause) (j : Jumps) (left : List Answer) → cased c (map (clause_of file) gs) j left ≡ groups_made file c gs j left
unfolding groups_made
groups_are file c [] j left = refl
groups_are file c (g ∷ gs) j left =
    let l = out-Clause g in
    let d = group_made file c l j left in
    ap (λ (x : Group). cased c (x ∷ map (clause_of file) gs) j left) (clause-parts file g)
    ∙ ap (λ (d : Made Cased). cased d.it (map (clause_of file) gs) j d.left) (group_is file c l j left)
    ∙ groups_are file d.it gs j d.left

finally_is : (file : ℕ) (c : Clauses) (l : ClauseLayer) (j : Jumps) (left : List Answer) →
    (let b = block file l.at (map (assembled file) l.items) j left in made (let x : Clauses = record { catches = c.catches; last = MoreStmts NoStmts b.it } in x) b.left) ≡ finally_made file c l j left
unfolding finally_made
finally_is file c l j left =
    ap (λ (b : Made Stmt). made (let x : Clauses = record { catches = c.catches; last = MoreStmts NoStmts b.it } in x) b.left) (block_is file l.at l.items j left)

clause_is : (file : ℕ) (c : Clauses) (l : ClauseLayer) (h : ClauseHead) (j : Jumps) (left : List Answer) → a_clause file c (group_of file l) h j left ≡ clause_made file c l h j left
unfolding clause_made catch_made
clause_is file c l (head.If e) j left = finally_is file c l j left
clause_is file c l (head.Case e) j left = finally_is file c l j left
clause_is file c l head.Default j left = finally_is file c l j left
clause_is file c l (head.Catch modifiers first more name) j left =
    let ts = caught_types left in
    let v = a_local ts.left in
    ap (λ (b : Made Stmt). made (let x : Clauses = record { catches = MoreCatches c.catches (at file l.at) v.it.number ts.it b.it; last = c.last } in x) b.left) (block_is file l.at l.items j v.left)
clause_is file c l head.Finally j left = finally_is file c l j left

clauses_are : (file : ℕ) (c : Clauses) (gs : List Clause) (j : Jumps) (left : List Answer) → clauses file c (map (clause_of file) gs) j left ≡ clauses_made file c gs j left
unfolding clauses_made
clauses_are file c [] j left = refl
clauses_are file c (g ∷ gs) j left =
    let l = out-Clause g in
    let d = clause_made file c l l.head j left in
    ap (λ (x : Group). clauses file c (x ∷ map (clause_of file) gs) j left) (clause-parts file g)
    ∙ ap (λ (d : Made Clauses). clauses file d.it (map (clause_of file) gs) j d.left) (clause_is file c l l.head j left)
    ∙ clauses_are file d.it gs j d.left

first_is : (file : ℕ) (cs : List Clause) → first_at (map (clause_of file) cs) ≡ first_arm cs
first_is file [] = refl
first_is file (c ∷ cs) = ap (λ (g : Group). g.at) (clause-parts file c)

for_is : (file n : ℕ) (h : ForHead) (body : Source) (j : Jumps) (left : List Answer) →
    (let m = for_form n h (assembled file body) j left in made (stmt (at file n) m.it) m.left) ≡ for_made file n h body j left
unfolding for_made each_made over_made head_made made_of
for_is file n (for_head.Basic init test update) body j left = refl
for_is file n (for_head.Enhanced modifiers ty name dims iterable) body j [] = refl
for_is file n (for_head.Enhanced modifiers ty name dims iterable) body j (AnOperand o ∷ left) = refl
for_is file n (for_head.Enhanced modifiers ty name dims iterable) body j (ALocal place number ∷ left) = refl
for_is file n (for_head.Enhanced modifiers ty name dims iterable) body j (AKey value named ∷ left) = refl
for_is file n (for_head.Enhanced modifiers ty name dims iterable) body j (AnEach e ∷ left) = refl
for_is file n (for_head.Enhanced modifiers ty name dims iterable) body j (SomeTypes ts ∷ left) = refl

-- ---- each form

pub made-Local : (file : ℕ) (it : LocalVars) (j : Jumps) (left : List Answer) →
    made_of file (anStmt.Local it) j left ≡ (let d = declared_in it left in made (stmt (at file (first_offset_of_locals it)) (Locals d.it)) d.left)
made-Local file it j left = made-at file (anStmt.Local it) _ (anStmt.outs-Local it) j left

pub made-Declared : (file : ℕ) (it : Declaration) (j : Jumps) (left : List Answer) → made_of file (anStmt.Declared it) j left ≡ made (stmt (at file 0) Empty) left
made-Declared file it j left = made-at file (anStmt.Declared it) _ (anStmt.outs-Declared it) j left

pub made-Block : (file n : ℕ) (items : List Source) (j : Jumps) (left : List Answer) → made_of file (anStmt.Block n items) j left ≡ block_made file n items j left
made-Block file n items j left = made-at file (anStmt.Block n items) _ (anStmt.outs-Block n items) j left ∙ block_is file n items j left

pub made-Empty : (file n : ℕ) (j : Jumps) (left : List Answer) → made_of file (anStmt.Empty n) j left ≡ made (stmt (at file n) Empty) left
made-Empty file n j left = made-at file (anStmt.Empty n) _ (anStmt.outs-Empty n) j left

pub made-Effect : (file : ℕ) (it : Expr) (j : Jumps) (left : List Answer) →
    made_of file (anStmt.Effect it) j left ≡ (let o = an_operand left in made (stmt (at file (first_offset_of_expr it)) (Effect o.it)) o.left)
made-Effect file it j left = made-at file (anStmt.Effect it) _ (anStmt.outs-Effect it) j left

pub made-Labeled : (file : ℕ) (label : Ident) (body : Source) (j : Jumps) (left : List Answer) → made_of file (anStmt.Labeled label body) j left ≡ labelled_made file label.at label.text body j left
unfolding labelled_made made_of
made-Labeled file label body j left =
    made-at file (anStmt.Labeled label body) _ (anStmt.outs-Labeled label body) j left
    ∙ ap (λ (o : Option ℕ). let b = (assembled file body).make (inside (OfLabel label.at label.text o) j) left in made (stmt (at file label.at) (Labelled label.at b.it)) b.left) (loop_agrees file body)

pub made-If : (file : ℕ) (cs : List Clause) (otherwise : List Source) (j : Jumps) (left : List Answer) → made_of file (anStmt.If cs otherwise) j left ≡ if_made file (first_arm cs) cs otherwise j left
unfolding if_made
made-If file cs otherwise j left =
    let a = arms_made file NoArms cs j left in
    made-at file (anStmt.If cs otherwise) _ (anStmt.outs-If cs otherwise) j left
    ∙ ap (λ n. let b = arms file NoArms (map (clause_of file) cs) j left in let o = stmts_behind NoStmts (map (assembled file) otherwise) j b.left in made (stmt (at file n) (If b.it o.it)) o.left) (first_is file cs)
    ∙ ap (λ (b : Made Arms). let o = stmts_behind NoStmts (map (assembled file) otherwise) j b.left in made (stmt (at file (first_arm cs)) (If b.it o.it)) o.left) (arms_are file NoArms cs j left)
    ∙ ap (λ (o : Made Stmts). made (stmt (at file (first_arm cs)) (If a.it o.it)) o.left) (stmts_are file NoStmts otherwise j a.left)

pub made-While : (file n : ℕ) (test : Expr) (body : Source) (j : Jumps) (left : List Answer) → made_of file (anStmt.While n test body) j left ≡ while_made file n body j left
unfolding while_made made_of
made-While file n test body j left = made-at file (anStmt.While n test body) _ (anStmt.outs-While n test body) j left

pub made-Do : (file n : ℕ) (body : Source) (test : Expr) (j : Jumps) (left : List Answer) → made_of file (anStmt.Do n body test) j left ≡ do_made file n body j left
unfolding do_made made_of
made-Do file n body test j left = made-at file (anStmt.Do n body test) _ (anStmt.outs-Do n body test) j left

pub made-For : (file n : ℕ) (h : ForHead) (body : Source) (j : Jumps) (left : List Answer) → made_of file (anStmt.For n h body) j left ≡ for_made file n h body (inside (OfLoop n) j) left
made-For file n h body j left = made-at file (anStmt.For n h body) _ (anStmt.outs-For n h body) j left ∙ for_is file n h body (inside (OfLoop n) j) left

pub made-Switch : (file n : ℕ) (selector : Expr) (gs : List Clause) (j : Jumps) (left : List Answer) → made_of file (anStmt.Switch n selector gs) j left ≡ switch_made file n gs j left
unfolding switch_made
made-Switch file n selector gs j left =
    let o = an_operand left in
    made-at file (anStmt.Switch n selector gs) _ (anStmt.outs-Switch n selector gs) j left
    ∙ ap (λ (c : Made Cased). made (stmt (at file n) (Switch n o.it c.it.cases c.it.stmts)) c.left) (groups_are file (record { cases = []; stmts = NoStmts; count = 0 }) gs (inside (OfSwitch n) j) o.left)

pub made-Return : (file n : ℕ) (value : Option Expr) (j : Jumps) (left : List Answer) →
    made_of file (anStmt.Return n value) j left ≡ (let o = an_operand_if value left in made (stmt (at file n) (Return o.it)) o.left)
made-Return file n value j left = made-at file (anStmt.Return n value) _ (anStmt.outs-Return n value) j left

pub made-Break : (file n : ℕ) (label : Option Ident) (j : Jumps) (left : List Answer) →
    made_of file (anStmt.Break n label) j left ≡ made (stmt (at file n) (Break (or_zero (break_target label j)))) left
made-Break file n label j left = made-at file (anStmt.Break n label) _ (anStmt.outs-Break n label) j left

pub made-Continue : (file n : ℕ) (label : Option Ident) (j : Jumps) (left : List Answer) →
    made_of file (anStmt.Continue n label) j left ≡ made (stmt (at file n) (Continue (or_zero (continue_target label j)))) left
made-Continue file n label j left = made-at file (anStmt.Continue n label) _ (anStmt.outs-Continue n label) j left

pub made-Throw : (file n : ℕ) (value : Expr) (j : Jumps) (left : List Answer) →
    made_of file (anStmt.Throw n value) j left ≡ (let o = an_operand left in made (stmt (at file n) (Throw o.it)) o.left)
made-Throw file n value j left = made-at file (anStmt.Throw n value) _ (anStmt.outs-Throw n value) j left

pub made-Try : (file n : ℕ) (resources : Option Resources) (items : List Source) (gs : List Clause) (j : Jumps) (left : List Answer) →
    made_of file (anStmt.Try n resources items gs) j left ≡ try_made file n items gs j left
unfolding try_made
made-Try file n resources items gs j left =
    let none : Clauses = record { catches = NoCatches; last = NoStmts } in
    let b = block_made file n items j left in
    made-at file (anStmt.Try n resources items gs) _ (anStmt.outs-Try n resources items gs) j left
    ∙ ap (λ (b : Made Stmt). let c = clauses file none (map (clause_of file) gs) j b.left in made (stmt (at file n) (Try b.it c.it.catches c.it.last (capped (copies_of b.it c.it.catches)))) c.left) (block_is file n items j left)
    ∙ ap (λ (c : Made Clauses). made (stmt (at file n) (Try b.it c.it.catches c.it.last (capped (copies_of b.it c.it.catches)))) c.left) (clauses_are file none gs j b.left)

pub made-ThisCall : (file n : ℕ) (actuals : List Expr) (j : Jumps) (left : List Answer) → made_of file (anStmt.ThisCall n actuals) j left ≡ made (stmt (at file n) Empty) left
made-ThisCall file n actuals j left = made-at file (anStmt.ThisCall n actuals) _ (anStmt.outs-ThisCall n actuals) j left

pub made-SuperCall : (file n : ℕ) (actuals : List Expr) (j : Jumps) (left : List Answer) → made_of file (anStmt.SuperCall n actuals) j left ≡ made (stmt (at file n) Empty) left
made-SuperCall file n actuals j left = made-at file (anStmt.SuperCall n actuals) _ (anStmt.outs-SuperCall n actuals) j left

-- ---- the whole

pub assemble_is : (file : ℕ) (j : Jumps) (ss : List Source) (left : List Answer) → assemble file j ss left ≡ stmts_made file NoStmts ss j left
unfolding assemble
assemble_is file j ss left = stmts_are file NoStmts ss j left

pub ruleset forms = (made-Local, made-Declared, made-Block, made-Empty, made-Effect, made-Labeled, made-If, made-While, made-Do, made-For, made-Switch, made-Return, made-Break, made-Continue, made-Throw, made-Try, made-ThisCall, made-SuperCall)

pub ruleset whole = (assemble_is)
