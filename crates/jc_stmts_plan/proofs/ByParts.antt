-- The plan of a statement by its parts.
use Rattle.std.proofs.Common.{◌≡◌, ℕ, ◌||◌, Bool, false, List, [], ◌∷◌, ◌++◌, Option, Some, None, map, refl, ap, ◌∙◌}
use Rattle.jc_tree.specs.declared.expression.Expr.{Expr}
use Rattle.jc_tree.specs.declared.name.Ident.{Ident}
use Rattle.jc_tree.specs.declared.statement.Clause.{Clause, out-Clause, map-Clause, fold_out-Clause}
use Rattle.jc_tree.specs.declared.statement.Declaration.{Declaration, fold-Declaration}
use Rattle.jc_tree.specs.declared.statement.ForHead.{ForHead}
use Rattle.jc_tree.specs.declared.statement.ForHead.TheVariants as for_head
use Rattle.jc_tree.specs.declared.statement.LocalVars.{LocalVars}
use Rattle.jc_tree.specs.declared.statement.Member.{Member, fold-Member}
use Rattle.jc_tree.specs.declared.statement.Resources.{Resources}
use Rattle.jc_tree.specs.declared.statement.Stmt.TheVariants as anStmt
use Rattle.jc_tree.specs.declared.statement.Stmt.{Stmt, out-Stmt, map-Stmt, fold_out-Stmt, Stmt-F}
use Rattle.jc_stmts_spec.specs.Plans.{Ask, Effect, Truth, Selector, Thrown, Jumps, OfLoop, OfSwitch, OfLabel, Planned, Group, planned, planned_clause, plan, in_turn, inside, enclosed, label_items, of_locals, return_items, jump_items, break_target, continue_target, head_items, is_default, arm_items, group_items, clause_items, for_items, stmt_step, clause_step}
use Rattle.jc_stmts_plan.specs.Flat.{items_of, loop_of, all_items, part_items, has_default, arms_items, groups_items, catches_items, for_begun}

-- ---- the fold, one layer at a time

of_member : Member → Unit {0}
of_member m = fold-Member (Unit {0}) Planned Group (Unit {0}) (λ x. tt) stmt_step clause_step (λ d. tt) m

of_declaration : Declaration → Unit {0}
of_declaration d = fold-Declaration (Unit {0}) Planned Group (Unit {0}) (λ x. tt) stmt_step clause_step (λ x. tt) d

planned-out : (node : Stmt) → planned node ≡ stmt_step (map-Stmt Member Stmt Clause Declaration (Unit {0}) Planned Group (Unit {0}) of_member planned planned_clause of_declaration (out-Stmt node))
unfolding planned planned_clause of_member of_declaration
planned-out node = fold_out-Stmt (Unit {0}) Planned Group (Unit {0}) (λ x. tt) stmt_step clause_step (λ d. tt) node

planned-at : (node : Stmt) (l : Stmt-F Member Stmt Clause Declaration) → out-Stmt node ≡ l → planned node ≡ stmt_step (map-Stmt Member Stmt Clause Declaration (Unit {0}) Planned Group (Unit {0}) of_member planned planned_clause of_declaration l)
planned-at node l e = planned-out node ∙ ap (λ (l : Stmt-F Member Stmt Clause Declaration). stmt_step (map-Stmt Member Stmt Clause Declaration (Unit {0}) Planned Group (Unit {0}) of_member planned planned_clause of_declaration l)) e

clause-out : (node : Clause) → planned_clause node ≡ clause_step (map-Clause Member Stmt Clause Declaration (Unit {0}) Planned Group (Unit {0}) of_member planned planned_clause of_declaration (out-Clause node))
unfolding planned planned_clause of_member of_declaration
clause-out node = fold_out-Clause (Unit {0}) Planned Group (Unit {0}) (λ x. tt) stmt_step clause_step (λ d. tt) node

clause-parts : (node : Clause) → planned_clause node ≡ record { at = (out-Clause node).at; head = (out-Clause node).head; items = map planned (out-Clause node).items }
clause-parts node = clause-out node

-- ---- lists of parts

turned : (ss : List Stmt) (j : Jumps) → in_turn (map planned ss) j ≡ all_items ss j
unfolding items_of
turned [] j = refl
turned (s ∷ ss) j = ap (λ xs. (planned s).items j ++ xs) (turned ss j)

part_turned : (had : Bool) (c : Clause) (j : Jumps) → head_items (planned_clause c).at had (planned_clause c).head ++ in_turn (planned_clause c).items j ≡ part_items had c j
part_turned had c j =
    ap (λ (g : Group). head_items g.at had g.head ++ in_turn g.items j) (clause-parts c)
    ∙ ap (λ xs. head_items (out-Clause c).at had (out-Clause c).head ++ xs) (turned (out-Clause c).items j)

arms_turned : (cs : List Clause) (j : Jumps) → arm_items (map planned_clause cs) j ≡ arms_items cs j
arms_turned [] j = refl
arms_turned (c ∷ cs) j =
    ap (λ xs. xs ++ arm_items (map planned_clause cs) j) (part_turned false c j) ∙ ap (λ xs. part_items false c j ++ xs) (arms_turned cs j)

groups_turned : (had : Bool) (cs : List Clause) (j : Jumps) → group_items had (map planned_clause cs) j ≡ groups_items had cs j
groups_turned had [] j = refl
groups_turned had (c ∷ cs) j =
    ap (λ xs. xs ++ group_items (had || is_default (planned_clause c).head) (map planned_clause cs) j) (part_turned had c j)
    ∙ ap (λ (g : Group). part_items had c j ++ group_items (had || is_default g.head) (map planned_clause cs) j) (clause-parts c)
    ∙ ap (λ xs. part_items had c j ++ xs) (groups_turned (had || has_default c) cs j)

catches_turned : (cs : List Clause) (j : Jumps) → clause_items (map planned_clause cs) j ≡ catches_items cs j
catches_turned [] j = refl
catches_turned (c ∷ cs) j =
    ap (λ xs. enclosed xs ++ clause_items (map planned_clause cs) j) (part_turned false c j)
    ∙ ap (λ xs. enclosed (part_items false c j) ++ xs) (catches_turned cs j)

for_parts : (head : ForHead) (body : Planned) (j : Jumps) → for_items head body j ≡ enclosed (for_begun head ++ body.items j)
for_parts (for_head.Basic init test update) body j = refl
for_parts (for_head.Enhanced modifiers ty name dims iterable) body j = refl

-- ---- each form

items-at : (node : Stmt) (l : Stmt-F Member Stmt Clause Declaration) → out-Stmt node ≡ l → (j : Jumps) → items_of node j ≡ (stmt_step (map-Stmt Member Stmt Clause Declaration (Unit {0}) Planned Group (Unit {0}) of_member planned planned_clause of_declaration l)).items j
unfolding items_of
items-at node l e j = ap (λ (p : Planned). p.items j) (planned-at node l e)

loop-at : (node : Stmt) (l : Stmt-F Member Stmt Clause Declaration) → out-Stmt node ≡ l → loop_of node ≡ (stmt_step (map-Stmt Member Stmt Clause Declaration (Unit {0}) Planned Group (Unit {0}) of_member planned planned_clause of_declaration l)).loop
unfolding loop_of
loop-at node l e = ap (λ (p : Planned). p.loop) (planned-at node l e)

pub items-Local : (it : LocalVars) (j : Jumps) → items_of (anStmt.Local it) j ≡ of_locals it
items-Local it j = items-at (anStmt.Local it) _ (anStmt.outs-Local it) j

pub items-Declared : (it : Declaration) (j : Jumps) → items_of (anStmt.Declared it) j ≡ []
items-Declared it j = items-at (anStmt.Declared it) _ (anStmt.outs-Declared it) j

pub items-Block : (at : ℕ) (items : List Stmt) (j : Jumps) → items_of (anStmt.Block at items) j ≡ enclosed (all_items items j)
items-Block at items j = items-at (anStmt.Block at items) _ (anStmt.outs-Block at items) j ∙ ap enclosed (turned items j)

pub items-Empty : (at : ℕ) (j : Jumps) → items_of (anStmt.Empty at) j ≡ []
items-Empty at j = items-at (anStmt.Empty at) _ (anStmt.outs-Empty at) j

pub items-Effect : (it : Expr) (j : Jumps) → items_of (anStmt.Effect it) j ≡ Ask it Effect ∷ []
items-Effect it j = items-at (anStmt.Effect it) _ (anStmt.outs-Effect it) j

pub items-Labeled : (label : Ident) (body : Stmt) (j : Jumps) → items_of (anStmt.Labeled label body) j ≡ label_items label j ++ items_of body (inside (OfLabel label.at label.text (loop_of body)) j)
unfolding items_of loop_of
items-Labeled label body j = items-at (anStmt.Labeled label body) _ (anStmt.outs-Labeled label body) j

pub items-If : (arms : List Clause) (otherwise : List Stmt) (j : Jumps) → items_of (anStmt.If arms otherwise) j ≡ arms_items arms j ++ all_items otherwise j
items-If arms otherwise j = items-at (anStmt.If arms otherwise) _ (anStmt.outs-If arms otherwise) j
    ∙ ap (λ xs. xs ++ in_turn (map planned otherwise) j) (arms_turned arms j)
    ∙ ap (λ xs. arms_items arms j ++ xs) (turned otherwise j)

pub items-While : (at : ℕ) (test : Expr) (body : Stmt) (j : Jumps) → items_of (anStmt.While at test body) j ≡ Ask test Truth ∷ items_of body (inside (OfLoop at) j)
unfolding items_of loop_of
items-While at test body j = items-at (anStmt.While at test body) _ (anStmt.outs-While at test body) j

pub items-Do : (at : ℕ) (body : Stmt) (test : Expr) (j : Jumps) → items_of (anStmt.Do at body test) j ≡ items_of body (inside (OfLoop at) j) ++ Ask test Truth ∷ []
unfolding items_of loop_of
items-Do at body test j = items-at (anStmt.Do at body test) _ (anStmt.outs-Do at body test) j

pub items-For : (at : ℕ) (head : ForHead) (body : Stmt) (j : Jumps) → items_of (anStmt.For at head body) j ≡ enclosed (for_begun head ++ items_of body (inside (OfLoop at) j))
unfolding items_of loop_of
items-For at head body j = items-at (anStmt.For at head body) _ (anStmt.outs-For at head body) j ∙ for_parts head (planned body) (inside (OfLoop at) j)

pub items-Switch : (at : ℕ) (selector : Expr) (groups : List Clause) (j : Jumps) → items_of (anStmt.Switch at selector groups) j ≡ enclosed (Ask selector Selector ∷ groups_items false groups (inside (OfSwitch at) j))
items-Switch at selector groups j = items-at (anStmt.Switch at selector groups) _ (anStmt.outs-Switch at selector groups) j
    ∙ ap (λ xs. enclosed (Ask selector Selector ∷ xs)) (groups_turned false groups (inside (OfSwitch at) j))

pub items-Return : (at : ℕ) (value : Option Expr) (j : Jumps) → items_of (anStmt.Return at value) j ≡ return_items at j.returns value
items-Return at value j = items-at (anStmt.Return at value) _ (anStmt.outs-Return at value) j

pub items-Break : (at : ℕ) (label : Option Ident) (j : Jumps) → items_of (anStmt.Break at label) j ≡ jump_items at (break_target label j)
items-Break at label j = items-at (anStmt.Break at label) _ (anStmt.outs-Break at label) j

pub items-Continue : (at : ℕ) (label : Option Ident) (j : Jumps) → items_of (anStmt.Continue at label) j ≡ jump_items at (continue_target label j)
items-Continue at label j = items-at (anStmt.Continue at label) _ (anStmt.outs-Continue at label) j

pub items-Throw : (at : ℕ) (value : Expr) (j : Jumps) → items_of (anStmt.Throw at value) j ≡ Ask value (Thrown at) ∷ []
items-Throw at value j = items-at (anStmt.Throw at value) _ (anStmt.outs-Throw at value) j

pub items-Try : (at : ℕ) (resources : Option Resources) (items : List Stmt) (clauses : List Clause) (j : Jumps) → items_of (anStmt.Try at resources items clauses) j ≡ enclosed (all_items items j) ++ catches_items clauses j
items-Try at resources items clauses j = items-at (anStmt.Try at resources items clauses) _ (anStmt.outs-Try at resources items clauses) j
    ∙ ap (λ xs. enclosed xs ++ clause_items (map planned_clause clauses) j) (turned items j)
    ∙ ap (λ xs. enclosed (all_items items j) ++ xs) (catches_turned clauses j)

pub items-ThisCall : (at : ℕ) (actuals : List Expr) (j : Jumps) → items_of (anStmt.ThisCall at actuals) j ≡ []
items-ThisCall at actuals j = items-at (anStmt.ThisCall at actuals) _ (anStmt.outs-ThisCall at actuals) j

pub items-SuperCall : (at : ℕ) (actuals : List Expr) (j : Jumps) → items_of (anStmt.SuperCall at actuals) j ≡ []
items-SuperCall at actuals j = items-at (anStmt.SuperCall at actuals) _ (anStmt.outs-SuperCall at actuals) j

pub loop-Local : (it : LocalVars) → loop_of (anStmt.Local it) ≡ None
loop-Local it = loop-at (anStmt.Local it) _ (anStmt.outs-Local it)

pub loop-Declared : (it : Declaration) → loop_of (anStmt.Declared it) ≡ None
loop-Declared it = loop-at (anStmt.Declared it) _ (anStmt.outs-Declared it)

pub loop-Block : (at : ℕ) (items : List Stmt) → loop_of (anStmt.Block at items) ≡ None
loop-Block at items = loop-at (anStmt.Block at items) _ (anStmt.outs-Block at items)

pub loop-Empty : (at : ℕ) → loop_of (anStmt.Empty at) ≡ None
loop-Empty at = loop-at (anStmt.Empty at) _ (anStmt.outs-Empty at)

pub loop-Effect : (it : Expr) → loop_of (anStmt.Effect it) ≡ None
loop-Effect it = loop-at (anStmt.Effect it) _ (anStmt.outs-Effect it)

pub loop-Labeled : (label : Ident) (body : Stmt) → loop_of (anStmt.Labeled label body) ≡ None
loop-Labeled label body = loop-at (anStmt.Labeled label body) _ (anStmt.outs-Labeled label body)

pub loop-If : (arms : List Clause) (otherwise : List Stmt) → loop_of (anStmt.If arms otherwise) ≡ None
loop-If arms otherwise = loop-at (anStmt.If arms otherwise) _ (anStmt.outs-If arms otherwise)

pub loop-While : (at : ℕ) (test : Expr) (body : Stmt) → loop_of (anStmt.While at test body) ≡ Some at
loop-While at test body = loop-at (anStmt.While at test body) _ (anStmt.outs-While at test body)

pub loop-Do : (at : ℕ) (body : Stmt) (test : Expr) → loop_of (anStmt.Do at body test) ≡ Some at
loop-Do at body test = loop-at (anStmt.Do at body test) _ (anStmt.outs-Do at body test)

pub loop-For : (at : ℕ) (head : ForHead) (body : Stmt) → loop_of (anStmt.For at head body) ≡ Some at
loop-For at head body = loop-at (anStmt.For at head body) _ (anStmt.outs-For at head body)

pub loop-Switch : (at : ℕ) (selector : Expr) (groups : List Clause) → loop_of (anStmt.Switch at selector groups) ≡ None
loop-Switch at selector groups = loop-at (anStmt.Switch at selector groups) _ (anStmt.outs-Switch at selector groups)

pub loop-Return : (at : ℕ) (value : Option Expr) → loop_of (anStmt.Return at value) ≡ None
loop-Return at value = loop-at (anStmt.Return at value) _ (anStmt.outs-Return at value)

pub loop-Break : (at : ℕ) (label : Option Ident) → loop_of (anStmt.Break at label) ≡ None
loop-Break at label = loop-at (anStmt.Break at label) _ (anStmt.outs-Break at label)

pub loop-Continue : (at : ℕ) (label : Option Ident) → loop_of (anStmt.Continue at label) ≡ None
loop-Continue at label = loop-at (anStmt.Continue at label) _ (anStmt.outs-Continue at label)

pub loop-Throw : (at : ℕ) (value : Expr) → loop_of (anStmt.Throw at value) ≡ None
loop-Throw at value = loop-at (anStmt.Throw at value) _ (anStmt.outs-Throw at value)

pub loop-Try : (at : ℕ) (resources : Option Resources) (items : List Stmt) (clauses : List Clause) → loop_of (anStmt.Try at resources items clauses) ≡ None
loop-Try at resources items clauses = loop-at (anStmt.Try at resources items clauses) _ (anStmt.outs-Try at resources items clauses)

pub loop-ThisCall : (at : ℕ) (actuals : List Expr) → loop_of (anStmt.ThisCall at actuals) ≡ None
loop-ThisCall at actuals = loop-at (anStmt.ThisCall at actuals) _ (anStmt.outs-ThisCall at actuals)

pub loop-SuperCall : (at : ℕ) (actuals : List Expr) → loop_of (anStmt.SuperCall at actuals) ≡ None
loop-SuperCall at actuals = loop-at (anStmt.SuperCall at actuals) _ (anStmt.outs-SuperCall at actuals)

-- ---- the whole

pub plan_is : (j : Jumps) (ss : List Stmt) → plan j ss ≡ all_items ss j
unfolding plan
plan_is j ss = turned ss j

pub ruleset statements = (items-Local, items-Declared, items-Block, items-Empty, items-Effect, items-Labeled, items-If, items-While, items-Do, items-For, items-Switch, items-Return, items-Break, items-Continue, items-Throw, items-Try, items-ThisCall, items-SuperCall)

pub ruleset loops = (loop-Local, loop-Declared, loop-Block, loop-Empty, loop-Effect, loop-Labeled, loop-If, loop-While, loop-Do, loop-For, loop-Switch, loop-Return, loop-Break, loop-Continue, loop-Throw, loop-Try, loop-ThisCall, loop-SuperCall)

pub ruleset whole = (plan_is)
