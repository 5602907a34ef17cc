-- The heights of annotations, statements and declarations by their parts.
use Rattle.std.proofs.Common.{ap, ◌∙◌}
use Rattle.std.specs.Prelude.{◌≡◌, Bool, List, Option, map, max, suc, ℕ}
use Rattle.jc_tree.specs.declared.expression.Expr.{Expr}
use Rattle.jc_tree.specs.declared.name.Ident.{Ident}
use Rattle.jc_tree.specs.declared.statement.AnnotationValue.{AnnotationValue, AnnotationValue-F, fold_out-AnnotationValue, map-AnnotationValue, out-AnnotationValue}
use Rattle.jc_tree.specs.declared.statement.AnnotationValue.TheVariants as anAnnotationValue
use Rattle.jc_tree.specs.declared.statement.Clause.{Clause, fold-roll-Clause, fold_out-Clause, map-Clause, out-Clause, roll-Clause}
use Rattle.jc_tree.specs.declared.statement.ClauseHead.{ClauseHead}
use Rattle.jc_tree.specs.declared.statement.Declaration.{Declaration, fold-roll-Declaration, fold_out-Declaration, map-Declaration, out-Declaration, roll-Declaration}
use Rattle.jc_tree.specs.declared.statement.DeclarationHead.{DeclarationHead}
use Rattle.jc_tree.specs.declared.statement.ForHead.{ForHead}
use Rattle.jc_tree.specs.declared.statement.LocalVars.{LocalVars}
use Rattle.jc_tree.specs.declared.statement.Member.{Member, Member-F, fold_out-Member, map-Member, out-Member}
use Rattle.jc_tree.specs.declared.statement.Member.TheVariants as anMember
use Rattle.jc_tree.specs.declared.statement.MethodHead.{MethodHead}
use Rattle.jc_tree.specs.declared.statement.Resources.{Resources}
use Rattle.jc_tree.specs.declared.statement.Stmt.{Stmt, Stmt-F, fold_out-Stmt, map-Stmt, out-Stmt}
use Rattle.jc_tree.specs.declared.statement.Stmt.TheVariants as anStmt
use Rattle.jc_tree.specs.Heights.{clause_head_height, clause_height, clause_step, declaration_height, declaration_step, effect_height, expr_height, for_height, head_height, in_some, local_height, member_height, member_step, method_height, most, resources_of_height, stmt_height, stmt_step, value_height, value_step}

pub value_height-out : (node : AnnotationValue) → value_height node ≡ value_step (map-AnnotationValue AnnotationValue ℕ value_height (out-AnnotationValue node))
unfolding value_height
value_height-out node = fold_out-AnnotationValue ℕ value_step node

value_height-at : (node : AnnotationValue) (l : AnnotationValue-F AnnotationValue) → out-AnnotationValue node ≡ l → value_height node ≡ value_step (map-AnnotationValue AnnotationValue ℕ value_height l)
value_height-at node l e = value_height-out node ∙ ap (λ (l : AnnotationValue-F AnnotationValue). value_step (map-AnnotationValue AnnotationValue ℕ value_height l)) e

pub value_height-Value : (it : Expr) → value_height (anAnnotationValue.Value it) ≡ expr_height it
value_height-Value it = value_height-at (anAnnotationValue.Value it) _ (anAnnotationValue.outs-Value it)

pub value_height-List : (at : ℕ) (values : List AnnotationValue) (trailing : Bool) → value_height (anAnnotationValue.List at values trailing) ≡ suc (most (map value_height values))
value_height-List at values trailing = value_height-at (anAnnotationValue.List at values trailing) _ (anAnnotationValue.outs-List at values trailing)

pub member_height-out : (node : Member) → member_height node ≡ member_step (map-Member Member Stmt Clause Declaration ℕ ℕ ℕ ℕ member_height stmt_height clause_height declaration_height (out-Member node))
unfolding member_height stmt_height clause_height declaration_height
member_height-out node = fold_out-Member ℕ ℕ ℕ ℕ member_step stmt_step clause_step declaration_step node

member_height-at : (node : Member) (l : Member-F Member Stmt Clause Declaration) → out-Member node ≡ l → member_height node ≡ member_step (map-Member Member Stmt Clause Declaration ℕ ℕ ℕ ℕ member_height stmt_height clause_height declaration_height l)
member_height-at node l e = member_height-out node ∙ ap (λ (l : Member-F Member Stmt Clause Declaration). member_step (map-Member Member Stmt Clause Declaration ℕ ℕ ℕ ℕ member_height stmt_height clause_height declaration_height l)) e

pub member_height-Semicolon : (at : ℕ) → member_height (anMember.Semicolon at) ≡ 0
member_height-Semicolon at = member_height-at (anMember.Semicolon at) _ (anMember.outs-Semicolon at)

pub member_height-Initialiser : (at : ℕ) (is_static : Bool) (items : List Stmt) → member_height (anMember.Initialiser at is_static items) ≡ most (map stmt_height items)
member_height-Initialiser at is_static items = member_height-at (anMember.Initialiser at is_static items) _ (anMember.outs-Initialiser at is_static items)

pub member_height-Fields : (it : LocalVars) → member_height (anMember.Fields it) ≡ local_height it
member_height-Fields it = member_height-at (anMember.Fields it) _ (anMember.outs-Fields it)

pub member_height-Bare : (head : MethodHead) → member_height (anMember.Bare head) ≡ method_height head
member_height-Bare head = member_height-at (anMember.Bare head) _ (anMember.outs-Bare head)

pub member_height-Method : (head : MethodHead) (items : List Stmt) → member_height (anMember.Method head items) ≡ max (method_height head) (most (map stmt_height items))
member_height-Method head items = member_height-at (anMember.Method head items) _ (anMember.outs-Method head items)

pub member_height-Nested : (it : Declaration) → member_height (anMember.Nested it) ≡ declaration_height it
member_height-Nested it = member_height-at (anMember.Nested it) _ (anMember.outs-Nested it)

pub stmt_height-out : (node : Stmt) → stmt_height node ≡ stmt_step (map-Stmt Member Stmt Clause Declaration ℕ ℕ ℕ ℕ member_height stmt_height clause_height declaration_height (out-Stmt node))
unfolding member_height stmt_height clause_height declaration_height
stmt_height-out node = fold_out-Stmt ℕ ℕ ℕ ℕ member_step stmt_step clause_step declaration_step node

stmt_height-at : (node : Stmt) (l : Stmt-F Member Stmt Clause Declaration) → out-Stmt node ≡ l → stmt_height node ≡ stmt_step (map-Stmt Member Stmt Clause Declaration ℕ ℕ ℕ ℕ member_height stmt_height clause_height declaration_height l)
stmt_height-at node l e = stmt_height-out node ∙ ap (λ (l : Stmt-F Member Stmt Clause Declaration). stmt_step (map-Stmt Member Stmt Clause Declaration ℕ ℕ ℕ ℕ member_height stmt_height clause_height declaration_height l)) e

pub stmt_height-Local : (it : LocalVars) → stmt_height (anStmt.Local it) ≡ suc (local_height it)
stmt_height-Local it = stmt_height-at (anStmt.Local it) _ (anStmt.outs-Local it)

pub stmt_height-Declared : (it : Declaration) → stmt_height (anStmt.Declared it) ≡ declaration_height it
stmt_height-Declared it = stmt_height-at (anStmt.Declared it) _ (anStmt.outs-Declared it)

pub stmt_height-Block : (at : ℕ) (items : List Stmt) → stmt_height (anStmt.Block at items) ≡ suc (most (map stmt_height items))
stmt_height-Block at items = stmt_height-at (anStmt.Block at items) _ (anStmt.outs-Block at items)

pub stmt_height-Empty : (at : ℕ) → stmt_height (anStmt.Empty at) ≡ suc 0
stmt_height-Empty at = stmt_height-at (anStmt.Empty at) _ (anStmt.outs-Empty at)

pub stmt_height-Effect : (it : Expr) → stmt_height (anStmt.Effect it) ≡ suc (effect_height it)
stmt_height-Effect it = stmt_height-at (anStmt.Effect it) _ (anStmt.outs-Effect it)

pub stmt_height-Labeled : (label : Ident) (body : Stmt) → stmt_height (anStmt.Labeled label body) ≡ suc (stmt_height body)
stmt_height-Labeled label body = stmt_height-at (anStmt.Labeled label body) _ (anStmt.outs-Labeled label body)

pub stmt_height-If : (arms : List Clause) (otherwise : List Stmt) → stmt_height (anStmt.If arms otherwise) ≡ suc (max (most (map clause_height arms)) (most (map stmt_height otherwise)))
stmt_height-If arms otherwise = stmt_height-at (anStmt.If arms otherwise) _ (anStmt.outs-If arms otherwise)

pub stmt_height-While : (at : ℕ) (test : Expr) (body : Stmt) → stmt_height (anStmt.While at test body) ≡ suc (max (expr_height test) (stmt_height body))
stmt_height-While at test body = stmt_height-at (anStmt.While at test body) _ (anStmt.outs-While at test body)

pub stmt_height-Do : (at : ℕ) (body : Stmt) (test : Expr) → stmt_height (anStmt.Do at body test) ≡ suc (max (stmt_height body) (expr_height test))
stmt_height-Do at body test = stmt_height-at (anStmt.Do at body test) _ (anStmt.outs-Do at body test)

pub stmt_height-For : (at : ℕ) (head : ForHead) (body : Stmt) → stmt_height (anStmt.For at head body) ≡ suc (max (for_height head) (stmt_height body))
stmt_height-For at head body = stmt_height-at (anStmt.For at head body) _ (anStmt.outs-For at head body)

pub stmt_height-Switch : (at : ℕ) (selector : Expr) (groups : List Clause) → stmt_height (anStmt.Switch at selector groups) ≡ suc (max (expr_height selector) (most (map clause_height groups)))
stmt_height-Switch at selector groups = stmt_height-at (anStmt.Switch at selector groups) _ (anStmt.outs-Switch at selector groups)

pub stmt_height-Return : (at : ℕ) (value : Option Expr) → stmt_height (anStmt.Return at value) ≡ suc (in_some expr_height value)
stmt_height-Return at value = stmt_height-at (anStmt.Return at value) _ (anStmt.outs-Return at value)

pub stmt_height-Break : (at : ℕ) (label : Option Ident) → stmt_height (anStmt.Break at label) ≡ suc 0
stmt_height-Break at label = stmt_height-at (anStmt.Break at label) _ (anStmt.outs-Break at label)

pub stmt_height-Continue : (at : ℕ) (label : Option Ident) → stmt_height (anStmt.Continue at label) ≡ suc 0
stmt_height-Continue at label = stmt_height-at (anStmt.Continue at label) _ (anStmt.outs-Continue at label)

pub stmt_height-Throw : (at : ℕ) (value : Expr) → stmt_height (anStmt.Throw at value) ≡ suc (expr_height value)
stmt_height-Throw at value = stmt_height-at (anStmt.Throw at value) _ (anStmt.outs-Throw at value)

pub stmt_height-Try : (at : ℕ) (resources : Option Resources) (items : List Stmt) (clauses : List Clause) → stmt_height (anStmt.Try at resources items clauses) ≡ suc (max (max (in_some resources_of_height resources) (most (map stmt_height items))) (most (map clause_height clauses)))
stmt_height-Try at resources items clauses = stmt_height-at (anStmt.Try at resources items clauses) _ (anStmt.outs-Try at resources items clauses)

pub stmt_height-ThisCall : (at : ℕ) (actuals : List Expr) → stmt_height (anStmt.ThisCall at actuals) ≡ suc (most (map expr_height actuals))
stmt_height-ThisCall at actuals = stmt_height-at (anStmt.ThisCall at actuals) _ (anStmt.outs-ThisCall at actuals)

pub stmt_height-SuperCall : (at : ℕ) (actuals : List Expr) → stmt_height (anStmt.SuperCall at actuals) ≡ suc (most (map expr_height actuals))
stmt_height-SuperCall at actuals = stmt_height-at (anStmt.SuperCall at actuals) _ (anStmt.outs-SuperCall at actuals)

pub clause_height-out : (node : Clause) → clause_height node ≡ clause_step (map-Clause Member Stmt Clause Declaration ℕ ℕ ℕ ℕ member_height stmt_height clause_height declaration_height (out-Clause node))
unfolding member_height stmt_height clause_height declaration_height
clause_height-out node = fold_out-Clause ℕ ℕ ℕ ℕ member_step stmt_step clause_step declaration_step node

pub clause_height-parts : (node : Clause) → clause_height node ≡ max (clause_head_height (out-Clause node).head) (most (map stmt_height (out-Clause node).items))
clause_height-parts node = clause_height-out node

pub clause_height-made : (at : ℕ) (head : ClauseHead) (items : List Stmt) → clause_height (roll-Clause (record { at = at; head = head; items = items })) ≡ max (clause_head_height head) (most (map stmt_height items))
unfolding member_height stmt_height clause_height declaration_height
clause_height-made at head items = fold-roll-Clause ℕ ℕ ℕ ℕ member_step stmt_step clause_step declaration_step (record { at = at; head = head; items = items })

pub declaration_height-out : (node : Declaration) → declaration_height node ≡ declaration_step (map-Declaration Member Stmt Clause Declaration ℕ ℕ ℕ ℕ member_height stmt_height clause_height declaration_height (out-Declaration node))
unfolding member_height stmt_height clause_height declaration_height
declaration_height-out node = fold_out-Declaration ℕ ℕ ℕ ℕ member_step stmt_step clause_step declaration_step node

pub declaration_height-parts : (node : Declaration) → declaration_height node ≡ suc (max (head_height (out-Declaration node).head) (most (map member_height (out-Declaration node).members)))
declaration_height-parts node = declaration_height-out node

pub declaration_height-made : (head : DeclarationHead) (members : List Member) → declaration_height (roll-Declaration (record { head = head; members = members })) ≡ suc (max (head_height head) (most (map member_height members)))
unfolding member_height stmt_height clause_height declaration_height
declaration_height-made head members = fold-roll-Declaration ℕ ℕ ℕ ℕ member_step stmt_step clause_step declaration_step (record { head = head; members = members })
