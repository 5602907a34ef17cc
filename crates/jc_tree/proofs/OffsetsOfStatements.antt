-- The first offsets of annotations, statements and declarations by their parts.
use Rattle.std.proofs.Common.{ap, ◌∙◌}
use Rattle.std.specs.Prelude.{◌≡◌, Bool, List, Option, map, ℕ}
use Rattle.jc_tree.specs.declared.expression.Expr.{Expr}
use Rattle.jc_tree.specs.declared.name.Ident.{Ident}
use Rattle.jc_tree.specs.declared.statement.AnnotationValue.{AnnotationValue, AnnotationValue-F, fold_out-AnnotationValue, map-AnnotationValue, out-AnnotationValue}
use Rattle.jc_tree.specs.declared.statement.AnnotationValue.TheVariants as anAnnotationValue
use Rattle.jc_tree.specs.declared.statement.Clause.{Clause, fold-roll-Clause, fold_out-Clause, map-Clause, out-Clause, roll-Clause}
use Rattle.jc_tree.specs.declared.statement.ClauseHead.{ClauseHead}
use Rattle.jc_tree.specs.declared.statement.Declaration.{Declaration, fold-roll-Declaration, fold_out-Declaration, map-Declaration, out-Declaration, roll-Declaration}
use Rattle.jc_tree.specs.declared.statement.DeclarationHead.{DeclarationHead}
use Rattle.jc_tree.specs.declared.statement.ForHead.{ForHead}
use Rattle.jc_tree.specs.declared.statement.LocalVars.{LocalVars}
use Rattle.jc_tree.specs.declared.statement.Member.{Member, Member-F, fold_out-Member, map-Member, out-Member}
use Rattle.jc_tree.specs.declared.statement.Member.TheVariants as anMember
use Rattle.jc_tree.specs.declared.statement.MethodHead.{MethodHead}
use Rattle.jc_tree.specs.declared.statement.Resources.{Resources}
use Rattle.jc_tree.specs.declared.statement.Stmt.{Stmt, Stmt-F, fold_out-Stmt, map-Stmt, out-Stmt}
use Rattle.jc_tree.specs.declared.statement.Stmt.TheVariants as anStmt
use Rattle.jc_tree.specs.Offsets.{clause_first, declaration_first, first_offset_of_clause, first_offset_of_declaration, first_offset_of_expr, first_offset_of_head, first_offset_of_locals, first_offset_of_member, first_offset_of_method, first_offset_of_stmt, first_offset_of_value, first_or, member_first, stmt_first, value_first}

pub first_offset_of_value-out : (node : AnnotationValue) → first_offset_of_value node ≡ value_first (map-AnnotationValue AnnotationValue ℕ first_offset_of_value (out-AnnotationValue node))
unfolding first_offset_of_value
first_offset_of_value-out node = fold_out-AnnotationValue ℕ value_first node

first_offset_of_value-at : (node : AnnotationValue) (l : AnnotationValue-F AnnotationValue) → out-AnnotationValue node ≡ l → first_offset_of_value node ≡ value_first (map-AnnotationValue AnnotationValue ℕ first_offset_of_value l)
first_offset_of_value-at node l e = first_offset_of_value-out node ∙ ap (λ (l : AnnotationValue-F AnnotationValue). value_first (map-AnnotationValue AnnotationValue ℕ first_offset_of_value l)) e

pub first_offset_of_value-Value : (it : Expr) → first_offset_of_value (anAnnotationValue.Value it) ≡ first_offset_of_expr it
first_offset_of_value-Value it = first_offset_of_value-at (anAnnotationValue.Value it) _ (anAnnotationValue.outs-Value it)

pub first_offset_of_value-List : (at : ℕ) (values : List AnnotationValue) (trailing : Bool) → first_offset_of_value (anAnnotationValue.List at values trailing) ≡ at
first_offset_of_value-List at values trailing = first_offset_of_value-at (anAnnotationValue.List at values trailing) _ (anAnnotationValue.outs-List at values trailing)

pub first_offset_of_member-out : (node : Member) → first_offset_of_member node ≡ member_first (map-Member Member Stmt Clause Declaration ℕ ℕ ℕ ℕ first_offset_of_member first_offset_of_stmt first_offset_of_clause first_offset_of_declaration (out-Member node))
unfolding first_offset_of_member first_offset_of_stmt first_offset_of_clause first_offset_of_declaration
first_offset_of_member-out node = fold_out-Member ℕ ℕ ℕ ℕ member_first stmt_first clause_first declaration_first node

first_offset_of_member-at : (node : Member) (l : Member-F Member Stmt Clause Declaration) → out-Member node ≡ l → first_offset_of_member node ≡ member_first (map-Member Member Stmt Clause Declaration ℕ ℕ ℕ ℕ first_offset_of_member first_offset_of_stmt first_offset_of_clause first_offset_of_declaration l)
first_offset_of_member-at node l e = first_offset_of_member-out node ∙ ap (λ (l : Member-F Member Stmt Clause Declaration). member_first (map-Member Member Stmt Clause Declaration ℕ ℕ ℕ ℕ first_offset_of_member first_offset_of_stmt first_offset_of_clause first_offset_of_declaration l)) e

pub first_offset_of_member-Semicolon : (at : ℕ) → first_offset_of_member (anMember.Semicolon at) ≡ at
first_offset_of_member-Semicolon at = first_offset_of_member-at (anMember.Semicolon at) _ (anMember.outs-Semicolon at)

pub first_offset_of_member-Initialiser : (at : ℕ) (is_static : Bool) (items : List Stmt) → first_offset_of_member (anMember.Initialiser at is_static items) ≡ at
first_offset_of_member-Initialiser at is_static items = first_offset_of_member-at (anMember.Initialiser at is_static items) _ (anMember.outs-Initialiser at is_static items)

pub first_offset_of_member-Fields : (it : LocalVars) → first_offset_of_member (anMember.Fields it) ≡ first_offset_of_locals it
first_offset_of_member-Fields it = first_offset_of_member-at (anMember.Fields it) _ (anMember.outs-Fields it)

pub first_offset_of_member-Bare : (head : MethodHead) → first_offset_of_member (anMember.Bare head) ≡ first_offset_of_method head
first_offset_of_member-Bare head = first_offset_of_member-at (anMember.Bare head) _ (anMember.outs-Bare head)

pub first_offset_of_member-Method : (head : MethodHead) (items : List Stmt) → first_offset_of_member (anMember.Method head items) ≡ first_offset_of_method head
first_offset_of_member-Method head items = first_offset_of_member-at (anMember.Method head items) _ (anMember.outs-Method head items)

pub first_offset_of_member-Nested : (it : Declaration) → first_offset_of_member (anMember.Nested it) ≡ first_offset_of_declaration it
first_offset_of_member-Nested it = first_offset_of_member-at (anMember.Nested it) _ (anMember.outs-Nested it)

pub first_offset_of_stmt-out : (node : Stmt) → first_offset_of_stmt node ≡ stmt_first (map-Stmt Member Stmt Clause Declaration ℕ ℕ ℕ ℕ first_offset_of_member first_offset_of_stmt first_offset_of_clause first_offset_of_declaration (out-Stmt node))
unfolding first_offset_of_member first_offset_of_stmt first_offset_of_clause first_offset_of_declaration
first_offset_of_stmt-out node = fold_out-Stmt ℕ ℕ ℕ ℕ member_first stmt_first clause_first declaration_first node

first_offset_of_stmt-at : (node : Stmt) (l : Stmt-F Member Stmt Clause Declaration) → out-Stmt node ≡ l → first_offset_of_stmt node ≡ stmt_first (map-Stmt Member Stmt Clause Declaration ℕ ℕ ℕ ℕ first_offset_of_member first_offset_of_stmt first_offset_of_clause first_offset_of_declaration l)
first_offset_of_stmt-at node l e = first_offset_of_stmt-out node ∙ ap (λ (l : Stmt-F Member Stmt Clause Declaration). stmt_first (map-Stmt Member Stmt Clause Declaration ℕ ℕ ℕ ℕ first_offset_of_member first_offset_of_stmt first_offset_of_clause first_offset_of_declaration l)) e

pub first_offset_of_stmt-Local : (it : LocalVars) → first_offset_of_stmt (anStmt.Local it) ≡ first_offset_of_locals it
first_offset_of_stmt-Local it = first_offset_of_stmt-at (anStmt.Local it) _ (anStmt.outs-Local it)

pub first_offset_of_stmt-Declared : (it : Declaration) → first_offset_of_stmt (anStmt.Declared it) ≡ first_offset_of_declaration it
first_offset_of_stmt-Declared it = first_offset_of_stmt-at (anStmt.Declared it) _ (anStmt.outs-Declared it)

pub first_offset_of_stmt-Block : (at : ℕ) (items : List Stmt) → first_offset_of_stmt (anStmt.Block at items) ≡ at
first_offset_of_stmt-Block at items = first_offset_of_stmt-at (anStmt.Block at items) _ (anStmt.outs-Block at items)

pub first_offset_of_stmt-Empty : (at : ℕ) → first_offset_of_stmt (anStmt.Empty at) ≡ at
first_offset_of_stmt-Empty at = first_offset_of_stmt-at (anStmt.Empty at) _ (anStmt.outs-Empty at)

pub first_offset_of_stmt-Effect : (it : Expr) → first_offset_of_stmt (anStmt.Effect it) ≡ first_offset_of_expr it
first_offset_of_stmt-Effect it = first_offset_of_stmt-at (anStmt.Effect it) _ (anStmt.outs-Effect it)

pub first_offset_of_stmt-Labeled : (label : Ident) (body : Stmt) → first_offset_of_stmt (anStmt.Labeled label body) ≡ label.at
first_offset_of_stmt-Labeled label body = first_offset_of_stmt-at (anStmt.Labeled label body) _ (anStmt.outs-Labeled label body)

pub first_offset_of_stmt-If : (arms : List Clause) (otherwise : List Stmt) → first_offset_of_stmt (anStmt.If arms otherwise) ≡ first_or (map first_offset_of_clause arms) 0
first_offset_of_stmt-If arms otherwise = first_offset_of_stmt-at (anStmt.If arms otherwise) _ (anStmt.outs-If arms otherwise)

pub first_offset_of_stmt-While : (at : ℕ) (test : Expr) (body : Stmt) → first_offset_of_stmt (anStmt.While at test body) ≡ at
first_offset_of_stmt-While at test body = first_offset_of_stmt-at (anStmt.While at test body) _ (anStmt.outs-While at test body)

pub first_offset_of_stmt-Do : (at : ℕ) (body : Stmt) (test : Expr) → first_offset_of_stmt (anStmt.Do at body test) ≡ at
first_offset_of_stmt-Do at body test = first_offset_of_stmt-at (anStmt.Do at body test) _ (anStmt.outs-Do at body test)

pub first_offset_of_stmt-For : (at : ℕ) (head : ForHead) (body : Stmt) → first_offset_of_stmt (anStmt.For at head body) ≡ at
first_offset_of_stmt-For at head body = first_offset_of_stmt-at (anStmt.For at head body) _ (anStmt.outs-For at head body)

pub first_offset_of_stmt-Switch : (at : ℕ) (selector : Expr) (groups : List Clause) → first_offset_of_stmt (anStmt.Switch at selector groups) ≡ at
first_offset_of_stmt-Switch at selector groups = first_offset_of_stmt-at (anStmt.Switch at selector groups) _ (anStmt.outs-Switch at selector groups)

pub first_offset_of_stmt-Return : (at : ℕ) (value : Option Expr) → first_offset_of_stmt (anStmt.Return at value) ≡ at
first_offset_of_stmt-Return at value = first_offset_of_stmt-at (anStmt.Return at value) _ (anStmt.outs-Return at value)

pub first_offset_of_stmt-Break : (at : ℕ) (label : Option Ident) → first_offset_of_stmt (anStmt.Break at label) ≡ at
first_offset_of_stmt-Break at label = first_offset_of_stmt-at (anStmt.Break at label) _ (anStmt.outs-Break at label)

pub first_offset_of_stmt-Continue : (at : ℕ) (label : Option Ident) → first_offset_of_stmt (anStmt.Continue at label) ≡ at
first_offset_of_stmt-Continue at label = first_offset_of_stmt-at (anStmt.Continue at label) _ (anStmt.outs-Continue at label)

pub first_offset_of_stmt-Throw : (at : ℕ) (value : Expr) → first_offset_of_stmt (anStmt.Throw at value) ≡ at
first_offset_of_stmt-Throw at value = first_offset_of_stmt-at (anStmt.Throw at value) _ (anStmt.outs-Throw at value)

pub first_offset_of_stmt-Try : (at : ℕ) (resources : Option Resources) (items : List Stmt) (clauses : List Clause) → first_offset_of_stmt (anStmt.Try at resources items clauses) ≡ at
first_offset_of_stmt-Try at resources items clauses = first_offset_of_stmt-at (anStmt.Try at resources items clauses) _ (anStmt.outs-Try at resources items clauses)

pub first_offset_of_stmt-ThisCall : (at : ℕ) (actuals : List Expr) → first_offset_of_stmt (anStmt.ThisCall at actuals) ≡ at
first_offset_of_stmt-ThisCall at actuals = first_offset_of_stmt-at (anStmt.ThisCall at actuals) _ (anStmt.outs-ThisCall at actuals)

pub first_offset_of_stmt-SuperCall : (at : ℕ) (actuals : List Expr) → first_offset_of_stmt (anStmt.SuperCall at actuals) ≡ at
first_offset_of_stmt-SuperCall at actuals = first_offset_of_stmt-at (anStmt.SuperCall at actuals) _ (anStmt.outs-SuperCall at actuals)

pub first_offset_of_clause-out : (node : Clause) → first_offset_of_clause node ≡ clause_first (map-Clause Member Stmt Clause Declaration ℕ ℕ ℕ ℕ first_offset_of_member first_offset_of_stmt first_offset_of_clause first_offset_of_declaration (out-Clause node))
unfolding first_offset_of_member first_offset_of_stmt first_offset_of_clause first_offset_of_declaration
first_offset_of_clause-out node = fold_out-Clause ℕ ℕ ℕ ℕ member_first stmt_first clause_first declaration_first node

pub first_offset_of_clause-parts : (node : Clause) → first_offset_of_clause node ≡ (out-Clause node).at
first_offset_of_clause-parts node = first_offset_of_clause-out node

pub first_offset_of_clause-made : (at : ℕ) (head : ClauseHead) (items : List Stmt) → first_offset_of_clause (roll-Clause (record { at = at; head = head; items = items })) ≡ at
unfolding first_offset_of_member first_offset_of_stmt first_offset_of_clause first_offset_of_declaration
first_offset_of_clause-made at head items = fold-roll-Clause ℕ ℕ ℕ ℕ member_first stmt_first clause_first declaration_first (record { at = at; head = head; items = items })

pub first_offset_of_declaration-out : (node : Declaration) → first_offset_of_declaration node ≡ declaration_first (map-Declaration Member Stmt Clause Declaration ℕ ℕ ℕ ℕ first_offset_of_member first_offset_of_stmt first_offset_of_clause first_offset_of_declaration (out-Declaration node))
unfolding first_offset_of_member first_offset_of_stmt first_offset_of_clause first_offset_of_declaration
first_offset_of_declaration-out node = fold_out-Declaration ℕ ℕ ℕ ℕ member_first stmt_first clause_first declaration_first node

pub first_offset_of_declaration-parts : (node : Declaration) → first_offset_of_declaration node ≡ first_offset_of_head (out-Declaration node).head
first_offset_of_declaration-parts node = first_offset_of_declaration-out node

pub first_offset_of_declaration-made : (head : DeclarationHead) (members : List Member) → first_offset_of_declaration (roll-Declaration (record { head = head; members = members })) ≡ first_offset_of_head head
unfolding first_offset_of_member first_offset_of_stmt first_offset_of_clause first_offset_of_declaration
first_offset_of_declaration-made head members = fold-roll-Declaration ℕ ℕ ℕ ℕ member_first stmt_first clause_first declaration_first (record { head = head; members = members })
