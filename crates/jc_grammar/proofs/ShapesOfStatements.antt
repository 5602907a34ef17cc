-- Which statements and declarations the grammar has, by their parts.
use Rattle.std.proofs.Common.{ap, ◌∙◌}
use Rattle.std.specs.Prelude.{◌&&◌, ◌≡◌, Bool, List, Option, map, true, ℕ}
use Rattle.std.specs.List.{list_all}
use Rattle.jc_tree.specs.declared.expression.Expr.{Expr}
use Rattle.jc_tree.specs.declared.name.Ident.{Ident}
use Rattle.jc_tree.specs.declared.statement.AnnotationValue.{AnnotationValue, AnnotationValue-F, fold_out-AnnotationValue, map-AnnotationValue, out-AnnotationValue}
use Rattle.jc_tree.specs.declared.statement.AnnotationValue.TheVariants as anAnnotationValue
use Rattle.jc_tree.specs.declared.statement.Clause.{Clause, fold-roll-Clause, fold_out-Clause, map-Clause, out-Clause, roll-Clause}
use Rattle.jc_tree.specs.declared.statement.ClauseHead.{ClauseHead}
use Rattle.jc_tree.specs.declared.statement.Declaration.{Declaration, fold-roll-Declaration, fold_out-Declaration, map-Declaration, out-Declaration, roll-Declaration}
use Rattle.jc_tree.specs.declared.statement.DeclarationHead.{DeclarationHead}
use Rattle.jc_tree.specs.declared.statement.ForHead.{ForHead}
use Rattle.jc_tree.specs.declared.statement.LocalVars.{LocalVars}
use Rattle.jc_tree.specs.declared.statement.Member.{Member, Member-F, fold_out-Member, map-Member, out-Member}
use Rattle.jc_tree.specs.declared.statement.Member.TheVariants as anMember
use Rattle.jc_tree.specs.declared.statement.MethodHead.{MethodHead}
use Rattle.jc_tree.specs.declared.statement.Resources.{Resources}
use Rattle.jc_tree.specs.declared.statement.Stmt.{Stmt, Stmt-F, fold_out-Stmt, map-Stmt, out-Stmt}
use Rattle.jc_tree.specs.declared.statement.Stmt.TheVariants as anStmt
use Rattle.jc_grammar.specs.Shapes.{all_true, is_expr}
use Rattle.jc_grammar.specs.Units.{Anywhere, ClauseShape, Constructs, DeclaresType, DeclaresVars, StmtShape, are_locals, body_good, clause_shape, clause_shape_step, clause_with, declaration_step, has_result, if_shape, if_there_passes, in_block, in_body, is_conditional, is_declaration, is_for_head, is_head, is_member, is_method_head, is_statement_expr, is_value, member_step, statement, stmt_shape, stmt_shape_step, switch_good, try_good, value_step}

pub is_value-out : (node : AnnotationValue) → is_value node ≡ value_step (map-AnnotationValue AnnotationValue Bool is_value (out-AnnotationValue node))
unfolding is_value
is_value-out node = fold_out-AnnotationValue Bool value_step node

is_value-at : (node : AnnotationValue) (l : AnnotationValue-F AnnotationValue) → out-AnnotationValue node ≡ l → is_value node ≡ value_step (map-AnnotationValue AnnotationValue Bool is_value l)
is_value-at node l e = is_value-out node ∙ ap (λ (l : AnnotationValue-F AnnotationValue). value_step (map-AnnotationValue AnnotationValue Bool is_value l)) e

pub is_value-Value : (expr : Expr) → is_value (anAnnotationValue.Value expr) ≡ is_conditional expr
is_value-Value expr = is_value-at (anAnnotationValue.Value expr) _ (anAnnotationValue.outs-Value expr)

pub is_value-List : (at : ℕ) (values : List AnnotationValue) (trailing : Bool) → is_value (anAnnotationValue.List at values trailing) ≡ all_true (map is_value values)
is_value-List at values trailing = is_value-at (anAnnotationValue.List at values trailing) _ (anAnnotationValue.outs-List at values trailing)

pub is_member-out : (node : Member) → is_member node ≡ member_step (map-Member Member Stmt Clause Declaration Bool StmtShape ClauseShape Bool is_member stmt_shape clause_shape is_declaration (out-Member node))
unfolding is_member stmt_shape clause_shape is_declaration
is_member-out node = fold_out-Member Bool StmtShape ClauseShape Bool member_step stmt_shape_step clause_shape_step declaration_step node

is_member-at : (node : Member) (l : Member-F Member Stmt Clause Declaration) → out-Member node ≡ l → is_member node ≡ member_step (map-Member Member Stmt Clause Declaration Bool StmtShape ClauseShape Bool is_member stmt_shape clause_shape is_declaration l)
is_member-at node l e = is_member-out node ∙ ap (λ (l : Member-F Member Stmt Clause Declaration). member_step (map-Member Member Stmt Clause Declaration Bool StmtShape ClauseShape Bool is_member stmt_shape clause_shape is_declaration l)) e

pub is_member-Semicolon : (at : ℕ) → is_member (anMember.Semicolon at) ≡ true
is_member-Semicolon at = is_member-at (anMember.Semicolon at) _ (anMember.outs-Semicolon at)

pub is_member-Initialiser : (at : ℕ) (is_static : Bool) (items : List Stmt) → is_member (anMember.Initialiser at is_static items) ≡ list_all in_block (map stmt_shape items)
is_member-Initialiser at is_static items = is_member-at (anMember.Initialiser at is_static items) _ (anMember.outs-Initialiser at is_static items)

pub is_member-Fields : (vars : LocalVars) → is_member (anMember.Fields vars) ≡ are_locals vars
is_member-Fields vars = is_member-at (anMember.Fields vars) _ (anMember.outs-Fields vars)

pub is_member-Bare : (head : MethodHead) → is_member (anMember.Bare head) ≡ is_method_head head && has_result head
is_member-Bare head = is_member-at (anMember.Bare head) _ (anMember.outs-Bare head)

pub is_member-Method : (head : MethodHead) (items : List Stmt) → is_member (anMember.Method head items) ≡ is_method_head head && body_good head.result (map stmt_shape items)
is_member-Method head items = is_member-at (anMember.Method head items) _ (anMember.outs-Method head items)

pub is_member-Nested : (declaration : Declaration) → is_member (anMember.Nested declaration) ≡ is_declaration declaration
is_member-Nested declaration = is_member-at (anMember.Nested declaration) _ (anMember.outs-Nested declaration)

pub stmt_shape-out : (node : Stmt) → stmt_shape node ≡ stmt_shape_step (map-Stmt Member Stmt Clause Declaration Bool StmtShape ClauseShape Bool is_member stmt_shape clause_shape is_declaration (out-Stmt node))
unfolding is_member stmt_shape clause_shape is_declaration
stmt_shape-out node = fold_out-Stmt Bool StmtShape ClauseShape Bool member_step stmt_shape_step clause_shape_step declaration_step node

stmt_shape-at : (node : Stmt) (l : Stmt-F Member Stmt Clause Declaration) → out-Stmt node ≡ l → stmt_shape node ≡ stmt_shape_step (map-Stmt Member Stmt Clause Declaration Bool StmtShape ClauseShape Bool is_member stmt_shape clause_shape is_declaration l)
stmt_shape-at node l e = stmt_shape-out node ∙ ap (λ (l : Stmt-F Member Stmt Clause Declaration). stmt_shape_step (map-Stmt Member Stmt Clause Declaration Bool StmtShape ClauseShape Bool is_member stmt_shape clause_shape is_declaration l)) e

pub stmt_shape-Local : (vars : LocalVars) → stmt_shape (anStmt.Local vars) ≡ statement DeclaresVars (are_locals vars)
stmt_shape-Local vars = stmt_shape-at (anStmt.Local vars) _ (anStmt.outs-Local vars)

pub stmt_shape-Declared : (declaration : Declaration) → stmt_shape (anStmt.Declared declaration) ≡ statement DeclaresType (is_declaration declaration)
stmt_shape-Declared declaration = stmt_shape-at (anStmt.Declared declaration) _ (anStmt.outs-Declared declaration)

pub stmt_shape-Block : (at : ℕ) (items : List Stmt) → stmt_shape (anStmt.Block at items) ≡ statement Anywhere (list_all in_block (map stmt_shape items))
stmt_shape-Block at items = stmt_shape-at (anStmt.Block at items) _ (anStmt.outs-Block at items)

pub stmt_shape-Empty : (at : ℕ) → stmt_shape (anStmt.Empty at) ≡ statement Anywhere true
stmt_shape-Empty at = stmt_shape-at (anStmt.Empty at) _ (anStmt.outs-Empty at)

pub stmt_shape-Effect : (expr : Expr) → stmt_shape (anStmt.Effect expr) ≡ statement Anywhere (is_statement_expr expr)
stmt_shape-Effect expr = stmt_shape-at (anStmt.Effect expr) _ (anStmt.outs-Effect expr)

pub stmt_shape-Labeled : (label : Ident) (body : Stmt) → stmt_shape (anStmt.Labeled label body) ≡ record { role = Anywhere; good = in_body (stmt_shape body); open_end = (stmt_shape body).open_end }
stmt_shape-Labeled label body = stmt_shape-at (anStmt.Labeled label body) _ (anStmt.outs-Labeled label body)

pub stmt_shape-If : (arms : List Clause) (otherwise : List Stmt) → stmt_shape (anStmt.If arms otherwise) ≡ if_shape (map clause_shape arms) (map stmt_shape otherwise)
stmt_shape-If arms otherwise = stmt_shape-at (anStmt.If arms otherwise) _ (anStmt.outs-If arms otherwise)

pub stmt_shape-While : (at : ℕ) (test : Expr) (body : Stmt) → stmt_shape (anStmt.While at test body) ≡ record { role = Anywhere; good = is_expr test && in_body (stmt_shape body); open_end = (stmt_shape body).open_end }
stmt_shape-While at test body = stmt_shape-at (anStmt.While at test body) _ (anStmt.outs-While at test body)

pub stmt_shape-Do : (at : ℕ) (body : Stmt) (test : Expr) → stmt_shape (anStmt.Do at body test) ≡ statement Anywhere (in_body (stmt_shape body) && is_expr test)
stmt_shape-Do at body test = stmt_shape-at (anStmt.Do at body test) _ (anStmt.outs-Do at body test)

pub stmt_shape-For : (at : ℕ) (head : ForHead) (body : Stmt) → stmt_shape (anStmt.For at head body) ≡ record { role = Anywhere; good = is_for_head head && in_body (stmt_shape body); open_end = (stmt_shape body).open_end }
stmt_shape-For at head body = stmt_shape-at (anStmt.For at head body) _ (anStmt.outs-For at head body)

pub stmt_shape-Switch : (at : ℕ) (selector : Expr) (groups : List Clause) → stmt_shape (anStmt.Switch at selector groups) ≡ statement Anywhere (is_expr selector && switch_good (map clause_shape groups))
stmt_shape-Switch at selector groups = stmt_shape-at (anStmt.Switch at selector groups) _ (anStmt.outs-Switch at selector groups)

pub stmt_shape-Return : (at : ℕ) (value : Option Expr) → stmt_shape (anStmt.Return at value) ≡ statement Anywhere (if_there_passes is_expr value)
stmt_shape-Return at value = stmt_shape-at (anStmt.Return at value) _ (anStmt.outs-Return at value)

pub stmt_shape-Break : (at : ℕ) (label : Option Ident) → stmt_shape (anStmt.Break at label) ≡ statement Anywhere true
stmt_shape-Break at label = stmt_shape-at (anStmt.Break at label) _ (anStmt.outs-Break at label)

pub stmt_shape-Continue : (at : ℕ) (label : Option Ident) → stmt_shape (anStmt.Continue at label) ≡ statement Anywhere true
stmt_shape-Continue at label = stmt_shape-at (anStmt.Continue at label) _ (anStmt.outs-Continue at label)

pub stmt_shape-Throw : (at : ℕ) (value : Expr) → stmt_shape (anStmt.Throw at value) ≡ statement Anywhere (is_expr value)
stmt_shape-Throw at value = stmt_shape-at (anStmt.Throw at value) _ (anStmt.outs-Throw at value)

pub stmt_shape-Try : (at : ℕ) (resources : Option Resources) (items : List Stmt) (clauses : List Clause) → stmt_shape (anStmt.Try at resources items clauses) ≡ statement Anywhere (list_all in_block (map stmt_shape items) && try_good resources (map clause_shape clauses))
stmt_shape-Try at resources items clauses = stmt_shape-at (anStmt.Try at resources items clauses) _ (anStmt.outs-Try at resources items clauses)

pub stmt_shape-ThisCall : (at : ℕ) (actuals : List Expr) → stmt_shape (anStmt.ThisCall at actuals) ≡ statement Constructs (list_all is_expr actuals)
stmt_shape-ThisCall at actuals = stmt_shape-at (anStmt.ThisCall at actuals) _ (anStmt.outs-ThisCall at actuals)

pub stmt_shape-SuperCall : (at : ℕ) (actuals : List Expr) → stmt_shape (anStmt.SuperCall at actuals) ≡ statement Constructs (list_all is_expr actuals)
stmt_shape-SuperCall at actuals = stmt_shape-at (anStmt.SuperCall at actuals) _ (anStmt.outs-SuperCall at actuals)

pub clause_shape-out : (node : Clause) → clause_shape node ≡ clause_shape_step (map-Clause Member Stmt Clause Declaration Bool StmtShape ClauseShape Bool is_member stmt_shape clause_shape is_declaration (out-Clause node))
unfolding is_member stmt_shape clause_shape is_declaration
clause_shape-out node = fold_out-Clause Bool StmtShape ClauseShape Bool member_step stmt_shape_step clause_shape_step declaration_step node

pub clause_shape-parts : (node : Clause) → clause_shape node ≡ clause_with (out-Clause node).head (map stmt_shape (out-Clause node).items)
clause_shape-parts node = clause_shape-out node

pub clause_shape-made : (at : ℕ) (head : ClauseHead) (items : List Stmt) → clause_shape (roll-Clause (record { at = at; head = head; items = items })) ≡ clause_with head (map stmt_shape items)
unfolding is_member stmt_shape clause_shape is_declaration
clause_shape-made at head items = fold-roll-Clause Bool StmtShape ClauseShape Bool member_step stmt_shape_step clause_shape_step declaration_step (record { at = at; head = head; items = items })

pub is_declaration-out : (node : Declaration) → is_declaration node ≡ declaration_step (map-Declaration Member Stmt Clause Declaration Bool StmtShape ClauseShape Bool is_member stmt_shape clause_shape is_declaration (out-Declaration node))
unfolding is_member stmt_shape clause_shape is_declaration
is_declaration-out node = fold_out-Declaration Bool StmtShape ClauseShape Bool member_step stmt_shape_step clause_shape_step declaration_step node

pub is_declaration-parts : (node : Declaration) → is_declaration node ≡ is_head (out-Declaration node).head && all_true (map is_member (out-Declaration node).members)
is_declaration-parts node = is_declaration-out node

pub is_declaration-made : (head : DeclarationHead) (members : List Member) → is_declaration (roll-Declaration (record { head = head; members = members })) ≡ is_head head && all_true (map is_member members)
unfolding is_member stmt_shape clause_shape is_declaration
is_declaration-made head members = fold-roll-Declaration Bool StmtShape ClauseShape Bool member_step stmt_shape_step clause_shape_step declaration_step (record { head = head; members = members })
