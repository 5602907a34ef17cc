-- The types that statements write, by their parts.
use Rattle.std.proofs.Common.{◌≡◌, ℕ, List, Option, map, ap, ◌∙◌}
use Rattle.jc_tree.specs.declared.expression.Expr.{Expr}
use Rattle.jc_tree.specs.declared.name.Ident.{Ident}
use Rattle.jc_tree.specs.declared.statement.Clause.{Clause, out-Clause, map-Clause, fold_out-Clause}
use Rattle.jc_tree.specs.declared.statement.Declaration.{Declaration}
use Rattle.jc_tree.specs.declared.statement.ForHead.{ForHead}
use Rattle.jc_tree.specs.declared.statement.LocalVars.{LocalVars}
use Rattle.jc_tree.specs.declared.statement.Member.{Member}
use Rattle.jc_tree.specs.declared.statement.Resources.{Resources}
use Rattle.jc_tree.specs.declared.statement.Stmt.TheVariants as anStmt
use Rattle.jc_tree.specs.declared.statement.Stmt.{Stmt, out-Stmt, map-Stmt, fold_out-Stmt, Stmt-F}
use Rattle.jc_declares.specs.Sites.{Membered, Uses, Walk, membered, uses_of_stmt, uses_of_clause, sites_of_declaration, member_sites, stmt_uses, clause_uses, declaration_sites}

uses_of_stmt-out : (node : Stmt) → uses_of_stmt node ≡ stmt_uses (map-Stmt Member Stmt Clause Declaration Membered Uses Uses Walk membered uses_of_stmt uses_of_clause sites_of_declaration (out-Stmt node))
unfolding membered uses_of_stmt uses_of_clause sites_of_declaration
uses_of_stmt-out node = fold_out-Stmt Membered Uses Uses Walk member_sites stmt_uses clause_uses declaration_sites node

uses_of_stmt-at : (node : Stmt) (l : Stmt-F Member Stmt Clause Declaration) → out-Stmt node ≡ l → uses_of_stmt node ≡ stmt_uses (map-Stmt Member Stmt Clause Declaration Membered Uses Uses Walk membered uses_of_stmt uses_of_clause sites_of_declaration l)
uses_of_stmt-at node l e = uses_of_stmt-out node ∙ ap (λ (l : Stmt-F Member Stmt Clause Declaration). stmt_uses (map-Stmt Member Stmt Clause Declaration Membered Uses Uses Walk membered uses_of_stmt uses_of_clause sites_of_declaration l)) e

pub uses_of_stmt-Local : (vars : LocalVars) → uses_of_stmt (anStmt.Local vars) ≡ stmt_uses (Stmt-F.Local vars)
uses_of_stmt-Local vars = uses_of_stmt-at (anStmt.Local vars) _ (anStmt.outs-Local vars)

pub uses_of_stmt-Declared : (it : Declaration) → uses_of_stmt (anStmt.Declared it) ≡ stmt_uses (Stmt-F.Declared (sites_of_declaration it))
uses_of_stmt-Declared it = uses_of_stmt-at (anStmt.Declared it) _ (anStmt.outs-Declared it)

pub uses_of_stmt-Block : (at : ℕ) (items : List Stmt) → uses_of_stmt (anStmt.Block at items) ≡ stmt_uses (Stmt-F.Block at (map uses_of_stmt items))
uses_of_stmt-Block at items = uses_of_stmt-at (anStmt.Block at items) _ (anStmt.outs-Block at items)

pub uses_of_stmt-Empty : (at : ℕ) → uses_of_stmt (anStmt.Empty at) ≡ stmt_uses (Stmt-F.Empty at)
uses_of_stmt-Empty at = uses_of_stmt-at (anStmt.Empty at) _ (anStmt.outs-Empty at)

pub uses_of_stmt-Effect : (it : Expr) → uses_of_stmt (anStmt.Effect it) ≡ stmt_uses (Stmt-F.Effect it)
uses_of_stmt-Effect it = uses_of_stmt-at (anStmt.Effect it) _ (anStmt.outs-Effect it)

pub uses_of_stmt-Labeled : (label : Ident) (body : Stmt) → uses_of_stmt (anStmt.Labeled label body) ≡ stmt_uses (Stmt-F.Labeled label (uses_of_stmt body))
uses_of_stmt-Labeled label body = uses_of_stmt-at (anStmt.Labeled label body) _ (anStmt.outs-Labeled label body)

pub uses_of_stmt-If : (arms : List Clause) (otherwise : List Stmt) → uses_of_stmt (anStmt.If arms otherwise) ≡ stmt_uses (Stmt-F.If (map uses_of_clause arms) (map uses_of_stmt otherwise))
uses_of_stmt-If arms otherwise = uses_of_stmt-at (anStmt.If arms otherwise) _ (anStmt.outs-If arms otherwise)

pub uses_of_stmt-While : (at : ℕ) (test : Expr) (body : Stmt) → uses_of_stmt (anStmt.While at test body) ≡ stmt_uses (Stmt-F.While at test (uses_of_stmt body))
uses_of_stmt-While at test body = uses_of_stmt-at (anStmt.While at test body) _ (anStmt.outs-While at test body)

pub uses_of_stmt-Do : (at : ℕ) (body : Stmt) (test : Expr) → uses_of_stmt (anStmt.Do at body test) ≡ stmt_uses (Stmt-F.Do at (uses_of_stmt body) test)
uses_of_stmt-Do at body test = uses_of_stmt-at (anStmt.Do at body test) _ (anStmt.outs-Do at body test)

pub uses_of_stmt-For : (at : ℕ) (head : ForHead) (body : Stmt) → uses_of_stmt (anStmt.For at head body) ≡ stmt_uses (Stmt-F.For at head (uses_of_stmt body))
uses_of_stmt-For at head body = uses_of_stmt-at (anStmt.For at head body) _ (anStmt.outs-For at head body)

pub uses_of_stmt-Switch : (at : ℕ) (selector : Expr) (groups : List Clause) → uses_of_stmt (anStmt.Switch at selector groups) ≡ stmt_uses (Stmt-F.Switch at selector (map uses_of_clause groups))
uses_of_stmt-Switch at selector groups = uses_of_stmt-at (anStmt.Switch at selector groups) _ (anStmt.outs-Switch at selector groups)

pub uses_of_stmt-Return : (at : ℕ) (value : Option Expr) → uses_of_stmt (anStmt.Return at value) ≡ stmt_uses (Stmt-F.Return at value)
uses_of_stmt-Return at value = uses_of_stmt-at (anStmt.Return at value) _ (anStmt.outs-Return at value)

pub uses_of_stmt-Break : (at : ℕ) (label : Option Ident) → uses_of_stmt (anStmt.Break at label) ≡ stmt_uses (Stmt-F.Break at label)
uses_of_stmt-Break at label = uses_of_stmt-at (anStmt.Break at label) _ (anStmt.outs-Break at label)

pub uses_of_stmt-Continue : (at : ℕ) (label : Option Ident) → uses_of_stmt (anStmt.Continue at label) ≡ stmt_uses (Stmt-F.Continue at label)
uses_of_stmt-Continue at label = uses_of_stmt-at (anStmt.Continue at label) _ (anStmt.outs-Continue at label)

pub uses_of_stmt-Throw : (at : ℕ) (value : Expr) → uses_of_stmt (anStmt.Throw at value) ≡ stmt_uses (Stmt-F.Throw at value)
uses_of_stmt-Throw at value = uses_of_stmt-at (anStmt.Throw at value) _ (anStmt.outs-Throw at value)

pub uses_of_stmt-Try : (at : ℕ) (resources : Option Resources) (items : List Stmt) (clauses : List Clause) → uses_of_stmt (anStmt.Try at resources items clauses) ≡ stmt_uses (Stmt-F.Try at resources (map uses_of_stmt items) (map uses_of_clause clauses))
uses_of_stmt-Try at resources items clauses = uses_of_stmt-at (anStmt.Try at resources items clauses) _ (anStmt.outs-Try at resources items clauses)

pub uses_of_stmt-ThisCall : (at : ℕ) (actuals : List Expr) → uses_of_stmt (anStmt.ThisCall at actuals) ≡ stmt_uses (Stmt-F.ThisCall at actuals)
uses_of_stmt-ThisCall at actuals = uses_of_stmt-at (anStmt.ThisCall at actuals) _ (anStmt.outs-ThisCall at actuals)

pub uses_of_stmt-SuperCall : (at : ℕ) (actuals : List Expr) → uses_of_stmt (anStmt.SuperCall at actuals) ≡ stmt_uses (Stmt-F.SuperCall at actuals)
uses_of_stmt-SuperCall at actuals = uses_of_stmt-at (anStmt.SuperCall at actuals) _ (anStmt.outs-SuperCall at actuals)

uses_of_clause-out : (node : Clause) → uses_of_clause node ≡ clause_uses (map-Clause Member Stmt Clause Declaration Membered Uses Uses Walk membered uses_of_stmt uses_of_clause sites_of_declaration (out-Clause node))
unfolding membered uses_of_stmt uses_of_clause sites_of_declaration
uses_of_clause-out node = fold_out-Clause Membered Uses Uses Walk member_sites stmt_uses clause_uses declaration_sites node

pub uses_of_clause-parts : (node : Clause) → uses_of_clause node ≡ clause_uses (record { at = (out-Clause node).at; head = (out-Clause node).head; items = (map uses_of_stmt (out-Clause node).items) })
uses_of_clause-parts node = uses_of_clause-out node

pub ruleset statements = (uses_of_stmt-Local, uses_of_stmt-Declared, uses_of_stmt-Block, uses_of_stmt-Empty, uses_of_stmt-Effect, uses_of_stmt-Labeled, uses_of_stmt-If, uses_of_stmt-While, uses_of_stmt-Do, uses_of_stmt-For, uses_of_stmt-Switch, uses_of_stmt-Return, uses_of_stmt-Break, uses_of_stmt-Continue, uses_of_stmt-Throw, uses_of_stmt-Try, uses_of_stmt-ThisCall, uses_of_stmt-SuperCall, uses_of_clause-parts)
