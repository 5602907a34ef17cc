-- The loop that a statement is: assembling tells the same as the plan.
use Rattle.std.proofs.Common.{◌≡◌, ℕ, refl, sym, ap, ◌∙◌, subst}
use Rattle.jc_tree.specs.declared.statement.Clause.{Clause, fold-Clause}
use Rattle.jc_tree.specs.declared.statement.Declaration.{Declaration, fold-Declaration}
use Rattle.jc_tree.specs.declared.statement.Member.{Member, fold-Member}
use Rattle.jc_tree.specs.declared.statement.Stmt.{Stmt, Stmt-F, fold-roll-Stmt, ind-Stmt, map-Stmt, roll-Stmt}
use Rattle.jc_stmts_spec.specs.Assembling.{Assembled, Group, assembled, clause_step, stmt_step}
use Rattle.jc_stmts_spec.specs.Plans.{Planned, planned, planned_clause}
use Rattle.jc_stmts_spec.specs.Plans as plan
use Rattle.jc_stmts_plan.specs.Flat.{loop_of}

-- ---- one layer at a time

unfoldable pub member_of : ℕ → Member → Unit {0}
member_of file m = fold-Member (Unit {0}) Assembled Group (Unit {0}) (λ x. tt) (stmt_step file) clause_step (λ d. tt) m

unfoldable pub clause_of : ℕ → Clause → Group
clause_of file c = fold-Clause (Unit {0}) Assembled Group (Unit {0}) (λ x. tt) (stmt_step file) clause_step (λ d. tt) c

unfoldable pub declaration_of : ℕ → Declaration → Unit {0}
declaration_of file d = fold-Declaration (Unit {0}) Assembled Group (Unit {0}) (λ x. tt) (stmt_step file) clause_step (λ x. tt) d

abbrev pub layer : ℕ → Stmt-F Member Stmt Clause Declaration → Stmt-F (Unit {0}) Assembled Group (Unit {0})
layer file l = map-Stmt Member Stmt Clause Declaration (Unit {0}) Assembled Group (Unit {0}) (member_of file) (assembled file) (clause_of file) (declaration_of file) l

planned_member : Member → Unit {0}
planned_member m = fold-Member (Unit {0}) Planned plan.Group (Unit {0}) (λ x. tt) plan.stmt_step plan.clause_step (λ d. tt) m

planned_declaration : Declaration → Unit {0}
planned_declaration d = fold-Declaration (Unit {0}) Planned plan.Group (Unit {0}) (λ x. tt) plan.stmt_step plan.clause_step (λ x. tt) d

abbrev planned_layer : Stmt-F Member Stmt Clause Declaration → Stmt-F (Unit {0}) Planned plan.Group (Unit {0})
planned_layer l = map-Stmt Member Stmt Clause Declaration (Unit {0}) Planned plan.Group (Unit {0}) planned_member planned planned_clause planned_declaration l

assembled_rolled : (file : ℕ) (l : Stmt-F Member Stmt Clause Declaration) → assembled file (roll-Stmt l) ≡ stmt_step file (layer file l)
unfolding assembled clause_of member_of declaration_of
assembled_rolled file l = fold-roll-Stmt (Unit {0}) Assembled Group (Unit {0}) (λ x. tt) (stmt_step file) clause_step (λ d. tt) l

planned_rolled : (l : Stmt-F Member Stmt Clause Declaration) → planned (roll-Stmt l) ≡ plan.stmt_step (planned_layer l)
unfolding planned planned_clause planned_member planned_declaration
planned_rolled l = fold-roll-Stmt (Unit {0}) Planned plan.Group (Unit {0}) (λ x. tt) plan.stmt_step plan.clause_step (λ d. tt) l

-- ---- both tell the same

abbrev Agrees : ℕ → Stmt → Type 0
Agrees file s = (assembled file s).loop ≡ (planned s).loop

abbrev SomeStmt : ℕ → Type 0
SomeStmt file = (s : Stmt) × Agrees file s

abbrev SomeMember : Type 0
SomeMember = (m : Member) × Unit {0}

abbrev SomeClause : Type 0
SomeClause = (c : Clause) × Unit {0}

abbrev SomeDeclaration : Type 0
SomeDeclaration = (d : Declaration) × Unit {0}

abbrev plain : (file : ℕ) → Stmt-F SomeMember (SomeStmt file) SomeClause SomeDeclaration → Stmt-F Member Stmt Clause Declaration
plain file y = map-Stmt SomeMember (SomeStmt file) SomeClause SomeDeclaration Member Stmt Clause Declaration (λ z. z.0) (λ z. z.0) (λ z. z.0) (λ z. z.0) y

layer_agrees : (file : ℕ) (y : Stmt-F SomeMember (SomeStmt file) SomeClause SomeDeclaration) → (stmt_step file (layer file (plain file y))).loop ≡ (plan.stmt_step (planned_layer (plain file y))).loop
layer_agrees file (Stmt-F.Local it) = refl
layer_agrees file (Stmt-F.Declared it) = refl
layer_agrees file (Stmt-F.Block n items) = refl
layer_agrees file (Stmt-F.Empty n) = refl
layer_agrees file (Stmt-F.Effect it) = refl
layer_agrees file (Stmt-F.Labeled label body) = refl
layer_agrees file (Stmt-F.If gs otherwise) = refl
layer_agrees file (Stmt-F.While n test body) = refl
layer_agrees file (Stmt-F.Do n body test) = refl
layer_agrees file (Stmt-F.For n head body) = refl
layer_agrees file (Stmt-F.Switch n selector groups) = refl
layer_agrees file (Stmt-F.Return n value) = refl
layer_agrees file (Stmt-F.Break n label) = refl
layer_agrees file (Stmt-F.Continue n label) = refl
layer_agrees file (Stmt-F.Throw n value) = refl
layer_agrees file (Stmt-F.Try n resources items gs) = refl
layer_agrees file (Stmt-F.ThisCall n actuals) = refl
layer_agrees file (Stmt-F.SuperCall n actuals) = refl

rolled_agrees : (file : ℕ) (y : Stmt-F SomeMember (SomeStmt file) SomeClause SomeDeclaration) → Agrees file (roll-Stmt (plain file y))
rolled_agrees file y = ap (λ (a : Assembled). a.loop) (assembled_rolled file (plain file y)) ∙ layer_agrees file y ∙ sym (ap (λ (p : Planned). p.loop) (planned_rolled (plain file y)))

stmt_agrees : (file : ℕ) (s : Stmt) → Agrees file s
stmt_agrees file = ind-Stmt (λ _. Unit {0}) (Agrees file) (λ _. Unit {0}) (λ _. Unit {0})
    (λ x y is. tt)
    (λ x y is. subst (λ (x : Stmt-F Member Stmt Clause Declaration). Agrees file (roll-Stmt x)) is (rolled_agrees file y))
    (λ x y is. tt)
    (λ x y is. tt)

pub loop_agrees : (file : ℕ) (s : Stmt) → (assembled file s).loop ≡ loop_of s
unfolding loop_of
loop_agrees file s = stmt_agrees file s
