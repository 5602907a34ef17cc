-- The tokens of annotations, statements and declarations by their parts.
use Rattle.std.proofs.Common.{ap, ◌∙◌}
use Rattle.std.specs.Prelude.{◌∷◌, ◌≡◌, Bool, List, Option, false, map, true, ℕ}
use Rattle.jc_lexer.specs.declared.token.Key.TheVariants as key_of
use Rattle.jc_lexer.specs.declared.token.Sign.TheVariants as sign_of
use Rattle.jc_tree.specs.declared.expression.Expr.{Expr}
use Rattle.jc_tree.specs.declared.name.Ident.{Ident}
use Rattle.jc_tree.specs.declared.statement.AnnotationValue.{AnnotationValue, AnnotationValue-F, fold_out-AnnotationValue, map-AnnotationValue, out-AnnotationValue}
use Rattle.jc_tree.specs.declared.statement.AnnotationValue.TheVariants as anAnnotationValue
use Rattle.jc_tree.specs.declared.statement.Clause.{Clause, fold-roll-Clause, fold_out-Clause, map-Clause, out-Clause, roll-Clause}
use Rattle.jc_tree.specs.declared.statement.ClauseHead.{ClauseHead}
use Rattle.jc_tree.specs.declared.statement.Declaration.{Declaration, fold-roll-Declaration, fold_out-Declaration, map-Declaration, out-Declaration, roll-Declaration}
use Rattle.jc_tree.specs.declared.statement.DeclarationHead.{DeclarationHead}
use Rattle.jc_tree.specs.declared.statement.ForHead.{ForHead}
use Rattle.jc_tree.specs.declared.statement.LocalVars.{LocalVars}
use Rattle.jc_tree.specs.declared.statement.Member.{Member, Member-F, fold_out-Member, map-Member, out-Member}
use Rattle.jc_tree.specs.declared.statement.Member.TheVariants as anMember
use Rattle.jc_tree.specs.declared.statement.MethodHead.{MethodHead}
use Rattle.jc_tree.specs.declared.statement.Resources.{Resources}
use Rattle.jc_tree.specs.declared.statement.Stmt.{Stmt, Stmt-F, fold_out-Stmt, map-Stmt, out-Stmt}
use Rattle.jc_tree.specs.declared.statement.Stmt.TheVariants as anStmt
use Rattle.jc_grammar.specs.Expressions.{expr_tokens, if_there}
use Rattle.jc_grammar.specs.Parts.{for_tokens, head_tokens, if_some, local_tokens, method_tokens, resources_tokens, value_tokens, value_told}
use Rattle.jc_grammar.specs.Statements.{after_elses, arms_tokens, braced, braced_at, clause_tokens, clause_told, clause_with, declaration_tokens, declaration_told, in_parens, labeled, member_tokens, member_told, stmt_tokens, stmt_told}
use Rattle.jc_grammar.specs.Told.{Spelled, Told, actuals, commas, each, ident, key, key_at, sign, sign_at}

pub value_tokens-out : (node : AnnotationValue) → value_tokens node ≡ value_told (map-AnnotationValue AnnotationValue Spelled value_tokens (out-AnnotationValue node))
unfolding value_tokens
value_tokens-out node = fold_out-AnnotationValue Spelled value_told node

value_tokens-at : (node : AnnotationValue) (l : AnnotationValue-F AnnotationValue) → out-AnnotationValue node ≡ l → (r : List Told) → value_tokens node r ≡ value_told (map-AnnotationValue AnnotationValue Spelled value_tokens l) r
value_tokens-at node l e r = ap (λ (f : Spelled). f r) (value_tokens-out node ∙ ap (λ (l : AnnotationValue-F AnnotationValue). value_told (map-AnnotationValue AnnotationValue Spelled value_tokens l)) e)

pub value_tokens-Value : (expr : Expr) (r : List Told) → value_tokens (anAnnotationValue.Value expr) r ≡ expr_tokens expr r
value_tokens-Value expr = value_tokens-at (anAnnotationValue.Value expr) _ (anAnnotationValue.outs-Value expr)

pub value_tokens-List : (at : ℕ) (values : List AnnotationValue) (trailing : Bool) (r : List Told) → value_tokens (anAnnotationValue.List at values trailing) r ≡ sign_at sign_of.LeftBrace at ∷ commas (map value_tokens values) (if_there trailing sign_of.Comma (sign sign_of.RightBrace ∷ r))
value_tokens-List at values trailing = value_tokens-at (anAnnotationValue.List at values trailing) _ (anAnnotationValue.outs-List at values trailing)

pub member_tokens-out : (node : Member) → member_tokens node ≡ member_told (map-Member Member Stmt Clause Declaration Spelled Spelled Spelled Spelled member_tokens stmt_tokens clause_tokens declaration_tokens (out-Member node))
unfolding member_tokens stmt_tokens clause_tokens declaration_tokens
member_tokens-out node = fold_out-Member Spelled Spelled Spelled Spelled member_told stmt_told clause_told declaration_told node

member_tokens-at : (node : Member) (l : Member-F Member Stmt Clause Declaration) → out-Member node ≡ l → (r : List Told) → member_tokens node r ≡ member_told (map-Member Member Stmt Clause Declaration Spelled Spelled Spelled Spelled member_tokens stmt_tokens clause_tokens declaration_tokens l) r
member_tokens-at node l e r = ap (λ (f : Spelled). f r) (member_tokens-out node ∙ ap (λ (l : Member-F Member Stmt Clause Declaration). member_told (map-Member Member Stmt Clause Declaration Spelled Spelled Spelled Spelled member_tokens stmt_tokens clause_tokens declaration_tokens l)) e)

pub member_tokens-Semicolon : (at : ℕ) (r : List Told) → member_tokens (anMember.Semicolon at) r ≡ sign_at sign_of.Semicolon at ∷ r
member_tokens-Semicolon at = member_tokens-at (anMember.Semicolon at) _ (anMember.outs-Semicolon at)

pub member_tokens-Initialiser_static : (at : ℕ) (items : List Stmt) (r : List Told) → member_tokens (anMember.Initialiser at true items) r ≡ key_at key_of.Static at ∷ braced (map stmt_tokens items) r
member_tokens-Initialiser_static at items = member_tokens-at (anMember.Initialiser at true items) _ (anMember.outs-Initialiser at true items)

pub member_tokens-Initialiser_instance : (at : ℕ) (items : List Stmt) (r : List Told) → member_tokens (anMember.Initialiser at false items) r ≡ braced_at at (map stmt_tokens items) r
member_tokens-Initialiser_instance at items = member_tokens-at (anMember.Initialiser at false items) _ (anMember.outs-Initialiser at false items)

pub member_tokens-Fields : (vars : LocalVars) (r : List Told) → member_tokens (anMember.Fields vars) r ≡ local_tokens vars (sign sign_of.Semicolon ∷ r)
member_tokens-Fields vars = member_tokens-at (anMember.Fields vars) _ (anMember.outs-Fields vars)

pub member_tokens-Bare : (head : MethodHead) (r : List Told) → member_tokens (anMember.Bare head) r ≡ method_tokens head (sign sign_of.Semicolon ∷ r)
member_tokens-Bare head = member_tokens-at (anMember.Bare head) _ (anMember.outs-Bare head)

pub member_tokens-Method : (head : MethodHead) (items : List Stmt) (r : List Told) → member_tokens (anMember.Method head items) r ≡ method_tokens head (braced (map stmt_tokens items) r)
member_tokens-Method head items = member_tokens-at (anMember.Method head items) _ (anMember.outs-Method head items)

pub member_tokens-Nested : (declaration : Declaration) (r : List Told) → member_tokens (anMember.Nested declaration) r ≡ declaration_tokens declaration r
member_tokens-Nested declaration = member_tokens-at (anMember.Nested declaration) _ (anMember.outs-Nested declaration)

pub stmt_tokens-out : (node : Stmt) → stmt_tokens node ≡ stmt_told (map-Stmt Member Stmt Clause Declaration Spelled Spelled Spelled Spelled member_tokens stmt_tokens clause_tokens declaration_tokens (out-Stmt node))
unfolding member_tokens stmt_tokens clause_tokens declaration_tokens
stmt_tokens-out node = fold_out-Stmt Spelled Spelled Spelled Spelled member_told stmt_told clause_told declaration_told node

stmt_tokens-at : (node : Stmt) (l : Stmt-F Member Stmt Clause Declaration) → out-Stmt node ≡ l → (r : List Told) → stmt_tokens node r ≡ stmt_told (map-Stmt Member Stmt Clause Declaration Spelled Spelled Spelled Spelled member_tokens stmt_tokens clause_tokens declaration_tokens l) r
stmt_tokens-at node l e r = ap (λ (f : Spelled). f r) (stmt_tokens-out node ∙ ap (λ (l : Stmt-F Member Stmt Clause Declaration). stmt_told (map-Stmt Member Stmt Clause Declaration Spelled Spelled Spelled Spelled member_tokens stmt_tokens clause_tokens declaration_tokens l)) e)

pub stmt_tokens-Local : (vars : LocalVars) (r : List Told) → stmt_tokens (anStmt.Local vars) r ≡ local_tokens vars (sign sign_of.Semicolon ∷ r)
stmt_tokens-Local vars = stmt_tokens-at (anStmt.Local vars) _ (anStmt.outs-Local vars)

pub stmt_tokens-Declared : (declaration : Declaration) (r : List Told) → stmt_tokens (anStmt.Declared declaration) r ≡ declaration_tokens declaration r
stmt_tokens-Declared declaration = stmt_tokens-at (anStmt.Declared declaration) _ (anStmt.outs-Declared declaration)

pub stmt_tokens-Block : (at : ℕ) (items : List Stmt) (r : List Told) → stmt_tokens (anStmt.Block at items) r ≡ braced_at at (map stmt_tokens items) r
stmt_tokens-Block at items = stmt_tokens-at (anStmt.Block at items) _ (anStmt.outs-Block at items)

pub stmt_tokens-Empty : (at : ℕ) (r : List Told) → stmt_tokens (anStmt.Empty at) r ≡ sign_at sign_of.Semicolon at ∷ r
stmt_tokens-Empty at = stmt_tokens-at (anStmt.Empty at) _ (anStmt.outs-Empty at)

pub stmt_tokens-Effect : (expr : Expr) (r : List Told) → stmt_tokens (anStmt.Effect expr) r ≡ expr_tokens expr (sign sign_of.Semicolon ∷ r)
stmt_tokens-Effect expr = stmt_tokens-at (anStmt.Effect expr) _ (anStmt.outs-Effect expr)

pub stmt_tokens-Labeled : (label : Ident) (body : Stmt) (r : List Told) → stmt_tokens (anStmt.Labeled label body) r ≡ ident label ∷ sign sign_of.Colon ∷ stmt_tokens body r
stmt_tokens-Labeled label body = stmt_tokens-at (anStmt.Labeled label body) _ (anStmt.outs-Labeled label body)

pub stmt_tokens-If : (arms : List Clause) (otherwise : List Stmt) (r : List Told) → stmt_tokens (anStmt.If arms otherwise) r ≡ arms_tokens (map clause_tokens arms) (after_elses (map stmt_tokens otherwise) r)
stmt_tokens-If arms otherwise = stmt_tokens-at (anStmt.If arms otherwise) _ (anStmt.outs-If arms otherwise)

pub stmt_tokens-While : (at : ℕ) (test : Expr) (body : Stmt) (r : List Told) → stmt_tokens (anStmt.While at test body) r ≡ key_at key_of.While at ∷ in_parens test (stmt_tokens body r)
stmt_tokens-While at test body = stmt_tokens-at (anStmt.While at test body) _ (anStmt.outs-While at test body)

pub stmt_tokens-Do : (at : ℕ) (body : Stmt) (test : Expr) (r : List Told) → stmt_tokens (anStmt.Do at body test) r ≡ key_at key_of.Do at ∷ stmt_tokens body (key key_of.While ∷ in_parens test (sign sign_of.Semicolon ∷ r))
stmt_tokens-Do at body test = stmt_tokens-at (anStmt.Do at body test) _ (anStmt.outs-Do at body test)

pub stmt_tokens-For : (at : ℕ) (head : ForHead) (body : Stmt) (r : List Told) → stmt_tokens (anStmt.For at head body) r ≡ key_at key_of.For at ∷ sign sign_of.LeftParen ∷ for_tokens head (sign sign_of.RightParen ∷ stmt_tokens body r)
stmt_tokens-For at head body = stmt_tokens-at (anStmt.For at head body) _ (anStmt.outs-For at head body)

pub stmt_tokens-Switch : (at : ℕ) (selector : Expr) (groups : List Clause) (r : List Told) → stmt_tokens (anStmt.Switch at selector groups) r ≡ key_at key_of.Switch at ∷ in_parens selector (braced (map clause_tokens groups) r)
stmt_tokens-Switch at selector groups = stmt_tokens-at (anStmt.Switch at selector groups) _ (anStmt.outs-Switch at selector groups)

pub stmt_tokens-Return : (at : ℕ) (value : Option Expr) (r : List Told) → stmt_tokens (anStmt.Return at value) r ≡ key_at key_of.Return at ∷ if_some expr_tokens value (sign sign_of.Semicolon ∷ r)
stmt_tokens-Return at value = stmt_tokens-at (anStmt.Return at value) _ (anStmt.outs-Return at value)

pub stmt_tokens-Break : (at : ℕ) (label : Option Ident) (r : List Told) → stmt_tokens (anStmt.Break at label) r ≡ key_at key_of.Break at ∷ labeled label (sign sign_of.Semicolon ∷ r)
stmt_tokens-Break at label = stmt_tokens-at (anStmt.Break at label) _ (anStmt.outs-Break at label)

pub stmt_tokens-Continue : (at : ℕ) (label : Option Ident) (r : List Told) → stmt_tokens (anStmt.Continue at label) r ≡ key_at key_of.Continue at ∷ labeled label (sign sign_of.Semicolon ∷ r)
stmt_tokens-Continue at label = stmt_tokens-at (anStmt.Continue at label) _ (anStmt.outs-Continue at label)

pub stmt_tokens-Throw : (at : ℕ) (value : Expr) (r : List Told) → stmt_tokens (anStmt.Throw at value) r ≡ key_at key_of.Throw at ∷ expr_tokens value (sign sign_of.Semicolon ∷ r)
stmt_tokens-Throw at value = stmt_tokens-at (anStmt.Throw at value) _ (anStmt.outs-Throw at value)

pub stmt_tokens-Try : (at : ℕ) (resources : Option Resources) (items : List Stmt) (clauses : List Clause) (r : List Told) → stmt_tokens (anStmt.Try at resources items clauses) r ≡ key_at key_of.Try at ∷ if_some resources_tokens resources (braced (map stmt_tokens items) (each (map clause_tokens clauses) r))
stmt_tokens-Try at resources items clauses = stmt_tokens-at (anStmt.Try at resources items clauses) _ (anStmt.outs-Try at resources items clauses)

pub stmt_tokens-ThisCall : (at : ℕ) (args : List Expr) (r : List Told) → stmt_tokens (anStmt.ThisCall at args) r ≡ key_at key_of.This at ∷ actuals (map expr_tokens args) (sign sign_of.Semicolon ∷ r)
stmt_tokens-ThisCall at args = stmt_tokens-at (anStmt.ThisCall at args) _ (anStmt.outs-ThisCall at args)

pub stmt_tokens-SuperCall : (at : ℕ) (args : List Expr) (r : List Told) → stmt_tokens (anStmt.SuperCall at args) r ≡ key_at key_of.Super at ∷ actuals (map expr_tokens args) (sign sign_of.Semicolon ∷ r)
stmt_tokens-SuperCall at args = stmt_tokens-at (anStmt.SuperCall at args) _ (anStmt.outs-SuperCall at args)

pub clause_tokens-out : (node : Clause) → clause_tokens node ≡ clause_told (map-Clause Member Stmt Clause Declaration Spelled Spelled Spelled Spelled member_tokens stmt_tokens clause_tokens declaration_tokens (out-Clause node))
unfolding member_tokens stmt_tokens clause_tokens declaration_tokens
clause_tokens-out node = fold_out-Clause Spelled Spelled Spelled Spelled member_told stmt_told clause_told declaration_told node

pub clause_tokens-parts : (node : Clause) (r : List Told) → clause_tokens node r ≡ clause_with (out-Clause node).head (out-Clause node).at (map stmt_tokens (out-Clause node).items) r
clause_tokens-parts node r = ap (λ (f : Spelled). f r) (clause_tokens-out node)

pub clause_tokens-made : (at : ℕ) (head : ClauseHead) (items : List Stmt) (r : List Told) → clause_tokens (roll-Clause (record { at = at; head = head; items = items })) r ≡ clause_with head at (map stmt_tokens items) r
unfolding member_tokens stmt_tokens clause_tokens declaration_tokens
clause_tokens-made at head items r = ap (λ (f : Spelled). f r) (fold-roll-Clause Spelled Spelled Spelled Spelled member_told stmt_told clause_told declaration_told (record { at = at; head = head; items = items }))

pub declaration_tokens-out : (node : Declaration) → declaration_tokens node ≡ declaration_told (map-Declaration Member Stmt Clause Declaration Spelled Spelled Spelled Spelled member_tokens stmt_tokens clause_tokens declaration_tokens (out-Declaration node))
unfolding member_tokens stmt_tokens clause_tokens declaration_tokens
declaration_tokens-out node = fold_out-Declaration Spelled Spelled Spelled Spelled member_told stmt_told clause_told declaration_told node

pub declaration_tokens-parts : (node : Declaration) (r : List Told) → declaration_tokens node r ≡ head_tokens (out-Declaration node).head (braced (map member_tokens (out-Declaration node).members) r)
declaration_tokens-parts node r = ap (λ (f : Spelled). f r) (declaration_tokens-out node)

pub declaration_tokens-made : (head : DeclarationHead) (members : List Member) (r : List Told) → declaration_tokens (roll-Declaration (record { head = head; members = members })) r ≡ head_tokens head (braced (map member_tokens members) r)
unfolding member_tokens stmt_tokens clause_tokens declaration_tokens
declaration_tokens-made head members r = ap (λ (f : Spelled). f r) (fold-roll-Declaration Spelled Spelled Spelled Spelled member_told stmt_told clause_told declaration_told (record { head = head; members = members }))
