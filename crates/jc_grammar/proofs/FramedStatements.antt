-- Statements, declarations and source files put their tokens before those that follow.
use Rattle.std.proofs.Common.{subst}
use Rattle.std.specs.Prelude.{Bool, List, None, Option, Some, false, true, ℕ}
use Rattle.jc_lexer.specs.declared.token.Key.TheVariants as key_of
use Rattle.jc_lexer.specs.declared.token.Sign.TheVariants as sign_of
use Rattle.jc_tree.specs.declared.expression.Expr.{Expr}
use Rattle.jc_tree.specs.declared.name.Ident.{Ident}
use Rattle.jc_tree.specs.declared.statement.Clause.{Clause, Clause-F, fold-roll-Clause, ind-Clause, map-Clause, roll-Clause}
use Rattle.jc_tree.specs.declared.statement.ClauseHead.{ClauseHead}
use Rattle.jc_tree.specs.declared.statement.ClauseHead.TheVariants as anClauseHead
use Rattle.jc_tree.specs.declared.statement.Declaration.{Declaration, Declaration-F, fold-roll-Declaration, ind-Declaration, map-Declaration, roll-Declaration}
use Rattle.jc_tree.specs.declared.statement.Import.{Import}
use Rattle.jc_tree.specs.declared.statement.Member.{Member, Member-F, fold-roll-Member, ind-Member, map-Member, roll-Member}
use Rattle.jc_tree.specs.declared.statement.Package.{Package}
use Rattle.jc_tree.specs.declared.statement.SourceFile.{SourceFile}
use Rattle.jc_tree.specs.declared.statement.Stmt.{Stmt, Stmt-F, fold-roll-Stmt, ind-Stmt, map-Stmt, roll-Stmt}
use Rattle.jc_tree.specs.declared.statement.TopLevel.{TopLevel}
use Rattle.jc_tree.specs.declared.statement.TopLevel.TheVariants as anTopLevel
use Rattle.jc_grammar.proofs.Framed.{AllFrame, Frames, actuals_frames, all_frame, all_given, each_frames, ended, frames_along, if_some_frames, joined, names_frame, nothing, seq, token}
use Rattle.jc_grammar.proofs.FramedExpressions.{expr_frames}
use Rattle.jc_grammar.proofs.FramedParts.{bars_frame, for_frames, head_frames, locals_frame, method_frames, modifiers_frame, resources_frame}
use Rattle.jc_grammar.proofs.FramedTypes.{class_frames}
use Rattle.jc_grammar.specs.Expressions.{expr_tokens}
use Rattle.jc_grammar.specs.Parts.{resources_tokens}
use Rattle.jc_grammar.specs.Statements.{after_elses, arms_tokens, braced, braced_at, clause_tokens, clause_told, clause_with, declaration_tokens, declaration_told, file_tokens, import_tokens, in_parens, labeled, member_tokens, member_told, on_demand_tokens, package_tokens, static_tokens, stmt_tokens, stmt_told, top_tokens}
use Rattle.jc_grammar.specs.Told.{Spelled, ident, key, key_at, sign, sign_at}

braced_frames : {l : List Spelled} → AllFrame l → Frames (braced l)
braced_frames all = seq (token (sign sign_of.LeftBrace)) (seq (each_frames all) (token (sign sign_of.RightBrace)))

braced_at_frames : {l : List Spelled} (at : ℕ) → AllFrame l → Frames (braced_at at l)
braced_at_frames at all = seq (token (sign_at sign_of.LeftBrace at)) (seq (each_frames all) (token (sign sign_of.RightBrace)))

in_parens_frame : (expr : Expr) → Frames (in_parens expr)
in_parens_frame expr = seq (token (sign sign_of.LeftParen)) (seq (expr_frames expr) (token (sign sign_of.RightParen)))

labeled_frames : (label : Option Ident) → Frames (labeled label)
labeled_frames None = nothing
labeled_frames (Some label) = token (ident label)

after_elses_frame : {l : List Spelled} → AllFrame l → Frames (after_elses l)
after_elses_frame ended = nothing
after_elses_frame (joined f all) = seq (token (key key_of.Else)) (seq f (after_elses_frame all))

arms_frame : {l : List Spelled} → AllFrame l → Frames (arms_tokens l)
arms_frame ended = nothing
arms_frame (joined f all) = seq f (after_elses_frame all)

clause_with_frames : {l : List Spelled} (head : ClauseHead) (at : ℕ) → AllFrame l → Frames (clause_with head at l)
clause_with_frames (anClauseHead.If test) at all = seq (token (key_at key_of.If at)) (seq (in_parens_frame test) (each_frames all))
clause_with_frames (anClauseHead.Case label) at all = seq (token (key_at key_of.Case at)) (seq (expr_frames label) (seq (token (sign sign_of.Colon)) (each_frames all)))
clause_with_frames anClauseHead.Default at all = seq (token (key_at key_of.Default at)) (seq (token (sign sign_of.Colon)) (each_frames all))
clause_with_frames (anClauseHead.Catch modifiers first more_it name) at all = seq (token (key_at key_of.Catch at)) (seq (token (sign sign_of.LeftParen)) (seq (modifiers_frame modifiers) (seq (class_frames first) (seq (bars_frame more_it) (seq (token (ident name)) (seq (token (sign sign_of.RightParen)) (braced_frames all)))))))
clause_with_frames anClauseHead.Finally at all = seq (token (key_at key_of.Finally at)) (braced_frames all)

abbrev SomeMember : Type 0
SomeMember = (x : Member) × Frames (member_tokens x)

abbrev SomeStmt : Type 0
SomeStmt = (x : Stmt) × Frames (stmt_tokens x)

abbrev SomeClause : Type 0
SomeClause = (x : Clause) × Frames (clause_tokens x)

abbrev SomeDeclaration : Type 0
SomeDeclaration = (x : Declaration) × Frames (declaration_tokens x)

abbrev plain_member : Member-F SomeMember SomeStmt SomeClause SomeDeclaration → Member-F Member Stmt Clause Declaration
plain_member y = map-Member SomeMember SomeStmt SomeClause SomeDeclaration Member Stmt Clause Declaration (λ z. z.0) (λ z. z.0) (λ z. z.0) (λ z. z.0) y

member_layer : (y : Member-F SomeMember SomeStmt SomeClause SomeDeclaration) → Frames (member_told (map-Member Member Stmt Clause Declaration Spelled Spelled Spelled Spelled member_tokens stmt_tokens clause_tokens declaration_tokens (plain_member y)))
member_layer (Member-F.Semicolon at) = token (sign_at sign_of.Semicolon at)
member_layer (Member-F.Initialiser at true items) = seq (token (key_at key_of.Static at)) (braced_frames (all_given stmt_tokens items))
member_layer (Member-F.Initialiser at false items) = braced_at_frames at (all_given stmt_tokens items)
member_layer (Member-F.Fields vars) = seq (locals_frame vars) (token (sign sign_of.Semicolon))
member_layer (Member-F.Bare head) = seq (method_frames head) (token (sign sign_of.Semicolon))
member_layer (Member-F.Method head items) = seq (method_frames head) (braced_frames (all_given stmt_tokens items))
member_layer (Member-F.Nested declaration) = declaration.1

member_rolled : (y : Member-F SomeMember SomeStmt SomeClause SomeDeclaration) → Frames (member_tokens (roll-Member (plain_member y)))
unfolding member_tokens stmt_tokens clause_tokens declaration_tokens
member_rolled y = frames_along (fold-roll-Member Spelled Spelled Spelled Spelled member_told stmt_told clause_told declaration_told (plain_member y)) (member_layer y)

abbrev plain_stmt : Stmt-F SomeMember SomeStmt SomeClause SomeDeclaration → Stmt-F Member Stmt Clause Declaration
plain_stmt y = map-Stmt SomeMember SomeStmt SomeClause SomeDeclaration Member Stmt Clause Declaration (λ z. z.0) (λ z. z.0) (λ z. z.0) (λ z. z.0) y

stmt_layer : (y : Stmt-F SomeMember SomeStmt SomeClause SomeDeclaration) → Frames (stmt_told (map-Stmt Member Stmt Clause Declaration Spelled Spelled Spelled Spelled member_tokens stmt_tokens clause_tokens declaration_tokens (plain_stmt y)))
stmt_layer (Stmt-F.Local vars) = seq (locals_frame vars) (token (sign sign_of.Semicolon))
stmt_layer (Stmt-F.Declared declaration) = declaration.1
stmt_layer (Stmt-F.Block at items) = braced_at_frames at (all_given stmt_tokens items)
stmt_layer (Stmt-F.Empty at) = token (sign_at sign_of.Semicolon at)
stmt_layer (Stmt-F.Effect expr) = seq (expr_frames expr) (token (sign sign_of.Semicolon))
stmt_layer (Stmt-F.Labeled label body) = seq (token (ident label)) (seq (token (sign sign_of.Colon)) body.1)
stmt_layer (Stmt-F.If arms otherwise) = seq (arms_frame (all_given clause_tokens arms)) (after_elses_frame (all_given stmt_tokens otherwise))
stmt_layer (Stmt-F.While at test body) = seq (token (key_at key_of.While at)) (seq (in_parens_frame test) body.1)
stmt_layer (Stmt-F.Do at body test) = seq (token (key_at key_of.Do at)) (seq body.1 (seq (token (key key_of.While)) (seq (in_parens_frame test) (token (sign sign_of.Semicolon)))))
stmt_layer (Stmt-F.For at head body) = seq (token (key_at key_of.For at)) (seq (token (sign sign_of.LeftParen)) (seq (for_frames head) (seq (token (sign sign_of.RightParen)) body.1)))
stmt_layer (Stmt-F.Switch at selector groups) = seq (token (key_at key_of.Switch at)) (seq (in_parens_frame selector) (braced_frames (all_given clause_tokens groups)))
stmt_layer (Stmt-F.Return at value) = seq (token (key_at key_of.Return at)) (seq (if_some_frames expr_tokens expr_frames value) (token (sign sign_of.Semicolon)))
stmt_layer (Stmt-F.Break at label) = seq (token (key_at key_of.Break at)) (seq (labeled_frames label) (token (sign sign_of.Semicolon)))
stmt_layer (Stmt-F.Continue at label) = seq (token (key_at key_of.Continue at)) (seq (labeled_frames label) (token (sign sign_of.Semicolon)))
stmt_layer (Stmt-F.Throw at value) = seq (token (key_at key_of.Throw at)) (seq (expr_frames value) (token (sign sign_of.Semicolon)))
stmt_layer (Stmt-F.Try at resources items clauses) = seq (token (key_at key_of.Try at)) (seq (if_some_frames resources_tokens resources_frame resources) (seq (braced_frames (all_given stmt_tokens items)) (each_frames (all_given clause_tokens clauses))))
stmt_layer (Stmt-F.ThisCall at args) = seq (token (key_at key_of.This at)) (seq (actuals_frames (all_frame expr_tokens expr_frames args)) (token (sign sign_of.Semicolon)))
stmt_layer (Stmt-F.SuperCall at args) = seq (token (key_at key_of.Super at)) (seq (actuals_frames (all_frame expr_tokens expr_frames args)) (token (sign sign_of.Semicolon)))

stmt_rolled : (y : Stmt-F SomeMember SomeStmt SomeClause SomeDeclaration) → Frames (stmt_tokens (roll-Stmt (plain_stmt y)))
unfolding member_tokens stmt_tokens clause_tokens declaration_tokens
stmt_rolled y = frames_along (fold-roll-Stmt Spelled Spelled Spelled Spelled member_told stmt_told clause_told declaration_told (plain_stmt y)) (stmt_layer y)

abbrev plain_clause : Clause-F SomeMember SomeStmt SomeClause SomeDeclaration → Clause-F Member Stmt Clause Declaration
plain_clause y = map-Clause SomeMember SomeStmt SomeClause SomeDeclaration Member Stmt Clause Declaration (λ z. z.0) (λ z. z.0) (λ z. z.0) (λ z. z.0) y

clause_layer : (y : Clause-F SomeMember SomeStmt SomeClause SomeDeclaration) → Frames (clause_told (map-Clause Member Stmt Clause Declaration Spelled Spelled Spelled Spelled member_tokens stmt_tokens clause_tokens declaration_tokens (plain_clause y)))
clause_layer y = clause_with_frames y.head y.at (all_given stmt_tokens y.items)

clause_rolled : (y : Clause-F SomeMember SomeStmt SomeClause SomeDeclaration) → Frames (clause_tokens (roll-Clause (plain_clause y)))
unfolding member_tokens stmt_tokens clause_tokens declaration_tokens
clause_rolled y = frames_along (fold-roll-Clause Spelled Spelled Spelled Spelled member_told stmt_told clause_told declaration_told (plain_clause y)) (clause_layer y)

abbrev plain_declaration : Declaration-F SomeMember SomeStmt SomeClause SomeDeclaration → Declaration-F Member Stmt Clause Declaration
plain_declaration y = map-Declaration SomeMember SomeStmt SomeClause SomeDeclaration Member Stmt Clause Declaration (λ z. z.0) (λ z. z.0) (λ z. z.0) (λ z. z.0) y

declaration_layer : (y : Declaration-F SomeMember SomeStmt SomeClause SomeDeclaration) → Frames (declaration_told (map-Declaration Member Stmt Clause Declaration Spelled Spelled Spelled Spelled member_tokens stmt_tokens clause_tokens declaration_tokens (plain_declaration y)))
declaration_layer y = seq (head_frames y.head) (braced_frames (all_given member_tokens y.members))

declaration_rolled : (y : Declaration-F SomeMember SomeStmt SomeClause SomeDeclaration) → Frames (declaration_tokens (roll-Declaration (plain_declaration y)))
unfolding member_tokens stmt_tokens clause_tokens declaration_tokens
declaration_rolled y = frames_along (fold-roll-Declaration Spelled Spelled Spelled Spelled member_told stmt_told clause_told declaration_told (plain_declaration y)) (declaration_layer y)

pub member_frames : (x : Member) → Frames (member_tokens x)
member_frames = ind-Member (λ x. Frames (member_tokens x)) (λ x. Frames (stmt_tokens x)) (λ x. Frames (clause_tokens x)) (λ x. Frames (declaration_tokens x))
    (λ x y is. subst (λ (x : Member-F Member Stmt Clause Declaration). Frames (member_tokens (roll-Member x))) is (member_rolled y))
    (λ x y is. subst (λ (x : Stmt-F Member Stmt Clause Declaration). Frames (stmt_tokens (roll-Stmt x))) is (stmt_rolled y))
    (λ x y is. subst (λ (x : Clause-F Member Stmt Clause Declaration). Frames (clause_tokens (roll-Clause x))) is (clause_rolled y))
    (λ x y is. subst (λ (x : Declaration-F Member Stmt Clause Declaration). Frames (declaration_tokens (roll-Declaration x))) is (declaration_rolled y))

pub stmt_frames : (x : Stmt) → Frames (stmt_tokens x)
stmt_frames = ind-Stmt (λ x. Frames (member_tokens x)) (λ x. Frames (stmt_tokens x)) (λ x. Frames (clause_tokens x)) (λ x. Frames (declaration_tokens x))
    (λ x y is. subst (λ (x : Member-F Member Stmt Clause Declaration). Frames (member_tokens (roll-Member x))) is (member_rolled y))
    (λ x y is. subst (λ (x : Stmt-F Member Stmt Clause Declaration). Frames (stmt_tokens (roll-Stmt x))) is (stmt_rolled y))
    (λ x y is. subst (λ (x : Clause-F Member Stmt Clause Declaration). Frames (clause_tokens (roll-Clause x))) is (clause_rolled y))
    (λ x y is. subst (λ (x : Declaration-F Member Stmt Clause Declaration). Frames (declaration_tokens (roll-Declaration x))) is (declaration_rolled y))

pub clause_frames : (x : Clause) → Frames (clause_tokens x)
clause_frames = ind-Clause (λ x. Frames (member_tokens x)) (λ x. Frames (stmt_tokens x)) (λ x. Frames (clause_tokens x)) (λ x. Frames (declaration_tokens x))
    (λ x y is. subst (λ (x : Member-F Member Stmt Clause Declaration). Frames (member_tokens (roll-Member x))) is (member_rolled y))
    (λ x y is. subst (λ (x : Stmt-F Member Stmt Clause Declaration). Frames (stmt_tokens (roll-Stmt x))) is (stmt_rolled y))
    (λ x y is. subst (λ (x : Clause-F Member Stmt Clause Declaration). Frames (clause_tokens (roll-Clause x))) is (clause_rolled y))
    (λ x y is. subst (λ (x : Declaration-F Member Stmt Clause Declaration). Frames (declaration_tokens (roll-Declaration x))) is (declaration_rolled y))

pub declaration_frames : (x : Declaration) → Frames (declaration_tokens x)
declaration_frames = ind-Declaration (λ x. Frames (member_tokens x)) (λ x. Frames (stmt_tokens x)) (λ x. Frames (clause_tokens x)) (λ x. Frames (declaration_tokens x))
    (λ x y is. subst (λ (x : Member-F Member Stmt Clause Declaration). Frames (member_tokens (roll-Member x))) is (member_rolled y))
    (λ x y is. subst (λ (x : Stmt-F Member Stmt Clause Declaration). Frames (stmt_tokens (roll-Stmt x))) is (stmt_rolled y))
    (λ x y is. subst (λ (x : Clause-F Member Stmt Clause Declaration). Frames (clause_tokens (roll-Clause x))) is (clause_rolled y))
    (λ x y is. subst (λ (x : Declaration-F Member Stmt Clause Declaration). Frames (declaration_tokens (roll-Declaration x))) is (declaration_rolled y))

package_frames : (p : Package) → Frames (package_tokens p)
package_frames p = seq (token (key_at key_of.Package p.at)) (seq (token (ident p.first)) (seq (names_frame p.more) (token (sign sign_of.Semicolon))))

static_frames : (b : Bool) → Frames (static_tokens b)
static_frames true = token (key key_of.Static)
static_frames false = nothing

on_demand_frames : (b : Bool) → Frames (on_demand_tokens b)
on_demand_frames true = seq (token (sign sign_of.Dot)) (token (sign sign_of.Star))
on_demand_frames false = nothing

import_frames : (i : Import) → Frames (import_tokens i)
import_frames i = seq (token (key_at key_of.Import i.at)) (seq (static_frames i.is_static) (seq (token (ident i.first)) (seq (names_frame i.more) (seq (on_demand_frames i.on_demand) (token (sign sign_of.Semicolon))))))

top_frames : (top : TopLevel) → Frames (top_tokens top)
top_frames (anTopLevel.Declaration declaration) = declaration_frames declaration
top_frames (anTopLevel.Semicolon at) = token (sign_at sign_of.Semicolon at)

pub file_frames : (file : SourceFile) → Frames (file_tokens file)
file_frames file = seq (if_some_frames package_tokens package_frames file.package) (seq (each_frames (all_frame import_tokens import_frames file.imports)) (each_frames (all_frame top_tokens top_frames file.types)))
