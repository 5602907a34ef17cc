-- The tokens of statements, declarations and source files (JLS 7, 8, 9, 14).
use Rattle.std.specs.Prelude.{ℕ, Bool, true, false, List, [], ◌∷◌, map, Option, Some, None}
use Rattle.jc_lexer.specs.declared.token.Key.TheVariants as key_of
use Rattle.jc_lexer.specs.declared.token.Sign.TheVariants as sign_of
use Rattle.jc_tree.specs.declared.name.Ident.{Ident}
use Rattle.jc_tree.specs.declared.expression.Expr.{Expr}
use Rattle.jc_tree.specs.declared.statement.Clause.{Clause, Clause-F, fold-Clause}
use Rattle.jc_tree.specs.declared.statement.ClauseHead.{ClauseHead}
use Rattle.jc_tree.specs.declared.statement.ClauseHead.TheVariants as clause_of
use Rattle.jc_tree.specs.declared.statement.Declaration.{Declaration, Declaration-F, fold-Declaration}
use Rattle.jc_tree.specs.declared.statement.Import.{Import}
use Rattle.jc_tree.specs.declared.statement.Member.{Member, Member-F, fold-Member}
use Rattle.jc_tree.specs.declared.statement.Package.{Package}
use Rattle.jc_tree.specs.declared.statement.SourceFile.{SourceFile}
use Rattle.jc_tree.specs.declared.statement.Stmt.{Stmt, Stmt-F, fold-Stmt}
use Rattle.jc_tree.specs.declared.statement.TopLevel.{TopLevel}
use Rattle.jc_tree.specs.declared.statement.TopLevel.TheVariants as top_of
use Rattle.jc_grammar.specs.Told.{Spelled, sign, sign_at, key, key_at, ident, each, actuals, names_after}
use Rattle.jc_grammar.specs.Types.{class_tokens}
use Rattle.jc_grammar.specs.Expressions.{expr_tokens}
use Rattle.jc_grammar.specs.Parts.{if_some, modifiers_tokens, local_tokens, head_tokens, method_tokens, for_tokens, resources_tokens, after_bars}

-- between braces
abbrev pub braced : List Spelled → Spelled
braced items r = sign sign_of.LeftBrace ∷ each items (sign sign_of.RightBrace ∷ r)

-- the same where the tree has the offset of the first brace
abbrev pub braced_at : ℕ → List Spelled → Spelled
braced_at at items r = sign_at sign_of.LeftBrace at ∷ each items (sign sign_of.RightBrace ∷ r)

-- "(" Expr ")"
abbrev pub in_parens : Expr → Spelled
in_parens expr r = sign sign_of.LeftParen ∷ expr_tokens expr (sign sign_of.RightParen ∷ r)

-- a part of a statement, its keyword at the offset
abbrev pub clause_with : ClauseHead → ℕ → List Spelled → Spelled
clause_with (clause_of.If test) at items r = key_at key_of.If at ∷ in_parens test (each items r)
clause_with (clause_of.Case label) at items r = key_at key_of.Case at ∷ expr_tokens label (sign sign_of.Colon ∷ each items r)
clause_with clause_of.Default at items r = key_at key_of.Default at ∷ sign sign_of.Colon ∷ each items r
clause_with (clause_of.Catch modifiers first more name) at items r =
    key_at key_of.Catch at ∷ sign sign_of.LeftParen ∷ modifiers_tokens modifiers (class_tokens first (after_bars more (ident name ∷ sign sign_of.RightParen ∷ braced items r)))
clause_with clause_of.Finally at items r = key_at key_of.Finally at ∷ braced items r

-- the same of a node, as the step of the fold
abbrev pub clause_told : Clause-F Spelled Spelled Spelled Spelled → Spelled
clause_told clause r = clause_with clause.head clause.at clause.items r

-- a head, and the members between braces
abbrev pub declaration_told : Declaration-F Spelled Spelled Spelled Spelled → Spelled
declaration_told declaration r = head_tokens declaration.head (braced declaration.members r)

-- Member, or ";"
abbrev pub member_told : Member-F Spelled Spelled Spelled Spelled → Spelled
member_told (Member-F.Semicolon at) r = sign_at sign_of.Semicolon at ∷ r
member_told (Member-F.Initialiser at true items) r = key_at key_of.Static at ∷ braced items r
member_told (Member-F.Initialiser at false items) r = braced_at at items r
member_told (Member-F.Fields vars) r = local_tokens vars (sign sign_of.Semicolon ∷ r)
member_told (Member-F.Bare head) r = method_tokens head (sign sign_of.Semicolon ∷ r)
member_told (Member-F.Method head items) r = method_tokens head (braced items r)
member_told (Member-F.Nested declaration) r = declaration r

-- parts of an `if`, each but the first behind `else`
abbrev pub after_elses : List Spelled → Spelled
after_elses [] r = r
after_elses (s ∷ arms) r = key key_of.Else ∷ s (after_elses arms r)

-- the parts of an `if`, the first one without `else`
abbrev pub arms_tokens : List Spelled → Spelled
arms_tokens [] r = r
arms_tokens (s ∷ arms) r = s (after_elses arms r)

-- a label, or nothing where a `break` or `continue` has none (JLS 14.15, 14.16)
abbrev pub labeled : Option Ident → Spelled
labeled None r = r
labeled (Some label) r = ident label ∷ r

-- JLS 14
abbrev pub stmt_told : Stmt-F Spelled Spelled Spelled Spelled → Spelled
stmt_told (Stmt-F.Local vars) r = local_tokens vars (sign sign_of.Semicolon ∷ r)
stmt_told (Stmt-F.Declared declaration) r = declaration r
stmt_told (Stmt-F.Block at items) r = braced_at at items r
stmt_told (Stmt-F.Empty at) r = sign_at sign_of.Semicolon at ∷ r
stmt_told (Stmt-F.Effect expr) r = expr_tokens expr (sign sign_of.Semicolon ∷ r)
stmt_told (Stmt-F.Labeled label body) r = ident label ∷ sign sign_of.Colon ∷ body r
stmt_told (Stmt-F.If arms otherwise) r = arms_tokens arms (after_elses otherwise r)
stmt_told (Stmt-F.While at test body) r = key_at key_of.While at ∷ in_parens test (body r)
stmt_told (Stmt-F.Do at body test) r = key_at key_of.Do at ∷ body (key key_of.While ∷ in_parens test (sign sign_of.Semicolon ∷ r))
stmt_told (Stmt-F.For at head body) r = key_at key_of.For at ∷ sign sign_of.LeftParen ∷ for_tokens head (sign sign_of.RightParen ∷ body r)
stmt_told (Stmt-F.Switch at selector groups) r = key_at key_of.Switch at ∷ in_parens selector (braced groups r)
stmt_told (Stmt-F.Return at value) r = key_at key_of.Return at ∷ if_some expr_tokens value (sign sign_of.Semicolon ∷ r)
stmt_told (Stmt-F.Break at label) r = key_at key_of.Break at ∷ labeled label (sign sign_of.Semicolon ∷ r)
stmt_told (Stmt-F.Continue at label) r = key_at key_of.Continue at ∷ labeled label (sign sign_of.Semicolon ∷ r)
stmt_told (Stmt-F.Throw at value) r = key_at key_of.Throw at ∷ expr_tokens value (sign sign_of.Semicolon ∷ r)
stmt_told (Stmt-F.Try at resources items clauses) r = key_at key_of.Try at ∷ if_some resources_tokens resources (braced items (each clauses r))
stmt_told (Stmt-F.ThisCall at args) r = key_at key_of.This at ∷ actuals (map expr_tokens args) (sign sign_of.Semicolon ∷ r)
stmt_told (Stmt-F.SuperCall at args) r = key_at key_of.Super at ∷ actuals (map expr_tokens args) (sign sign_of.Semicolon ∷ r)

-- the tokens of a statement, a member, a clause or a declaration, and then others
unfoldable pub stmt_tokens : Stmt → Spelled
stmt_tokens stmt = fold-Stmt Spelled Spelled Spelled Spelled member_told stmt_told clause_told declaration_told stmt

unfoldable pub member_tokens : Member → Spelled
member_tokens member = fold-Member Spelled Spelled Spelled Spelled member_told stmt_told clause_told declaration_told member

unfoldable pub clause_tokens : Clause → Spelled
clause_tokens clause = fold-Clause Spelled Spelled Spelled Spelled member_told stmt_told clause_told declaration_told clause

unfoldable pub declaration_tokens : Declaration → Spelled
declaration_tokens declaration = fold-Declaration Spelled Spelled Spelled Spelled member_told stmt_told clause_told declaration_told declaration

-- "package" Name ";"
abbrev pub package_tokens : Package → Spelled
package_tokens p r = key_at key_of.Package p.at ∷ ident p.first ∷ names_after p.more (sign sign_of.Semicolon ∷ r)

-- `static`, or nothing where an import is not of static members
abbrev pub static_tokens : Bool → Spelled
static_tokens true r = key key_of.Static ∷ r
static_tokens false r = r

-- `.` `*`, or nothing where an import names one type or member
abbrev pub on_demand_tokens : Bool → Spelled
on_demand_tokens true r = sign sign_of.Dot ∷ sign sign_of.Star ∷ r
on_demand_tokens false r = r

-- "import" ["static"] Name ["." "*"] ";"
abbrev pub import_tokens : Import → Spelled
import_tokens i r =
    key_at key_of.Import i.at ∷ static_tokens i.is_static (ident i.first ∷ names_after i.more (on_demand_tokens i.on_demand (sign sign_of.Semicolon ∷ r)))

-- Decl | ";"
abbrev pub top_tokens : TopLevel → Spelled
top_tokens (top_of.Declaration declaration) r = declaration_tokens declaration r
top_tokens (top_of.Semicolon at) r = sign_at sign_of.Semicolon at ∷ r

-- Unit = ["package" Name ";"] {Import} {Decl | ";"}
abbrev pub file_tokens : SourceFile → Spelled
file_tokens file r = if_some package_tokens file.package (each (map import_tokens file.imports) (each (map top_tokens file.types) r))
