-- Which statements take an `else` behind them.
use Rattle.std.proofs.Common.{◌≡◌, ℕ, false, List, [], ◌∷◌, map, Option, refl, ap}
use Rattle.jc_tree.specs.declared.name.Ident.{Ident}
use Rattle.jc_tree.specs.declared.expression.Expr.{Expr}
use Rattle.jc_tree.specs.declared.statement.Clause.{Clause, out-Clause}
use Rattle.jc_tree.specs.declared.statement.Declaration.{Declaration}
use Rattle.jc_tree.specs.declared.statement.ForHead.{ForHead}
use Rattle.jc_tree.specs.declared.statement.LocalVars.{LocalVars}
use Rattle.jc_tree.specs.declared.statement.Resources.{Resources}
use Rattle.jc_tree.specs.declared.statement.Stmt.{Stmt}
use Rattle.jc_tree.specs.declared.statement.Stmt.TheVariants as stmt_of
use Rattle.jc_grammar.specs.Units.{ClauseShape, StmtShape, clause_with, ends_open, clause_shape, stmt_shape}
use Rattle.jc_parse_nodes.specs.Nodes.{alone_open, first_open}
use Rattle.jc_grammar.proofs.ShapesOfStatements.{clause_shape-parts, stmt_shape-Local, stmt_shape-Declared, stmt_shape-Block, stmt_shape-Empty, stmt_shape-Effect, stmt_shape-Labeled, stmt_shape-If, stmt_shape-While, stmt_shape-Do, stmt_shape-For, stmt_shape-Switch, stmt_shape-Return, stmt_shape-Break, stmt_shape-Continue, stmt_shape-Throw, stmt_shape-Try, stmt_shape-ThisCall, stmt_shape-SuperCall}

pub open-Local : (vars : LocalVars) → (stmt_shape (stmt_of.Local vars)).open_end ≡ false
open-Local vars = ap (λ (s : StmtShape). s.open_end) (stmt_shape-Local vars)

pub open-Declared : (declaration : Declaration) → (stmt_shape (stmt_of.Declared declaration)).open_end ≡ false
open-Declared declaration = ap (λ (s : StmtShape). s.open_end) (stmt_shape-Declared declaration)

pub open-Block : (at : ℕ) (items : List Stmt) → (stmt_shape (stmt_of.Block at items)).open_end ≡ false
open-Block at items = ap (λ (s : StmtShape). s.open_end) (stmt_shape-Block at items)

pub open-Empty : (at : ℕ) → (stmt_shape (stmt_of.Empty at)).open_end ≡ false
open-Empty at = ap (λ (s : StmtShape). s.open_end) (stmt_shape-Empty at)

pub open-Effect : (expr : Expr) → (stmt_shape (stmt_of.Effect expr)).open_end ≡ false
open-Effect expr = ap (λ (s : StmtShape). s.open_end) (stmt_shape-Effect expr)

pub open-Do : (at : ℕ) (body : Stmt) (test : Expr) → (stmt_shape (stmt_of.Do at body test)).open_end ≡ false
open-Do at body test = ap (λ (s : StmtShape). s.open_end) (stmt_shape-Do at body test)

pub open-Switch : (at : ℕ) (selector : Expr) (groups : List Clause) → (stmt_shape (stmt_of.Switch at selector groups)).open_end ≡ false
open-Switch at selector groups = ap (λ (s : StmtShape). s.open_end) (stmt_shape-Switch at selector groups)

pub open-Return : (at : ℕ) (value : Option Expr) → (stmt_shape (stmt_of.Return at value)).open_end ≡ false
open-Return at value = ap (λ (s : StmtShape). s.open_end) (stmt_shape-Return at value)

pub open-Break : (at : ℕ) (label : Option Ident) → (stmt_shape (stmt_of.Break at label)).open_end ≡ false
open-Break at label = ap (λ (s : StmtShape). s.open_end) (stmt_shape-Break at label)

pub open-Continue : (at : ℕ) (label : Option Ident) → (stmt_shape (stmt_of.Continue at label)).open_end ≡ false
open-Continue at label = ap (λ (s : StmtShape). s.open_end) (stmt_shape-Continue at label)

pub open-Throw : (at : ℕ) (value : Expr) → (stmt_shape (stmt_of.Throw at value)).open_end ≡ false
open-Throw at value = ap (λ (s : StmtShape). s.open_end) (stmt_shape-Throw at value)

pub open-Try : (at : ℕ) (resources : Option Resources) (items : List Stmt) (clauses : List Clause) → (stmt_shape (stmt_of.Try at resources items clauses)).open_end ≡ false
open-Try at resources items clauses = ap (λ (s : StmtShape). s.open_end) (stmt_shape-Try at resources items clauses)

pub open-ThisCall : (at : ℕ) (actuals : List Expr) → (stmt_shape (stmt_of.ThisCall at actuals)).open_end ≡ false
open-ThisCall at actuals = ap (λ (s : StmtShape). s.open_end) (stmt_shape-ThisCall at actuals)

pub open-SuperCall : (at : ℕ) (actuals : List Expr) → (stmt_shape (stmt_of.SuperCall at actuals)).open_end ≡ false
open-SuperCall at actuals = ap (λ (s : StmtShape). s.open_end) (stmt_shape-SuperCall at actuals)

pub open-Labeled : (label : Ident) (body : Stmt) → (stmt_shape (stmt_of.Labeled label body)).open_end ≡ (stmt_shape body).open_end
open-Labeled label body = ap (λ (s : StmtShape). s.open_end) (stmt_shape-Labeled label body)

pub open-While : (at : ℕ) (test : Expr) (body : Stmt) → (stmt_shape (stmt_of.While at test body)).open_end ≡ (stmt_shape body).open_end
open-While at test body = ap (λ (s : StmtShape). s.open_end) (stmt_shape-While at test body)

pub open-For : (at : ℕ) (head : ForHead) (body : Stmt) → (stmt_shape (stmt_of.For at head body)).open_end ≡ (stmt_shape body).open_end
open-For at head body = ap (λ (s : StmtShape). s.open_end) (stmt_shape-For at head body)

pub open-If : (arms : List Clause) (otherwise : List Stmt) → (stmt_shape (stmt_of.If arms otherwise)).open_end ≡ alone_open otherwise
open-If arms [] = ap (λ (s : StmtShape). s.open_end) (stmt_shape-If arms [])
open-If arms (last ∷ []) = ap (λ (s : StmtShape). s.open_end) (stmt_shape-If arms (last ∷ []))
open-If arms (a ∷ b ∷ more) = ap (λ (s : StmtShape). s.open_end) (stmt_shape-If arms (a ∷ b ∷ more))

pub ruleset open_ends = (open-Local, open-Declared, open-Block, open-Empty, open-Effect, open-Do, open-Switch, open-Return, open-Break, open-Continue, open-Throw, open-Try, open-ThisCall, open-SuperCall, open-Labeled, open-While, open-For, open-If)

pub open-clause : (c : Clause) → (clause_shape c).open_end ≡ (clause_with (out-Clause c).head (map stmt_shape (out-Clause c).items)).open_end
open-clause c = ap (λ (s : ClauseShape). s.open_end) (clause_shape-parts c)

pub open-first : (items : List Stmt) → ends_open (map stmt_shape items) ≡ first_open items
open-first [] = refl
open-first (s ∷ items) = refl

pub ruleset arm_opens = (open-clause, open-first)
