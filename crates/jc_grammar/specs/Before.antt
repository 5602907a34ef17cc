-- The tokens of a tree come before those that follow, whatever these are.
use Rattle.std.specs.Prelude.{◌≡◌, List, ◌++◌}
use Rattle.jc_tree.specs.declared.expression.ArrayInit.{ArrayInit}
use Rattle.jc_tree.specs.declared.expression.Creation.{Creation}
use Rattle.jc_tree.specs.declared.expression.Expr.{Expr}
use Rattle.jc_tree.specs.declared.expression.Init.{Init}
use Rattle.jc_tree.specs.declared.expression.Skip.{Skip}
use Rattle.jc_tree.specs.declared.statement.AnnotationValue.{AnnotationValue}
use Rattle.jc_tree.specs.declared.statement.Clause.{Clause}
use Rattle.jc_tree.specs.declared.statement.Declaration.{Declaration}
use Rattle.jc_tree.specs.declared.statement.Member.{Member}
use Rattle.jc_tree.specs.declared.statement.SourceFile.{SourceFile}
use Rattle.jc_tree.specs.declared.statement.Stmt.{Stmt}
use Rattle.jc_tree.specs.declared.types.ClassTree.{ClassTree}
use Rattle.jc_tree.specs.declared.types.TypeArg.{TypeArg}
use Rattle.jc_tree.specs.declared.types.TypeTree.{TypeTree}
use Rattle.jc_grammar.specs.Told.{Told}
use Rattle.jc_grammar.specs.Types.{type_tokens, arg_tokens, class_tokens}
use Rattle.jc_grammar.specs.Expressions.{expr_tokens, creation_tokens, array_tokens, init_tokens, skip_tokens}
use Rattle.jc_grammar.specs.Parts.{value_tokens}
use Rattle.jc_grammar.specs.Statements.{stmt_tokens, clause_tokens, member_tokens, declaration_tokens, file_tokens}

-- of each kind of tree: told before r and then s, it is told before r, and s stands behind that
pub record TokensComeFirst : Type 0 where
  pub types : (ty : TypeTree) (r s : List Told) → type_tokens ty (r ++ s) ≡ type_tokens ty r ++ s
  pub args : (arg : TypeArg) (r s : List Told) → arg_tokens arg (r ++ s) ≡ arg_tokens arg r ++ s
  pub classes : (class : ClassTree) (r s : List Told) → class_tokens class (r ++ s) ≡ class_tokens class r ++ s
  pub expressions : (expr : Expr) (r s : List Told) → expr_tokens expr (r ++ s) ≡ expr_tokens expr r ++ s
  pub creations : (creation : Creation) (r s : List Told) → creation_tokens creation (r ++ s) ≡ creation_tokens creation r ++ s
  pub arrays : (array : ArrayInit) (r s : List Told) → array_tokens array (r ++ s) ≡ array_tokens array r ++ s
  pub inits : (init : Init) (r s : List Told) → init_tokens init (r ++ s) ≡ init_tokens init r ++ s
  pub skips : (skip : Skip) (r s : List Told) → skip_tokens skip (r ++ s) ≡ skip_tokens skip r ++ s
  pub values : (value : AnnotationValue) (r s : List Told) → value_tokens value (r ++ s) ≡ value_tokens value r ++ s
  pub statements : (stmt : Stmt) (r s : List Told) → stmt_tokens stmt (r ++ s) ≡ stmt_tokens stmt r ++ s
  pub clauses : (clause : Clause) (r s : List Told) → clause_tokens clause (r ++ s) ≡ clause_tokens clause r ++ s
  pub members : (member : Member) (r s : List Told) → member_tokens member (r ++ s) ≡ member_tokens member r ++ s
  pub declarations : (declaration : Declaration) (r s : List Told) → declaration_tokens declaration (r ++ s) ≡ declaration_tokens declaration r ++ s
  pub files : (file : SourceFile) (r s : List Told) → file_tokens file (r ++ s) ≡ file_tokens file r ++ s
