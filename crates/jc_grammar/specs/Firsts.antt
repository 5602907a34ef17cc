-- Where a tree begins: the offset of the first token that it tells.
use Rattle.std.specs.Prelude.{◌≡◌, ℕ, true, List, [], ◌∷◌, Some}
use Rattle.jc_tree.specs.declared.types.TypeTree.{TypeTree}
use Rattle.jc_tree.specs.declared.types.TypeArg.{TypeArg}
use Rattle.jc_tree.specs.declared.expression.Expr.{Expr}
use Rattle.jc_tree.specs.declared.expression.Creation.{Creation}
use Rattle.jc_tree.specs.declared.expression.Init.{Init}
use Rattle.jc_tree.specs.declared.statement.AnnotationValue.{AnnotationValue}
use Rattle.jc_tree.specs.declared.statement.Stmt.{Stmt}
use Rattle.jc_tree.specs.declared.statement.Member.{Member}
use Rattle.jc_tree.specs.declared.statement.Declaration.{Declaration}
use Rattle.jc_tree.specs.Offsets.{first_offset_of_type, first_offset_of_arg, first_offset_of_expr, first_offset_of_creation, first_offset_of_init, first_offset_of_value, first_offset_of_stmt, first_offset_of_member, first_offset_of_declaration}
use Rattle.jc_grammar.specs.Told.{Told}
use Rattle.jc_grammar.specs.Types.{type_tokens, arg_tokens}
use Rattle.jc_grammar.specs.Expressions.{expr_tokens, creation_tokens, init_tokens}
use Rattle.jc_grammar.specs.Parts.{value_tokens}
use Rattle.jc_grammar.specs.Statements.{stmt_tokens, member_tokens, declaration_tokens}
use Rattle.jc_grammar.specs.Units.{stmt_shape}

-- there is a first token, and it stands at the offset
abbrev pub BeginsAt : ℕ → List Told → Type 0
BeginsAt at [] = ⊥
BeginsAt at (d ∷ told) = d.at ≡ Some at

-- of each kind of tree: the token that it tells first is told with the offset at which the tree begins
pub record FirstsAreTold : Type 0 where
  pub types : (ty : TypeTree) (r : List Told) → BeginsAt (first_offset_of_type ty) (type_tokens ty r)
  pub args : (arg : TypeArg) (r : List Told) → BeginsAt (first_offset_of_arg arg) (arg_tokens arg r)
  pub expressions : (expr : Expr) (r : List Told) → BeginsAt (first_offset_of_expr expr) (expr_tokens expr r)
  pub creations : (creation : Creation) (r : List Told) → BeginsAt (first_offset_of_creation creation) (creation_tokens creation r)
  pub inits : (init : Init) (r : List Told) → BeginsAt (first_offset_of_init init) (init_tokens init r)
  pub values : (value : AnnotationValue) (r : List Told) → BeginsAt (first_offset_of_value value) (value_tokens value r)
  pub declarations : (declaration : Declaration) (r : List Told) → BeginsAt (first_offset_of_declaration declaration) (declaration_tokens declaration r)
  pub members : (member : Member) (r : List Told) → BeginsAt (first_offset_of_member member) (member_tokens member r)
  -- an `if` of the grammar has a part
  pub statements : (stmt : Stmt) (r : List Told) → (stmt_shape stmt).good ≡ true → BeginsAt (first_offset_of_stmt stmt) (stmt_tokens stmt r)
