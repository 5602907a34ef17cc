-- The left-out forms of a tree, by those of its parts.
use Rattle.std.proofs.Common.{◌≡◌, ℕ, List, map, ap, ◌∙◌}
use Rattle.jc_tree.specs.declared.expression.ArrayInit.{ArrayInit, out-ArrayInit, map-ArrayInit, fold_out-ArrayInit}
use Rattle.jc_tree.specs.declared.expression.Creation.{Creation, Creation-F, out-Creation, map-Creation, fold_out-Creation}
use Rattle.jc_tree.specs.declared.expression.Expr.{Expr, Expr-F, out-Expr, map-Expr, fold_out-Expr}
use Rattle.jc_tree.specs.declared.expression.Init.{Init, Init-F, out-Init, map-Init, fold_out-Init}
use Rattle.jc_tree.specs.declared.expression.Operand.{Operand, Operand-F, out-Operand, map-Operand, fold_out-Operand}
use Rattle.jc_tree.specs.declared.statement.AnnotationValue.{AnnotationValue, out-AnnotationValue, map-AnnotationValue, fold_out-AnnotationValue}
use Rattle.jc_tree.specs.declared.statement.Clause.{Clause, out-Clause, map-Clause, fold_out-Clause}
use Rattle.jc_tree.specs.declared.statement.Declaration.{Declaration, out-Declaration, roll-Declaration, map-Declaration, fold_out-Declaration, fold-roll-Declaration}
use Rattle.jc_tree.specs.declared.statement.DeclarationHead.{DeclarationHead}
use Rattle.jc_tree.specs.declared.statement.Member.{Member, Member-F, out-Member, map-Member, fold_out-Member}
use Rattle.jc_tree.specs.declared.statement.Stmt.{Stmt, Stmt-F, out-Stmt, map-Stmt, fold_out-Stmt}
use Rattle.jc_tree.specs.Offsets.{first_offset_of_head}
use Rattle.jc_left_out.specs.LeftOut.{Part, Membered, Declared, creation_part, expr_part, init_part, operand_part, array_part, part_of_creation, part_of_expr, part_of_init, part_of_operand, part_of_array, value_forms, left_out_of_value, member_forms, stmt_forms, clause_forms, declaration_forms, declared_with, forms_of_member, forms_of_stmt, forms_of_clause, forms_of_declaration}

pub part_of_creation-out : (node : Creation) → part_of_creation node ≡ creation_part (map-Creation Creation Expr Init Operand ArrayInit Part Part Part Part Part part_of_creation part_of_expr part_of_init part_of_operand part_of_array (out-Creation node))
unfolding part_of_creation part_of_expr part_of_init part_of_operand part_of_array
part_of_creation-out node = fold_out-Creation Part Part Part Part Part creation_part expr_part init_part operand_part array_part node

pub part_of_expr-out : (node : Expr) → part_of_expr node ≡ expr_part (map-Expr Creation Expr Init Operand ArrayInit Part Part Part Part Part part_of_creation part_of_expr part_of_init part_of_operand part_of_array (out-Expr node))
unfolding part_of_creation part_of_expr part_of_init part_of_operand part_of_array
part_of_expr-out node = fold_out-Expr Part Part Part Part Part creation_part expr_part init_part operand_part array_part node

pub part_of_init-out : (node : Init) → part_of_init node ≡ init_part (map-Init Creation Expr Init Operand ArrayInit Part Part Part Part Part part_of_creation part_of_expr part_of_init part_of_operand part_of_array (out-Init node))
unfolding part_of_creation part_of_expr part_of_init part_of_operand part_of_array
part_of_init-out node = fold_out-Init Part Part Part Part Part creation_part expr_part init_part operand_part array_part node

pub part_of_operand-out : (node : Operand) → part_of_operand node ≡ operand_part (map-Operand Creation Expr Init Operand ArrayInit Part Part Part Part Part part_of_creation part_of_expr part_of_init part_of_operand part_of_array (out-Operand node))
unfolding part_of_creation part_of_expr part_of_init part_of_operand part_of_array
part_of_operand-out node = fold_out-Operand Part Part Part Part Part creation_part expr_part init_part operand_part array_part node

pub part_of_array-out : (node : ArrayInit) → part_of_array node ≡ array_part (map-ArrayInit Creation Expr Init Operand ArrayInit Part Part Part Part Part part_of_creation part_of_expr part_of_init part_of_operand part_of_array (out-ArrayInit node))
unfolding part_of_creation part_of_expr part_of_init part_of_operand part_of_array
part_of_array-out node = fold_out-ArrayInit Part Part Part Part Part creation_part expr_part init_part operand_part array_part node

pub left_out_of_value-out : (node : AnnotationValue) → left_out_of_value node ≡ value_forms (map-AnnotationValue AnnotationValue (List ℕ) left_out_of_value (out-AnnotationValue node))
unfolding left_out_of_value
left_out_of_value-out node = fold_out-AnnotationValue (List ℕ) value_forms node

pub forms_of_member-out : (node : Member) → forms_of_member node ≡ member_forms (map-Member Member Stmt Clause Declaration Membered (List ℕ) (List ℕ) Declared forms_of_member forms_of_stmt forms_of_clause forms_of_declaration (out-Member node))
unfolding forms_of_member forms_of_stmt forms_of_clause forms_of_declaration
forms_of_member-out node = fold_out-Member Membered (List ℕ) (List ℕ) Declared member_forms stmt_forms clause_forms declaration_forms node

pub forms_of_stmt-out : (node : Stmt) → forms_of_stmt node ≡ stmt_forms (map-Stmt Member Stmt Clause Declaration Membered (List ℕ) (List ℕ) Declared forms_of_member forms_of_stmt forms_of_clause forms_of_declaration (out-Stmt node))
unfolding forms_of_member forms_of_stmt forms_of_clause forms_of_declaration
forms_of_stmt-out node = fold_out-Stmt Membered (List ℕ) (List ℕ) Declared member_forms stmt_forms clause_forms declaration_forms node

pub forms_of_clause-out : (node : Clause) → forms_of_clause node ≡ clause_forms (map-Clause Member Stmt Clause Declaration Membered (List ℕ) (List ℕ) Declared forms_of_member forms_of_stmt forms_of_clause forms_of_declaration (out-Clause node))
unfolding forms_of_member forms_of_stmt forms_of_clause forms_of_declaration
forms_of_clause-out node = fold_out-Clause Membered (List ℕ) (List ℕ) Declared member_forms stmt_forms clause_forms declaration_forms node

pub forms_of_declaration-out : (node : Declaration) → forms_of_declaration node ≡ declaration_forms (map-Declaration Member Stmt Clause Declaration Membered (List ℕ) (List ℕ) Declared forms_of_member forms_of_stmt forms_of_clause forms_of_declaration (out-Declaration node))
unfolding forms_of_member forms_of_stmt forms_of_clause forms_of_declaration
forms_of_declaration-out node = fold_out-Declaration Membered (List ℕ) (List ℕ) Declared member_forms stmt_forms clause_forms declaration_forms node

-- of a node that is told by its layer

pub part_of_creation-at : (node : Creation) (l : Creation-F Creation Expr Init Operand ArrayInit) → out-Creation node ≡ l → part_of_creation node ≡ creation_part (map-Creation Creation Expr Init Operand ArrayInit Part Part Part Part Part part_of_creation part_of_expr part_of_init part_of_operand part_of_array l)
part_of_creation-at node l e = part_of_creation-out node ∙ ap (λ (l : Creation-F Creation Expr Init Operand ArrayInit). creation_part (map-Creation Creation Expr Init Operand ArrayInit Part Part Part Part Part part_of_creation part_of_expr part_of_init part_of_operand part_of_array l)) e

pub part_of_expr-at : (node : Expr) (l : Expr-F Creation Expr Init Operand ArrayInit) → out-Expr node ≡ l → part_of_expr node ≡ expr_part (map-Expr Creation Expr Init Operand ArrayInit Part Part Part Part Part part_of_creation part_of_expr part_of_init part_of_operand part_of_array l)
part_of_expr-at node l e = part_of_expr-out node ∙ ap (λ (l : Expr-F Creation Expr Init Operand ArrayInit). expr_part (map-Expr Creation Expr Init Operand ArrayInit Part Part Part Part Part part_of_creation part_of_expr part_of_init part_of_operand part_of_array l)) e

pub part_of_init-at : (node : Init) (l : Init-F Creation Expr Init Operand ArrayInit) → out-Init node ≡ l → part_of_init node ≡ init_part (map-Init Creation Expr Init Operand ArrayInit Part Part Part Part Part part_of_creation part_of_expr part_of_init part_of_operand part_of_array l)
part_of_init-at node l e = part_of_init-out node ∙ ap (λ (l : Init-F Creation Expr Init Operand ArrayInit). init_part (map-Init Creation Expr Init Operand ArrayInit Part Part Part Part Part part_of_creation part_of_expr part_of_init part_of_operand part_of_array l)) e

pub part_of_operand-at : (node : Operand) (l : Operand-F Creation Expr Init Operand ArrayInit) → out-Operand node ≡ l → part_of_operand node ≡ operand_part (map-Operand Creation Expr Init Operand ArrayInit Part Part Part Part Part part_of_creation part_of_expr part_of_init part_of_operand part_of_array l)
part_of_operand-at node l e = part_of_operand-out node ∙ ap (λ (l : Operand-F Creation Expr Init Operand ArrayInit). operand_part (map-Operand Creation Expr Init Operand ArrayInit Part Part Part Part Part part_of_creation part_of_expr part_of_init part_of_operand part_of_array l)) e

pub forms_of_member-at : (node : Member) (l : Member-F Member Stmt Clause Declaration) → out-Member node ≡ l → forms_of_member node ≡ member_forms (map-Member Member Stmt Clause Declaration Membered (List ℕ) (List ℕ) Declared forms_of_member forms_of_stmt forms_of_clause forms_of_declaration l)
forms_of_member-at node l e = forms_of_member-out node ∙ ap (λ (l : Member-F Member Stmt Clause Declaration). member_forms (map-Member Member Stmt Clause Declaration Membered (List ℕ) (List ℕ) Declared forms_of_member forms_of_stmt forms_of_clause forms_of_declaration l)) e

pub forms_of_stmt-at : (node : Stmt) (l : Stmt-F Member Stmt Clause Declaration) → out-Stmt node ≡ l → forms_of_stmt node ≡ stmt_forms (map-Stmt Member Stmt Clause Declaration Membered (List ℕ) (List ℕ) Declared forms_of_member forms_of_stmt forms_of_clause forms_of_declaration l)
forms_of_stmt-at node l e = forms_of_stmt-out node ∙ ap (λ (l : Stmt-F Member Stmt Clause Declaration). stmt_forms (map-Stmt Member Stmt Clause Declaration Membered (List ℕ) (List ℕ) Declared forms_of_member forms_of_stmt forms_of_clause forms_of_declaration l)) e

-- of a declaration that is made of a head and members
pub forms_of_declaration-made : (head : DeclarationHead) (members : List Member) → forms_of_declaration (roll-Declaration (record { head = head; members = members })) ≡ declared_with head (first_offset_of_head head) (map forms_of_member members)
unfolding forms_of_member forms_of_stmt forms_of_clause forms_of_declaration
forms_of_declaration-made head members = fold-roll-Declaration Membered (List ℕ) (List ℕ) Declared member_forms stmt_forms clause_forms declaration_forms (record { head = head; members = members })
