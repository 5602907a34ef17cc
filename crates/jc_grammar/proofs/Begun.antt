-- Each tree tells the token at its first offset first.
use Rattle.std.proofs.Common.{◌≡◌, ℕ, Bool, true, false, List, [], ◌∷◌, refl, ap, sym, subst, ◌∙◌}
use Rattle.std.specs.Prelude.{Option, Some, None}
use Rattle.jc_tree.specs.declared.types.BaseTree.{BaseTree, BaseTree-F, out-BaseTree, map-BaseTree}
use Rattle.jc_tree.specs.declared.types.TypeArg.{TypeArg, TypeArg-F, out-TypeArg, map-TypeArg}
use Rattle.jc_tree.specs.declared.types.ClassTree.{ClassTree, out-ClassTree}
use Rattle.jc_tree.specs.declared.types.TypePart.{TypePart}
use Rattle.jc_tree.specs.declared.types.TypeTree.{TypeTree, out-TypeTree}
use Rattle.jc_tree.specs.declared.expression.Creation.{Creation, Creation-F, out-Creation, map-Creation}
use Rattle.jc_tree.specs.declared.expression.Expr.{Expr, Expr-F, roll-Expr, map-Expr, fold-roll-Expr, ind-Expr}
use Rattle.jc_tree.specs.declared.expression.Init.{Init, Init-F, out-Init, map-Init}
use Rattle.jc_tree.specs.declared.expression.Operand.{Operand}
use Rattle.jc_tree.specs.declared.expression.ArrayInit.{ArrayInit}
use Rattle.jc_tree.specs.declared.statement.AnnotationValue.{AnnotationValue, AnnotationValue-F, out-AnnotationValue, map-AnnotationValue}
use Rattle.jc_tree.specs.declared.statement.Clause.{Clause, out-Clause}
use Rattle.jc_tree.specs.declared.statement.ClauseHead.{ClauseHead}
use Rattle.jc_tree.specs.declared.statement.ClauseHead.TheVariants as clause_of
use Rattle.jc_tree.specs.declared.statement.Declaration.{Declaration, out-Declaration}
use Rattle.jc_tree.specs.declared.statement.DeclarationHead.{DeclarationHead}
use Rattle.jc_tree.specs.declared.statement.DeclarationHead.TheVariants as head_of
use Rattle.jc_tree.specs.declared.statement.LocalVars.{LocalVars}
use Rattle.jc_tree.specs.declared.statement.Member.{Member, Member-F, out-Member, map-Member}
use Rattle.jc_tree.specs.declared.statement.MethodHead.{MethodHead}
use Rattle.jc_tree.specs.declared.statement.Modifier.{Modifier}
use Rattle.jc_tree.specs.declared.statement.Modifier.TheVariants as modifier_of
use Rattle.jc_tree.specs.declared.statement.ResultType.{ResultType}
use Rattle.jc_tree.specs.declared.statement.ResultType.TheVariants as result_of
use Rattle.jc_tree.specs.declared.statement.Stmt.{Stmt, Stmt-F, out-Stmt, map-Stmt}
use Rattle.jc_tree.specs.declared.statement.TypeParams.{TypeParams}
use Rattle.jc_tree.specs.Offsets.{base_first, arg_first, creation_first, expr_first, init_first, operand_first, array_first, value_first, member_first, stmt_first, modifiers_first, params_first, result_first, first_offset_of_base, first_offset_of_arg, first_offset_of_class, first_offset_of_part, first_offset_of_type, first_offset_of_creation, first_offset_of_expr, first_offset_of_init, first_offset_of_operand, first_offset_of_array, first_offset_of_value, first_offset_of_modifier, first_offset_of_locals, first_offset_of_head, first_offset_of_method, first_offset_of_result, first_offset_of_member, first_offset_of_stmt, first_offset_of_clause, first_offset_of_declaration}
use Rattle.jc_tree.proofs.OffsetsOfTypes.{first_offset_of_base-out, first_offset_of_arg-out, first_offset_of_class-parts, first_offset_of_part-parts, first_offset_of_type-parts}
use Rattle.jc_tree.proofs.OffsetsOfExpressions.{first_offset_of_creation-out, first_offset_of_init-out, first_offset_of_array-parts}
use Rattle.jc_tree.proofs.OffsetsOfStatements.{first_offset_of_value-out, first_offset_of_member-out, first_offset_of_stmt-out, first_offset_of_clause-parts, first_offset_of_declaration-parts}
use Rattle.jc_grammar.specs.Told.{Told, Spelled}
use Rattle.jc_grammar.specs.Types.{base_told, arg_told, base_tokens, arg_tokens, class_tokens, part_tokens, type_tokens}
use Rattle.jc_grammar.specs.Expressions.{creation_told, expr_told, init_told, operand_told, array_told, creation_tokens, expr_tokens, init_tokens, operand_tokens, array_tokens}
use Rattle.jc_grammar.specs.Parts.{value_told, value_tokens, modifier_tokens, modifiers_tokens, local_tokens, head_tokens, method_tokens, result_tokens, params_of_tokens, if_some}
use Rattle.jc_grammar.specs.Statements.{member_told, stmt_told, clause_with, member_tokens, stmt_tokens, clause_tokens, declaration_tokens}
use Rattle.jc_grammar.specs.Units.{StmtShape, ClauseShape, stmt_shape_step, stmt_shape, clause_shape, is_member, is_declaration}
use Rattle.jc_grammar.specs.Firsts.{BeginsAt, FirstsAreTold}
use Rattle.jc_grammar.proofs.TokensOfTypes.{base_tokens-out, arg_tokens-out, class_tokens-parts, part_tokens-parts, type_tokens-parts}
use Rattle.jc_grammar.proofs.TokensOfExpressions.{creation_tokens-out, init_tokens-out, array_tokens-parts}
use Rattle.jc_grammar.proofs.TokensOfStatements.{value_tokens-out, member_tokens-out, stmt_tokens-out, clause_tokens-parts, declaration_tokens-parts}
use Rattle.jc_grammar.proofs.ShapesOfStatements.{stmt_shape-out}

along : (a b : ℕ) (s t : List Told) → a ≡ b → s ≡ t → BeginsAt b t → BeginsAt a s
along a b s t e f h = subst (λ (x : ℕ). BeginsAt x s) (sym e) (subst (λ (x : List Told). BeginsAt b x) (sym f) h)

at_rest : (f g : Spelled) (r : List Told) → f ≡ g → f r ≡ g r
at_rest f g r e = ap (λ (s : Spelled). s r) e

part_begins : (part : TypePart) (r : List Told) → BeginsAt (first_offset_of_part part) (part_tokens part r)
part_begins part r = along _ _ _ _ (first_offset_of_part-parts part) (part_tokens-parts part r) refl

class_begins : (class : ClassTree) (r : List Told) → BeginsAt (first_offset_of_class class) (class_tokens class r)
class_begins class r = along _ _ _ _ (first_offset_of_class-parts class) (class_tokens-parts class r) (part_begins (out-ClassTree class).first _)

base_layer : (l : BaseTree-F BaseTree TypeArg ClassTree TypePart TypeTree) (r : List Told) → BeginsAt (base_first (map-BaseTree BaseTree TypeArg ClassTree TypePart TypeTree ℕ ℕ ℕ ℕ ℕ first_offset_of_base first_offset_of_arg first_offset_of_class first_offset_of_part first_offset_of_type l)) (base_told (map-BaseTree BaseTree TypeArg ClassTree TypePart TypeTree Spelled Spelled Spelled Spelled Spelled base_tokens arg_tokens class_tokens part_tokens type_tokens l) r)
base_layer (BaseTree-F.Primitive at word) r = refl
base_layer (BaseTree-F.Class class) r = class_begins class r

base_begins : (base : BaseTree) (r : List Told) → BeginsAt (first_offset_of_base base) (base_tokens base r)
base_begins base r = along _ _ _ _ (first_offset_of_base-out base) (at_rest _ _ r (base_tokens-out base)) (base_layer (out-BaseTree base) r)

pub type_begins : (ty : TypeTree) (r : List Told) → BeginsAt (first_offset_of_type ty) (type_tokens ty r)
type_begins ty r = along _ _ _ _ (first_offset_of_type-parts ty) (type_tokens-parts ty r) (base_begins (out-TypeTree ty).base _)

arg_layer : (l : TypeArg-F BaseTree TypeArg ClassTree TypePart TypeTree) (r : List Told) → BeginsAt (arg_first (map-TypeArg BaseTree TypeArg ClassTree TypePart TypeTree ℕ ℕ ℕ ℕ ℕ first_offset_of_base first_offset_of_arg first_offset_of_class first_offset_of_part first_offset_of_type l)) (arg_told (map-TypeArg BaseTree TypeArg ClassTree TypePart TypeTree Spelled Spelled Spelled Spelled Spelled base_tokens arg_tokens class_tokens part_tokens type_tokens l) r)
arg_layer (TypeArg-F.Exact ty) r = type_begins ty r
arg_layer (TypeArg-F.Any at) r = refl
arg_layer (TypeArg-F.Extends at bound) r = refl
arg_layer (TypeArg-F.Super at bound) r = refl

arg_begins : (arg : TypeArg) (r : List Told) → BeginsAt (first_offset_of_arg arg) (arg_tokens arg r)
arg_begins arg r = along _ _ _ _ (first_offset_of_arg-out arg) (at_rest _ _ r (arg_tokens-out arg)) (arg_layer (out-TypeArg arg) r)

abbrev Begins : Expr → Type 0
Begins expr = (r : List Told) → BeginsAt (first_offset_of_expr expr) (expr_tokens expr r)

abbrev SomeExpr : Type 0
SomeExpr = (expr : Expr) × Begins expr

abbrev SomeCreation : Type 0
SomeCreation = (creation : Creation) × Unit {0}

abbrev SomeInit : Type 0
SomeInit = (init : Init) × Unit {0}

abbrev SomeOperand : Type 0
SomeOperand = (operand : Operand) × Unit {0}

abbrev SomeArray : Type 0
SomeArray = (array : ArrayInit) × Unit {0}

abbrev plain : Expr-F SomeCreation SomeExpr SomeInit SomeOperand SomeArray → Expr-F Creation Expr Init Operand ArrayInit
plain y = map-Expr SomeCreation SomeExpr SomeInit SomeOperand SomeArray Creation Expr Init Operand ArrayInit (λ z. z.0) (λ z. z.0) (λ z. z.0) (λ z. z.0) (λ z. z.0) y

abbrev firsts : Expr-F Creation Expr Init Operand ArrayInit → Expr-F ℕ ℕ ℕ ℕ ℕ
firsts l = map-Expr Creation Expr Init Operand ArrayInit ℕ ℕ ℕ ℕ ℕ first_offset_of_creation first_offset_of_expr first_offset_of_init first_offset_of_operand first_offset_of_array l

abbrev spelled : Expr-F Creation Expr Init Operand ArrayInit → Expr-F Spelled Spelled Spelled Spelled Spelled
spelled l = map-Expr Creation Expr Init Operand ArrayInit Spelled Spelled Spelled Spelled Spelled creation_tokens expr_tokens init_tokens operand_tokens array_tokens l

expr_layer : (y : Expr-F SomeCreation SomeExpr SomeInit SomeOperand SomeArray) (r : List Told) → BeginsAt (expr_first (firsts (plain y))) (expr_told (spelled (plain y)) r)
expr_layer (Expr-F.Assign target op value) r = target.1 _
expr_layer (Expr-F.Conditional test then_it else_it) r = test.1 _
expr_layer (Expr-F.Chain first rest) r = first.1 _
expr_layer (Expr-F.Prefix first more operand) r = refl
expr_layer (Expr-F.Cast at ty operand) r = refl
expr_layer (Expr-F.Postfix of_it op) r = of_it.1 _
expr_layer (Expr-F.Field of_it name) r = of_it.1 _
expr_layer (Expr-F.Call of_it type_args name args) r = of_it.1 _
expr_layer (Expr-F.Index of_it index) r = of_it.1 _
expr_layer (Expr-F.InnerNew of_it creation) r = of_it.1 _
expr_layer (Expr-F.Literal at value) r = refl
expr_layer (Expr-F.This at) r = refl
expr_layer (Expr-F.SuperField at name) r = refl
expr_layer (Expr-F.SuperCall at type_args name args) r = refl
expr_layer (Expr-F.Paren at inside) r = refl
expr_layer (Expr-F.Name name) r = refl
expr_layer (Expr-F.Invoke name args) r = refl
expr_layer (Expr-F.New at creation) r = refl
expr_layer (Expr-F.ClassLiteral ty) r = type_begins ty _
expr_layer (Expr-F.VoidLiteral at) r = refl
expr_layer (Expr-F.OuterThis first more) r = refl

first_rolled : (l : Expr-F Creation Expr Init Operand ArrayInit) → first_offset_of_expr (roll-Expr l) ≡ expr_first (firsts l)
unfolding first_offset_of_creation first_offset_of_expr first_offset_of_init first_offset_of_operand first_offset_of_array
first_rolled l = fold-roll-Expr ℕ ℕ ℕ ℕ ℕ creation_first expr_first init_first operand_first array_first l

tokens_rolled : (l : Expr-F Creation Expr Init Operand ArrayInit) → expr_tokens (roll-Expr l) ≡ expr_told (spelled l)
unfolding creation_tokens expr_tokens init_tokens operand_tokens array_tokens
tokens_rolled l = fold-roll-Expr Spelled Spelled Spelled Spelled Spelled creation_told expr_told init_told operand_told array_told l

rolled_begins : (y : Expr-F SomeCreation SomeExpr SomeInit SomeOperand SomeArray) → Begins (roll-Expr (plain y))
rolled_begins y r = along _ _ _ _ (first_rolled (plain y)) (at_rest _ _ r (tokens_rolled (plain y))) (expr_layer y r)

pub expr_begins : (expr : Expr) → Begins expr
expr_begins = ind-Expr (λ _. Unit {0}) Begins (λ _. Unit {0}) (λ _. Unit {0}) (λ _. Unit {0})
    (λ x y is. tt)
    (λ x y is. subst (λ (x : Expr-F Creation Expr Init Operand ArrayInit). Begins (roll-Expr x)) is (rolled_begins y))
    (λ x y is. tt)
    (λ x y is. tt)
    (λ x y is. tt)

creation_layer : (l : Creation-F Creation Expr Init Operand ArrayInit) (r : List Told) → BeginsAt (creation_first (map-Creation Creation Expr Init Operand ArrayInit ℕ ℕ ℕ ℕ ℕ first_offset_of_creation first_offset_of_expr first_offset_of_init first_offset_of_operand first_offset_of_array l)) (creation_told (map-Creation Creation Expr Init Operand ArrayInit Spelled Spelled Spelled Spelled Spelled creation_tokens expr_tokens init_tokens operand_tokens array_tokens l) r)
creation_layer (Creation-F.Object class diamond args body) r = class_begins class _
creation_layer (Creation-F.Sized element first more dims) r = base_begins element _
creation_layer (Creation-F.Initialised element dims init) r = base_begins element _

creation_begins : (creation : Creation) (r : List Told) → BeginsAt (first_offset_of_creation creation) (creation_tokens creation r)
creation_begins creation r = along _ _ _ _ (first_offset_of_creation-out creation) (at_rest _ _ r (creation_tokens-out creation)) (creation_layer (out-Creation creation) r)

array_begins : (array : ArrayInit) (r : List Told) → BeginsAt (first_offset_of_array array) (array_tokens array r)
array_begins array r = along _ _ _ _ (first_offset_of_array-parts array) (array_tokens-parts array r) refl

init_layer : (l : Init-F Creation Expr Init Operand ArrayInit) (r : List Told) → BeginsAt (init_first (map-Init Creation Expr Init Operand ArrayInit ℕ ℕ ℕ ℕ ℕ first_offset_of_creation first_offset_of_expr first_offset_of_init first_offset_of_operand first_offset_of_array l)) (init_told (map-Init Creation Expr Init Operand ArrayInit Spelled Spelled Spelled Spelled Spelled creation_tokens expr_tokens init_tokens operand_tokens array_tokens l) r)
init_layer (Init-F.Value expr) r = expr_begins expr r
init_layer (Init-F.Nested array) r = array_begins array r

init_begins : (init : Init) (r : List Told) → BeginsAt (first_offset_of_init init) (init_tokens init r)
init_begins init r = along _ _ _ _ (first_offset_of_init-out init) (at_rest _ _ r (init_tokens-out init)) (init_layer (out-Init init) r)

value_layer : (l : AnnotationValue-F AnnotationValue) (r : List Told) → BeginsAt (value_first (map-AnnotationValue AnnotationValue ℕ first_offset_of_value l)) (value_told (map-AnnotationValue AnnotationValue Spelled value_tokens l) r)
value_layer (AnnotationValue-F.Value expr) r = expr_begins expr r
value_layer (AnnotationValue-F.List at values trailing) r = refl

value_begins : (value : AnnotationValue) (r : List Told) → BeginsAt (first_offset_of_value value) (value_tokens value r)
value_begins value r = along _ _ _ _ (first_offset_of_value-out value) (at_rest _ _ r (value_tokens-out value)) (value_layer (out-AnnotationValue value) r)

modifier_begins : (modifier : Modifier) (r : List Told) → BeginsAt (first_offset_of_modifier modifier) (modifier_tokens modifier r)
modifier_begins (modifier_of.Annotation a) r = refl
modifier_begins (modifier_of.Word at word) r = refl

modifiers_begin : (modifiers : List Modifier) (next : ℕ) (s : List Told) → BeginsAt next s → BeginsAt (modifiers_first modifiers next) (modifiers_tokens modifiers s)
modifiers_begin [] next s h = h
modifiers_begin (modifier ∷ more) next s h = modifier_begins modifier _

locals_begin : (vars : LocalVars) (r : List Told) → BeginsAt (first_offset_of_locals vars) (local_tokens vars r)
locals_begin vars r = modifiers_begin vars.modifiers _ _ (type_begins vars.ty _)

head_begins : (head : DeclarationHead) (r : List Told) → BeginsAt (first_offset_of_head head) (head_tokens head r)
head_begins (head_of.Class modifiers at name params extends implements) r = modifiers_begin modifiers at _ refl
head_begins (head_of.Interface modifiers at name params extends) r = modifiers_begin modifiers at _ refl
head_begins (head_of.Annotation modifiers at name) r = modifiers_begin modifiers at _ refl

result_begins : (result : ResultType) (r : List Told) → BeginsAt (first_offset_of_result result) (result_tokens result r)
result_begins (result_of.Void at) r = refl
result_begins (result_of.Type ty) r = type_begins ty r

some_result_begins : (result : Option ResultType) (next : ℕ) (s : List Told) → BeginsAt next s → BeginsAt (result_first result next) (if_some result_tokens result s)
some_result_begins None next s h = h
some_result_begins (Some result) next s h = result_begins result s

some_params_begin : (params : Option TypeParams) (next : ℕ) (s : List Told) → BeginsAt next s → BeginsAt (params_first params next) (if_some params_of_tokens params s)
some_params_begin None next s h = h
some_params_begin (Some params) next s h = refl

method_begins : (head : MethodHead) (r : List Told) → BeginsAt (first_offset_of_method head) (method_tokens head r)
method_begins head r =
    modifiers_begin head.modifiers _ _ (some_params_begin head.params _ _ (some_result_begins head.result _ _ refl))

declaration_begins : (declaration : Declaration) (r : List Told) → BeginsAt (first_offset_of_declaration declaration) (declaration_tokens declaration r)
declaration_begins declaration r =
    along _ _ _ _ (first_offset_of_declaration-parts declaration) (declaration_tokens-parts declaration r) (head_begins (out-Declaration declaration).head _)

member_layer : (l : Member-F Member Stmt Clause Declaration) (r : List Told) → BeginsAt (member_first (map-Member Member Stmt Clause Declaration ℕ ℕ ℕ ℕ first_offset_of_member first_offset_of_stmt first_offset_of_clause first_offset_of_declaration l)) (member_told (map-Member Member Stmt Clause Declaration Spelled Spelled Spelled Spelled member_tokens stmt_tokens clause_tokens declaration_tokens l) r)
member_layer (Member-F.Semicolon at) r = refl
member_layer (Member-F.Initialiser at true items) r = refl
member_layer (Member-F.Initialiser at false items) r = refl
member_layer (Member-F.Fields vars) r = locals_begin vars _
member_layer (Member-F.Bare head) r = method_begins head _
member_layer (Member-F.Method head items) r = method_begins head _
member_layer (Member-F.Nested declaration) r = declaration_begins declaration r

member_begins : (member : Member) (r : List Told) → BeginsAt (first_offset_of_member member) (member_tokens member r)
member_begins member r = along _ _ _ _ (first_offset_of_member-out member) (at_rest _ _ r (member_tokens-out member)) (member_layer (out-Member member) r)

clause_with_begins : (head : ClauseHead) (at : ℕ) (items : List Spelled) (r : List Told) → BeginsAt at (clause_with head at items r)
clause_with_begins (clause_of.If test) at items r = refl
clause_with_begins (clause_of.Case label) at items r = refl
clause_with_begins clause_of.Default at items r = refl
clause_with_begins (clause_of.Catch modifiers first more name) at items r = refl
clause_with_begins clause_of.Finally at items r = refl

clause_begins : (clause : Clause) (r : List Told) → BeginsAt (first_offset_of_clause clause) (clause_tokens clause r)
clause_begins clause r = along _ _ _ _ (first_offset_of_clause-parts clause) (clause_tokens-parts clause r) (clause_with_begins (out-Clause clause).head _ _ _)

stmt_layer : (l : Stmt-F Member Stmt Clause Declaration) (r : List Told) → (stmt_shape_step (map-Stmt Member Stmt Clause Declaration Bool StmtShape ClauseShape Bool is_member stmt_shape clause_shape is_declaration l)).good ≡ true → BeginsAt (stmt_first (map-Stmt Member Stmt Clause Declaration ℕ ℕ ℕ ℕ first_offset_of_member first_offset_of_stmt first_offset_of_clause first_offset_of_declaration l)) (stmt_told (map-Stmt Member Stmt Clause Declaration Spelled Spelled Spelled Spelled member_tokens stmt_tokens clause_tokens declaration_tokens l) r)
stmt_layer (Stmt-F.Local vars) r e = locals_begin vars _
stmt_layer (Stmt-F.Declared declaration) r e = declaration_begins declaration r
stmt_layer (Stmt-F.Block at items) r e = refl
stmt_layer (Stmt-F.Empty at) r e = refl
stmt_layer (Stmt-F.Effect expr) r e = expr_begins expr _
stmt_layer (Stmt-F.Labeled label body) r e = refl
stmt_layer (Stmt-F.If [] []) r e = cc
stmt_layer (Stmt-F.If [] (s ∷ [])) r e = cc
stmt_layer (Stmt-F.If [] (s ∷ t ∷ items)) r e = cc
stmt_layer (Stmt-F.If (arm ∷ arms) otherwise) r e = clause_begins arm _
stmt_layer (Stmt-F.While at test body) r e = refl
stmt_layer (Stmt-F.Do at body test) r e = refl
stmt_layer (Stmt-F.For at head body) r e = refl
stmt_layer (Stmt-F.Switch at selector groups) r e = refl
stmt_layer (Stmt-F.Return at value) r e = refl
stmt_layer (Stmt-F.Break at label) r e = refl
stmt_layer (Stmt-F.Continue at label) r e = refl
stmt_layer (Stmt-F.Throw at value) r e = refl
stmt_layer (Stmt-F.Try at resources items clauses) r e = refl
stmt_layer (Stmt-F.ThisCall at args) r e = refl
stmt_layer (Stmt-F.SuperCall at args) r e = refl

stmt_begins : (stmt : Stmt) (r : List Told) → (stmt_shape stmt).good ≡ true → BeginsAt (first_offset_of_stmt stmt) (stmt_tokens stmt r)
stmt_begins stmt r e =
    along _ _ _ _ (first_offset_of_stmt-out stmt) (at_rest _ _ r (stmt_tokens-out stmt)) (stmt_layer (out-Stmt stmt) r (sym (ap (λ (s : StmtShape). s.good) (stmt_shape-out stmt)) ∙ e))

pub firsts_are_told : FirstsAreTold
firsts_are_told = record {
  types = type_begins;
  args = arg_begins;
  expressions = expr_begins;
  creations = creation_begins;
  inits = init_begins;
  values = value_begins;
  declarations = declaration_begins;
  members = member_begins;
  statements = stmt_begins;
}
