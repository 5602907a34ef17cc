-- The left-out forms of values, statements and declarations by their parts.
use Rattle.std.proofs.Common.{◌≡◌, ℕ, Bool, true, false, List, [], ◌∷◌, ◌++◌, map, Option, Some, None, refl, sym, ap, ◌∙◌}
use Rattle.std.specs.Prelude.{cond, ◌&&◌}
use Rattle.jc_tree.specs.declared.name.Ident.{Ident}
use Rattle.jc_tree.specs.declared.expression.Expr.{Expr}
use Rattle.jc_tree.specs.declared.statement.AnnotationValue.{AnnotationValue, AnnotationValue-F, out-AnnotationValue, map-AnnotationValue}
use Rattle.jc_tree.specs.declared.statement.AnnotationValue.TheVariants as value_of
use Rattle.jc_tree.specs.declared.statement.Clause.{Clause, out-Clause}
use Rattle.jc_tree.specs.declared.statement.Declaration.{Declaration, out-Declaration}
use Rattle.jc_tree.specs.declared.statement.DeclarationHead.{DeclarationHead}
use Rattle.jc_tree.specs.declared.statement.DeclarationHead.TheVariants as head_of
use Rattle.jc_tree.specs.declared.statement.ForHead.{ForHead}
use Rattle.jc_tree.specs.declared.statement.LocalVars.{LocalVars}
use Rattle.jc_tree.specs.declared.statement.Member.{Member}
use Rattle.jc_tree.specs.declared.statement.Member.TheVariants as member_of
use Rattle.jc_tree.specs.declared.statement.MethodHead.{MethodHead}
use Rattle.jc_tree.specs.declared.statement.Resources.{Resources}
use Rattle.jc_tree.specs.declared.statement.Stmt.{Stmt}
use Rattle.jc_tree.specs.declared.statement.Stmt.TheVariants as stmt_of
use Rattle.jc_tree.specs.Offsets.{first_offset_of_declaration, first_offset_of_head}
use Rattle.jc_tree.proofs.OffsetsOfStatements.{first_offset_of_declaration-parts}
use Rattle.jc_left_out.specs.LeftOut.{Declared, Anywhere, InnerClass, Initialiser, counted, misplaced, standing_of_method, forms_of_clause, forms_of_declaration, forms_of_member, forms_of_stmt, head_forms, in_each, in_some_of, is_class, is_inner, joined_all, left_out_of_clause_head, left_out_of_declaration, left_out_of_expr, left_out_of_for, left_out_of_locals, left_out_of_member, left_out_of_method, left_out_of_resources, left_out_of_value, only_if, value_forms}
use Rattle.jc_left_out.proofs.LeftOutForms.{forms_of_clause-out, forms_of_declaration-out, forms_of_member-at, forms_of_stmt-at, left_out_of_value-out}

value-at : (node : AnnotationValue) (l : AnnotationValue-F AnnotationValue) → out-AnnotationValue node ≡ l → left_out_of_value node ≡ value_forms (map-AnnotationValue AnnotationValue (List ℕ) left_out_of_value l)
value-at node l e = left_out_of_value-out node ∙ ap (λ (l : AnnotationValue-F AnnotationValue). value_forms (map-AnnotationValue AnnotationValue (List ℕ) left_out_of_value l)) e

pub value-Value : (expr : Expr) → left_out_of_value (value_of.Value expr) ≡ left_out_of_expr expr
value-Value expr = value-at (value_of.Value expr) _ (value_of.outs-Value expr)

pub value-List : (at : ℕ) (values : List AnnotationValue) (trailing : Bool) → left_out_of_value (value_of.List at values trailing) ≡ in_each left_out_of_value values
value-List at values trailing = value-at (value_of.List at values trailing) _ (value_of.outs-List at values trailing)

-- statements

pub stmt-Local : (vars : LocalVars) → forms_of_stmt (stmt_of.Local vars) ≡ left_out_of_locals vars
stmt-Local vars = forms_of_stmt-at (stmt_of.Local vars) _ (stmt_of.outs-Local vars)

declared_at : (d : Declaration) → (forms_of_declaration d).at ≡ first_offset_of_declaration d
declared_at d = ap (λ (v : Declared). v.at) (forms_of_declaration-out d) ∙ sym (first_offset_of_declaration-parts d)

pub stmt-Declared : (d : Declaration) → forms_of_stmt (stmt_of.Declared d) ≡ first_offset_of_declaration d ∷ left_out_of_declaration d
stmt-Declared d = forms_of_stmt-at (stmt_of.Declared d) _ (stmt_of.outs-Declared d) ∙ ap (λ n. n ∷ left_out_of_declaration d) (declared_at d)

pub stmt-Block : (at : ℕ) (items : List Stmt) → forms_of_stmt (stmt_of.Block at items) ≡ in_each forms_of_stmt items
stmt-Block at items = forms_of_stmt-at (stmt_of.Block at items) _ (stmt_of.outs-Block at items)

pub stmt-Empty : (at : ℕ) → forms_of_stmt (stmt_of.Empty at) ≡ []
stmt-Empty at = forms_of_stmt-at (stmt_of.Empty at) _ (stmt_of.outs-Empty at)

pub stmt-Effect : (expr : Expr) → forms_of_stmt (stmt_of.Effect expr) ≡ left_out_of_expr expr
stmt-Effect expr = forms_of_stmt-at (stmt_of.Effect expr) _ (stmt_of.outs-Effect expr)

pub stmt-Labeled : (label : Ident) (body : Stmt) → forms_of_stmt (stmt_of.Labeled label body) ≡ forms_of_stmt body
stmt-Labeled label body = forms_of_stmt-at (stmt_of.Labeled label body) _ (stmt_of.outs-Labeled label body)

pub stmt-If : (arms : List Clause) (otherwise : List Stmt) → forms_of_stmt (stmt_of.If arms otherwise) ≡ in_each forms_of_clause arms ++ in_each forms_of_stmt otherwise
stmt-If arms otherwise = forms_of_stmt-at (stmt_of.If arms otherwise) _ (stmt_of.outs-If arms otherwise)

pub stmt-While : (at : ℕ) (test : Expr) (body : Stmt) → forms_of_stmt (stmt_of.While at test body) ≡ left_out_of_expr test ++ forms_of_stmt body
stmt-While at test body = forms_of_stmt-at (stmt_of.While at test body) _ (stmt_of.outs-While at test body)

pub stmt-Do : (at : ℕ) (body : Stmt) (test : Expr) → forms_of_stmt (stmt_of.Do at body test) ≡ forms_of_stmt body ++ left_out_of_expr test
stmt-Do at body test = forms_of_stmt-at (stmt_of.Do at body test) _ (stmt_of.outs-Do at body test)

pub stmt-For : (at : ℕ) (head : ForHead) (body : Stmt) → forms_of_stmt (stmt_of.For at head body) ≡ left_out_of_for head ++ forms_of_stmt body
stmt-For at head body = forms_of_stmt-at (stmt_of.For at head body) _ (stmt_of.outs-For at head body)

pub stmt-Switch : (at : ℕ) (selector : Expr) (groups : List Clause) → forms_of_stmt (stmt_of.Switch at selector groups) ≡ left_out_of_expr selector ++ in_each forms_of_clause groups
stmt-Switch at selector groups = forms_of_stmt-at (stmt_of.Switch at selector groups) _ (stmt_of.outs-Switch at selector groups)

pub stmt-Return : (at : ℕ) (value : Option Expr) → forms_of_stmt (stmt_of.Return at value) ≡ in_some_of left_out_of_expr value
stmt-Return at value = forms_of_stmt-at (stmt_of.Return at value) _ (stmt_of.outs-Return at value)

pub stmt-Break : (at : ℕ) (label : Option Ident) → forms_of_stmt (stmt_of.Break at label) ≡ []
stmt-Break at label = forms_of_stmt-at (stmt_of.Break at label) _ (stmt_of.outs-Break at label)

pub stmt-Continue : (at : ℕ) (label : Option Ident) → forms_of_stmt (stmt_of.Continue at label) ≡ []
stmt-Continue at label = forms_of_stmt-at (stmt_of.Continue at label) _ (stmt_of.outs-Continue at label)

pub stmt-Throw : (at : ℕ) (value : Expr) → forms_of_stmt (stmt_of.Throw at value) ≡ left_out_of_expr value
stmt-Throw at value = forms_of_stmt-at (stmt_of.Throw at value) _ (stmt_of.outs-Throw at value)

pub stmt-ThisCall : (at : ℕ) (args : List Expr) → forms_of_stmt (stmt_of.ThisCall at args) ≡ in_each left_out_of_expr args
stmt-ThisCall at args = forms_of_stmt-at (stmt_of.ThisCall at args) _ (stmt_of.outs-ThisCall at args)

pub stmt-SuperCall : (at : ℕ) (args : List Expr) → forms_of_stmt (stmt_of.SuperCall at args) ≡ in_each left_out_of_expr args
stmt-SuperCall at args = forms_of_stmt-at (stmt_of.SuperCall at args) _ (stmt_of.outs-SuperCall at args)

pub stmt-Try_plain : (at : ℕ) (items : List Stmt) (clauses : List Clause) → forms_of_stmt (stmt_of.Try at None items clauses) ≡ in_each forms_of_stmt items ++ in_each forms_of_clause clauses
stmt-Try_plain at items clauses = forms_of_stmt-at (stmt_of.Try at None items clauses) _ (stmt_of.outs-Try at None items clauses)

pub stmt-Try_resources : (at : ℕ) (resources : Resources) (items : List Stmt) (clauses : List Clause)
    → forms_of_stmt (stmt_of.Try at (Some resources) items clauses) ≡ at ∷ left_out_of_resources resources ++ in_each forms_of_stmt items ++ in_each forms_of_clause clauses
stmt-Try_resources at resources items clauses = forms_of_stmt-at (stmt_of.Try at (Some resources) items clauses) _ (stmt_of.outs-Try at (Some resources) items clauses)

pub clause_forms-parts : (node : Clause) → forms_of_clause node ≡ left_out_of_clause_head (out-Clause node).head ++ in_each forms_of_stmt (out-Clause node).items
clause_forms-parts node = forms_of_clause-out node

-- members

pub member-Semicolon : (owner : DeclarationHead) (at : ℕ) → left_out_of_member owner (member_of.Semicolon at) ≡ []
member-Semicolon owner at = ap (counted owner) (forms_of_member-at (member_of.Semicolon at) _ (member_of.outs-Semicolon at))

pub member-Initialiser : (owner : DeclarationHead) (at : ℕ) (is_static : Bool) (items : List Stmt) → left_out_of_member owner (member_of.Initialiser at is_static items) ≡ misplaced owner (Initialiser at) ++ in_each forms_of_stmt items
member-Initialiser owner at is_static items = ap (counted owner) (forms_of_member-at (member_of.Initialiser at is_static items) _ (member_of.outs-Initialiser at is_static items))

pub member-Fields : (owner : DeclarationHead) (vars : LocalVars) → left_out_of_member owner (member_of.Fields vars) ≡ left_out_of_locals vars
member-Fields owner vars = ap (counted owner) (forms_of_member-at (member_of.Fields vars) _ (member_of.outs-Fields vars))

pub member-Bare : (owner : DeclarationHead) (head : MethodHead) → left_out_of_member owner (member_of.Bare head) ≡ misplaced owner (standing_of_method head) ++ left_out_of_method head
member-Bare owner head = ap (counted owner) (forms_of_member-at (member_of.Bare head) _ (member_of.outs-Bare head))

pub member-Method : (owner : DeclarationHead) (head : MethodHead) (items : List Stmt) → left_out_of_member owner (member_of.Method head items) ≡ misplaced owner (standing_of_method head) ++ (left_out_of_method head ++ in_each forms_of_stmt items)
member-Method owner head items = ap (counted owner) (forms_of_member-at (member_of.Method head items) _ (member_of.outs-Method head items))

if_inner : (owner : DeclarationHead) (inner : Bool) (at : ℕ) → misplaced owner (cond inner (InnerClass at) Anywhere) ≡ only_if (is_class owner && inner) at
if_inner (head_of.Class modifiers from name params extends implements) true at = refl
if_inner (head_of.Class modifiers from name params extends implements) false at = refl
if_inner (head_of.Interface modifiers from name params extends) true at = refl
if_inner (head_of.Interface modifiers from name params extends) false at = refl
if_inner (head_of.Annotation modifiers from name) true at = refl
if_inner (head_of.Annotation modifiers from name) false at = refl

nested_forms : (d : Declaration) → forms_of_member (member_of.Nested d) ≡ record { standing = cond (is_inner (out-Declaration d).head) (InnerClass (first_offset_of_declaration d)) Anywhere; forms = left_out_of_declaration d }
nested_forms d =
    forms_of_member-at (member_of.Nested d) _ (member_of.outs-Nested d)
    ∙ ap (λ b. record { standing = cond b (InnerClass (forms_of_declaration d).at) Anywhere; forms = left_out_of_declaration d }) (ap (λ (v : Declared). v.inner) (forms_of_declaration-out d))
    ∙ ap (λ n. record { standing = cond (is_inner (out-Declaration d).head) (InnerClass n) Anywhere; forms = left_out_of_declaration d }) (declared_at d)

pub member-Nested : (owner : DeclarationHead) (d : Declaration) → left_out_of_member owner (member_of.Nested d) ≡ only_if (is_class owner && is_inner (out-Declaration d).head) (first_offset_of_declaration d) ++ left_out_of_declaration d
member-Nested owner d =
    ap (counted owner) (nested_forms d)
    ∙ ap (λ (l : List ℕ). l ++ left_out_of_declaration d) (if_inner owner (is_inner (out-Declaration d).head) (first_offset_of_declaration d))

members_forms : (owner : DeclarationHead) (list : List Member) → joined_all (map (counted owner) (map forms_of_member list)) ≡ in_each (left_out_of_member owner) list
members_forms owner [] = refl
members_forms owner (m ∷ list) = ap (λ (l : List ℕ). left_out_of_member owner m ++ l) (members_forms owner list)

pub declaration_forms-parts : (d : Declaration)
    → left_out_of_declaration d ≡ head_forms (out-Declaration d).head (first_offset_of_declaration d) ++ in_each (left_out_of_member (out-Declaration d).head) (out-Declaration d).members
declaration_forms-parts d =
    ap (λ (v : Declared). v.forms) (forms_of_declaration-out d)
    ∙ ap (λ (l : List ℕ). head_forms (out-Declaration d).head (first_offset_of_head (out-Declaration d).head) ++ l) (members_forms (out-Declaration d).head (out-Declaration d).members)
    ∙ ap (λ n. head_forms (out-Declaration d).head n ++ in_each (left_out_of_member (out-Declaration d).head) (out-Declaration d).members) (sym (first_offset_of_declaration-parts d))
