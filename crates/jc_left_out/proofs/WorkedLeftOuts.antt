-- The worked rows of what is left out.
use Rattle.std.specs.Prelude.{cond}
use Rattle.std.proofs.Common.{◌≡◌, ℕ, false, List, [], ◌∷◌, ◌++◌, None, refl, ap, ◌∙◌}
use Rattle.jc_tree.specs.declared.types.ClassTree.{out-roll-ClassTree}
use Rattle.jc_tree.specs.declared.types.TypePart.{roll-TypePart, out-roll-TypePart}
use Rattle.jc_tree.specs.declared.expression.Creation.{Creation}
use Rattle.jc_tree.specs.declared.expression.Creation.TheVariants as creation_of
use Rattle.jc_tree.specs.declared.expression.Expr.TheVariants as expr_of
use Rattle.jc_tree.specs.declared.expression.Skip.{Skip, roll-Skip}
use Rattle.jc_tree.specs.declared.statement.DeclarationHead.{DeclarationHead}
use Rattle.jc_tree.specs.declared.statement.DeclarationHead.TheVariants as head_of
use Rattle.jc_tree.specs.declared.statement.Declaration.{Declaration, roll-Declaration}
use Rattle.jc_tree.specs.declared.statement.Member.TheVariants as member_of
use Rattle.jc_tree.specs.declared.statement.MethodHead.{MethodHead}
use Rattle.jc_tree.specs.declared.statement.Modifier.{Modifier}
use Rattle.jc_tree.specs.declared.statement.Stmt.TheVariants as stmt_of
use Rattle.jc_tree.specs.Offsets.{first_offset_of_class, first_offset_of_head, first_offset_of_part}
use Rattle.jc_tree.proofs.OffsetsOfTypes.{first_offset_of_class-parts, first_offset_of_part-parts}
use Rattle.jc_left_out.specs.LeftOut.{Part, Membered, Declared, Anywhere, InnerClass, Initialiser, declared_with, forms_of_member, forms_of_declaration, left_out_of_declaration, left_out_of_method, part_of_creation, standing_of_method}
use Rattle.jc_left_out.specs.WorkedLeftOut.{WorkedLeftOut, bare_new, class_at, class_of, initialiser_at, inner_new, interface_of, letter_at, new_with_body, static_at}
use Rattle.jc_left_out.proofs.LeftOutForms.{part_of_creation-at, part_of_expr-at, forms_of_member-at, forms_of_stmt-at, forms_of_declaration-made}

class_first : (code at : ℕ) → first_offset_of_class (class_at code at) ≡ at
class_first code at =
    first_offset_of_class-parts (class_at code at) ∙ ap (λ c. first_offset_of_part c.first) (out-roll-ClassTree (record { first = roll-TypePart (record { name = letter_at code at; args = [] }); more = [] }))
    ∙ first_offset_of_part-parts (roll-TypePart (record { name = letter_at code at; args = [] })) ∙ ap (λ p. p.name.at) (out-roll-TypePart (record { name = letter_at code at; args = [] }))

-- one nested declaration
nested_forms : (d : Declaration) (e : Declared) → forms_of_declaration d ≡ e → forms_of_member (member_of.Nested d) ≡ record { standing = cond e.inner (InnerClass e.at) Anywhere; forms = e.forms }
nested_forms d e q = forms_of_member-at (member_of.Nested d) _ (member_of.outs-Nested d) ∙ ap (λ (v : Declared). record { standing = cond v.inner (InnerClass v.at) Anywhere; forms = v.forms }) q

with_nested : (head : DeclarationHead) (d : Declaration) (e : Declared) → forms_of_declaration d ≡ e → forms_of_declaration (roll-Declaration (record { head = head; members = member_of.Nested d ∷ [] })) ≡ declared_with head (first_offset_of_head head) (record { standing = cond e.inner (InnerClass e.at) Anywhere; forms = e.forms } ∷ [])
with_nested head d e q = forms_of_declaration-made head (member_of.Nested d ∷ []) ∙ ap (λ (m : Membered). declared_with head (first_offset_of_head head) (m ∷ [])) (nested_forms d e q)

-- one method, or one initialiser
with_method : (head : DeclarationHead) (method : MethodHead) → left_out_of_declaration (roll-Declaration (record { head = head; members = member_of.Method method [] ∷ [] })) ≡ (declared_with head (first_offset_of_head head) (record { standing = standing_of_method method; forms = left_out_of_method method ++ [] } ∷ [])).forms
with_method head method = ap (λ (v : Declared). v.forms) (forms_of_declaration-made head (member_of.Method method [] ∷ []) ∙ ap (λ (m : Membered). declared_with head (first_offset_of_head head) (m ∷ [])) (forms_of_member-at (member_of.Method method []) _ (member_of.outs-Method method [])))

with_initialiser : (head : DeclarationHead) (at : ℕ) → left_out_of_declaration (roll-Declaration (record { head = head; members = initialiser_at at ∷ [] })) ≡ (declared_with head (first_offset_of_head head) (record { standing = Initialiser at; forms = [] } ∷ [])).forms
with_initialiser head at = ap (λ (v : Declared). v.forms) (forms_of_declaration-made head (initialiser_at at ∷ []) ∙ ap (λ (m : Membered). declared_with head (first_offset_of_head head) (m ∷ [])) (forms_of_member-at (initialiser_at at) _ (member_of.outs-Initialiser at false [])))

abbrev bare_method : List Modifier → ℕ → ℕ → MethodHead
bare_method modifiers code at = record { modifiers = modifiers; params = None; result = None; name = letter_at code at; formals = []; throws = [] }

abbrev class_head : List Modifier → ℕ → DeclarationHead
class_head modifiers at = head_of.Class modifiers at (letter_at 65 at) [] None []

abbrev interface_head : DeclarationHead
interface_head = head_of.Interface [] 0 (letter_at 73 10) [] []

abbrev object : Creation
object = creation_of.Object (class_at 66 4) false [] []

abbrev empty_body : Skip
empty_body = roll-Skip (record { parts = [] })

abbrev object_with_body : Creation
object_with_body = creation_of.Object (class_at 66 4) false [] (empty_body ∷ [])

abbrev inner_object : Creation
inner_object = creation_of.Object (class_at 66 6) false [] []

pub left_out_is_worked : WorkedLeftOut
left_out_is_worked = record {
  native_outside = refl;
  native_inside = refl;
  enum_anywhere = refl;
  void_class = ap (λ (p : Part). p.1) (part_of_expr-at (expr_of.VoidLiteral 3) _ (expr_of.outs-VoidLiteral 3));
  outer_this = ap (λ (p : Part). p.1) (part_of_expr-at (expr_of.OuterThis (letter_at 65 2) []) _ (expr_of.outs-OuterThis (letter_at 65 2) []));
  creation_alone = ap (λ (p : Part). p.1) (part_of_expr-at bare_new _ (expr_of.outs-New 0 object)) ∙ ap (λ (p : Part). p.1) (part_of_creation-at object _ (creation_of.outs-Object (class_at 66 4) false [] []));
  creation_with_body = ap (λ (p : Part). p.1) (part_of_expr-at new_with_body _ (expr_of.outs-New 0 object_with_body)) ∙ ap (λ (p : Part). p.1) (part_of_creation-at object_with_body _ (creation_of.outs-Object (class_at 66 4) false [] (empty_body ∷ []))) ∙ ap (λ n. n ∷ []) (class_first 66 4);
  creation_of_inner = ap (λ (p : Part). p.1) (part_of_expr-at inner_new _ (expr_of.outs-InnerNew (expr_of.Name (letter_at 97 0)) inner_object))
      ∙ ap (λ (p : Part). p.0 ∷ p.1 ++ (part_of_creation inner_object).1) (part_of_expr-at (expr_of.Name (letter_at 97 0)) _ (expr_of.outs-Name (letter_at 97 0)))
      ∙ ap (λ (p : Part). 0 ∷ p.1) (part_of_creation-at inner_object _ (creation_of.outs-Object (class_at 66 6) false [] []));
  override_stays = refl;
  deprecated_stays = refl;
  warnings_stay = refl;
  varargs_stay = refl;
  other_annotation = refl;
  qualified_annotation = refl;
  static_import = refl;
  plain_import = refl;
  generic_constructor = refl;
  generic_method = refl;
  inner_class = ap (λ (d : Declared). d.forms) (with_nested (class_head [] 0) (class_of [] 10 []) _ (forms_of_declaration-made (class_head [] 10) []));
  nested_class = ap (λ (d : Declared). d.forms) (with_nested (class_head [] 0) (class_of (static_at 10 ∷ []) 17 []) _ (forms_of_declaration-made (class_head (static_at 10 ∷ []) 17) []));
  class_in_interface = ap (λ (d : Declared). d.forms) (with_nested interface_head (class_of [] 14 []) _ (forms_of_declaration-made (class_head [] 14) []));
  interface_in_class = ap (λ (d : Declared). d.forms) (with_nested (class_head [] 0) (interface_of []) _ (forms_of_declaration-made interface_head []));
  constructor_of_its_class = with_method (class_head [] 0) (bare_method [] 65 10);
  constructor_of_another = with_method (class_head [] 0) (bare_method [] 66 10);
  constructor_at_its_modifier = with_method (class_head [] 0) (bare_method (static_at 10 ∷ []) 66 17);
  constructor_in_interface = with_method interface_head (bare_method [] 73 14);
  initialiser_in_class = with_initialiser (class_head [] 0) 10;
  initialiser_in_interface = with_initialiser interface_head 14;
  local_class = forms_of_stmt-at (stmt_of.Declared (class_of [] 8 [])) _ (stmt_of.outs-Declared (class_of [] 8 [])) ∙ ap (λ (d : Declared). d.at ∷ d.forms) (forms_of_declaration-made (class_head [] 8) []);
  declared_annotation = ap (λ (d : Declared). d.forms) (forms_of_declaration-made (head_of.Annotation (static_at 2 ∷ []) 9 (letter_at 65 20)) []);
  the_least = refl;
  at_its_token = refl;
}
