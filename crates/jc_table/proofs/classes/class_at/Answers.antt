use Rattle.std.proofs.Common.{◌≡◌, ℕ, Bool, List, Option, map, not, ap, ◌∙◌}
use Rattle.jc_tree.specs.declared.statement.Modifier.{Modifier}
use Rattle.jc_types.specs.declared.declarations.ClassDecl.{ClassDecl}
use Rattle.jc_types.specs.declared.declarations.Kind.{Kind}
use Rattle.jc_types.specs.declared.declarations.Modifiers.{Modifiers}
use Rattle.jc_types.specs.declared.declarations.WrittenTypes.{WrittenTypes}
use Rattle.jc_types.specs.declared.ids.ClassId.{ClassId}
use Rattle.jc_types.specs.declared.ids.FieldId.{FieldId}
use Rattle.jc_types.specs.declared.ids.MethodId.{MethodId}
use Rattle.jc_types.specs.declared.ids.VarId.{VarId}
use Rattle.jc_declares.specs.Making.{class_id}
use Rattle.jc_declares.specs.Modifiers.{class_modifiers}
use Rattle.jc_table.proofs.classes.class_at.Goals as goal

decl : ℕ → ℕ → ℕ → List ℕ → List ℕ → List ℕ → Option ClassId → List ClassId → Modifiers → Kind → List VarId → WrittenTypes → List MethodId → List FieldId → ClassDecl
decl file scope at name binary inside outer members modifiers kind vars supers methods fields =
    record {
      place = record { file = file; at = at };
      name = name;
      binary = binary;
      «package» = inside;
      outer = outer;
      members = members;
      scope = record { 0 = scope };
      modifiers = modifiers;
      kind = kind;
      vars = vars;
      supers = supers;
      methods = methods;
      fields = fields;
    }

same : (file scope : ℕ) {at at2 : ℕ} {name name2 binary binary2 inside inside2 : List ℕ} {outer outer2 : Option ClassId} {members members2 : List ClassId} {modifiers modifiers2 : Modifiers} {kind kind2 : Kind}
    {vars vars2 : List VarId} {supers supers2 : WrittenTypes} {methods methods2 : List MethodId} {fields fields2 : List FieldId}
    → at ≡ at2 → name ≡ name2 → binary ≡ binary2 → inside ≡ inside2 → outer ≡ outer2 → members ≡ members2 → modifiers ≡ modifiers2 → kind ≡ kind2 → vars ≡ vars2 → supers ≡ supers2 → methods ≡ methods2 → fields ≡ fields2
    → decl file scope at name binary inside outer members modifiers kind vars supers methods fields
    ≡ decl file scope at2 name2 binary2 inside2 outer2 members2 modifiers2 kind2 vars2 supers2 methods2 fields2
same file scope a b c d e f g h i j k l = cc

told_modifiers : {i i2 t t2 : Bool} (of_interface : Bool) {l l2 : List Modifier} → i ≡ i2 → t ≡ t2 → l ≡ l2 → class_modifiers i (not t) of_interface l ≡ class_modifiers i2 (not t2) of_interface l2
told_modifiers {i2 = i2} {t = t} {t2 = t2} of_interface {l = l} a b c =
    ap (λ x. class_modifiers x (not t) of_interface l) a ∙ ap (λ x. class_modifiers i2 (not x) of_interface l) b ∙ ap (λ (x : List Modifier). class_modifiers i2 (not t2) of_interface x) c

pub returns : goal.returns
unfolding decl
returns c =
    let number : ℕ = c.args.at.number in
    same c.args.at.file c.args.at.scope c.head_at.ensures (c.in_ok-copy_text.ensures ∙ c.name_in_head.ensures) c.in_ok-binary_text.ensures (c.in_ok-text.ensures ∙ c.package_of.ensures) c.outer_id.ensures
    (c.in_ok-class_ids.ensures ∙ ap (λ (l : List ℕ). map class_id l) (c.group.ensures ∙ c.requires.members.types number))
    (c.class_modifiers.ensures ∙ told_modifiers c.args.at.of_interface c.is_interface_head-is_interface.ensures c.is_top.ensures c.modifiers_in_head-modifiers.ensures)
    c.kind_of_head.ensures
    (c.in_ok-variable_ids.ensures ∙ ap (λ (l : List ℕ). map (λ v. let id : VarId = record { 0 = v } in id) l) (c.group-2.ensures ∙ c.requires.members.class_variables number))
    c.in_ok-super_types.ensures
    (c.in_ok-method_ids.ensures ∙ ap (λ (l : List ℕ). map (λ n. let id : MethodId = record { 0 = n } in id) l) c.group-3.ensures ∙ c.requires.members.methods number)
    (c.in_ok-field_ids.ensures ∙ ap (λ (l : List ℕ). map (λ n. let id : FieldId = record { 0 = n } in id) l) c.group-4.ensures ∙ c.requires.members.fields number)
