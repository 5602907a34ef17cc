-- What is grouped is what classes, units and methods declare.
use Rattle.std.proofs.Common.{◌≡◌, ℕ, suc, Bool, true, false, List, [], ◌∷◌, ◌++◌, map, Option, refl, sym, ap, ◌∙◌, arith}
use Rattle.std.specs.Prelude.{cond, ◌==◌, ◌&&◌}
use Rattle.std.proofs.lemmas.Bool.Decides.{nat_tests}
use Rattle.jc_types.specs.declared.declarations.Owner.{Owner}
use Rattle.jc_types.specs.declared.declarations.Owner.TheVariants as owner
use Rattle.jc_types.specs.declared.ids.FieldId.{FieldId}
use Rattle.jc_types.specs.declared.ids.MethodId.{MethodId}
use Rattle.jc_declares.specs.declared.heads.ClassHead.{ClassHead}
use Rattle.jc_declares.specs.declared.heads.FieldHead.{FieldHead}
use Rattle.jc_declares.specs.declared.heads.Heads.{Heads}
use Rattle.jc_declares.specs.declared.heads.MethodPlace.{MethodPlace}
use Rattle.jc_declares.specs.declared.heads.VariableHead.{VariableHead}
use Rattle.jc_declares.specs.Heads.{Named, named_classes, named_variables, is_inside, is_top, same_owner, class_variables, method_variables}
use Rattle.jc_declares.specs.Making.{numbers, methods_from, fields_from}
use Rattle.jc_groups.specs.declared.members.Members.{Members}
use Rattle.jc_groups.specs.Groups.{group_in, picked, picked_as, grouped_all}
use Rattle.jc_groups.specs.Members.{first_of, in_class, unless_inside, in_unit, of_class, field_of_class, owning_class, owning_method, variable_of_class, variable_of_method, AreMembers}
use Rattle.jc_groups.proofs.Grouped.{all_grouped}

numbers-append : (xs ys : Named) → numbers (xs ++ ys) ≡ numbers xs ++ numbers ys
numbers-append [] ys = refl
numbers-append (x ∷ xs) ys = ap (λ ns. x.1 ∷ ns) (numbers-append xs ys)

number_of : (b : Bool) (n : List ℕ) (i : ℕ) → numbers (cond b ((n, i) ∷ []) []) ≡ cond b (i ∷ []) []
number_of true n i = refl
number_of false n i = refl

-- classes that pass, where passing is being in a group
classes_picked : (test : ClassHead → Bool) (f : ClassHead → Option ℕ) (g : ℕ) → ((c : ClassHead) (i : ℕ) → picked_as g (f c) i ≡ cond (test c) (i ∷ []) []) → (i : ℕ) (cs : List ClassHead) → picked f g i cs ≡ numbers (named_classes test i cs)
classes_picked test f g same i [] = refl
classes_picked test f g same i (c ∷ cs) =
    ap (λ ns. ns ++ picked f g (suc i) cs) (same c i ∙ sym (number_of (test c) c.name i))
    ∙ ap (λ ns. numbers (cond (test c) ((c.name, i) ∷ []) []) ++ ns) (classes_picked test f g same (suc i) cs)
    ∙ sym (numbers-append (cond (test c) ((c.name, i) ∷ []) []) (named_classes test (suc i) cs))

inside_picked : (g i : ℕ) (round : List ℕ) → picked_as g (first_of round) i ≡ cond (is_inside g round) (i ∷ []) []
inside_picked g i [] = refl
inside_picked g i (c ∷ round) = refl

outside_picked : (g i unit : ℕ) (round : List ℕ) → picked_as g (unless_inside round unit) i ≡ cond (is_top round && (g == unit)) (i ∷ []) []
outside_picked g i unit [] = refl
outside_picked g i unit (c ∷ round) = refl

variables_picked : (o : Owner) (f : VariableHead → Option ℕ) (g : ℕ) → ((v : VariableHead) (i : ℕ) → picked_as g (f v) i ≡ cond (same_owner o v.owner) (i ∷ []) []) → (i : ℕ) (vs : List VariableHead)
    → picked f g i vs ≡ numbers (named_variables o i vs)
variables_picked o f g same i [] = refl
variables_picked o f g same i (v ∷ vs) =
    ap (λ ns. ns ++ picked f g (suc i) vs) (same v i ∙ sym (number_of (same_owner o v.owner) v.name i))
    ∙ ap (λ ns. numbers (cond (same_owner o v.owner) ((v.name, i) ∷ []) []) ++ ns) (variables_picked o f g same (suc i) vs)
    ∙ sym (numbers-append (cond (same_owner o v.owner) ((v.name, i) ∷ []) []) (named_variables o (suc i) vs))

class_picked : (c i : ℕ) (o : Owner) → picked_as c (owning_class o) i ≡ cond (same_owner (owner.Class (record { 0 = c })) o) (i ∷ []) []
class_picked c i (owner.Class d) = refl
class_picked c i (owner.Method m) = refl

method_picked : (m i : ℕ) (o : Owner) → picked_as m (owning_method o) i ≡ cond (same_owner (owner.Method (record { 0 = m })) o) (i ∷ []) []
method_picked m i (owner.Class d) = refl
method_picked m i (owner.Method n) = refl

abbrev method_id : ℕ → MethodId
method_id n = record { 0 = n }

abbrev field_id : ℕ → FieldId
field_id n = record { 0 = n }

turned : (a b : ℕ) → (a == b) ≡ (b == a)
turned a b = grind (arith, nat_tests)

map-joined : {X : Type 0} (f : ℕ → X) (xs ys : List ℕ) → map f (xs ++ ys) ≡ map f xs ++ map f ys
map-joined f [] ys = refl
map-joined f (x ∷ xs) ys = ap (λ zs. f x ∷ zs) (map-joined f xs ys)

map_cond : {X : Type 0} (f : ℕ → X) (b : Bool) (i : ℕ) → map f (cond b (i ∷ []) []) ≡ cond b (f i ∷ []) []
map_cond f true i = refl
map_cond f false i = refl

methods_picked : (c i : ℕ) (ms : List MethodPlace) → map method_id (picked of_class c i ms) ≡ methods_from c i ms
methods_picked c i [] = refl
methods_picked c i (m ∷ ms) =
    map-joined method_id (cond (c == m.class) (i ∷ []) []) (picked of_class c (suc i) ms)
    ∙ ap (λ l. l ++ map method_id (picked of_class c (suc i) ms)) (map_cond method_id (c == m.class) i ∙ ap (λ b. cond b (method_id i ∷ []) []) (turned c m.class))
    ∙ ap (λ l. cond (m.class == c) (method_id i ∷ []) [] ++ l) (methods_picked c (suc i) ms)

fields_picked : (c i : ℕ) (fs : List FieldHead) → map field_id (picked field_of_class c i fs) ≡ fields_from c i fs
fields_picked c i [] = refl
fields_picked c i (f ∷ fs) =
    map-joined field_id (cond (c == f.class) (i ∷ []) []) (picked field_of_class c (suc i) fs)
    ∙ ap (λ l. l ++ map field_id (picked field_of_class c (suc i) fs)) (map_cond field_id (c == f.class) i ∙ ap (λ b. cond b (field_id i ∷ []) []) (turned c f.class))
    ∙ ap (λ l. cond (f.class == c) (field_id i ∷ []) [] ++ l) (fields_picked c (suc i) fs)

pub members_told : (H : Heads) (M : Members) → M.types ≡ grouped_all in_class 0 H.classes [] → M.tops ≡ grouped_all in_unit 0 H.classes [] → M.methods ≡ grouped_all of_class 0 H.methods []
    → M.fields ≡ grouped_all field_of_class 0 H.fields [] → M.class_variables ≡ grouped_all variable_of_class 0 H.variables [] → M.method_variables ≡ grouped_all variable_of_method 0 H.variables [] → AreMembers H M
members_told H M types tops methods fields class_vars method_vars =
    record {
      types = λ c. ap (λ g. group_in g c) types ∙ all_grouped in_class H.classes 0 [] c ∙ classes_picked (λ (d : ClassHead). is_inside c d.round) in_class c (λ d i. inside_picked c i d.round) 0 H.classes;
      tops = λ u. ap (λ g. group_in g u) tops ∙ all_grouped in_unit H.classes 0 [] u ∙ classes_picked (λ (d : ClassHead). is_top d.round && (u == d.unit)) in_unit u (λ d i. outside_picked u i d.unit d.round) 0 H.classes;
      methods = λ c. ap (map method_id) (ap (λ g. group_in g c) methods ∙ all_grouped of_class H.methods 0 [] c) ∙ methods_picked c 0 H.methods;
      fields = λ c. ap (map field_id) (ap (λ g. group_in g c) fields ∙ all_grouped field_of_class H.fields 0 [] c) ∙ fields_picked c 0 H.fields;
      class_variables = λ c. ap (λ g. group_in g c) class_vars ∙ all_grouped variable_of_class H.variables 0 [] c ∙ variables_picked (owner.Class (record { 0 = c })) variable_of_class c (λ v i. class_picked c i v.owner) 0 H.variables;
      method_variables = λ m. ap (λ g. group_in g m) method_vars ∙ all_grouped variable_of_method H.variables 0 [] m ∙ variables_picked (owner.Method (record { 0 = m })) variable_of_method m (λ v i. method_picked m i v.owner) 0 H.variables;
    }
