-- Each list of a table's written types, by the trees that write them.
use Rattle.std.proofs.Common.{◌≡◌, ◌<◌, ◌+◌, ◌==◌, ◌&&◌, ◌||◌, ℕ, suc, Bool, true, false, IsTrue, Option, Some, None, List, [], ◌∷◌, ◌++◌, map, length, slice_get, refl, sym, ap, subst, ◌∙◌}
use Rattle.std.specs.Prelude.{cond}
use Rattle.std.proofs.lemmas.Bool.{and_from}
use Rattle.jc_tree.specs.declared.statement.Formal.{Formal}
use Rattle.jc_tree.specs.declared.statement.ResultType.{ResultType}
use Rattle.jc_tree.specs.declared.statement.ResultType.TheVariants as result_of
use Rattle.jc_tree.specs.declared.types.ClassTree.{ClassTree}
use Rattle.jc_tree.specs.declared.types.TypeTree.{TypeTree}
use Rattle.jc_tree.specs.Offsets.{first_offset_of_head}
use Rattle.jc_types.specs.declared.declarations.Owner.{Owner}
use Rattle.jc_types.specs.declared.declarations.Owner.TheVariants as owner
use Rattle.jc_types.specs.declared.declarations.Written.{Written}
use Rattle.jc_types.specs.declared.form.Ty.{Ty}
use Rattle.jc_types.specs.declared.table.Table.{Table}
use Rattle.jc_types.specs.Accessors.{class_count}
use Rattle.jc_types.specs.Tables.{if_any, are_inside, is_inside}
use Rattle.jc_declares.specs.declared.heads.Heads.{Heads}
use Rattle.jc_declares.specs.declared.heads.ScopeForm.{ScopeForm}
use Rattle.jc_declares.specs.declared.heads.ScopeForm.TheVariants as scope_of
use Rattle.jc_declares.specs.declared.heads.ScopeHead.{ScopeHead}
use Rattle.jc_declares.specs.Breaks.{is_static_field}
use Rattle.jc_declares.specs.HeadBreaks.{class_in}
use Rattle.jc_declares.specs.Heads.{heads_of, is_interface, class_head, variable_head, superclass_trees, interface_trees}
use Rattle.jc_declares.specs.Knowing.{known}
use Rattle.jc_declares.specs.Looking.{Knowledge}
use Rattle.jc_declares.specs.Making.{object, or_object, written_classes, written_formal, written_result, one_more, class_decl, method_decl_of, field_decl, variable_decl, owner_reading, numbered, table_of}
use Rattle.jc_declares.specs.Readings.{head_reading, body_reading, method_reading, class_of_method, reading_in, reading_of, wrote_in_part, wrote_in_use}
use Rattle.jc_declares.specs.Sites.{Sites, ClassSite, MethodSite, FieldSite, VariableSite, UseSite, BodyPart, OfType, OfClassType, OfDiamond, OfElement, OfVariable, MethodForm, Headed, ImpliedConstructor, StaticInitialiser}
use Rattle.jc_declares.specs.Words.{says_static}
use Rattle.jc_declares.specs.Writing.{Reading, Wrote, wrote_class, wrote_type}
use Rattle.jc_table_laws.proofs.Fitting.{Each}
use Rattle.jc_table_laws.proofs.Ranges.{LookIn, unit_in, in_head_in, in_body_in, in_method_in, known_in}
use Rattle.jc_table_laws.proofs.TypesInside.{object_in, dims_in, base_tree_in, class_tree_in, type_tree_in}

is_true : (b : Bool) → b ≡ true → IsTrue b
is_true b e = e

pub counted : {X Y : Type 0} (f : ℕ → X → Y) (i : ℕ) (xs : List X) → length (numbered f i xs) ≡ length xs
counted f i [] = refl
counted f i (x ∷ xs) = ap suc (counted f (suc i) xs)

pub mapped : {X Y : Type 0} (f : X → Y) (xs : List X) → length (map f xs) ≡ length xs
mapped f [] = refl
mapped f (x ∷ xs) = ap suc (mapped f xs)

all_more : (T : Table) (t : Ty) (ts : List Ty) → is_inside T t ≡ true → are_inside T ts ≡ true → are_inside T (t ∷ ts) ≡ true
all_more T t ts e f = and_from (is_inside T t) (are_inside T ts) e f

all_joined : (T : Table) (xs ys : List Written) → are_inside T (map (λ (w : Written). w.ty) xs) ≡ true → are_inside T (map (λ (w : Written). w.ty) ys) ≡ true
    → are_inside T (map (λ (w : Written). w.ty) (xs ++ ys)) ≡ true
all_joined T [] ys e f = f
all_joined T (x ∷ xs) ys e f = split (is_inside T x.ty) (are_inside T (map (λ (w : Written). w.ty) xs)) refl e (all_joined T xs ys)
  where
    split : (a b : Bool) → is_inside T x.ty ≡ a → (a && b) ≡ true → (b ≡ true → are_inside T (map (λ (w : Written). w.ty) ys) ≡ true → are_inside T (map (λ (w : Written). w.ty) (xs ++ ys)) ≡ true)
        → are_inside T (map (λ (w : Written). w.ty) ((x ∷ xs) ++ ys)) ≡ true
    split true b is e go = all_more T x.ty (map (λ (w : Written). w.ty) (xs ++ ys)) is (go e f)
    split false b is e go = cc

module _ (S : Sites) (some : 0 < class_count (table_of S)) where
  abbrev pub T : Table
  T = table_of S

  abbrev pub H : Heads
  H = heads_of S

  abbrev pub K : Knowledge
  K = known (heads_of S)

  pub classes : length (table_of S).classes ≡ length (heads_of S).classes
  classes = counted (class_decl H K) 0 S.classes ∙ sym (mapped class_head S.classes)

  pub variables : length (table_of S).variables ≡ length (heads_of S).variables
  variables = counted (variable_decl H K) 0 S.variables ∙ sym (mapped variable_head S.variables)

  pub some_head : 0 < length (heads_of S).classes
  some_head = subst (λ (n : ℕ). 0 < n) classes some

  class_in_r : (r : Reading) → ((n : List ℕ) → LookIn H (r.find n)) → (t : ClassTree) → is_inside T (wrote_class H K r t).ty ≡ true
  class_in_r r f t = class_tree_in T H classes variables some_head K (known_in H) r f t

  type_in_r : (r : Reading) → ((n : List ℕ) → LookIn H (r.find n)) → (t : TypeTree) → is_inside T (wrote_type H K r t).ty ≡ true
  type_in_r r f t = type_tree_in T H classes variables some_head K (known_in H) r f t

  classes_in_r : (r : Reading) → ((n : List ℕ) → LookIn H (r.find n)) → (file : ℕ) (ts : List ClassTree) → are_inside T (map (λ (w : Written). w.ty) (written_classes H K file r ts)) ≡ true
  classes_in_r r f file [] = refl
  classes_in_r r f file (t ∷ ts) = all_more T (wrote_class H K r t).ty (map (λ (w : Written). w.ty) (written_classes H K file r ts)) (class_in_r r f t) (classes_in_r r f file ts)

  or_object_in : (r : Reading) → ((n : List ℕ) → LookIn H (r.find n)) → (file at : ℕ) (ts : List ClassTree) → are_inside T (map (λ (w : Written). w.ty) (or_object file at (written_classes H K file r ts))) ≡ true
  or_object_in r f file at [] = all_more T object [] (object_in T H classes variables some_head) refl
  or_object_in r f file at (t ∷ ts) = classes_in_r r f file (t ∷ ts)

  unless_object : (b : Bool) (ws : List Written) → are_inside T (map (λ (w : Written). w.ty) ws) ≡ true → are_inside T (map (λ (w : Written). w.ty) (cond b [] ws)) ≡ true
  unless_object true ws e = refl
  unless_object false ws e = e

  pub supers_inside : (c : ℕ) (s : ClassSite) → are_inside T (class_decl H K c s).supers.types ≡ true
  supers_inside c s =
      let r : Reading = head_reading H K c in
      let ws : List Written = or_object s.file (first_offset_of_head s.head) (written_classes H K s.file r (superclass_trees s.head)) in
      all_joined T (cond (c == 0) [] ws) (written_classes H K s.file r (interface_trees s.head))
      (unless_object (c == 0) ws (or_object_in r (in_head_in H K (known_in H) c) s.file (first_offset_of_head s.head) (superclass_trees s.head)))
      (classes_in_r r (in_head_in H K (known_in H) c) s.file (interface_trees s.head))

  formals_in : (r : Reading) → ((n : List ℕ) → LookIn H (r.find n)) → (file : ℕ) (fs : List Formal) → are_inside T (map (λ (w : Written). w.ty) (map (written_formal H K file r) fs)) ≡ true
  formals_in r g file [] = refl
  formals_in r g file (f ∷ fs) =
      all_more T (written_formal H K file r f).ty (map (λ (w : Written). w.ty) (map (written_formal H K file r) fs))
      (dims_in T (f.dims + one_more f.variable_arity) (wrote_type H K r f.ty).ty (type_in_r r g f.ty)) (formals_in r g file fs)

  result_in : (r : Reading) → ((n : List ℕ) → LookIn H (r.find n)) → (file : ℕ) (o : Option ResultType) → if_any (λ (w : Written). is_inside T w.ty) (written_result H K file r o) ≡ true
  result_in r g file None = refl
  result_in r g file (Some (result_of.Void at)) = refl
  result_in r g file (Some (result_of.Type t)) = type_in_r r g t

  pub params_inside : (m : ℕ) (s : MethodSite) (form : MethodForm) → are_inside T (method_decl_of H K m s form).params.types ≡ true
  params_inside m s (Headed head b) = formals_in (method_reading H K m s.class (says_static head.modifiers)) (in_method_in H K (known_in H) m s.class) _ head.formals
  params_inside m s ImpliedConstructor = refl
  params_inside m s StaticInitialiser = refl

  pub result_inside : (m : ℕ) (s : MethodSite) (form : MethodForm) → if_any (λ (w : Written). is_inside T w.ty) (method_decl_of H K m s form).result ≡ true
  result_inside m s (Headed head b) = result_in (method_reading H K m s.class (says_static head.modifiers)) (in_method_in H K (known_in H) m s.class) _ head.result
  result_inside m s ImpliedConstructor = refl
  result_inside m s StaticInitialiser = refl

  pub thrown_inside : (m : ℕ) (s : MethodSite) (form : MethodForm) → are_inside T (method_decl_of H K m s form).thrown.types ≡ true
  thrown_inside m s (Headed head b) = classes_in_r (method_reading H K m s.class (says_static head.modifiers)) (in_method_in H K (known_in H) m s.class) _ head.throws
  thrown_inside m s ImpliedConstructor = refl
  thrown_inside m s StaticInitialiser = refl

  pub field_inside : (k : ℕ) (f : FieldSite) → is_inside T (field_decl H K k f).ty.ty ≡ true
  field_inside k f =
      let r : Reading = body_reading H K f.class (is_static_field H f) in
      dims_in T f.var.dims (wrote_type H K r f.vars.ty).ty (type_in_r r (in_body_in H K (known_in H) f.class) f.vars.ty)

  owner_in : (o : Owner) (n : List ℕ) → LookIn H ((owner_reading H K o).find n)
  owner_in (owner.Class c) n = in_head_in H K (known_in H) c.0 n
  owner_in (owner.Method m) n = in_method_in H K (known_in H) m.0 (class_in (slice_get H.methods m.0)) n

  pub bounds_inside : (k : ℕ) (v : VariableSite) → are_inside T (variable_decl H K k v).bounds.types ≡ true
  bounds_inside k v = or_object_in (owner_reading H K v.owner) (owner_in v.owner) _ v.param.name.at v.param.bounds

  -- ---- the types that bodies write

  finds_in : (s : Option ScopeHead) (is_static : Bool) (n : List ℕ) → LookIn H ((reading_in H K s is_static).find n)
  finds_in None b n = unit_in H 0 n
  finds_in (Some s) b n = by_form s.form
    where
      by_form : (f : ScopeForm) → LookIn H ((reading_in H K (Some (record { outer = s.outer; form = f })) b).find n)
      by_form (scope_of.Unit u) = unit_in H u n
      by_form (scope_of.Class c) = in_body_in H K (known_in H) c n
      by_form (scope_of.Method m) = in_method_in H K (known_in H) m (class_of_method (slice_get H.methods m)) n

  abbrev pub WroteIn : Wrote → Type 0
  WroteIn w = is_inside T w.ty ≡ true

  part_in : (r : Reading) → ((n : List ℕ) → LookIn H (r.find n)) → (p : BodyPart) → Each WroteIn (wrote_in_part H K r p)
  part_in r f (OfType t) = (type_in_r r f t, tt)
  part_in r f (OfClassType t) = (class_in_r r f t, tt)
  part_in r f (OfDiamond t) = (class_in_r r f t, tt)
  part_in r f (OfElement t) = (base_tree_in T H classes variables some_head K (known_in H) r f t, tt)
  part_in r f (OfVariable modifiers at) = tt

  pub use_wrote_in : (u : UseSite) → Each WroteIn (wrote_in_use H K u)
  use_wrote_in u = part_in (reading_of H K u.scope (u.is_static || is_interface H u.class)) (finds_in (slice_get H.scopes u.scope) (u.is_static || is_interface H u.class)) u.part
