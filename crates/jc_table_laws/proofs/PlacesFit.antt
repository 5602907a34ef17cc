-- In the table of a program whose names break no rule each written type has its places.
use Rattle.std.proofs.Common.{◌≡◌, inl, inr, ◌<◌, ◌+◌, ◌==◌, ◌&&◌, ◌||◌, ℕ, zero, suc, Bool, true, false, Option, Some, None, List, [], ◌∷◌, ◌++◌, map, length, slice_get, arith, refl, sym, ap, subst, ◌∙◌}
use Rattle.std.specs.Prelude.{cond}
use Rattle.std.specs.List.{list_all}
use Rattle.std.proofs.lemmas.Grind.{common_steps}
use Rattle.std.proofs.lemmas.Bool.{or_right, and_from}
use Rattle.jc_rules.specs.declared.rule.Refusal.{Refusal}
use Rattle.jc_tree.specs.declared.statement.Formal.{Formal}
use Rattle.jc_tree.specs.declared.statement.MethodHead.{MethodHead}
use Rattle.jc_tree.specs.declared.statement.ResultType.{ResultType}
use Rattle.jc_tree.specs.declared.statement.ResultType.TheVariants as result_of
use Rattle.jc_tree.specs.declared.statement.TypeParam.{TypeParam}
use Rattle.jc_tree.specs.declared.types.BaseTree.{BaseTree}
use Rattle.jc_tree.specs.declared.types.ClassTree.{ClassTree}
use Rattle.jc_tree.specs.declared.types.TypeTree.{TypeTree}
use Rattle.jc_tree.specs.Offsets.{first_offset_of_head, first_offset_of_type, first_offset_of_class}
use Rattle.jc_types.specs.declared.declarations.ClassDecl.{ClassDecl}
use Rattle.jc_types.specs.declared.declarations.FieldDecl.{FieldDecl}
use Rattle.jc_types.specs.declared.declarations.MethodDecl.{MethodDecl}
use Rattle.jc_types.specs.declared.declarations.Owner.{Owner}
use Rattle.jc_types.specs.declared.declarations.Owner.TheVariants as owner
use Rattle.jc_types.specs.declared.declarations.VariableDecl.{VariableDecl}
use Rattle.jc_types.specs.declared.declarations.Written.{Written}
use Rattle.jc_types.specs.declared.scopes.Use.{Use}
use Rattle.jc_types.specs.declared.table.Table.{Table}
use Rattle.jc_types.specs.Breaks.{IsOf}
use Rattle.jc_types.specs.Inside.{inside}
use Rattle.jc_types.specs.Tables.{if_any, written_zips, types_zip, method_zips, places_fit}
use Rattle.jc_declares.specs.declared.heads.Heads.{Heads}
use Rattle.jc_declares.specs.declared.heads.ScopeForm.{ScopeForm}
use Rattle.jc_declares.specs.declared.heads.ScopeForm.TheVariants as scope_of
use Rattle.jc_declares.specs.declared.heads.ScopeHead.{ScopeHead}
use Rattle.jc_declares.specs.declared.unit.SourceUnit.{SourceUnit}
use Rattle.jc_declares.specs.Breaks.{BreaksNames, in_file, class_repeated_breaks, class_modifier_breaks, field_modifier_breaks, method_repeated_breaks, method_modifier_breaks, local_modifier_breaks, class_trees_broken, bounds_broken, class_broken, formals_broken, result_broken, method_broken, is_static_field, field_broken, wrotes_broken, use_broken, class_site_breaks, method_site_breaks, field_site_breaks, use_site_breaks, site_breaks, listed_breaks}
use Rattle.jc_declares.specs.HeadBreaks.{IsCycle, of_each, head_breaks, class_file, class_in, owner_file}
use Rattle.jc_declares.specs.Heads.{heads_of, class_head, method_place, is_interface, superclass_trees, interface_trees, method_variables, round_of, unit_of}
use Rattle.jc_declares.specs.Knowing.{known, is_some, Needs}
use Rattle.jc_declares.specs.Looking.{Knowledge, Look, Asker, one_variable, or_next, in_unit, in_body, in_head, head_asker, body_asker}
use Rattle.jc_declares.specs.Making.{place_at, written_at, written_classes, types, or_object, super_list, class_decl, one_more, written_formal, written_result, param_name, method_decl, method_decl_of, field_decl, owner_reading, variable_decl, part_at, use_with, use_decls, numbered, table_of}
use Rattle.jc_declares.specs.Readings.{own_unless, head_reading, body_reading, method_reading, class_of_method, unit_reading, reading_in, wrote_in_part, wrote_in_use}
use Rattle.jc_header_rules.specs.Checked.{IsAmong}
use Rattle.jc_declares.specs.Sites.{Sites, ClassSite, MethodSite, FieldSite, VariableSite, UseSite, BodyPart, OfType, OfClassType, OfDiamond, OfElement, OfVariable, MethodForm, Headed, ImpliedConstructor, StaticInitialiser, listed_params, params_of_head, sites_of}
use Rattle.jc_declares.specs.Words.{says_static}
use Rattle.jc_declares.specs.Writing.{Broken, Reading, Wrote, with_dims, wrote_base, wrote_class, wrote_type}
use Rattle.jc_types.specs.Names.{named}
use Rattle.jc_table_laws.proofs.AllInside.{mapped}
use Rattle.jc_table_laws.proofs.AllKnown.{none_unknown, sure_next, sure_unit, sure_classes, sure_head}
use Rattle.jc_table_laws.proofs.Fitting.{Each, each_joined, each_at, IsBelow, MethodFits, FieldFits, ScopeFits, SitesFit, FormFits, sizes, all_fit}
use Rattle.jc_table_laws.proofs.IdsFit.{round_below}
use Rattle.jc_table_laws.proofs.Owned.{IsInForm, IsOwned, OfClass, OfMethod, all_owned}
use Rattle.jc_table_laws.proofs.PlacesZip.{left_empty, right_empty, Zipped, dims_inside, base_tree_zips, class_tree_zips, type_tree_zips}
use Rattle.jc_table_laws.proofs.Ranges.{LookIn, unit_in, in_body_in, in_head_in, in_method_in, known_in}

-- ---- lists

each_as : {X : Type 0} (P Q : X → Type 0) (xs : List X) → ((x : X) → P x → Q x) → Each P xs → Each Q xs
each_as P Q [] f a = tt
each_as P Q (x ∷ xs) f a = (f x a.0, each_as P Q xs f a.1)

all_by : {X : Type 0} (test : X → Bool) (xs : List X) → Each (λ x. test x ≡ true) xs → list_all test xs ≡ true
all_by test [] a = refl
all_by test (x ∷ xs) a = and_from (test x) (list_all test xs) a.0 (all_by test xs a.1)

-- of each in a list, with its number
abbrev pub EachFrom : {X : Type 0} → (ℕ → X → Type 0) → ℕ → List X → Type 0
EachFrom P i [] = Unit {0}
EachFrom P i (x ∷ xs) = P i x × EachFrom P (suc i) xs

numbered_by : {X Y : Type 0} (P : ℕ → X → Type 0) (f : ℕ → X → Y) (Q : Y → Type 0) (i : ℕ) (xs : List X) → ((k : ℕ) (x : X) → P k x → Q (f k x)) → EachFrom P i xs → Each Q (numbered f i xs)
numbered_by P f Q i [] g a = tt
numbered_by P f Q i (x ∷ xs) g a = (g i x a.0, numbered_by P f Q (suc i) xs g a.1)

with_each : {X : Type 0} (P : ℕ → X → Type 0) (Q : X → Type 0) (i : ℕ) (xs : List X) → EachFrom P i xs → Each Q xs → EachFrom (λ k x. P k x × Q x) i xs
with_each P Q i [] a b = tt
with_each P Q i (x ∷ xs) a b = ((a.0, b.0), with_each P Q (suc i) xs a.1 b.1)

from_at : {X : Type 0} (P : ℕ → X → Type 0) (i : ℕ) (xs : List X) (n : ℕ) (x : X) → slice_get xs n ≡ Some x → EachFrom P i xs → P (i + n) x
from_at P i [] zero x e a = absurd (let z : ⊥ = cc in z)
from_at P i [] (suc n) x e a = absurd (let z : ⊥ = cc in z)
from_at P i (y ∷ xs) zero x e a = subst (λ z. P (i + 0) z) (let g : y ≡ x = cc in g) (subst (λ (k : ℕ). P k y) (let g : i ≡ i + 0 = omega arith in g) a.0)
from_at P i (y ∷ xs) (suc n) x e a = subst (λ (k : ℕ). P k x) (let g : suc i + n ≡ i + suc n = omega arith in g) (from_at P (suc i) xs n x e a.1)

pub at_place : {X : Type 0} (P : ℕ → X → Type 0) (xs : List X) (n : ℕ) (x : X) → slice_get xs n ≡ Some x → EachFrom P 0 xs → P n x
at_place P xs n x e a = subst (λ (k : ℕ). P k x) (let g : 0 + n ≡ n = omega arith in g) (from_at P 0 xs n x e a)

method_at : (ms : List MethodSite) (n : ℕ) (m : MethodSite) → slice_get ms n ≡ Some m → slice_get (map method_place ms) n ≡ Some (method_place m)
method_at [] zero m e = cc
method_at [] (suc n) m e = cc
method_at (x ∷ ms) zero m e = let f : x ≡ m = cc in ap (λ (y : MethodSite). Some (method_place y)) f
method_at (x ∷ ms) (suc n) m e = method_at ms n m e

pub found_at : {X : Type 0} (xs : List X) (n : ℕ) → n < length xs → (x : X) × (slice_get xs n ≡ Some x)
found_at [] n l = absurd (omega (arith, l))
found_at (x ∷ xs) zero l = (x, refl)
found_at (x ∷ xs) (suc n) l = found_at xs n (omega (arith, l))

-- ---- where nothing is broken

none_of : (bs : List Refusal) → ((b : Refusal) → IsOf b bs → ⊥) → bs ≡ []
none_of [] f = refl
none_of (b ∷ bs) f = absurd (f b (inl refl))

pub none_of_each : {X : Type 0} (f : ℕ → X → List Refusal) (i : ℕ) (xs : List X) → of_each f i xs ≡ [] → EachFrom (λ k x. f k x ≡ []) i xs
none_of_each f i [] e = tt
none_of_each f i (x ∷ xs) e = (left_empty (f i x) (of_each f (suc i) xs) e, none_of_each f (suc i) xs (right_empty (f i x) (of_each f (suc i) xs) e))

none_in_file : (file : ℕ) (bs : List Broken) → in_file file bs ≡ [] → bs ≡ []
none_in_file file [] e = refl
none_in_file file (b ∷ bs) e = cc

-- ---- places and types

equal_true : (a b : ℕ) → a ≡ b → (a == b) ≡ true
equal_true a b e = grind (arith, common_steps)

abbrev WrittenZips : Written → Type 0
WrittenZips w = written_zips w ≡ true

abbrev pub WroteZips : Wrote → Type 0
WroteZips w = Zipped w.places (inside w.ty)

written_zip : (file at dims : ℕ) (w : Wrote) → WroteZips w → WrittenZips (written_at file at dims w)
written_zip file at dims w z =
    or_right (length (map (λ (o : ℕ). place_at file o) w.places) == 0) (length (map (λ (o : ℕ). place_at file o) w.places) == length (inside (with_dims dims w.ty)))
    (equal_true (length (map (λ (o : ℕ). place_at file o) w.places)) (length (inside (with_dims dims w.ty))) (mapped (λ (o : ℕ). place_at file o) w.places ∙ z ∙ sym (ap length (dims_inside dims w.ty))))

list_zips : (ws : List Written) → Each WrittenZips ws → types_zip (types ws) ≡ true
list_zips [] a = refl
list_zips (w ∷ ws) a = and_from (written_zips w) (types_zip (types ws)) a.0 (list_zips ws a.1)

cond_each : (b : Bool) (ws : List Written) → Each WrittenZips ws → Each WrittenZips (cond b [] ws)
cond_each true ws a = tt
cond_each false ws a = a

or_object_each : (file at : ℕ) (ws : List Written) → Each WrittenZips ws → Each WrittenZips (or_object file at ws)
or_object_each file at [] a = (refl, tt)
or_object_each file at (w ∷ ws) a = a

-- the bounds of one of these parameters
bound_unbroken : (H : Heads) (K : Knowledge) (r : Reading) (p : TypeParam) (ps : List TypeParam) → IsAmong p ps → bounds_broken H K r ps ≡ [] → class_trees_broken H K r p.bounds ≡ []
bound_unbroken H K r p [] i e = absurd i
bound_unbroken H K r p (q ∷ ps) (inl is) e = ap (λ (x : TypeParam). class_trees_broken H K r x.bounds) is ∙ left_empty (class_trees_broken H K r q.bounds) (bounds_broken H K r ps) e
bound_unbroken H K r p (q ∷ ps) (inr i) e = bound_unbroken H K r p ps i (right_empty (class_trees_broken H K r q.bounds) (bounds_broken H K r ps) e)

module _ (units : List SourceUnit) (unbroken : (b : Refusal) → BreaksNames (sites_of units) b → ⊥) where
  abbrev S : Sites
  S = sites_of units

  abbrev H : Heads
  H = heads_of S

  abbrev K : Knowledge
  K = known H

  abbrev T : Table
  T = table_of S

  fit : SitesFit (sizes S) S
  fit = all_fit units

  -- ---- what is known

  heads_count : length S.classes ≡ length H.classes
  heads_count = sym (mapped class_head S.classes)

  round_is : (c : ℕ) → Each (IsBelow (length H.classes)) (round_of H c)
  round_is c = subst (λ (n : ℕ). Each (IsBelow n) (round_of H c)) heads_count (round_below units c)

  acyclic : (c : ℕ) → c < length H.classes → Needs H c c → ⊥
  acyclic c l n =
      let head = found_at H.classes c l in
      let broken : Refusal = record { rule = 304; place = record { file = head.0.file; at = head.0.at }; have = 0 } in
      let cycle : IsCycle H broken = record { class = c; head = head.0; declared = head.1; cyclic = n; says = refl } in
      unbroken broken (inr cycle)

  all_known : (c : ℕ) → c < length H.classes → is_some (K c) ≡ true
  all_known = none_unknown H round_is acyclic

  abbrev IsKnown : ℕ → Type 0
  IsKnown c = is_some (K c) ≡ true

  round_known : (c : ℕ) → Each IsKnown (round_of H c)
  round_known c = each_as (IsBelow (length H.classes)) IsKnown (round_of H c) all_known (round_is c)

  -- ---- readings that have an answer for every name

  record Finds (find : List ℕ → Look) : Type 0 where
    inside : (n : List ℕ) → LookIn H (find n)
    sure : (n : List ℕ) → is_some (find n) ≡ true

  of_unit : (u : ℕ) → Finds (in_unit H u)
  of_unit u = record { inside = unit_in H u; sure = sure_unit H K u }

  of_head : (c : ℕ) → Finds (in_head H K c)
  of_head c = record { inside = in_head_in H K (known_in H) c; sure = λ n. sure_head H K c n (round_known c) }

  of_body : (c : ℕ) → c < length H.classes → Finds (in_body H K c)
  of_body c l = record { inside = in_body_in H K (known_in H) c; sure = λ n. sure_classes H K n (unit_of H c) (c ∷ round_of H c) (all_known c l, round_known c) }

  of_method : (m c : ℕ) → c < length H.classes → Finds (λ n. or_next (one_variable (named n (method_variables H m))) (in_body H K c n))
  of_method m c l =
      record {
        inside = in_method_in H K (known_in H) m c;
        sure = λ n. sure_next H K (one_variable (named n (method_variables H m))) (in_body H K c n) ((of_body c l).sure n);
      }

  below_heads : (c : ℕ) → c < length S.classes → c < length H.classes
  below_heads c l = subst (λ (n : ℕ). c < n) heads_count l

  -- ---- lists of class types, which are read in one way and asked for their names in another

  module _ (find : List ℕ → Look) (asker : Asker) (strict own : Option ℕ) (f : Finds find) where
    abbrev r : Reading
    r = record { find = find; asker = asker; own = strict }

    abbrev s : Reading
    s = record { find = find; asker = asker; own = own }

    class_is : (t : ClassTree) → (wrote_class H K r t).broken ≡ [] → WroteZips (wrote_class H K s t)
    class_is t e = class_tree_zips H K (known_in H) all_known find asker strict own f.inside f.sure t e

    type_is : (t : TypeTree) → (wrote_type H K r t).broken ≡ [] → WroteZips (wrote_type H K s t)
    type_is t e = type_tree_zips H K (known_in H) all_known find asker strict own f.inside f.sure t e

    base_is : (t : BaseTree) → (wrote_base H K r t).broken ≡ [] → WroteZips (wrote_base H K s t)
    base_is t e = base_tree_zips H K (known_in H) all_known find asker strict own f.inside f.sure t e

    trees_are : (file : ℕ) (ts : List ClassTree) → class_trees_broken H K r ts ≡ [] → Each WrittenZips (written_classes H K file s ts)
    trees_are file [] e = tt
    trees_are file (t ∷ ts) e = (
      written_zip file (first_offset_of_class t) 0 (wrote_class H K s t) (class_is t (left_empty (wrote_class H K r t).broken (class_trees_broken H K r ts) e)),
      trees_are file ts (right_empty (wrote_class H K r t).broken (class_trees_broken H K r ts) e),
    )

    formals_are : (file : ℕ) (fs : List Formal) → formals_broken H K r fs ≡ [] → Each WrittenZips (map (written_formal H K file s) fs)
    formals_are file [] e = tt
    formals_are file (g ∷ fs) e = (
      written_zip file (first_offset_of_type g.ty) (g.dims + one_more g.variable_arity) (wrote_type H K s g.ty) (type_is g.ty (left_empty (wrote_type H K r g.ty).broken (formals_broken H K r fs) e)),
      formals_are file fs (right_empty (wrote_type H K r g.ty).broken (formals_broken H K r fs) e),
    )

    result_is : (file : ℕ) (o : Option ResultType) → result_broken H K r o ≡ [] → if_any written_zips (written_result H K file s o) ≡ true
    result_is file None e = refl
    result_is file (Some (result_of.Void at)) e = refl
    result_is file (Some (result_of.Type t)) e = written_zip file (first_offset_of_type t) 0 (wrote_type H K s t) (type_is t e)

    part_is : (p : BodyPart) → wrotes_broken (wrote_in_part H K r p) ≡ [] → Each WroteZips (wrote_in_part H K s p)
    part_is (OfType t) e = (type_is t (left_empty (wrote_type H K r t).broken [] e), tt)
    part_is (OfClassType t) e = (class_is t (left_empty (wrote_class H K r t).broken [] e), tt)
    part_is (OfDiamond t) e = (class_is t (left_empty (wrote_class H K r t).broken [] e), tt)
    part_is (OfElement t) e = (base_is t (left_empty (wrote_base H K r t).broken [] e), tt)
    part_is (OfVariable modifiers at) e = tt

  -- ---- what breaks no rule

  pub listed : listed_breaks S H K ≡ []
  listed = none_of (listed_breaks S H K) (λ b i. unbroken b (inl i))

  abbrev OfClasses : List Refusal
  OfClasses = of_each (class_site_breaks H K) 0 S.classes

  abbrev OfMethods : List Refusal
  OfMethods = of_each (method_site_breaks H K) 0 S.methods

  abbrev OfFields : List Refusal
  OfFields = of_each (field_site_breaks H K) 0 S.fields

  abbrev OfUses : List Refusal
  OfUses = of_each (use_site_breaks H K) 0 S.uses

  in_sites : site_breaks S H K ≡ []
  in_sites = right_empty (head_breaks H K) (site_breaks S H K) listed

  first_three : OfClasses ++ OfMethods ++ OfFields ≡ []
  first_three = left_empty (OfClasses ++ OfMethods ++ OfFields) OfUses in_sites

  first_two : OfClasses ++ OfMethods ≡ []
  first_two = left_empty (OfClasses ++ OfMethods) OfFields first_three

  abbrev pub ClassUnbroken : ℕ → ClassSite → Type 0
  ClassUnbroken k s = class_site_breaks H K k s ≡ []

  pub classes_unbroken : EachFrom ClassUnbroken 0 S.classes
  classes_unbroken = none_of_each (class_site_breaks H K) 0 S.classes (left_empty OfClasses OfMethods first_two)

  abbrev MethodUnbroken : ℕ → MethodSite → Type 0
  MethodUnbroken k s = method_site_breaks H K k s ≡ []

  methods_unbroken : EachFrom MethodUnbroken 0 S.methods
  methods_unbroken = none_of_each (method_site_breaks H K) 0 S.methods (right_empty OfClasses OfMethods first_two)

  fields_unbroken : EachFrom (λ k f. field_site_breaks H K k f ≡ []) 0 S.fields
  fields_unbroken = none_of_each (field_site_breaks H K) 0 S.fields (right_empty (OfClasses ++ OfMethods) OfFields first_three)

  uses_unbroken : EachFrom (λ k u. use_site_breaks H K k u ≡ []) 0 S.uses
  uses_unbroken = none_of_each (use_site_breaks H K) 0 S.uses (right_empty (OfClasses ++ OfMethods ++ OfFields) OfUses in_sites)

  -- ---- classes

  pub record ClassRead (c : ℕ) (s : ClassSite) : Type 0 where
    pub bounds : bounds_broken H K (head_reading H K c) (params_of_head s.head) ≡ []
    pub superclass : class_trees_broken H K (head_reading H K c) (superclass_trees s.head) ≡ []
    pub interfaces : class_trees_broken H K (head_reading H K c) (interface_trees s.head) ≡ []

  pub class_read : (c : ℕ) (s : ClassSite) → ClassUnbroken c s → ClassRead c s
  class_read c s e =
      let r : Reading = head_reading H K c in
      let a : List Broken = bounds_broken H K r (params_of_head s.head) in
      let b : List Broken = class_trees_broken H K r (superclass_trees s.head) in
      let d : List Broken = class_trees_broken H K r (interface_trees s.head) in
      let all : a ++ b ++ d ≡ [] = none_in_file s.file (a ++ b ++ d) (right_empty (class_repeated_breaks H K c s ++ class_modifier_breaks s) (class_broken H K c s) e) in
      let two : a ++ b ≡ [] = left_empty (a ++ b) d all in
      record { bounds = left_empty a b two; superclass = right_empty a b two; interfaces = right_empty (a ++ b) d all }

  -- a written supertype
  pub head_tree_zips : (c : ℕ) (t : ClassTree) → (wrote_class H K (head_reading H K c) t).broken ≡ [] → WroteZips (wrote_class H K (head_reading H K c) t)
  head_tree_zips c t e = class_is (in_head H K c) (head_asker H c) (Some c) (Some c) (of_head c) t e

  class_zips : (c : ℕ) (s : ClassSite) → ClassUnbroken c s → types_zip (class_decl H K c s).supers ≡ true
  class_zips c s e =
      let read : ClassRead c s = class_read c s e in
      let first : List Written = or_object s.file (first_offset_of_head s.head) (written_classes H K s.file (head_reading H K c) (superclass_trees s.head)) in
      list_zips (super_list H K c s)
      (each_joined WrittenZips (cond (c == 0) [] first) (written_classes H K s.file (head_reading H K c) (interface_trees s.head))
      (cond_each (c == 0) first
      (or_object_each s.file (first_offset_of_head s.head) (written_classes H K s.file (head_reading H K c) (superclass_trees s.head))
      (trees_are (in_head H K c) (head_asker H c) (Some c) (Some c) (of_head c) s.file (superclass_trees s.head) read.superclass)))
      (trees_are (in_head H K c) (head_asker H c) (Some c) (Some c) (of_head c) s.file (interface_trees s.head) read.interfaces))

  -- ---- methods

  record MethodRead (m c : ℕ) (head : MethodHead) : Type 0 where
    bounds : bounds_broken H K (method_reading H K m c (says_static head.modifiers)) (listed_params head.params) ≡ []
    result : result_broken H K (method_reading H K m c (says_static head.modifiers)) head.result ≡ []
    formals : formals_broken H K (method_reading H K m c (says_static head.modifiers)) head.formals ≡ []
    throws : class_trees_broken H K (method_reading H K m c (says_static head.modifiers)) head.throws ≡ []

  method_read : (m c : ℕ) (head : MethodHead) (has_block : Bool) → method_broken H K m c (Headed head has_block) ≡ [] → MethodRead m c head
  method_read m c head has_block e =
      let r : Reading = method_reading H K m c (says_static head.modifiers) in
      let a : List Broken = bounds_broken H K r (listed_params head.params) in
      let b : List Broken = result_broken H K r head.result in
      let d : List Broken = formals_broken H K r head.formals in
      let g : List Broken = class_trees_broken H K r head.throws in
      let all : a ++ b ++ d ++ g ≡ [] = none_in_file (class_file H c) (a ++ b ++ d ++ g) e in
      let three : a ++ b ++ d ≡ [] = left_empty (a ++ b ++ d) g all in
      let two : a ++ b ≡ [] = left_empty (a ++ b) d three in
      record { bounds = left_empty a b two; result = right_empty a b two; formals = right_empty (a ++ b) d three; throws = right_empty (a ++ b ++ d) g all }

  joins : (d : MethodDecl) → types_zip d.params ≡ true → (length d.param_names == length d.params.types) ≡ true → if_any written_zips d.result ≡ true → types_zip d.thrown ≡ true → method_zips d ≡ true
  joins d a b r t =
      and_from (types_zip d.params && (length d.param_names == length d.params.types) && if_any written_zips d.result) (types_zip d.thrown)
      (and_from (types_zip d.params && (length d.param_names == length d.params.types)) (if_any written_zips d.result) (and_from (types_zip d.params) (length d.param_names == length d.params.types) a b) r) t

  names_count : (file : ℕ) (fs : List Formal) (r : Reading) → (length (map (param_name file) fs) == length (map (λ (w : Written). w.ty) (map (written_formal H K file r) fs))) ≡ true
  names_count file fs r =
      equal_true (length (map (param_name file) fs)) (length (map (λ (w : Written). w.ty) (map (written_formal H K file r) fs)))
      (mapped (param_name file) fs ∙ sym (mapped (λ (w : Written). w.ty) (map (written_formal H K file r) fs) ∙ mapped (written_formal H K file r) fs))

  method_form_zips : (m : ℕ) (s : MethodSite) → s.class < length H.classes → (form : MethodForm) → method_broken H K m s.class form ≡ [] → method_zips (method_decl_of H K m s form) ≡ true
  method_form_zips m s l (Headed head has_block) e =
      let own : Option ℕ = own_unless (says_static head.modifiers) s.class in
      let read : MethodRead m s.class head = method_read m s.class head has_block e in
      let find : List ℕ → Look = λ (n : List ℕ). or_next (one_variable (named n (method_variables H m))) (in_body H K s.class n) in
      let file : ℕ = class_file H s.class in
      joins (method_decl_of H K m s (Headed head has_block))
      (list_zips (map (written_formal H K file (method_reading H K m s.class (says_static head.modifiers))) head.formals)
      (formals_are find (body_asker H s.class) own own (of_method m s.class l) file head.formals read.formals))
      (names_count file head.formals (method_reading H K m s.class (says_static head.modifiers)))
      (result_is find (body_asker H s.class) own own (of_method m s.class l) file head.result read.result)
      (list_zips (written_classes H K file (method_reading H K m s.class (says_static head.modifiers)) head.throws)
      (trees_are find (body_asker H s.class) own own (of_method m s.class l) file head.throws read.throws))
  method_form_zips m s l ImpliedConstructor e = refl
  method_form_zips m s l StaticInitialiser e = refl

  method_zip : (m : ℕ) (s : MethodSite) → MethodUnbroken m s × MethodFits (sizes S) s → method_zips (method_decl H K m s) ≡ true
  method_zip m s a =
      method_form_zips m s (below_heads s.class a.1.class) s.form (right_empty (method_repeated_breaks H s.class s.form ++ method_modifier_breaks H s.class s.form) (method_broken H K m s.class s.form) a.0)

  -- ---- fields

  field_zip : (k : ℕ) (f : FieldSite) → (field_site_breaks H K k f ≡ []) × FieldFits (sizes S) f → WrittenZips (field_decl H K k f).ty
  field_zip k f a =
      let own : Option ℕ = own_unless (is_static_field H f) f.class in
      written_zip (class_file H f.class) (first_offset_of_type f.vars.ty) f.var.dims (wrote_type H K (body_reading H K f.class (is_static_field H f)) f.vars.ty)
      (type_is (in_body H K f.class) (body_asker H f.class) own own (of_body f.class (below_heads f.class a.1.class)) f.vars.ty
      (none_in_file (class_file H f.class) (wrote_type H K (body_reading H K f.class (is_static_field H f)) f.vars.ty).broken (right_empty (field_modifier_breaks H f) (field_broken H K f) a.0)))

  -- ---- type variables

  bounds_each : (file at : ℕ) (r : Reading) (p : TypeParam) → Each WrittenZips (written_classes H K file r p.bounds) → types_zip (types (or_object file at (written_classes H K file r p.bounds))) ≡ true
  bounds_each file at r p a = list_zips (or_object file at (written_classes H K file r p.bounds)) (or_object_each file at (written_classes H K file r p.bounds) a)

  class_bounds : (file : ℕ) (c : ℕ) (p : TypeParam) → OfClass S.classes c p → Each WrittenZips (written_classes H K file (head_reading H K c) p.bounds)
  class_bounds file c p o =
      let read : ClassRead c o.site = class_read c o.site (at_place ClassUnbroken S.classes c o.site o.at classes_unbroken) in
      trees_are (in_head H K c) (head_asker H c) (Some c) (Some c) (of_head c) file p.bounds (bound_unbroken H K (head_reading H K c) p (params_of_head o.site.head) o.written read.bounds)

  form_bounds : (file m c : ℕ) (p : TypeParam) → c < length H.classes → (form : MethodForm) → IsInForm p form → method_broken H K m c form ≡ [] → Each WrittenZips (written_classes H K file (method_reading H K m c false) p.bounds)
  form_bounds file m c p l (Headed head has_block) i e =
      let read : MethodRead m c head = method_read m c head has_block e in
      trees_are (λ (n : List ℕ). or_next (one_variable (named n (method_variables H m))) (in_body H K c n)) (body_asker H c) (own_unless (says_static head.modifiers) c) (Some c) (of_method m c l) file p.bounds
      (bound_unbroken H K (method_reading H K m c (says_static head.modifiers)) p (listed_params head.params) i read.bounds)
  form_bounds file m c p l ImpliedConstructor i e = absurd i
  form_bounds file m c p l StaticInitialiser i e = absurd i

  method_bounds : (file m : ℕ) (p : TypeParam) → OfMethod S.methods m p → Each WrittenZips (written_classes H K file (method_reading H K m (class_in (slice_get H.methods m)) false) p.bounds)
  method_bounds file m p o =
      let c : ℕ = o.site.class in
      let is : class_in (slice_get H.methods m) ≡ c = ap class_in (method_at S.methods m o.site o.at) in
      let l : c < length H.classes = below_heads c (each_at (MethodFits (sizes S)) S.methods m o.site o.at fit.methods).class in
      let e : method_broken H K m c o.site.form ≡ [] =
      right_empty (method_repeated_breaks H c o.site.form ++ method_modifier_breaks H c o.site.form) (method_broken H K m c o.site.form) (at_place MethodUnbroken S.methods m o.site o.at methods_unbroken) in
      subst (λ (d : ℕ). Each WrittenZips (written_classes H K file (method_reading H K m d false) p.bounds)) (sym is) (form_bounds file m c p l o.site.form o.written e)

  owner_bounds : (file : ℕ) (o : Owner) (p : TypeParam) → IsOwned S.classes S.methods o p → Each WrittenZips (written_classes H K file (owner_reading H K o) p.bounds)
  owner_bounds file (owner.Class c) p f = class_bounds file c.0 p f
  owner_bounds file (owner.Method m) p f = method_bounds file m.0 p f

  abbrev VariableOwned : VariableSite → Type 0
  VariableOwned v = IsOwned S.classes S.methods v.owner v.param

  variable_zip : (k : ℕ) (v : VariableSite) → VariableOwned v → types_zip (variable_decl H K k v).bounds ≡ true
  variable_zip k v f = bounds_each (owner_file H v.owner) v.param.name.at (owner_reading H K v.owner) v.param (owner_bounds (owner_file H v.owner) v.owner v.param f)

  each_numbered : {X Y : Type 0} (f : ℕ → X → Y) (P : X → Type 0) (Q : Y → Type 0) (i : ℕ) (xs : List X) → ((k : ℕ) (x : X) → P x → Q (f k x)) → Each P xs → Each Q (numbered f i xs)
  each_numbered f P Q i [] g a = tt
  each_numbered f P Q i (x ∷ xs) g a = (g i x a.0, each_numbered f P Q (suc i) xs g a.1)

  -- ---- the types that bodies write

  abbrev InReading : Bool → BodyPart → Option ScopeHead → Type 0
  InReading b p o = wrotes_broken (wrote_in_part H K (reading_in H K o b) p) ≡ [] → Each WroteZips (wrote_in_part H K (reading_in H K o b) p)

  method_class : (m : ℕ) → m < length S.methods → class_of_method (slice_get H.methods m) < length H.classes
  method_class m l =
      let found = found_at S.methods m l in
      let is : class_of_method (slice_get H.methods m) ≡ found.0.class = ap class_of_method (method_at S.methods m found.0 found.1) in
      subst (λ (c : ℕ). c < length H.classes) (sym is) (below_heads found.0.class (each_at (MethodFits (sizes S)) S.methods m found.0 found.1 fit.methods).class)

  form_zips : (b : Bool) (p : BodyPart) (outer : Option ℕ) (form : ScopeForm) → FormFits (sizes S) form → InReading b p (Some (record { outer = outer; form = form }))
  form_zips b p outer (scope_of.Unit u) f e = part_is (in_unit H u) (unit_reading H u).asker None None (of_unit u) p e
  form_zips b p outer (scope_of.Class c) f e = part_is (in_body H K c) (body_asker H c) (own_unless b c) (own_unless b c) (of_body c (below_heads c f)) p e
  form_zips b p outer (scope_of.Method m) f e =
      let c : ℕ = class_of_method (slice_get H.methods m) in
      part_is (λ (n : List ℕ). or_next (one_variable (named n (method_variables H m))) (in_body H K c n)) (body_asker H c) (own_unless b c) (own_unless b c) (of_method m c (method_class m f)) p e

  scope_zips : (b : Bool) (p : BodyPart) (k : ℕ) (o : Option ScopeHead) → slice_get H.scopes k ≡ o → InReading b p o
  scope_zips b p k None is e = part_is (in_unit H 0) (unit_reading H 0).asker None None (of_unit 0) p e
  scope_zips b p k (Some s) is e = form_zips b p s.outer s.form (each_at (ScopeFits (sizes S)) S.scopes k s is fit.scopes).1 e

  use_wrote_zips : (k : ℕ) (u : UseSite) → use_site_breaks H K k u ≡ [] → Each WroteZips (wrote_in_use H K u)
  use_wrote_zips k u e =
      scope_zips (u.is_static || is_interface H u.class) u.part u.scope (slice_get H.scopes u.scope) refl
      (none_in_file (class_file H u.class) (wrotes_broken (wrote_in_use H K u)) (right_empty (local_modifier_breaks (class_file H u.class) u.part) (use_broken H K u) e))

  abbrev UseZips : Use → Type 0
  UseZips u = WrittenZips u.ty

  with_zips : (u : UseSite) (ws : List Wrote) → Each WroteZips ws → Each UseZips (use_with H u ws)
  with_zips u [] a = tt
  with_zips u (w ∷ ws) a = (written_zip (class_file H u.class) (part_at u.part) 0 w a.0, with_zips u ws a.1)

  uses_zip : (i : ℕ) (us : List UseSite) → EachFrom (λ k u. use_site_breaks H K k u ≡ []) i us → Each UseZips (use_decls H K us)
  uses_zip i [] a = tt
  uses_zip i (u ∷ us) a = each_joined UseZips (use_with H u (wrote_in_use H K u)) (use_decls H K us) (with_zips u (wrote_in_use H K u) (use_wrote_zips i u a.0)) (uses_zip (suc i) us a.1)

  -- ---- all of them

  pub places_are : places_fit T ≡ true
  places_are =
      let a : list_all (λ (c : ClassDecl). types_zip c.supers) T.classes ≡ true =
      all_by (λ (c : ClassDecl). types_zip c.supers) T.classes (numbered_by ClassUnbroken (class_decl H K) (λ (c : ClassDecl). types_zip c.supers ≡ true) 0 S.classes class_zips classes_unbroken) in
      let b : list_all method_zips T.methods ≡ true =
      all_by method_zips T.methods
      (numbered_by (λ m s. MethodUnbroken m s × MethodFits (sizes S) s) (method_decl H K) (λ (m : MethodDecl). method_zips m ≡ true) 0 S.methods method_zip (with_each MethodUnbroken (MethodFits (sizes S)) 0 S.methods methods_unbroken fit.methods)) in
      let d : list_all (λ (f : FieldDecl). written_zips f.ty) T.fields ≡ true =
      all_by (λ (f : FieldDecl). written_zips f.ty) T.fields
      (numbered_by (λ k f. (field_site_breaks H K k f ≡ []) × FieldFits (sizes S) f) (field_decl H K) (λ (f : FieldDecl). written_zips f.ty ≡ true) 0 S.fields field_zip
      (with_each (λ k f. field_site_breaks H K k f ≡ []) (FieldFits (sizes S)) 0 S.fields fields_unbroken fit.fields)) in
      let g : list_all (λ (v : VariableDecl). types_zip v.bounds) T.variables ≡ true =
      all_by (λ (v : VariableDecl). types_zip v.bounds) T.variables (each_numbered (variable_decl H K) VariableOwned (λ (v : VariableDecl). types_zip v.bounds ≡ true) 0 S.variables variable_zip (all_owned units)) in
      let h : list_all (λ (u : Use). written_zips u.ty) T.uses ≡ true = all_by (λ (u : Use). written_zips u.ty) T.uses (uses_zip 0 S.uses uses_unbroken) in
      and_from (list_all (λ (c : ClassDecl). types_zip c.supers) T.classes && list_all method_zips T.methods && list_all (λ (f : FieldDecl). written_zips f.ty) T.fields && list_all (λ (v : VariableDecl). types_zip v.bounds) T.variables)
      (list_all (λ (u : Use). written_zips u.ty) T.uses)
      (and_from (list_all (λ (c : ClassDecl). types_zip c.supers) T.classes && list_all method_zips T.methods && list_all (λ (f : FieldDecl). written_zips f.ty) T.fields) (list_all (λ (v : VariableDecl). types_zip v.bounds) T.variables)
      (and_from (list_all (λ (c : ClassDecl). types_zip c.supers) T.classes && list_all method_zips T.methods) (list_all (λ (f : FieldDecl). written_zips f.ty) T.fields)
      (and_from (list_all (λ (c : ClassDecl). types_zip c.supers) T.classes) (list_all method_zips T.methods) a b) d) g) h
