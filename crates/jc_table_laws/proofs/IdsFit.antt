-- Every id in the table that a program has is a place in its list.
use Rattle.std.proofs.Common.{◌≡◌, ◌<◌, ◌≤◌, ◌+◌, ◌==◌, ◌&&◌, ℕ, suc, Bool, true, false, Option, Some, None, List, [], ◌∷◌, ◌++◌, map, length, slice_get, arith, refl, sym, subst, ◌∙◌}
use Rattle.std.specs.Prelude.{cond, nat_lt}
use Rattle.std.specs.List.{list_all}
use Rattle.std.proofs.lemmas.Bool.{and_from}
use Rattle.jc_rules.proofs.Truths.{less_is}
use Rattle.jc_types.specs.declared.declarations.ClassDecl.{ClassDecl}
use Rattle.jc_types.specs.declared.declarations.FieldDecl.{FieldDecl}
use Rattle.jc_types.specs.declared.declarations.MethodDecl.{MethodDecl}
use Rattle.jc_types.specs.declared.declarations.Owner.{Owner}
use Rattle.jc_types.specs.declared.declarations.Owner.TheVariants as owner
use Rattle.jc_types.specs.declared.declarations.VariableDecl.{VariableDecl}
use Rattle.jc_types.specs.declared.declarations.Written.{Written}
use Rattle.jc_types.specs.declared.constant.ConstantExpr.{ConstantExpr}
use Rattle.jc_types.specs.declared.ids.FieldId.{FieldId}
use Rattle.jc_types.specs.declared.ids.MethodId.{MethodId}
use Rattle.jc_types.specs.declared.scopes.Demand.{Demand}
use Rattle.jc_types.specs.declared.scopes.Scope.{Scope}
use Rattle.jc_types.specs.declared.scopes.Use.{Use}
use Rattle.jc_types.specs.declared.table.Table.{Table}
use Rattle.jc_types.specs.Accessors.{class_count}
use Rattle.jc_types.specs.Names.{named}
use Rattle.jc_types.specs.Tables.{if_any, is_class, is_method, is_field, is_variable, is_scope, is_inside, are_inside, class_fits, method_fits, value_fits, field_fits, owner_fits, variable_fits, demand_fits, are_class_places, are_variable_places, names_fit, scope_fits, use_fits, ids_fit}
use Rattle.jc_declares.specs.declared.heads.ClassHead.{ClassHead}
use Rattle.jc_declares.specs.declared.heads.FieldHead.{FieldHead}
use Rattle.jc_declares.specs.declared.heads.Heads.{Heads}
use Rattle.jc_declares.specs.declared.heads.ImportHead.{ImportHead}
use Rattle.jc_declares.specs.declared.heads.MethodPlace.{MethodPlace}
use Rattle.jc_declares.specs.declared.heads.ScopeForm.{ScopeForm}
use Rattle.jc_declares.specs.declared.heads.ScopeForm.TheVariants as scope_of
use Rattle.jc_declares.specs.declared.heads.ScopeHead.{ScopeHead}
use Rattle.jc_declares.specs.declared.unit.SourceUnit.{SourceUnit}
use Rattle.jc_declares.specs.Heads.{Named, heads_of, class_head, method_place, field_head, variable_head, declared_of, types_of_unit, class_variables, method_variables, imports_of, round_in, round_of}
use Rattle.jc_declares.specs.Knowing.{known, is_some}
use Rattle.jc_declares.specs.Looking.{Knowledge, Found, InPackage, AtClass, Nowhere, imported, singles}
use Rattle.jc_declares.specs.Making.{class_id, numbers, outer_id, methods_from, fields_from, variable_ids, class_decl, method_decl, method_decl_of, constant_value, field_value, field_decl, variable_decl, first_names, demand_by, demands, unit_file, inherited_list, scope_of_form, outer_scope, scope_decl, use_with, use_decls, numbered, table_of}
use Rattle.jc_declares.specs.Readings.{wrote_in_use}
use Rattle.jc_declares.specs.Sites.{Sites, ClassSite, MethodSite, FieldSite, VariableSite, UseSite, MethodForm, Headed, ImpliedConstructor, StaticInitialiser, sites_of}
use Rattle.jc_declares.specs.Writing.{Wrote}
use Rattle.jc_table_laws.proofs.AllInside.{counted, mapped, supers_inside, params_inside, result_inside, thrown_inside, field_inside, bounds_inside, use_wrote_in}
use Rattle.jc_table_laws.proofs.Fitting.{Each, each_joined, each_at, each_mapped, IsBelow, ClassFits, MethodFits, FieldFits, OwnerFits, VariableFits, OuterFits, FormFits, ScopeFits, UseFits, SitesFit, sizes, all_fit}
use Rattle.jc_table_laws.proofs.Ranges.{AllIn, FoundIn, SomeIn, declared_in, unit_types_in, class_variables_in, method_variables_in, imported_in, singles_in, known_in}

all_by : {X : Type 0} (test : X → Bool) (xs : List X) → Each (λ x. test x ≡ true) xs → list_all test xs ≡ true
all_by test [] a = refl
all_by test (x ∷ xs) a = and_from (test x) (list_all test xs) a.0 (all_by test xs a.1)

-- each with its number
each_numbered : {X Y : Type 0} (f : ℕ → X → Y) (P : X → Type 0) (Q : Y → Type 0) (i : ℕ) (xs : List X) → ((k : ℕ) (x : X) → P x → Q (f k x)) → Each P xs → Each Q (numbered f i xs)
each_numbered f P Q i [] g a = tt
each_numbered f P Q i (x ∷ xs) g a = (g i x a.0, each_numbered f P Q (suc i) xs g a.1)

-- of all entries of a list of names
entries : (n : ℕ) (es : Named) → AllIn n es → Each (λ (e : List ℕ × ℕ). e.1 < n) es
entries n [] a = tt
entries n (e ∷ es) a = (a.0, entries n es a.1)

with_first : (n : ℕ) (b : Bool) (found : Named) (e : List ℕ × ℕ) → AllIn n found → e.1 < n → AllIn n (cond b found (found ++ e ∷ []))
with_first n true found e a l = a
with_first n false found e a l = behind_all n found e a l
  where
    behind_all : (n : ℕ) (found : Named) (e : List ℕ × ℕ) → AllIn n found → e.1 < n → AllIn n (found ++ e ∷ [])
    behind_all n [] e a l = (l, tt)
    behind_all n (x ∷ found) e a l = (a.0, behind_all n found e a.1 l)

firsts_in : (n : ℕ) (found es : Named) → AllIn n found → AllIn n es → AllIn n (first_names found es)
firsts_in n found [] a b = a
firsts_in n found (e ∷ es) a b = firsts_in n (cond (is_some (named e.0 found)) found (found ++ e ∷ [])) es (with_first n (is_some (named e.0 found)) found e a b.0) b.1

in_both : (n : ℕ) (xs ys : Named) → AllIn n xs → AllIn n ys → AllIn n (xs ++ ys)
in_both n [] ys a b = b
in_both n (x ∷ xs) ys a b = (a.0, in_both n xs ys a.1 b)

one_method : (n : ℕ) (b : Bool) (i : ℕ) → i < n → Each (λ (m : MethodId). m.0 < n) (cond b (record { 0 = i } ∷ []) [])
one_method n true i l = (l, tt)
one_method n false i l = tt

methods_in : (n c i : ℕ) (ms : List MethodPlace) → i + length ms ≤ n → Each (λ (m : MethodId). m.0 < n) (methods_from c i ms)
methods_in n c i [] l = tt
methods_in n c i (m ∷ ms) l =
    each_joined (λ (m : MethodId). m.0 < n) (cond (m.class == c) (record { 0 = i } ∷ []) []) (methods_from c (suc i) ms) (one_method n (m.class == c) i (omega (arith, l))) (methods_in n c (suc i) ms (omega (arith, l)))

one_field : (n : ℕ) (b : Bool) (i : ℕ) → i < n → Each (λ (m : FieldId). m.0 < n) (cond b (record { 0 = i } ∷ []) [])
one_field n true i l = (l, tt)
one_field n false i l = tt

fields_in : (n c i : ℕ) (fs : List FieldHead) → i + length fs ≤ n → Each (λ (m : FieldId). m.0 < n) (fields_from c i fs)
fields_in n c i [] l = tt
fields_in n c i (f ∷ fs) l =
    each_joined (λ (m : FieldId). m.0 < n) (cond (f.class == c) (record { 0 = i } ∷ []) []) (fields_from c (suc i) fs) (one_field n (f.class == c) i (omega (arith, l))) (fields_in n c (suc i) fs (omega (arith, l)))

some_below : (c n : ℕ) → c < n → 0 < n
some_below c n l = omega (arith, l)

module _ (units : List SourceUnit) where
  abbrev S : Sites
  S = sites_of units

  abbrev H : Heads
  H = heads_of S

  abbrev K : Knowledge
  K = known H

  abbrev T : Table
  T = table_of S

  fit : SitesFit (sizes S) S
  fit = all_fit units

  -- ---- how many of each the table has

  class_places : length T.classes ≡ length S.classes
  class_places = counted (class_decl H K) 0 S.classes

  method_places : length T.methods ≡ length S.methods
  method_places = counted (method_decl H K) 0 S.methods

  scope_places : length T.scopes ≡ length S.scopes
  scope_places = counted (scope_decl H K) 0 H.scopes

  a_class : (c : ℕ) → c < length S.classes → is_class T (class_id c) ≡ true
  a_class c l = less_is c (length T.classes) (subst (λ (n : ℕ). c < n) (sym class_places) l)

  a_head : (c : ℕ) → c < length H.classes → is_class T (class_id c) ≡ true
  a_head c l = less_is c (length T.classes) (subst (λ (n : ℕ). c < n) (mapped class_head S.classes ∙ sym class_places) l)

  a_method : (m : ℕ) → m < length S.methods → is_method T (record { 0 = m }) ≡ true
  a_method m l = less_is m (length T.methods) (subst (λ (n : ℕ). m < n) (sym method_places) l)

  a_scope : (s : ℕ) → s < length S.scopes → is_scope T (record { 0 = s }) ≡ true
  a_scope s l = less_is s (length T.scopes) (subst (λ (n : ℕ). s < n) (sym scope_places) l)

  a_variable : (v : ℕ) → v < length H.variables → is_variable T (record { 0 = v }) ≡ true
  a_variable v l = less_is v (length T.variables) (subst (λ (n : ℕ). v < n) (mapped variable_head S.variables ∙ sym (counted (variable_decl H K) 0 S.variables)) l)

  some : (c : ℕ) → c < length S.classes → 0 < class_count T
  some c l = some_below c (length T.classes) (subst (λ (n : ℕ). c < n) (sym class_places) l)

  -- ---- lists of ids

  classes_of : (es : Named) → AllIn (length H.classes) es → list_all (is_class T) (map class_id (numbers es)) ≡ true
  classes_of [] a = refl
  classes_of (e ∷ es) a = and_from (is_class T (class_id e.1)) (list_all (is_class T) (map class_id (numbers es))) (a_head e.1 a.0) (classes_of es a.1)

  variables_of : (es : Named) → AllIn (length H.variables) es → list_all (is_variable T) (variable_ids es) ≡ true
  variables_of [] a = refl
  variables_of (e ∷ es) a = and_from (is_variable T (record { 0 = e.1 })) (list_all (is_variable T) (variable_ids es)) (a_variable e.1 a.0) (variables_of es a.1)

  rounds_of : (cs : List ℕ) → Each (IsBelow (length S.classes)) cs → list_all (is_class T) (map class_id cs) ≡ true
  rounds_of [] a = refl
  rounds_of (c ∷ cs) a = and_from (is_class T (class_id c)) (list_all (is_class T) (map class_id cs)) (a_class c a.0) (rounds_of cs a.1)

  outer_of : (cs : List ℕ) → Each (IsBelow (length S.classes)) cs → if_any (is_class T) (outer_id cs) ≡ true
  outer_of [] a = refl
  outer_of (c ∷ cs) a = a_class c a.0

  methods_of : (ms : List MethodId) → Each (λ (m : MethodId). m.0 < length H.methods) ms → list_all (is_method T) ms ≡ true
  methods_of [] a = refl
  methods_of (m ∷ ms) a =
      and_from (is_method T m) (list_all (is_method T) ms)
      (less_is m.0 (length T.methods) (subst (λ (n : ℕ). m.0 < n) (mapped method_place S.methods ∙ sym method_places) a.0)) (methods_of ms a.1)

  fields_of : (fs : List FieldId) → Each (λ (m : FieldId). m.0 < length H.fields) fs → list_all (is_field T) fs ≡ true
  fields_of [] a = refl
  fields_of (f ∷ fs) a =
      and_from (is_field T f) (list_all (is_field T) fs)
      (less_is f.0 (length T.fields) (subst (λ (n : ℕ). f.0 < n) (mapped field_head S.fields ∙ sym (counted (field_decl H K) 0 S.fields)) a.0)) (fields_of fs a.1)

  both : (a b : Bool) → a ≡ true → b ≡ true → (a && b) ≡ true
  both a b e f = and_from a b e f

  -- ---- classes

  class_is : (c : ℕ) (s : ClassSite) → c < length S.classes → ClassFits (sizes S) s → class_fits T (class_decl H K c s) ≡ true
  class_is c s l f =
      let d : ClassDecl = class_decl H K c s in
      both (if_any (is_class T) d.outer && list_all (is_class T) d.members && is_scope T d.scope && list_all (is_variable T) d.vars && are_inside T d.supers.types && list_all (is_method T) d.methods) (list_all (is_field T) d.fields)
      (both (if_any (is_class T) d.outer && list_all (is_class T) d.members && is_scope T d.scope && list_all (is_variable T) d.vars && are_inside T d.supers.types) (list_all (is_method T) d.methods)
      (both (if_any (is_class T) d.outer && list_all (is_class T) d.members && is_scope T d.scope && list_all (is_variable T) d.vars) (are_inside T d.supers.types)
      (both (if_any (is_class T) d.outer && list_all (is_class T) d.members && is_scope T d.scope) (list_all (is_variable T) d.vars)
      (both (if_any (is_class T) d.outer && list_all (is_class T) d.members) (is_scope T d.scope)
      (both (if_any (is_class T) d.outer) (list_all (is_class T) d.members) (outer_of s.round f.round) (classes_of (declared_of H c) (declared_in H c)))
      (a_scope s.scope f.scope))
      (variables_of (class_variables H c) (class_variables_in H c)))
      (supers_inside S (some c l) c s))
      (methods_of (methods_from c 0 H.methods) (methods_in (length H.methods) c 0 H.methods (omega arith))))
      (fields_of (fields_from c 0 H.fields) (fields_in (length H.fields) c 0 H.fields (omega arith)))

  classes_are : (i : ℕ) (ss : List ClassSite) → i + length ss ≤ length S.classes → Each (ClassFits (sizes S)) ss → list_all (class_fits T) (numbered (class_decl H K) i ss) ≡ true
  classes_are i [] l a = refl
  classes_are i (s ∷ ss) l a =
      both (class_fits T (class_decl H K i s)) (list_all (class_fits T) (numbered (class_decl H K) (suc i) ss)) (class_is i s (omega (arith, l)) a.0) (classes_are (suc i) ss (omega (arith, l)) a.1)

  -- ---- methods

  method_is : (m : ℕ) (s : MethodSite) → (c : ℕ) → s.class ≡ c → c < length S.classes → s.scope < length S.scopes → (form : MethodForm) → method_fits T (method_decl_of H K m s form) ≡ true
  method_is m s c e l k form = joins (method_decl_of H K m s form) (class_part form) (scope_part form) (vars_part form) (params_inside S (some c l) m s form) (result_inside S (some c l) m s form) (thrown_inside S (some c l) m s form)
    where
      in_class : s.class < length S.classes
      in_class = subst (λ (n : ℕ). n < length S.classes) (sym e) l

      class_part : (form : MethodForm) → is_class T (method_decl_of H K m s form).class ≡ true
      class_part (Headed head b) = a_class s.class in_class
      class_part ImpliedConstructor = a_class s.class in_class
      class_part StaticInitialiser = a_class s.class in_class

      scope_part : (form : MethodForm) → is_scope T (method_decl_of H K m s form).scope ≡ true
      scope_part (Headed head b) = a_scope s.scope k
      scope_part ImpliedConstructor = a_scope s.scope k
      scope_part StaticInitialiser = a_scope s.scope k

      vars_part : (form : MethodForm) → list_all (is_variable T) (method_decl_of H K m s form).vars ≡ true
      vars_part (Headed head b) = variables_of (method_variables H m) (method_variables_in H m)
      vars_part ImpliedConstructor = refl
      vars_part StaticInitialiser = refl

      joins : (d : MethodDecl) → is_class T d.class ≡ true → is_scope T d.scope ≡ true → list_all (is_variable T) d.vars ≡ true → are_inside T d.params.types ≡ true
          → if_any (λ (w : Written). is_inside T w.ty) d.result ≡ true → are_inside T d.thrown.types ≡ true → method_fits T d ≡ true
      joins d a b v p r t =
          both (is_class T d.class && is_scope T d.scope && list_all (is_variable T) d.vars && are_inside T d.params.types && if_any (λ (w : Written). is_inside T w.ty) d.result) (are_inside T d.thrown.types)
          (both (is_class T d.class && is_scope T d.scope && list_all (is_variable T) d.vars && are_inside T d.params.types) (if_any (λ (w : Written). is_inside T w.ty) d.result)
          (both (is_class T d.class && is_scope T d.scope && list_all (is_variable T) d.vars) (are_inside T d.params.types)
          (both (is_class T d.class && is_scope T d.scope) (list_all (is_variable T) d.vars) (both (is_class T d.class) (is_scope T d.scope) a b) v) p) r) t

  methods_are : list_all (method_fits T) T.methods ≡ true
  methods_are =
      all_by (method_fits T) T.methods
      (each_numbered (method_decl H K) (MethodFits (sizes S)) (λ (d : MethodDecl). method_fits T d ≡ true) 0 S.methods
      (λ (m : ℕ) (s : MethodSite) (f : MethodFits (sizes S) s). method_is m s s.class refl f.class f.scope s.form) fit.methods)

  -- ---- fields

  value_is : (s : ℕ) → s < length S.scopes → (o : Option ConstantExpr) → value_fits T (constant_value s o) ≡ true
  value_is s l None = refl
  value_is s l (Some e) = a_scope s l

  values_are : (f : FieldSite) → f.scope < length S.scopes → (b : Bool) → value_fits T (field_value H K f b) ≡ true
  values_are f l true = value_is f.scope l _
  values_are f l false = refl

  field_is : (k : ℕ) (f : FieldSite) → FieldFits (sizes S) f → field_fits T (field_decl H K k f) ≡ true
  field_is k f g =
      let d : FieldDecl = field_decl H K k f in
      both (is_class T d.class && is_inside T d.ty.ty) (value_fits T d.value)
      (both (is_class T d.class) (is_inside T d.ty.ty) (a_class f.class g.class) (field_inside S (some f.class g.class) k f)) (values_are f g.scope d.modifiers.is_final)

  fields_are : list_all (field_fits T) T.fields ≡ true
  fields_are = all_by (field_fits T) T.fields (each_numbered (field_decl H K) (FieldFits (sizes S)) (λ (d : FieldDecl). field_fits T d ≡ true) 0 S.fields field_is fit.fields)

  -- ---- type variables

  by_methods : (m : ℕ) (ms : List MethodSite) → m < length ms → Each (MethodFits (sizes S)) ms → 0 < class_count T
  by_methods m [] l a = absurd (omega (arith, l))
  by_methods m (s ∷ ms) l a = some s.class a.0.class

  some_owner : (o : Owner) → OwnerFits (sizes S) o → 0 < class_count T
  some_owner (owner.Class c) l = some c.0 l
  some_owner (owner.Method m) l = by_methods m.0 S.methods l fit.methods

  owner_is : (o : Owner) → OwnerFits (sizes S) o → owner_fits T o ≡ true
  owner_is (owner.Class c) l = a_class c.0 l
  owner_is (owner.Method m) l = a_method m.0 l

  variable_is : (k : ℕ) (v : VariableSite) → VariableFits (sizes S) v → variable_fits T (variable_decl H K k v) ≡ true
  variable_is k v f = both (owner_fits T v.owner) (are_inside T (variable_decl H K k v).bounds.types) (owner_is v.owner f) (bounds_inside S (some_owner v.owner f) k v)

  variables_are : list_all (variable_fits T) T.variables ≡ true
  variables_are = all_by (variable_fits T) T.variables (each_numbered (variable_decl H K) (VariableFits (sizes S)) (λ (d : VariableDecl). variable_fits T d ≡ true) 0 S.variables variable_is fit.variables)

  -- ---- scopes

  names_of_classes : (es : Named) → AllIn (length H.classes) es → are_class_places T es ≡ true
  names_of_classes es a =
      all_by (λ (e : List ℕ × ℕ). nat_lt e.1 (length T.classes)) es (each_along es a)
    where
      each_along : (es : Named) → AllIn (length H.classes) es → Each (λ (e : List ℕ × ℕ). nat_lt e.1 (length T.classes) ≡ true) es
      each_along [] a = tt
      each_along (e ∷ es) a = (a_head e.1 a.0, each_along es a.1)

  names_of_variables : (es : Named) → AllIn (length H.variables) es → are_variable_places T es ≡ true
  names_of_variables es a =
      all_by (λ (e : List ℕ × ℕ). nat_lt e.1 (length T.variables)) es (each_along es a)
    where
      each_along : (es : Named) → AllIn (length H.variables) es → Each (λ (e : List ℕ × ℕ). nat_lt e.1 (length T.variables) ≡ true) es
      each_along [] a = tt
      each_along (e ∷ es) a = (a_variable e.1 a.0, each_along es a.1)

  abbrev DemandIs : Demand → Type 0
  DemandIs d = demand_fits T d ≡ true

  if_demanded : (b : Bool) (d : Demand) → DemandIs d → Each DemandIs (cond b (d ∷ []) [])
  if_demanded true d e = (e, tt)
  if_demanded false d e = tt

  demand_is : (file : ℕ) (i : ImportHead) (f : Found) → FoundIn H f → Each DemandIs (demand_by file i f)
  demand_is file i (InPackage p) a = if_demanded i.on_demand _ refl
  demand_is file i (AtClass c) a = if_demanded i.on_demand _ (a_head c a)
  demand_is file i Nowhere a = tt

  demands_are : (file : ℕ) (is : List ImportHead) → Each DemandIs (demands H file is)
  demands_are file [] = tt
  demands_are file (i ∷ is) = each_joined DemandIs (demand_by file i (imported H i)) (demands H file is) (demand_is file i (imported H i) (imported_in H i)) (demands_are file is)

  inherited_are : (o : Option Named) → SomeIn H o → list_all (λ i. is_class T i.class) (inherited_list o) ≡ true
  inherited_are None a = refl
  inherited_are (Some es) a = along es a
    where
      along : (es : Named) → AllIn (length H.classes) es → list_all (λ i. is_class T i.class) (inherited_list (Some es)) ≡ true
      along [] a = refl
      along (e ∷ es) a = and_from (is_class T (class_id e.1)) (list_all (λ i. is_class T i.class) (inherited_list (Some es))) (a_head e.1 a.0) (along es a.1)

  abbrev HeadRound : ClassHead → Type 0
  HeadRound h = Each (IsBelow (length S.classes)) h.round

  head_rounds : Each HeadRound H.classes
  head_rounds = each_mapped class_head (ClassFits (sizes S)) HeadRound S.classes (λ s f. f.round) fit.classes

  round_at : (o : Option ClassHead) (c : ℕ) → slice_get H.classes c ≡ o → Each (IsBelow (length S.classes)) (round_in o)
  round_at None c e = tt
  round_at (Some h) c e = each_at HeadRound H.classes c h e head_rounds

  pub round_below : (c : ℕ) → Each (IsBelow (length S.classes)) (round_of H c)
  round_below c = round_at (slice_get H.classes c) c refl

  form_is : (form : ScopeForm) → FormFits (sizes S) form → names_fit T (scope_of_form H K form) ≡ true
  form_is (scope_of.Unit u) f =
      let own : Named = first_names [] (singles H (imports_of H u) ++ types_of_unit H u) in
      both (are_class_places T own) (list_all (demand_fits T) (demands H (unit_file H u) (imports_of H u)))
      (names_of_classes own (firsts_in (length H.classes) [] (singles H (imports_of H u) ++ types_of_unit H u) tt (in_both (length H.classes) (singles H (imports_of H u)) (types_of_unit H u) (singles_in H (imports_of H u)) (unit_types_in H u))))
      (all_by (demand_fits T) (demands H (unit_file H u) (imports_of H u)) (demands_are (unit_file H u) (imports_of H u)))
  form_is (scope_of.Class c) f =
      let params : Named = first_names [] (class_variables H c) in
      let declared : Named = first_names [] (declared_of H c) in
      both (is_class T (class_id c) && list_all (is_class T) (map class_id (round_of H c)) && are_variable_places T params && are_class_places T declared) (list_all (λ i. is_class T i.class) (inherited_list (K c)))
      (both (is_class T (class_id c) && list_all (is_class T) (map class_id (round_of H c)) && are_variable_places T params) (are_class_places T declared)
      (both (is_class T (class_id c) && list_all (is_class T) (map class_id (round_of H c))) (are_variable_places T params)
      (both (is_class T (class_id c)) (list_all (is_class T) (map class_id (round_of H c))) (a_class c f) (rounds_of (round_of H c) (round_below c)))
      (names_of_variables params (firsts_in (length H.variables) [] (class_variables H c) tt (class_variables_in H c))))
      (names_of_classes declared (firsts_in (length H.classes) [] (declared_of H c) tt (declared_in H c))))
      (inherited_are (K c) (known_in H c))
  form_is (scope_of.Method m) f =
      let params : Named = first_names [] (method_variables H m) in
      both (is_method T (record { 0 = m })) (are_variable_places T params) (a_method m f)
      (names_of_variables params (firsts_in (length H.variables) [] (method_variables H m) tt (method_variables_in H m)))

  outer_is : (o : Option ℕ) → OuterFits (sizes S) o → if_any (is_scope T) (outer_scope o) ≡ true
  outer_is None f = refl
  outer_is (Some o) f = a_scope o f

  scope_is : (k : ℕ) (s : ScopeHead) → ScopeFits (sizes S) s → scope_fits T (scope_decl H K k s) ≡ true
  scope_is k s f = both (if_any (is_scope T) (outer_scope s.outer)) (names_fit T (scope_of_form H K s.form)) (outer_is s.outer f.0) (form_is s.form f.1)

  scopes_are : list_all (scope_fits T) T.scopes ≡ true
  scopes_are = all_by (scope_fits T) T.scopes (each_numbered (scope_decl H K) (ScopeFits (sizes S)) (λ (d : Scope). scope_fits T d ≡ true) 0 S.scopes scope_is fit.scopes)

  -- ---- the types that bodies write

  abbrev UseIs : Use → Type 0
  UseIs u = use_fits T u ≡ true

  with_is : (u : UseSite) → UseFits (sizes S) u → (ws : List Wrote) → Each (λ (w : Wrote). is_inside T w.ty ≡ true) ws → Each UseIs (use_with H u ws)
  with_is u f [] a = tt
  with_is u f (w ∷ ws) a = (
    both (is_class T (class_id u.class) && is_scope T (record { 0 = u.scope })) (is_inside T w.ty) (both (is_class T (class_id u.class)) (is_scope T (record { 0 = u.scope })) (a_class u.class f.class) (a_scope u.scope f.scope)) a.0,
    with_is u f ws a.1,
  )

  uses_each : (us : List UseSite) → Each (UseFits (sizes S)) us → Each UseIs (use_decls H K us)
  uses_each [] a = tt
  uses_each (u ∷ us) a =
      each_joined UseIs (use_with H u (wrote_in_use H K u)) (use_decls H K us) (with_is u a.0 (wrote_in_use H K u) (use_wrote_in S (some u.class a.0.class) u)) (uses_each us a.1)

  uses_are : list_all (use_fits T) T.uses ≡ true
  uses_are = all_by (use_fits T) T.uses (uses_each S.uses fit.uses)

  pub ids_are : ids_fit T ≡ true
  ids_are =
      both (list_all (class_fits T) T.classes && list_all (method_fits T) T.methods && list_all (field_fits T) T.fields && list_all (variable_fits T) T.variables && list_all (scope_fits T) T.scopes) (list_all (use_fits T) T.uses)
      (both (list_all (class_fits T) T.classes && list_all (method_fits T) T.methods && list_all (field_fits T) T.fields && list_all (variable_fits T) T.variables) (list_all (scope_fits T) T.scopes)
      (both (list_all (class_fits T) T.classes && list_all (method_fits T) T.methods && list_all (field_fits T) T.fields) (list_all (variable_fits T) T.variables)
      (both (list_all (class_fits T) T.classes && list_all (method_fits T) T.methods) (list_all (field_fits T) T.fields)
      (both (list_all (class_fits T) T.classes) (list_all (method_fits T) T.methods) (classes_are 0 S.classes (omega arith) fit.classes) methods_are)
      fields_are) variables_are) scopes_are) uses_are
