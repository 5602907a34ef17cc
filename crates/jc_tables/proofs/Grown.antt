-- What fits into a table fits into a longer one.
use Rattle.std.proofs.Common.{◌≡◌, ℕ, ◌≤◌, nat_lt, ◌&&◌, Bool, true, false, Option, Some, None, List, [], ◌∷◌, length, map, arith, refl, sym, subst, ◌∙◌}
use Rattle.std.specs.List.{list_all}
use Rattle.std.proofs.lemmas.Bool.Decides.{nat_tests}
use Rattle.jc_types.specs.declared.form.Ty.{Ty, Ty-F, roll-Ty, map-Ty, fold-roll-Ty, ind-Ty}
use Rattle.jc_types.specs.declared.form.Arg.{Arg, Arg-F, roll-Arg, map-Arg, fold-roll-Arg, fold-Arg}
use Rattle.jc_types.specs.declared.ids.ClassId.{ClassId}
use Rattle.jc_types.specs.declared.ids.MethodId.{MethodId}
use Rattle.jc_types.specs.declared.ids.FieldId.{FieldId}
use Rattle.jc_types.specs.declared.ids.VarId.{VarId}
use Rattle.jc_types.specs.declared.ids.ScopeId.{ScopeId}
use Rattle.jc_types.specs.declared.declarations.ClassDecl.{ClassDecl}
use Rattle.jc_types.specs.declared.declarations.MethodDecl.{MethodDecl}
use Rattle.jc_types.specs.declared.declarations.FieldDecl.{FieldDecl}
use Rattle.jc_types.specs.declared.declarations.FieldValue.{FieldValue}
use Rattle.jc_types.specs.declared.declarations.FieldValue.TheVariants.{Unknown, Initialiser, Known}
use Rattle.jc_types.specs.declared.declarations.VariableDecl.{VariableDecl}
use Rattle.jc_types.specs.declared.declarations.Owner.{Owner}
use Rattle.jc_types.specs.declared.declarations.Owner.TheVariants as owner
use Rattle.jc_types.specs.declared.declarations.Written.{Written}
use Rattle.jc_types.specs.declared.scopes.Demand.{Demand}
use Rattle.jc_types.specs.declared.scopes.Demand.TheVariants as demand
use Rattle.jc_types.specs.declared.scopes.Inherited.{Inherited}
use Rattle.jc_types.specs.declared.scopes.Scope.{Scope}
use Rattle.jc_types.specs.declared.scopes.ScopeOf.{ScopeOf}
use Rattle.jc_types.specs.declared.scopes.ScopeOf.TheVariants as scope
use Rattle.jc_types.specs.declared.scopes.Use.{Use}
use Rattle.jc_types.specs.declared.table.Table.{Table}
use Rattle.jc_types.specs.Reifying.{all_true}
use Rattle.jc_types.specs.Tables.{if_any, is_class, is_method, is_field, is_variable, is_scope, arg_is_inside_at, is_inside_at, is_inside, are_inside, class_fits, method_fits, value_fits, field_fits, owner_fits, variable_fits, demand_fits, are_class_places, are_variable_places, names_fit, scope_fits, use_fits}

-- as many of each sort, or more
pub record Grown (T U : Table) : Type 0 where
  pub classes : length T.classes ≤ length U.classes
  pub methods : length T.methods ≤ length U.methods
  pub fields : length T.fields ≤ length U.fields
  pub variables : length T.variables ≤ length U.variables
  pub scopes : length T.scopes ≤ length U.scopes

-- one test is passed where another one is
abbrev pub Leads : Bool → Bool → Type 0
Leads a b = a ≡ true → b ≡ true

pub both_lead : (a b c d : Bool) → Leads a c → Leads b d → Leads (a && b) (c && d)
both_lead true true c d f g e = let x = f refl in let y = g refl in cc
both_lead true false c d f g e = cc
both_lead false b c d f g e = cc

less_leads : (n a b : ℕ) → a ≤ b → Leads (nat_lt n a) (nat_lt n b)
less_leads n a b le e = grind (arith, nat_tests)

module _ {A : Type 0} (f g : A → Bool) (h : (a : A) → Leads (f a) (g a)) where
  pub all_lead : (xs : List A) → Leads (list_all f xs) (list_all g xs)
  all_lead [] = λ e. refl
  all_lead (x ∷ xs) = both_lead (f x) (list_all f xs) (g x) (list_all g xs) (h x) (all_lead xs)

  pub any_leads : (o : Option A) → Leads (if_any f o) (if_any g o)
  any_leads None = λ e. refl
  any_leads (Some a) = h a

module _ (T U : Table) (more : Grown T U) where
  class_leads : (id : ClassId) → Leads (is_class T id) (is_class U id)
  class_leads id = less_leads id.0 _ _ more.classes

  method_leads : (id : MethodId) → Leads (is_method T id) (is_method U id)
  method_leads id = less_leads id.0 _ _ more.methods

  field_leads : (id : FieldId) → Leads (is_field T id) (is_field U id)
  field_leads id = less_leads id.0 _ _ more.fields

  variable_leads : (id : VarId) → Leads (is_variable T id) (is_variable U id)
  variable_leads id = less_leads id.0 _ _ more.variables

  scope_leads : (id : ScopeId) → Leads (is_scope T id) (is_scope U id)
  scope_leads id = less_leads id.0 _ _ more.scopes

  abbrev in_arg : Table → Arg → Bool
  in_arg V a = fold-Arg Bool Bool arg_is_inside_at (is_inside_at V) a

  abbrev ArgLeads : Arg → Type 0
  ArgLeads a = Leads (in_arg T a) (in_arg U a)

  abbrev TyLeads : Ty → Type 0
  TyLeads t = Leads (is_inside T t) (is_inside U t)

  abbrev SomeArg : Type 0
  SomeArg = (a : Arg) × ArgLeads a

  abbrev SomeTy : Type 0
  SomeTy = (t : Ty) × TyLeads t

  abbrev plain : Ty-F SomeArg SomeTy → Ty-F Arg Ty
  plain y = map-Ty SomeArg SomeTy Arg Ty (λ z. z.0) (λ z. z.0) y

  abbrev plain_arg : Arg-F SomeArg SomeTy → Arg-F Arg Ty
  plain_arg y = map-Arg SomeArg SomeTy Arg Ty (λ z. z.0) (λ z. z.0) y

  abbrev folded : Table → Ty-F Arg Ty → Bool
  folded V l = is_inside_at V (map-Ty Arg Ty Bool Bool (in_arg V) (is_inside V) l)

  abbrev folded_arg : Table → Arg-F Arg Ty → Bool
  folded_arg V l = arg_is_inside_at (map-Arg Arg Ty Bool Bool (in_arg V) (is_inside V) l)

  args_lead : (zs : List SomeArg) → Leads (all_true (map (in_arg T) (map (λ z. z.0) zs))) (all_true (map (in_arg U) (map (λ z. z.0) zs)))
  args_lead [] = λ e. refl
  args_lead (z ∷ zs) = both_lead _ _ _ _ z.1 (args_lead zs)

  types_lead : (zs : List SomeTy) → Leads (all_true (map (is_inside T) (map (λ z. z.0) zs))) (all_true (map (is_inside U) (map (λ z. z.0) zs)))
  types_lead [] = λ e. refl
  types_lead (z ∷ zs) = both_lead _ _ _ _ z.1 (types_lead zs)

  layer_leads : (y : Ty-F SomeArg SomeTy) → Leads (folded T (plain y)) (folded U (plain y))
  layer_leads (Ty-F.Prim p) = λ e. refl
  layer_leads (Ty-F.Class i zs) = both_lead _ _ _ _ (class_leads i) (args_lead zs)
  layer_leads (Ty-F.Raw i) = class_leads i
  layer_leads (Ty-F.Array z n) = z.1
  layer_leads (Ty-F.Variable v) = variable_leads v
  layer_leads (Ty-F.Captured c) = λ e. e
  layer_leads (Ty-F.Meet zs) = types_lead zs
  layer_leads Ty-F.NullTy = λ e. refl

  arg_layer_leads : (y : Arg-F SomeArg SomeTy) → Leads (folded_arg T (plain_arg y)) (folded_arg U (plain_arg y))
  arg_layer_leads (Arg-F.Exact z) = z.1
  arg_layer_leads Arg-F.Any = λ e. refl
  arg_layer_leads (Arg-F.Extends z) = z.1
  arg_layer_leads (Arg-F.Super z) = z.1

  rolled : (V : Table) (l : Ty-F Arg Ty) → is_inside V (roll-Ty l) ≡ folded V l
  unfolding is_inside
  rolled V l = fold-roll-Ty Bool Bool arg_is_inside_at (is_inside_at V) l

  arg_rolled : (V : Table) (l : Arg-F Arg Ty) → in_arg V (roll-Arg l) ≡ folded_arg V l
  unfolding is_inside
  arg_rolled V l = fold-roll-Arg Bool Bool arg_is_inside_at (is_inside_at V) l

  inside_leads : (t : Ty) → TyLeads t
  inside_leads = ind-Ty ArgLeads TyLeads
      (λ x y is. subst (λ x. ArgLeads (roll-Arg x)) is (λ e. arg_rolled U _ ∙ arg_layer_leads y (sym (arg_rolled T _) ∙ e)))
      (λ x y is. subst (λ x. TyLeads (roll-Ty x)) is (λ e. rolled U _ ∙ layer_leads y (sym (rolled T _) ∙ e)))

  all_inside_lead : (ts : List Ty) → Leads (are_inside T ts) (are_inside U ts)
  all_inside_lead = all_lead (is_inside T) (is_inside U) inside_leads

  written_leads : (w : Written) → Leads (is_inside T w.ty) (is_inside U w.ty)
  written_leads w = inside_leads w.ty

  pub class_fits_lead : (c : ClassDecl) → Leads (class_fits T c) (class_fits U c)
  class_fits_lead c =
      both_lead _ _ _ _ (both_lead _ _ _ _ (both_lead _ _ _ _ (both_lead _ _ _ _ (both_lead _ _ _ _ (both_lead _ _ _ _ (any_leads _ _ class_leads c.outer) (all_lead _ _ class_leads c.members)) (scope_leads c.scope)) (all_lead _ _ variable_leads c.vars)) (all_inside_lead c.supers.types)) (all_lead _ _ method_leads c.methods)) (all_lead _ _ field_leads c.fields)

  pub method_fits_lead : (m : MethodDecl) → Leads (method_fits T m) (method_fits U m)
  method_fits_lead m =
      both_lead _ _ _ _ (both_lead _ _ _ _ (both_lead _ _ _ _ (both_lead _ _ _ _ (both_lead _ _ _ _ (class_leads m.class) (scope_leads m.scope)) (all_lead _ _ variable_leads m.vars)) (all_inside_lead m.params.types)) (any_leads _ _ written_leads m.result)) (all_inside_lead m.thrown.types)

  value_leads : (v : FieldValue) → Leads (value_fits T v) (value_fits U v)
  value_leads Unknown = λ e. refl
  value_leads (Initialiser s x) = scope_leads s
  value_leads (Known c) = λ e. refl

  pub field_fits_lead : (f : FieldDecl) → Leads (field_fits T f) (field_fits U f)
  field_fits_lead f =
      both_lead _ _ _ _ (both_lead _ _ _ _ (class_leads f.class) (inside_leads f.ty.ty)) (value_leads f.value)

  owner_leads : (o : Owner) → Leads (owner_fits T o) (owner_fits U o)
  owner_leads (owner.Class id) = class_leads id
  owner_leads (owner.Method id) = method_leads id

  pub variable_fits_lead : (v : VariableDecl) → Leads (variable_fits T v) (variable_fits U v)
  variable_fits_lead v = both_lead _ _ _ _ (owner_leads v.owner) (all_inside_lead v.bounds.types)

  demand_leads : (d : Demand) → Leads (demand_fits T d) (demand_fits U d)
  demand_leads (demand.Package p name) = λ e. refl
  demand_leads (demand.Type p id) = class_leads id

  class_places_lead : (names : List (List ℕ × ℕ)) → Leads (are_class_places T names) (are_class_places U names)
  class_places_lead = all_lead _ _ (λ e. less_leads e.1 _ _ more.classes)

  variable_places_lead : (names : List (List ℕ × ℕ)) → Leads (are_variable_places T names) (are_variable_places U names)
  variable_places_lead = all_lead _ _ (λ e. less_leads e.1 _ _ more.variables)

  names_lead : (s : ScopeOf) → Leads (names_fit T s) (names_fit U s)
  names_lead (scope.Unit own pack demands) = both_lead _ _ _ _ (class_places_lead own) (all_lead _ _ demand_leads demands)
  names_lead (scope.Type id round params declared inherited) =
      both_lead _ _ _ _ (both_lead _ _ _ _ (both_lead _ _ _ _ (both_lead _ _ _ _ (class_leads id) (all_lead _ _ class_leads round)) (variable_places_lead params)) (class_places_lead declared)) (all_lead _ _ (λ (i : Inherited). class_leads i.class) inherited)
  names_lead (scope.Method id params) = both_lead _ _ _ _ (method_leads id) (variable_places_lead params)

  pub scope_fits_lead : (s : Scope) → Leads (scope_fits T s) (scope_fits U s)
  scope_fits_lead s = both_lead _ _ _ _ (any_leads _ _ scope_leads s.outer) (names_lead s.of)

  pub use_fits_lead : (u : Use) → Leads (use_fits T u) (use_fits U u)
  use_fits_lead u = both_lead _ _ _ _ (both_lead _ _ _ _ (class_leads u.class) (scope_leads u.scope)) (inside_leads u.ty.ty)
