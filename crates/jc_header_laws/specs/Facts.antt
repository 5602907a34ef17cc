-- What holds of tables that break no rule of types, of headers and of clashes.
use Rattle.std.specs.Prelude.{◌≡◌, ◌⊎◌, ℕ, suc, ◌==◌, ◌||◌, Bool, true, false, List, [], ◌∷◌, Option, Some, None}
use Rattle.std.specs.Str.{bytes_eq}
use Rattle.jc_types.specs.declared.declarations.ClassDecl.{ClassDecl}
use Rattle.jc_types.specs.declared.declarations.FieldDecl.{FieldDecl}
use Rattle.jc_types.specs.declared.declarations.MethodDecl.{MethodDecl}
use Rattle.jc_types.specs.declared.declarations.TypePlaces.{TypePlaces}
use Rattle.jc_types.specs.declared.declarations.VariableDecl.{VariableDecl}
use Rattle.jc_types.specs.declared.declarations.Written.{Written}
use Rattle.jc_types.specs.declared.declarations.WrittenTypes.{WrittenTypes}
use Rattle.jc_types.specs.declared.form.Ty.{Ty}
use Rattle.jc_types.specs.declared.ids.ClassId.{ClassId}
use Rattle.jc_types.specs.declared.ids.MethodId.{MethodId}
use Rattle.jc_types.specs.declared.scopes.Use.{Use}
use Rattle.jc_types.specs.declared.scopes.UseKind.TheVariants as use_kind
use Rattle.jc_types.specs.declared.table.Table.{Table}
use Rattle.jc_types.specs.Accessors.{method_name_of}
use Rattle.jc_judge.specs.Kinds.{class_of, is_primitive}
use Rattle.jc_judge.specs.Trees.{Proof}
use Rattle.jc_overriding.specs.declared.view.MethodView.{MethodView}
use Rattle.jc_overriding.specs.Overriding.{access_of, is_inheritable, is_instance, overrides, owner, remaining, same_class, select, stands_for, is_abstract}
use Rattle.jc_overriding.specs.Signatures.{adapted, erased_in, override_equivalent, same_all, subsignature}
use Rattle.jc_overriding.specs.Viewing.{class_view, declared_view}
use Rattle.jc_header_rules.specs.Checked.{IsAmong}
use Rattle.jc_header_rules.specs.Clashes.{all_methods, erased_params, erasures_meet, is_settled, reaches}
use Rattle.jc_header_rules.specs.Headers.{is_final, is_same_sort, is_weaker, replaces, throws_more}
use Rattle.jc_header_rules.specs.Inheriting.{all_above, all_members, is_concrete, is_member_above, is_overridden_above}
use Rattle.jc_header_rules.specs.Results.{converts_unchecked}
use Rattle.jc_clashes.specs.Constructors.{is_constructor}

-- x is number n of these, counted from i
abbrev pub IsNumber : {X : Type 0} → ℕ → ℕ → X → List X → Type 0
IsNumber i n x [] = ⊥
IsNumber i n x (y ∷ ys) = ((n ≡ i) × (x ≡ y)) ⊎ IsNumber (suc i) n x ys

-- ---- written types

-- a type of a list, with its places
abbrev pub IsPair : Ty → TypePlaces → List Ty → List TypePlaces → Type 0
IsPair t p [] ps = ⊥
IsPair t p (u ∷ us) [] = ⊥
IsPair t p (u ∷ us) (q ∷ qs) = ((t ≡ u) × (p ≡ q)) ⊎ IsPair t p us qs

abbrev pub IsIn : Ty → TypePlaces → WrittenTypes → Type 0
IsIn t p w = IsPair t p w.types w.places

abbrev pub IsThere : Ty → TypePlaces → Option Written → Type 0
IsThere t p None = ⊥
IsThere t p (Some w) = (t ≡ w.ty) × (p ≡ w.places)

-- a type that the sources write: a supertype, a type of a method's header, a field's, a bound, or one in a body, but for a diamond, which writes no argument
pub data IsWritten (T : Table) (t : Ty) (p : TypePlaces) : Type 0 where
  InSupers : (c : ClassDecl) → IsAmong c T.classes → IsIn t p c.supers → IsWritten T t p
  InParameters : (m : MethodDecl) → IsAmong m T.methods → IsIn t p m.params → IsWritten T t p
  InResult : (m : MethodDecl) → IsAmong m T.methods → IsThere t p m.result → IsWritten T t p
  InThrown : (m : MethodDecl) → IsAmong m T.methods → IsIn t p m.thrown → IsWritten T t p
  InField : (f : FieldDecl) → IsAmong f T.fields → t ≡ f.ty.ty → p ≡ f.ty.places → IsWritten T t p
  InBounds : (v : VariableDecl) → IsAmong v T.variables → IsIn t p v.bounds → IsWritten T t p
  InBody : (u : Use) → IsAmong u T.uses → u.kind ≡ use_kind.Type → t ≡ u.ty.ty → p ≡ u.ty.places → IsWritten T t p

-- ---- supertypes

-- those of one class are one type
abbrev pub AreOne : Table → ClassId → Type 0
AreOne T k = (s t : Ty) (l : ClassId) → IsAmong s (all_above T k) → IsAmong t (all_above T k) → class_of s ≡ Some l → class_of t ≡ Some l → s ≡ t

-- ---- overriding

-- the result of a reference type is below that of b as a's class has it, becomes so by an unchecked conversion, or is its erasure (JLS 8.4.5)
abbrev pub ReferenceFits : Table → MethodView → MethodView → Ty → Ty → Type 0
ReferenceFits T a b s t = (s ≡ erased_in T b t) ⊎ ((converts_unchecked T s (adapted a b t) ≡ true) ⊎ Proof T 64 [] s (adapted a b t))

abbrev pub TypeFits : Table → MethodView → MethodView → Ty → Ty → Bool → Type 0
TypeFits T a b s t true = s ≡ t
TypeFits T a b s t false = ReferenceFits T a b s t

-- a's result may stand for b's: neither has one, both are one primitive type, or that of a fits as a reference
abbrev pub ResultFits : Table → MethodView → MethodView → Option Ty → Option Ty → Type 0
ResultFits T a b None None = Unit {0}
ResultFits T a b None (Some t) = ⊥
ResultFits T a b (Some s) None = ⊥
ResultFits T a b (Some s) (Some t) = TypeFits T a b s t (is_primitive s || is_primitive t)

pub record Fits (T : Table) (m n : MethodId) : Type 0 where
  pub open_to_it : is_final T n ≡ false
  pub as_open : is_weaker (access_of T m) (access_of T n) ≡ false
  pub result : (a b : MethodView) → class_view T (owner T m) m ≡ Some a → class_view T (owner T m) n ≡ Some b → ResultFits T a b a.result b.result
  pub thrown : throws_more T m n ≡ false

-- where m overrides or hides n
abbrev pub Fit : Table → MethodId → MethodId → Type 0
Fit T m n = replaces T m n ≡ true → Fits T m n

-- ---- bodies

-- a class that isn't abstract has a body for each abstract method that it declares or inherits: that no other method which it has overrides
abbrev pub FindsBody : Table → ClassId → ClassDecl → MethodId → Type 0
FindsBody T k c m =
    is_concrete T k c ≡ true → is_instance T m ≡ true → is_abstract T m ≡ true → is_member_above T k m ≡ true → is_overridden_above T k m 0 T.methods ≡ false
    → (n : MethodId) × (select T k m ≡ Some n)

-- methods, or constructors, of one class, of which one's signature is a subsignature of the other's
abbrev pub OneDeclaration : Table → MethodId → MethodId → Type 0
OneDeclaration T m n =
    is_same_sort T m n ≡ true → same_class (owner T m) (owner T n) ≡ true → override_equivalent T (declared_view T m) (declared_view T n) ≡ true → m ≡ n

-- a method that class k declares, or that is a member there: no other method of the class overrides or hides it
abbrev pub IsOwnOrMember : Table → ClassId → MethodView → Type 0
IsOwnOrMember T k v = (IsAmong v (all_methods T k) × (same_class (owner T v.id) k ≡ true)) ⊎ IsAmong v (all_members T k)

-- methods with bodies of a class, which declares both or inherits both, and of which one's signature is there a subsignature of the other's
abbrev pub OneBody : Table → ClassId → Type 0
OneBody T k =
    (v w : MethodView) → IsOwnOrMember T k v → IsOwnOrMember T k w → same_class (owner T v.id) k ≡ same_class (owner T w.id) k
    → is_abstract T v.id ≡ false → is_abstract T w.id ≡ false → override_equivalent T v w ≡ true → v.id ≡ w.id

-- a method as a class has it has no type parameters
abbrev pub HasNoParameters : Option MethodView → Type 0
HasNoParameters None = ⊥
HasNoParameters (Some v) = v.vars ≡ []

-- .. and that stand there for one method, which is one of them or has no type parameters there
abbrev pub OneSelected : Table → ClassId → Type 0
OneSelected T k =
    (m : MethodId) (v w : MethodView) → IsOwnOrMember T k v → IsOwnOrMember T k w → same_class (owner T v.id) k ≡ same_class (owner T w.id) k
    → is_abstract T v.id ≡ false → is_abstract T w.id ≡ false → stands_for T k v.id m ≡ true → stands_for T k w.id m ≡ true
    → (v.id ≡ m) ⊎ ((w.id ≡ m) ⊎ HasNoParameters (class_view T k m)) → v.id ≡ w.id

-- the body that is selected for method m, and another one of the class that stands for m
abbrev pub OneChosen : Table → ClassId → Type 0
OneChosen T k =
    (m n : MethodId) (v w : MethodView) → select T k m ≡ Some n → v.id ≡ n → IsOwnOrMember T k v → IsOwnOrMember T k w
    → same_class (owner T v.id) k ≡ same_class (owner T w.id) k → is_abstract T w.id ≡ false → stands_for T k w.id m ≡ true
    → (n ≡ m) ⊎ ((w.id ≡ m) ⊎ HasNoParameters (class_view T k m)) → w.id ≡ n

-- ---- clashes

abbrev pub ErasuresStand : Table → ClassId → Type 0
ErasuresStand T k =
    (v w : MethodView) → IsAmong v (remaining T (all_methods T k)) → IsAmong w (all_methods T k) → bytes_eq (method_name_of T v.id) (method_name_of T w.id) ≡ true
    → erasures_meet T v.id w.id 0 T.methods ≡ true
    → ((v.id.0 == w.id.0) ≡ true) ⊎ ((subsignature T v w ≡ true) ⊎ (is_settled T k (remaining T (all_methods T k)) v w ≡ true))

-- a member has in the class a subsignature of what it overrides or hides, directly or indirectly, or that one stands in its place
abbrev pub SignsReached : Table → ClassId → Type 0
SignsReached T k =
    (v w : MethodView) → IsAmong v (remaining T (all_methods T k)) → IsAmong w (all_methods T k) → reaches T v.id w.id ≡ true
    → (v.id ≡ w.id) ⊎ ((subsignature T v w ≡ true) ⊎ (is_settled T k (remaining T (all_methods T k)) v w ≡ true))

-- what a method overrides or hides, directly or indirectly, and its class may inherit, it overrides or hides outright
abbrev pub ReplacesReached : Table → MethodId → MethodId → Type 0
ReplacesReached T m p = (m ≡ p → ⊥) → reaches T m p ≡ true → is_inheritable T (owner T m) p ≡ true → replaces T m p ≡ true

-- so a method overrides what one that it overrides does, where its class may inherit that
abbrev pub OverridesBeyond : Table → MethodId → MethodId → MethodId → Type 0
OverridesBeyond T m n p = overrides T m n ≡ true → overrides T n p ≡ true → is_inheritable T (owner T m) p ≡ true → overrides T m p ≡ true

-- of these methods no two are constructors with parameters of the same erasures
abbrev pub ErasuresDiffer : Table → List MethodId → Type 0
ErasuresDiffer T [] = Unit {0}
ErasuresDiffer T (m ∷ ms) =
    ((n : MethodId) → IsAmong n ms → is_constructor T m ≡ true → is_constructor T n ≡ true → same_all (erased_params T n) (erased_params T m) ≡ false) × ErasuresDiffer T ms
