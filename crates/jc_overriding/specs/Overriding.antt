-- Which method overrides which (JLS 8.4.8, 9.4.1), the members of a type (JLS 8.2, 8.4.8, 9.2, 9.4), and the body that a class has for a method
-- (JLS 15.12.4.4).
use Rattle.std.specs.Prelude.{ℕ, zero, suc, ◌+◌, ◌==◌, Bool, true, false, not, cond, ◌&&◌, ◌||◌, List, [], ◌∷◌, ◌++◌, Option, Some, None, if◌then◌else◌}
use Rattle.std.specs.Str.{bytes_eq}
use Rattle.jc_types.specs.declared.declarations.Access.{Access}
use Rattle.jc_types.specs.declared.declarations.Access.TheVariants as access
use Rattle.jc_types.specs.declared.declarations.MethodDecl.{MethodDecl}
use Rattle.jc_types.specs.declared.declarations.MethodKind.{MethodKind}
use Rattle.jc_types.specs.declared.declarations.MethodKind.TheVariants as method_kind
use Rattle.jc_types.specs.declared.declarations.Modifiers.{Modifiers}
use Rattle.jc_types.specs.declared.form.Ty.{Ty}
use Rattle.jc_types.specs.declared.ids.ClassId.{ClassId}
use Rattle.jc_types.specs.declared.ids.MethodId.{MethodId}
use Rattle.jc_types.specs.declared.table.Table.{Table}
use Rattle.jc_types.specs.Accessors.{class_count, package_of, supers_of, methods_of, method_owner_of, method_kind_of, method_modifiers_of, method_name_of}
use Rattle.jc_judge.specs.Kinds.{class_of}
use Rattle.jc_judge.specs.Views.{is_class, view}
use Rattle.jc_overriding.specs.declared.view.MethodView.{MethodView}
use Rattle.jc_overriding.specs.Viewing.{class_view, own_type, view_of_method, is_static}
use Rattle.jc_overriding.specs.Signatures.{subsignature}

-- a method proper; what has no kind in the table is none
abbrev pub is_method_kind : MethodKind → Bool
is_method_kind method_kind.Method = true
is_method_kind _ = false

abbrev pub kind_in : Option MethodKind → Bool
kind_in (Some k) = is_method_kind k
kind_in None = false

-- no constructor and no initialiser
abbrev pub is_method : Table → MethodId → Bool
is_method T m = kind_in (method_kind_of T m)

-- a method that isn't static
abbrev pub is_instance : Table → MethodId → Bool
is_instance T m = is_method T m && not (is_static T m)

-- the access of a method; one that the table doesn't have counts as private
abbrev pub access_in : Option Modifiers → Access
access_in (Some m) = m.access
access_in None = access.Private

abbrev pub access_of : Table → MethodId → Access
access_of T m = access_in (method_modifiers_of T m)

-- the modifiers of a method have `abstract`, written or implied; a method that the table doesn't have isn't abstract
abbrev pub abstract_in : Option Modifiers → Bool
abstract_in (Some m) = m.is_abstract
abstract_in None = false

abbrev pub is_abstract : Table → MethodId → Bool
is_abstract T m = abstract_in (method_modifiers_of T m)

-- the class of a method, and Object (class 0) where it has none
abbrev pub or_object : Option ClassId → ClassId
or_object (Some k) = k
or_object None = record { 0 = 0 }

abbrev pub owner : Table → MethodId → ClassId
owner T m = or_object (method_owner_of T m)

-- two classes are one, by their numbers
abbrev pub same_class : ClassId → ClassId → Bool
same_class k l = k.0 == l.0

-- private methods are no members of subclasses, and those of a package none outside of it (JLS 6.6.1, 8.2). A protected one is a member
-- everywhere
abbrev pub is_open_to : Access → Bool → Bool
is_open_to access.Public same_package = true
is_open_to access.Protected same_package = true
is_open_to access.Package same_package = same_package
is_open_to access.Private same_package = false

-- class k may inherit method m, by m's access and the packages of both; that m's class is above k isn't asked
abbrev pub is_inheritable : Table → ClassId → MethodId → Bool
is_inheritable T k m = is_open_to (access_of T m) (bytes_eq (package_of T k) (package_of T (owner T m)))

-- there is a view: some class is one of the type's supertypes, or its own class
abbrev pub is_viewed : Option Ty → Bool
is_viewed None = false
is_viewed (Some t) = true

-- class l is above class k, and another one
abbrev pub is_above : Table → ClassId → ClassId → Bool
is_above T k l = not (same_class k l) && is_viewed (view T l (own_type T k))

-- the first is a subsignature of the second, where both are there
abbrev pub subsignature_of : Table → Option MethodView → Option MethodView → Bool
subsignature_of T (Some a) (Some b) = subsignature T a b
subsignature_of T _ _ = false

-- Method m overrides method n: both are instance methods, n's class is above m's, n is a member there but for overriding, and m's signature is a subsignature
-- of n's as m's class has it (JLS 8.4.8.1, 9.4.1). Packages other than the sources' have public and private methods alone, so nothing is overridden by way of a
-- third method that isn't overridden outright.
abbrev pub overrides : Table → MethodId → MethodId → Bool
overrides T m n =
    is_instance T m && is_instance T n && is_above T (owner T m) (owner T n) && is_inheritable T (owner T m) n
    && subsignature_of T (class_view T (owner T m) m) (class_view T (owner T m) n)

-- .. and hides it, where both are static (JLS 8.4.8.2)
abbrev pub hides : Table → MethodId → MethodId → Bool
hides T m n =
    is_method T m && is_method T n && is_static T m && is_static T n && is_above T (owner T m) (owner T n) && is_inheritable T (owner T m) n
    && subsignature_of T (class_view T (owner T m) m) (class_view T (owner T m) n)

-- ---- members

-- the method's class is the type's own
abbrev pub is_own : Table → Ty → MethodId → Bool
is_own T t m = is_class (owner T m) (class_of t)

-- a class may inherit a method; a type without a class has whatever isn't private
abbrev pub inherits_in : Table → Option ClassId → MethodId → Bool
inherits_in T None m = is_open_to (access_of T m) true
inherits_in T (Some k) m = is_inheritable T k m

-- a method that a type declares, or may inherit
abbrev pub is_candidate : Table → Ty → MethodId → Bool
is_candidate T t m = is_method T m && (is_own T t m || inherits_in T (class_of t) m)

-- the method's name is this one, byte by byte
abbrev pub has_name : Table → List ℕ → MethodId → Bool
has_name T name m = bytes_eq (method_name_of T m) name

-- a list of the method's view, where the method is wanted and a candidate; else the empty list
abbrev pub with_view : Table → (MethodId → Bool) → Ty → MethodId → Option MethodView → List MethodView
with_view T wanted t m None = []
with_view T wanted t m (Some v) = cond (wanted m && is_candidate T t m) (v ∷ []) []

-- of these methods, counted from i, those that are wanted and that the type declares or may inherit, as it has them
abbrev pub candidates_from : Table → (MethodId → Bool) → Ty → ℕ → List MethodDecl → List MethodView
candidates_from T wanted t i [] = []
candidates_from T wanted t i (d ∷ ds) =
    with_view T wanted t (record { 0 = i }) (view_of_method T t (record { 0 = i })) ++ candidates_from T wanted t (suc i) ds

-- the same of all methods of the table
abbrev pub candidates : Table → (MethodId → Bool) → Ty → List MethodView
candidates T wanted t = candidates_from T wanted t 0 T.methods

-- one of these overrides or hides the method of v
abbrev pub replaced : Table → MethodView → List MethodView → Bool
replaced T v [] = false
replaced T v (w ∷ ws) = overrides T w.id v.id || hides T w.id v.id || replaced T v ws

-- of these those that none of `all` overrides or hides
abbrev pub without_replaced : Table → List MethodView → List MethodView → List MethodView
without_replaced T all [] = []
without_replaced T all (v ∷ vs) = cond (replaced T v all) [] (v ∷ []) ++ without_replaced T all vs

-- without those that another one of them overrides or hides
abbrev pub remaining : Table → List MethodView → List MethodView
remaining T all = without_replaced T all all

-- the methods of a name that a captured type has, in the order of the table
abbrev pub members : Table → Ty → List ℕ → List MethodView
members T t name = remaining T (candidates T (has_name T name) t)

-- ---- the body that a class has

-- the class of the first declared supertype, which of a class is its superclass; None where there is none, or it has no class
abbrev pub superclass : Table → ClassId → Option ClassId
superclass T k = first_class (supers_of T k)
  where
    first_class : List Ty → Option ClassId
    first_class [] = None
    first_class (t ∷ ts) = class_of t

-- a method is a member of a class that declares it or inherits it
abbrev pub is_member_of : Table → ClassId → MethodId → Bool
is_member_of T k n = same_class (owner T n) k || is_inheritable T k n

-- in class k method n stands for m: it is m, or it is a member there that has a subsignature of m's as k has both, and could override it (JLS 8.4.8.1,
-- 8.4.8.4)
abbrev pub stands_for : Table → ClassId → MethodId → MethodId → Bool
stands_for T k n m =
    (n.0 == m.0)
    || (is_instance T n && is_instance T m && is_member_of T k n && is_inheritable T (owner T n) m && subsignature_of T (class_view T k n) (class_view T k m))

-- the first of these methods that stands for m in class k, whether it has a body or not
abbrev pub declared_for : Table → ClassId → MethodId → List MethodId → Option MethodId
declared_for T k m [] = None
declared_for T k m (n ∷ ns) = if stands_for T k n m then Some n else declared_for T k m ns

-- the first of these methods that stands for m in class k and isn't abstract
abbrev pub body_for : Table → ClassId → MethodId → List MethodId → Option MethodId
body_for T k m [] = None
body_for T k m (n ∷ ns) = if not (is_abstract T n) && stands_for T k n m then Some n else body_for T k m ns

-- the first of two methods that is there
abbrev pub or_further : Option MethodId → Option MethodId → Option MethodId
or_further (Some n) further = Some n
or_further None further = further

-- of the methods of a class the first with a body that stands for m, and else the first that does: a body implements an abstract method beside it (JLS 8.4.8.4)
abbrev pub standing_in : Table → ClassId → MethodId → List MethodId → Option MethodId
standing_in T k m ns = or_further (body_for T k m ns) (declared_for T k m ns)

-- what is found in a superclass, if there is one
abbrev pub in_superclass : (ClassId → Option MethodId) → Option ClassId → Option MethodId
in_superclass f None = None
in_superclass f (Some c) = f c

-- that of the nearest class, from class c upwards through the superclasses
unfoldable pub standing_within : Table → ℕ → ClassId → MethodId → ClassId → Option MethodId
standing_within T zero k m c = None
standing_within T (suc n) k m c = or_further (standing_in T k m (methods_of T c)) (in_superclass (standing_within T n k m) (superclass T c))

-- a method unless it is abstract
abbrev pub if_body : Table → Option MethodId → Option MethodId
if_body T None = None
if_body T (Some n) = cond (is_abstract T n) None (Some n)

-- the body that class k has for a method that is called, by overriding alone; none where that is abstract, or nothing stands for it. A native method is a body
abbrev pub select : Table → ClassId → MethodId → Option MethodId
select T k m = if_body T (standing_within T (class_count T + 1) k m k)
