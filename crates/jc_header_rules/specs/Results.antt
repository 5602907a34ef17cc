-- Whether the result and the thrown types of a method fit those of one that it overrides or hides (JLS 8.4.5, 8.4.6, 8.4.8.3).
use Rattle.std.specs.Prelude.{ℕ, ◌==◌, Bool, true, false, ◌&&◌, ◌||◌, List, [], ◌∷◌, codes, Option, Some, None, if◌then◌else◌}
use Rattle.std.specs.List.{list_any, list_all}
use Rattle.jc_types.specs.declared.erased.Base.{Base}
use Rattle.jc_types.specs.declared.erased.Base.TheVariants as base
use Rattle.jc_types.specs.declared.form.Arg.{Arg}
use Rattle.jc_types.specs.declared.form.Ty.{Ty, Ty-F, out-Ty}
use Rattle.jc_types.specs.declared.ids.ClassId.{ClassId}
use Rattle.jc_types.specs.declared.ids.VarId.{VarId}
use Rattle.jc_types.specs.declared.table.Table.{Table}
use Rattle.jc_types.specs.Accessors.{class_named, vars_of}
use Rattle.jc_types.specs.Erasing.{erasure}
use Rattle.jc_types.specs.Sameness.{same}
use Rattle.jc_judge.specs.declared.question.Answer.{Answer}
use Rattle.jc_judge.specs.declared.question.Answer.TheVariants.{Yes, No}
use Rattle.jc_judge.specs.Deciding.{answer_of}
use Rattle.jc_judge.specs.Kinds.{is_primitive}
use Rattle.jc_judge.specs.Views.{view}
use Rattle.jc_lub.specs.Uncaptured.{up_view}
use Rattle.jc_overriding.specs.declared.view.MethodView.{MethodView}
use Rattle.jc_overriding.specs.Overriding.{is_viewed}
use Rattle.jc_overriding.specs.Signatures.{adapted, erased_in}
use Rattle.jc_overriding.specs.Viewing.{own_type}

-- ---- results (JLS 8.4.5)

-- there are type parameters
abbrev pub has_parameters : List VarId → Bool
has_parameters [] = false
has_parameters (v ∷ vars) = true

-- a raw type whose class has parameters (JLS 4.8)
abbrev pub is_raw_at : Table → Ty-F Arg Ty → Bool
is_raw_at T (Ty-F.Raw id) = has_parameters (vars_of T id)
is_raw_at T _ = false

abbrev pub is_raw_view : Table → Option Ty → Bool
is_raw_view T None = false
is_raw_view T (Some t) = is_raw_at T (out-Ty t)

-- its supertype of that class is raw, as it stands: wildcards go over to it, and a type variable has those of its bounds
abbrev pub class_converts : Table → Ty → Ty-F Arg Ty → Bool
class_converts T s (Ty-F.Class id args) = is_raw_view T (up_view T [] id s)
class_converts T s _ = false

-- arrays of as many dimensions, of which the elements convert
abbrev pub elements_convert : Table → Ty-F Arg Ty → ℕ → Ty → Bool
elements_convert T (Ty-F.Array s n) m t = (n == m) && class_converts T s (out-Ty t)
elements_convert T _ m t = false

-- arrays by their elements, and any other type by its class
abbrev pub converts_to : Table → Ty → Ty-F Arg Ty → Bool
converts_to T s (Ty-F.Array t m) = elements_convert T (out-Ty s) m t
converts_to T s l = class_converts T s l

-- it becomes a subtype by an unchecked conversion (JLS 5.1.9): of a class type, as whose class it is raw, or of arrays of that
abbrev pub converts_unchecked : Table → Ty → Ty → Bool
converts_unchecked T s t = converts_to T s (out-Ty t)

-- the answer of what is known at once: never Deep
abbrev pub yes_if : Bool → Answer
yes_if b = if b then Yes else No

-- of reference types the one of a is below that of b, becomes so by an unchecked conversion, or is its erasure
abbrev pub reference_answer : Table → MethodView → MethodView → Ty → Ty → Answer
reference_answer T a b s t =
    if same s (erased_in T b t) || converts_unchecked T s (adapted a b t) then Yes else answer_of T 64 [] s (adapted a b t)

-- primitive types have to be the same one
abbrev pub type_answer : Table → MethodView → MethodView → Ty → Ty → Answer
type_answer T a b s t = if is_primitive s || is_primitive t then yes_if (same s t) else reference_answer T a b s t

-- None is `void`, which stands for `void` alone
abbrev pub answer_by : Table → MethodView → MethodView → Option Ty → Option Ty → Answer
answer_by T a b None None = Yes
answer_by T a b None (Some t) = No
answer_by T a b (Some s) None = No
answer_by T a b (Some s) (Some t) = type_answer T a b s t

-- whether a's result may stand for b's
abbrev pub result_answer : Table → MethodView → MethodView → Answer
result_answer T a b = answer_by T a b a.result b.result

-- ---- thrown types (JLS 8.4.6, 8.4.8.3, 11.1.1)

-- the class of an erased type without dimensions, and Object (class 0) where it isn't a class
abbrev pub class_of_base : Base → ClassId
class_of_base (base.Class k) = k
class_of_base _ = record { 0 = 0 }

-- the class of a thrown type's erasure, as the view has its type parameters
abbrev pub thrown_class : Table → MethodView → Ty → ClassId
thrown_class T v t = class_of_base (erasure T [] (erased_in T v t)).base

-- class k is class l, or below it
abbrev pub is_within : Table → ClassId → ClassId → Bool
is_within T l k = is_viewed (view T l (own_type T k))

-- exceptions that need no clause
abbrev pub is_unchecked : Table → ClassId → Bool
is_unchecked T k = is_within T (class_named T (codes "java.lang.RuntimeException")) k || is_within T (class_named T (codes "java.lang.Error")) k

-- Throwable, or a class below it
abbrev pub is_throwable : Table → ClassId → Bool
is_throwable T k = is_within T (class_named T (codes "java.lang.Throwable")) k

-- each checked exception of a is of a class that b's clause has, or below one
abbrev pub thrown_fits : Table → MethodView → MethodView → Bool
thrown_fits T a b =
    list_all (λ t. is_unchecked T (thrown_class T a t) || list_any (λ u. is_within T (thrown_class T b u) (thrown_class T a t)) b.thrown) a.thrown
