-- Containment of arguments (JLS 4.5.1), and what a question of subtyping leads to (JLS 4.10).
use Rattle.std.specs.Prelude.{ℕ, ◌||◌, ◌&&◌, not, Option, Some, None, List, [], ◌∷◌, ◌++◌, length, map, if◌then◌else◌}
use Rattle.jc_types.specs.declared.form.Ty.{Ty, Ty-F, out-Ty}
use Rattle.jc_types.specs.declared.form.Arg.{Arg, Arg-F, out-Arg}
use Rattle.jc_types.specs.declared.ids.ClassId.{ClassId}
use Rattle.jc_types.specs.declared.environment.Bounds.{Bounds}
use Rattle.jc_types.specs.declared.table.Table.{Table}
use Rattle.jc_types.specs.Accessors.{bounds_of, uppers_of, lower_bound_of}
use Rattle.jc_types.specs.Arrays.{element}
use Rattle.jc_types.specs.Reifying.{arguments}
use Rattle.jc_judge.specs.declared.question.Part.{Part}
use Rattle.jc_judge.specs.declared.question.Part.TheVariants.{Sure, Never, Ask, Same}
use Rattle.jc_judge.specs.declared.question.Question.{Question}
use Rattle.jc_judge.specs.declared.question.Question.TheVariants.{Holds, Fails, Every, SomeOf}
use Rattle.jc_judge.specs.Kinds.{Layer, ArgLayer, is_primitive, is_null, is_object, class_of, primitives_below}
use Rattle.jc_judge.specs.Capturing.{capture_one}
use Rattle.jc_judge.specs.Views.{view}

-- `? extends U` contains T and `? extends T` where T is below U
abbrev pub in_extends_at : Ty → ArgLayer → Part
in_extends_at u (Arg-F.Exact t) = Ask t u
in_extends_at u (Arg-F.Extends t) = Ask t u
in_extends_at u _ = Never

-- `? super L` contains T and `? super T` where L is below T
abbrev pub in_super_at : Ty → ArgLayer → Part
in_super_at l (Arg-F.Exact t) = Ask l t
in_super_at l (Arg-F.Super t) = Ask l t
in_super_at l _ = Never

-- a type contains itself
abbrev pub in_exact_at : Ty → ArgLayer → Part
in_exact_at u (Arg-F.Exact t) = Same t u
in_exact_at u _ = Never

-- `?` and `? extends Object` contain every argument
abbrev pub contained_at : ArgLayer → ArgLayer → Part
contained_at a Arg-F.Any = Sure
contained_at a (Arg-F.Extends u) = if is_object u then Sure else in_extends_at u a
contained_at a (Arg-F.Super l) = in_super_at l a
contained_at a (Arg-F.Exact u) = in_exact_at u a

-- what has to hold where the second argument contains the first
unfoldable pub contained : Arg → Arg → Part
contained a b = contained_at (out-Arg a) (out-Arg b)

-- argument by argument, as far as the shorter list goes
abbrev pub all_contained : List Arg → List Arg → List Part
all_contained [] bs = []
all_contained (a ∷ args) [] = []
all_contained (a ∷ args) (b ∷ bs) = contained a b ∷ all_contained args bs

-- the view of the captured S has these arguments and T those: T is raw, or the view isn't and each of its arguments is contained
abbrev pub by_arguments : List Bounds → Option (List Arg) → Option (List Arg) → Question
by_arguments fresh views None = Holds
by_arguments fresh None (Some targs) = Fails
by_arguments fresh (Some vargs) (Some targs) = Every fresh (all_contained vargs targs)

-- the captured S is viewed as T's class: without such a view the question fails
abbrev pub by_view : Table → List Bounds → Ty → Option Ty → Question
by_view T fresh t None = Fails
by_view T fresh t (Some v) = by_arguments fresh (arguments T v) (arguments T t)

-- two class or raw types: S is captured, where n variables were captured before, and viewed as T's class
abbrev pub classes_from : Table → ℕ → Ty → Ty → Option ClassId → Option ClassId → Question
classes_from T n s t None o = Fails
classes_from T n s t (Some j) None = Fails
classes_from T n s t (Some j) (Some k) = let c = capture_one T n s in by_view T c.fresh t (view T k c.ty)

-- S and T by their classes: what is no class or raw type has none, and the question fails
unfoldable pub classes : Table → List Bounds → Ty → Ty → Question
classes T env s t = classes_from T (length env) s t (class_of s) (class_of t)

-- two arrays of references: their elements are asked
abbrev pub to_elements : Ty → Option Ty → Question
to_elements a (Some b) = if is_primitive a || is_primitive b then Fails else Every [] (Ask a b ∷ [])
to_elements a None = Fails

-- S is an array, given with its elements' type, or no array
abbrev pub shapes_by : Table → List Bounds → Ty → Ty → Option Ty → Question
shapes_by T env s t (Some a) = to_elements a (element t)
shapes_by T env s t None = classes T env s t

-- what is asked where neither is an intersection, S is no variable, and T has no lower bound
unfoldable pub shapes : Table → List Bounds → Ty → Ty → Question
shapes T env s t = shapes_by T env s t (element s)

-- None for what is no captured variable, and for one that has no lower bound
abbrev pub lower_at : List Bounds → Layer → Option Ty
lower_at env (Ty-F.Captured c) = lower_bound_of env c
lower_at env _ = None

-- the lower bound of a captured variable
unfoldable pub lower_of : List Bounds → Ty → Option Ty
lower_of env t = lower_at env (out-Ty t)

-- None for what is neither an intersection nor a variable
abbrev pub sources_at : Table → List Bounds → Layer → Option (List Ty)
sources_at T env (Ty-F.Meet parts) = Some parts
sources_at T env (Ty-F.Variable v) = Some (bounds_of T v)
sources_at T env (Ty-F.Captured c) = Some (uppers_of env c)
sources_at T env _ = None

-- the parts of an intersection, or the upper bounds of a variable
unfoldable pub sources : Table → List Bounds → Ty → Option (List Ty)
sources T env s = sources_at T env (out-Ty s)

-- the question whether S is below T's lower bound, if T has one
abbrev pub to_lower : Ty → Option Ty → List Part
to_lower s (Some l) = Ask s l ∷ []
to_lower s None = []

-- S is an intersection or a variable, or T has a lower bound: some part or upper bound of S is below T, or S is below that
abbrev pub alternatives : Table → List Bounds → Ty → Ty → Option Ty → Option (List Ty) → Question
alternatives T env s t low (Some ss) = SomeOf (map (λ x. Ask x t) ss ++ to_lower s low)
alternatives T env s t (Some l) None = SomeOf (Ask s l ∷ [])
alternatives T env s t None None = shapes T env s t

-- what is asked where T is no intersection
unfoldable pub opened : Table → List Bounds → Ty → Ty → Question
opened T env s t = alternatives T env s t (lower_of env t) (sources T env s)

-- T is an intersection: S is below every part
abbrev pub to_meet_at : Table → List Bounds → Ty → Ty → Layer → Question
to_meet_at T env s t (Ty-F.Meet parts) = Every [] (map (Ask s) parts)
to_meet_at T env s t _ = opened T env s t

-- what is asked where neither type is primitive
unfoldable pub to_meet : Table → List Bounds → Ty → Ty → Question
to_meet T env s t = to_meet_at T env s t (out-Ty t)

-- what the question whether S is below T, which are not the same, leads to. The first line that fits decides: T is Object, or S
-- is null, and the other is a reference; one is primitive; T is an intersection; S is one or a variable, or T has a lower bound;
-- both are arrays of references; both are class or raw types
abbrev pub question : Table → List Bounds → Ty → Ty → Question
question T env s t =
    if (is_object t && not (is_primitive s)) || (is_null s && not (is_primitive t)) then Holds
    else (if is_primitive s || is_primitive t then (if primitives_below s t then Holds else Fails)
    else to_meet T env s t)
