-- Creations of arrays, array initialisers, casts and conditionals (JLS 10.6, 15.10, 15.16, 15.25), over parts that have typings.
use Rattle.std.specs.Prelude.{◌+◌, ◌&&◌, not, Bool, true, false, List, [], ◌∷◌, ◌++◌, map, Option, Some, None, if◌then◌else◌}
use Rattle.jc_rules.specs.declared.rule.Place.{Place}
use Rattle.jc_rules.specs.declared.rule.Refusal.{Refusal}
use Rattle.jc_types.specs.declared.constant.Constant.{Constant}
use Rattle.jc_types.specs.declared.environment.Bounds.{Bounds}
use Rattle.jc_types.specs.declared.form.Primitive.{Primitive}
use Rattle.jc_types.specs.declared.form.Primitive.TheVariants.{Boolean, Int}
use Rattle.jc_types.specs.declared.form.Ty.{Ty, Ty-F, out-Ty}
use Rattle.jc_types.specs.declared.form.Ty.TheVariants.{Prim}
use Rattle.jc_types.specs.declared.table.Table.{Table}
use Rattle.jc_types.specs.Arrays.{element}
use Rattle.jc_types.specs.Reifying.{reifiable}
use Rattle.jc_types.specs.Sameness.{same}
use Rattle.jc_judge.specs.declared.question.Answer.{Answer}
use Rattle.jc_judge.specs.declared.question.Answer.TheVariants as answer
use Rattle.jc_judge.specs.Deciding.{answer_of}
use Rattle.jc_judge.specs.Kinds.{Layer, is_null, is_primitive}
use Rattle.jc_boxes.specs.Boxes.{boxed}
use Rattle.jc_lub.specs.Lubs.{lub}
use Rattle.jc_repair.specs.Repairing.{repaired}
use Rattle.jc_convert.specs.declared.answer.Converts.{Converts}
use Rattle.jc_convert.specs.Casting.{cast, is_numeric}
use Rattle.jc_convert.specs.Converting.{assignment, box, invocation, narrows}
use Rattle.jc_typed.specs.Trees.{Step, BoxUp, Operand, NoOperands, ArrayOf, Cast, Conditional, NewArray}
use Rattle.jc_exprs_nodes_spec.specs.Told.{Run, fine, breaking, provided, unless, Spanned}
use Rattle.jc_exprs_nodes_spec.specs.Typeds.{Typed, Known, node, fixed, type_of, known_of, constant_of, captured, plain, stepped, converted, operands_of, steps_by, cast_steps_by, upwards, unconverted}
use Rattle.jc_exprs_parts_spec.specs.Operators.{as_primitive}
use Rattle.jc_exprs_parts_spec.specs.Constants.{conditional_constant, constant_as, numeric_choice}

-- ---- creations of arrays (JLS 15.10): 612 where the elements' type isn't reifiable, 607 at a length that isn't promoted to int

abbrev pub length_breaks : Table → List Bounds → List Typed → List Refusal
length_breaks T env [] = []
length_breaks T env (t ∷ ts) = unconverted 607 t.start (invocation T env (type_of t) (Prim Int)) ++ length_breaks T env ts

abbrev pub lengths : Table → List Bounds → List Typed → List Operand
lengths T env ts = map (λ (t : Typed). converted T env t (invocation T env (type_of t) (Prim Int))) ts

abbrev pub sized_by : Table → Place → Ty → List Typed → List Bounds → Run Typed
sized_by T place t ts env =
    provided (unless (reifiable T t) 612 place ++ length_breaks T env ts) (fine (node place t (NewArray (operands_of (lengths T env ts) NoOperands))))

unfoldable pub sized : Table → Place → Ty → List Typed → Run Typed
sized T place t ts env = sized_by T place t ts env env

-- a value of an array initialiser goes to the type of the elements by assignment (JLS 10.6)
abbrev pub assigned_by : Table → List Bounds → Typed → Converts → Run Operand
assigned_by T env t c = provided (unconverted 607 t.start c) (fine (converted T env t c))

unfoldable pub assigned : Table → Ty → Typed → Run Operand
assigned T to t env = assigned_by T env t (assignment T env (type_of t) (constant_of t) to) env

-- an array initialiser: 607 where no array is wanted, and 612 where its elements' type isn't reifiable
abbrev pub listed_breaks : Table → Place → Ty → Option Ty → List Refusal
listed_breaks T place t None = breaking 607 place ∷ []
listed_breaks T place t (Some u) = unless (reifiable T t) 612 place

unfoldable pub listed : Table → Place → Ty → List Operand → Run Typed
listed T place t os = provided (listed_breaks T place t (element t)) (fine (node place t (ArrayOf (operands_of os NoOperands))))

-- ---- casts (JLS 15.16): 608, 606 at the cast

abbrev pub is_yes : Answer → Bool
is_yes answer.Yes = true
is_yes _ = false

-- a reference whose type is below the wanted one
abbrev pub is_below : Table → List Bounds → Ty → Ty → Bool
is_below T env s t = not (is_primitive s) && not (is_primitive t) && is_yes (answer_of T 64 env s t)

-- a cast of a constant to a primitive type or to String is one; that to String is remembered
abbrev pub casts_at : Place → Layer → List Place
casts_at place (Ty-F.Prim p) = []
casts_at place _ = place ∷ []

abbrev pub cast_value : Place → Ty → Known → Option Constant → Option Known
cast_value place t k None = None
cast_value place t k (Some c) = Some (record k { value = c; casts = casts_at place (out-Ty t) ++ k.casts })

abbrev pub cast_known : Table → Place → Ty → Option Known → Option Known
cast_known T place t None = None
cast_known T place t (Some k) = cast_value place t k (constant_as T t k.value)

abbrev pub cast_typed : Table → List Bounds → Place → Ty → Typed → Converts → Option Known → Run Typed
cast_typed T env place t e c (Some k) = fine (fixed place t k)
cast_typed T env place t e c None =
    captured T place t (Cast (plain e) t (cast_steps_by T env (type_of e) c) (is_below T env (type_of e) t)) []

abbrev pub cast_by : Table → List Bounds → Place → Ty → Typed → Converts → Run Typed
cast_by T env place t e c = provided (unconverted 608 place c) (cast_typed T env place t e c (cast_known T place t (known_of e)))

unfoldable pub cast_to : Table → Place → Ty → Typed → Run Typed
cast_to T place t e env = cast_by T env place t e (cast T env (type_of e) t) env

-- ---- conditionals (JLS 15.25): 607 at a test that isn't boolean

abbrev pub is_int_at : Layer → Bool
is_int_at (Ty-F.Prim Int) = true
is_int_at _ = false

-- a constant int that fits a type
abbrev pub fits_in : Typed → Primitive → Bool
fits_in t p = is_int_at (out-Ty (type_of t)) && narrows (constant_of t) Int p

-- what is of another kind: the lub of the boxed types, repaired
abbrev pub lubbed : Table → List Bounds → Ty → Ty → Ty
lubbed T env s t = repaired T env (lub T env (boxed T s ∷ boxed T t ∷ []))

-- two numbers, after unboxing; else the lub
abbrev pub numeric_or_lub : Table → List Bounds → Typed → Typed → Option Primitive → Option Primitive → Ty
numeric_or_lub T env a b (Some p) (Some q) =
    if is_numeric p && is_numeric q then Prim (numeric_choice p q (fits_in b p) (fits_in a q)) else lubbed T env (type_of a) (type_of b)
numeric_or_lub T env a b _ _ = lubbed T env (type_of a) (type_of b)

-- a primitive type and its class give the primitive type; null and a reference that
abbrev pub boxes_or : Table → List Bounds → Typed → Typed → Ty → Ty → Ty
boxes_or T env a b s t =
    if is_primitive s && same (boxed T s) t then s
    else (if is_primitive t && same (boxed T t) s then t
    else (if is_null s && not (is_primitive t) then t
    else (if is_null t && not (is_primitive s) then s
    else numeric_or_lub T env a b (as_primitive T env s) (as_primitive T env t))))

-- equal types give that type
unfoldable pub chosen_type : Table → List Bounds → Typed → Typed → Ty
chosen_type T env a b = if same (type_of a) (type_of b) then type_of a else boxes_or T env a b (type_of a) (type_of b)

-- a branch goes to a primitive type by assignment, and up to a reference type, which is above it
abbrev pub up_to : Table → List Bounds → Ty → Ty → List Step
up_to T env s t = if same s t then [] else upwards T env false s t

abbrev pub lifted : Table → List Bounds → Ty → Layer → Ty → List Step
lifted T env s (Ty-F.Prim p) t = BoxUp p ∷ up_to T env (box T p) t
lifted T env s _ t = up_to T env s t

abbrev pub branch_steps : Table → List Bounds → Typed → Ty → List Step
branch_steps T env a t =
    if is_primitive t then steps_by T env (type_of a) (assignment T env (type_of a) (constant_of a) t)
    else lifted T env (type_of a) (out-Ty (type_of a)) t

abbrev pub branch : Table → List Bounds → Typed → Ty → Operand
branch T env a t = stepped a (branch_steps T env a t)

-- three constants give one, where the type has constants
abbrev pub known_three : Known → Known → Known → Option Constant → Option Known
known_three c a b None = None
known_three c a b (Some v) = Some (record { value = v; named = c.named ++ a.named ++ b.named; casts = c.casts ++ a.casts ++ b.casts })

abbrev pub known_choice : Option Known → Option Known → Option Known → Option Known
known_choice (Some c) (Some a) (Some b) = known_three c a b (conditional_constant c.value a.value b.value)
known_choice _ _ _ = None

abbrev pub choice_typed : Table → List Bounds → Typed → Spanned (Typed × Typed) → Converts → Ty → Option Known → Run Typed
choice_typed T env c ab k t (Some v) = fine (fixed c.start t v)
choice_typed T env c ab k t None =
    captured T c.start t (Conditional (converted T env c k) (branch T env ab.it.0 t) (branch T env ab.it.1 t) ab.from ab.up_to) []

abbrev pub choice_by : Table → List Bounds → Typed → Spanned (Typed × Typed) → Converts → Run Typed
choice_by T env c ab k =
    provided (unconverted 607 c.start k)
    (choice_typed T env c ab k (chosen_type T env ab.it.0 ab.it.1) (known_choice (known_of c) (known_of ab.it.0) (known_of ab.it.1)))

unfoldable pub chosen : Table → Typed → Spanned (Typed × Typed) → Run Typed
chosen T c ab env = choice_by T env c ab (invocation T env (type_of c) (Prim Boolean)) env
