-- Expressions that have a typing; what is done with their values where they stand: conversions and guards; and capture.
use Rattle.std.specs.Prelude.{ℕ, zero, suc, ◌+◌, ◌==◌, ◌||◌, ◌&&◌, not, Bool, true, false, List, [], ◌∷◌, ◌++◌, length, Option, Some, None, is_none, if◌then◌else◌}
use Rattle.jc_rules.specs.declared.rule.Place.{Place}
use Rattle.jc_rules.specs.declared.rule.Refusal.{Refusal}
use Rattle.jc_types.specs.declared.constant.Constant.{Constant}
use Rattle.jc_types.specs.declared.conversion.Step.{Step as Turn}
use Rattle.jc_types.specs.declared.conversion.Step.TheVariants as turn
use Rattle.jc_types.specs.declared.environment.Bounds.{Bounds}
use Rattle.jc_types.specs.declared.erased.Erased.{Erased}
use Rattle.jc_types.specs.declared.form.Arg.{Arg, Arg-F, out-Arg}
use Rattle.jc_types.specs.declared.form.Primitive.{Primitive}
use Rattle.jc_types.specs.declared.form.Primitive.TheVariants.{Int}
use Rattle.jc_types.specs.declared.form.Ty.{Ty, Ty-F, out-Ty}
use Rattle.jc_types.specs.declared.form.Ty.TheVariants.{Prim}
use Rattle.jc_types.specs.declared.ids.ClassId.{ClassId}
use Rattle.jc_types.specs.declared.table.Table.{Table}
use Rattle.jc_types.specs.Accessors.{variable_count, vars_of, result_of}
use Rattle.jc_types.specs.Erasing.{erasure, variable_bounds}
use Rattle.jc_types.specs.Reifying.{reifiable}
use Rattle.jc_judge.specs.Capturing.{capture, meeting}
use Rattle.jc_judge.specs.Kinds.{Layer, ArgLayer, is_null}
use Rattle.jc_judge.specs.Meeting.{as_one, flattened, parts_at}
use Rattle.jc_lub.specs.Distinct.{erased_below}
use Rattle.jc_convert.specs.declared.answer.Converts.{Converts}
use Rattle.jc_convert.specs.declared.answer.Converts.TheVariants as converts
use Rattle.jc_convert.specs.Converting.{box, unboxed}
use Rattle.jc_running.specs.declared.seen.Check.{Check}
use Rattle.jc_running.specs.declared.seen.Check.TheVariants as check
use Rattle.jc_typed.specs.declared.lists.Capture.{Capture}
use Rattle.jc_typed.specs.Trees.{Step, Widen, Narrow, BoxUp, Unbox, Up, Test, Expr, expr, Operand, operand, Operands, NoOperands, MoreOperands, Form, Fixed, Call, Named}
use Rattle.jc_exprs_nodes_spec.specs.Told.{Fine, Broken, Out, Run, fine, onward, breaking}

-- An expression that has a typing: `start` is its first token, and `place` the first one inside of the parentheses round it; `ty` is its type, and
-- `captures` are the variables of its capture. `lead` is what its value goes through wherever it stands, but in a statement of its own.
pub record Typed : Type 0 where
  pub start : Place
  pub place : Place
  pub ty : Ty
  pub captures : List Capture
  pub form : Form
  pub lead : List Step

abbrev pub tree : Typed → Expr
tree t = expr t.place t.ty t.captures t.form

-- the type of a value behind the steps of a lead, of which only those upwards change it
abbrev pub up_by : Ty → Step → Ty
up_by t (Up u unchecked) = u
up_by t _ = t

abbrev pub behind : Ty → List Step → Ty
behind t [] = t
behind t (s ∷ ss) = behind (up_by t s) ss

-- what an expression counts as: a creation that an unchecked conversion made applicable is of the raw type, though it keeps its arguments
-- (JLS 15.12.2.6)
abbrev pub type_of : Typed → Ty
type_of t = behind t.ty t.lead

-- an expression that begins where it stands, and needs no capture
abbrev pub node : Place → Ty → Form → Typed
node place ty form = record { start = place; place = place; ty = ty; captures = []; form = form; lead = [] }

-- ---- constants (JLS 15.28)

-- a constant, with the locals that its expression names and the places of its casts to String
pub record Known : Type 0 where
  pub value : Constant
  pub named : List Named
  pub casts : List Place

-- the value of a constant expression; one that is named through an operand is none
abbrev pub known_in : Form → Option Known
known_in (Fixed NoOperands c named casts) = Some (record { value = c; named = named; casts = casts })
known_in _ = None

abbrev pub known_of : Typed → Option Known
known_of t = known_in t.form

abbrev pub value_in : Option Known → Option Constant
value_in (Some k) = Some k.value
value_in None = None

abbrev pub constant_of : Typed → Option Constant
constant_of t = value_in (known_of t)

abbrev pub fixed : Place → Ty → Known → Typed
fixed place ty k = node place ty (Fixed NoOperands k.value k.named k.casts)

-- ---- calls of methods without a result

abbrev pub is_void_form : Table → Form → Bool
is_void_form T (Call kind receiver m type_args args phase thrown is_raw) = is_none (result_of T m)
is_void_form T _ = false

abbrev pub is_void : Table → Typed → Bool
is_void T t = is_void_form T t.form

-- ---- guards: a value is tested where the erasure of its type isn't below an erased type

-- null is of every reference type (JLS 4.1)
abbrev pub is_erased_below : Table → List Bounds → Ty → Erased → Bool
is_erased_below T env s e = is_null s || erased_below T (erasure T env s) e

abbrev pub guarded_if : Bool → Check → Erased → List Step
guarded_if true c e = []
guarded_if false c e = Test c e ∷ []

-- a value of a type is used as one of an erased type
abbrev pub use_guard : Table → List Bounds → Ty → Erased → List Step
use_guard T env s e = guarded_if (is_erased_below T env s e) check.UseGuard e

-- a value of a declared type is read as one of this type
abbrev pub read_guard : Table → List Bounds → Erased → Ty → List Step
read_guard T env declared t = guarded_if (erased_below T declared (erasure T env t)) check.ReadGuard (erasure T env t)

-- ---- steps of conversions

-- the primitive type of a type that is one
abbrev pub primitive_at : Layer → Primitive
primitive_at (Ty-F.Prim p) = p
primitive_at _ = Int

abbrev pub or_int : Option Primitive → Primitive
or_int (Some p) = p
or_int None = Int

-- upwards to a type: a warning stands there where the conversion is unchecked, and not all arguments are unbounded (JLS 5.1.9)
abbrev pub upwards : Table → List Bounds → Bool → Ty → Ty → List Step
upwards T env unchecked s t = Up t (unchecked && not (reifiable T t)) ∷ use_guard T env s (erasure T env t)

-- a step of a conversion from s, and the type that it leads to
abbrev pub turned : Table → List Bounds → Bool → Ty → Turn → List Step
turned T env u s (turn.Widen q) = Widen q ∷ []
turned T env u s (turn.Narrow q) = Narrow q ∷ []
turned T env u s turn.BoxUp = BoxUp (primitive_at (out-Ty s)) ∷ []
turned T env u s turn.Unbox = Unbox (or_int (unboxed T env s)) ∷ []
turned T env u s (turn.Up t) = upwards T env u s t
turned T env u s (turn.Check t) = Test check.WrittenCast (erasure T env t) ∷ []

abbrev pub turned_to : Table → List Bounds → Ty → Turn → Ty
turned_to T env s (turn.Widen q) = Prim q
turned_to T env s (turn.Narrow q) = Prim q
turned_to T env s turn.BoxUp = box T (primitive_at (out-Ty s))
turned_to T env s turn.Unbox = Prim (or_int (unboxed T env s))
turned_to T env s (turn.Up t) = t
turned_to T env s (turn.Check t) = t

-- all steps of it
abbrev pub led : Table → List Bounds → Bool → Ty → List Turn → List Step
led T env u s [] = []
led T env u s (t ∷ ts) = turned T env u s t ++ led T env u (turned_to T env s t) ts

-- .. where there is a conversion; else nothing is asked of them
abbrev pub steps_by : Table → List Bounds → Ty → Converts → List Step
steps_by T env s (converts.Yes c) = led T env c.unchecked s c.steps
steps_by T env s _ = []

-- a cast's own steps never say that a warning stands there, since the cast's does
abbrev pub cast_steps_by : Table → List Bounds → Ty → Converts → List Step
cast_steps_by T env s (converts.Yes c) = led T env false s c.steps
cast_steps_by T env s _ = []

-- the rule that is broken where there is no conversion; 606 where that can't be told
abbrev pub unconverted : ℕ → Place → Converts → List Refusal
unconverted rule place (converts.Yes c) = []
unconverted rule place converts.NoConversion = breaking rule place ∷ []
unconverted rule place converts.Deep = breaking 606 place ∷ []

-- ---- operands

-- an expression as it stands, with further steps, and as a statement of its own
abbrev pub plain : Typed → Operand
plain t = operand t.start (tree t) t.lead

abbrev pub stepped : Typed → List Step → Operand
stepped t ss = operand t.start (tree t) (t.lead ++ ss)

abbrev pub bare : Typed → Operand
bare t = operand t.start (tree t) []

abbrev pub converted : Table → List Bounds → Typed → Converts → Operand
converted T env t c = stepped t (steps_by T env (type_of t) c)

abbrev pub one_operand : Operand → Operands
one_operand o = MoreOperands NoOperands o

abbrev pub operands_of : List Operand → Operands → Operands
operands_of [] before = before
operands_of (o ∷ os) before = operands_of os (MoreOperands before o)

-- ---- capture, anew at each occurrence (JLS 5.1.10)

abbrev pub named_at : ClassId → ℕ → ℕ → ArgLayer → List Capture
named_at k n i (Arg-F.Exact t) = []
named_at k n i _ = record { capture = record { 0 = n }; class = k; at = i } ∷ []

-- the variables of a class type's capture, where n is the next one's number and i that of the argument
abbrev pub named_args : ClassId → ℕ → ℕ → List Arg → List Capture
named_args k n i [] = []
named_args k n i (a ∷ args) = let here = named_at k n i (out-Arg a) in here ++ named_args k (n + length here) (i + 1) args

abbrev pub named_one : Table → ℕ → Layer → List Capture
named_one T n (Ty-F.Class k args) = if length args == length (vars_of T k) then named_args k n 0 args else []
named_one T n _ = []

abbrev pub named_parts : Table → ℕ → List Ty → List Capture
named_parts T n [] = []
named_parts T n (t ∷ ts) = let here = named_one T n (out-Ty t) in here ++ named_parts T (n + length here) ts

abbrev pub named_in : Table → ℕ → Layer → List Capture
named_in T n (Ty-F.Meet parts) = named_parts T n parts
named_in T n l = named_one T n l

-- a type after capture, and the variables that this made
pub record Kind : Type 0 where
  pub ty : Ty
  pub captures : List Capture

-- 624: two unrelated classes meet
abbrev pub capturing_by : Table → Place → Ty → List Bounds → Option ℕ → Out Kind
capturing_by T place t env (Some i) = record { env = env; told = Broken (breaking 624 place) [] }
capturing_by T place t env None =
    record { env = env ++ (capture T (length env) t).fresh; told = Fine (record { ty = (capture T (length env) t).ty; captures = named_in T (length env) (out-Ty t) }) }

unfoldable pub capturing : Table → Place → Ty → Run Kind
capturing T place t env = capturing_by T place t env (meeting T (length env) t)

abbrev pub of_kind : Place → Form → List Step → Kind → Typed
of_kind place form lead k = record { start = place; place = place; ty = k.ty; captures = k.captures; form = form; lead = lead }

-- a variable, field, element, call, creation, cast or conditional of this type
abbrev pub captured : Table → Place → Ty → Form → List Step → Run Typed
captured T place t form lead = onward (capturing T place t) (λ k. fine (of_kind place form lead k))

-- ---- settled types: bounds are taken, and captured, until no variable is left (JLS 4.4, 4.9)

-- the bounds of a variable, or the type itself
abbrev pub bounds_or : Ty → Option (List Ty) → List Ty
bounds_or t None = t ∷ []
bounds_or t (Some bs) = bs

abbrev pub opened_parts : Table → List Bounds → List Ty → List Ty
opened_parts T env [] = []
opened_parts T env (t ∷ ts) = bounds_or t (variable_bounds T env t) ++ opened_parts T env ts

-- the intersection of the parts of a type, where each variable stands for its upper bounds
abbrev pub opened : Table → List Bounds → Ty → Ty
opened T env t = as_one (flattened (opened_parts T env (parts_at t (out-Ty t))))

abbrev pub has_variable : Table → List Bounds → List Ty → Bool
has_variable T env [] = false
has_variable T env (t ∷ ts) = not (is_none (variable_bounds T env t)) || has_variable T env ts

-- the type is a variable, or has one as a part
abbrev pub is_open : Table → List Bounds → Ty → Bool
is_open T env t = has_variable T env (parts_at t (out-Ty t))

abbrev pub behind_kind : Kind → Kind → Kind
behind_kind k l = record { ty = l.ty; captures = k.captures ++ l.captures }

-- in at most n steps
unfoldable pub settling : Table → Place → ℕ → Kind → Run Kind
settling T place zero k env = fine k env
settling T place (suc n) k env =
    if is_open T env k.ty then onward (capturing T place (opened T env k.ty)) (λ l. settling T place n (behind_kind k l)) env else fine k env

-- steps enough where no variable depends on itself
abbrev pub settled_steps : Table → List Bounds → ℕ
settled_steps T env = variable_count T + length env + 1

-- the members of a type variable, and of an intersection, are those of bounds: none of them is private (JLS 4.4, 4.9)
abbrev pub is_meet : Layer → Bool
is_meet (Ty-F.Meet parts) = true
is_meet _ = false

abbrev pub is_by_bounds : Table → List Bounds → Ty → Bool
is_by_bounds T env t = is_meet (out-Ty t) || is_open T env t

-- an expression of which a member is asked, the type whose members it has, and whether they are those of bounds
pub record Settled : Type 0 where
  pub it : Typed
  pub ty : Ty
  pub by_bounds : Bool

abbrev pub of_settled : Bool → Typed → Kind → Settled
of_settled by_bounds t k = record { it = record t { captures = t.captures ++ k.captures }; ty = k.ty; by_bounds = by_bounds }

-- the variables that this makes stand behind the expression's own
unfoldable pub settled : Table → Typed → Run Settled
settled T t env =
    onward (onward (capturing T t.place (type_of t)) (settling T t.place (settled_steps T env))) (λ k. fine (of_settled (is_by_bounds T env (type_of t)) t k)) env
