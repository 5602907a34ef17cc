-- What a typed program does, by recursion on a depth. Expressions, statements, bodies of methods and initialisations of classes are
-- nodes, each of which spends a unit as it is entered and another as it is left; a turn of a loop, a byte out or in, a failed check
-- and an exit spend one. Each level of depth spends one, so that where the depth isn't below the units it never runs out first.
use Rattle.std.specs.Prelude.{ℕ, zero, suc, Bool, true, false, List, [], ◌∷◌, length, replicate, Option, Some, None, slice_get}
use Rattle.jc_types.specs.declared.ids.ClassId.{ClassId}
use Rattle.jc_types.specs.declared.ids.MethodId.{MethodId}
use Rattle.jc_types.specs.declared.form.Ty.{Ty}
use Rattle.jc_types.specs.declared.table.Table.{Table}
use Rattle.jc_types.specs.Accessors.{class_count}
use Rattle.jc_types.specs.Arrays.{array_over}
use Rattle.jc_types.specs.declared.form.Ty.TheVariants.{Class}
use Rattle.jc_running.specs.declared.value.Value.{Value}
use Rattle.jc_running.specs.declared.value.Value.TheVariants.{Address}
use Rattle.jc_running.specs.declared.seen.Seen.{Seen}
use Rattle.jc_running.specs.declared.seen.Ending.{Ending}
use Rattle.jc_running.specs.declared.seen.Ending.TheVariants.{Going as GoesOn, Ended, Threw, Exited as EndedWith}
use Rattle.jc_running.specs.declared.value.Readiness.TheVariants.{Untouched}
use Rattle.jc_running.specs.Shows.{nothing_shown}
use Rattle.jc_running.specs.declared.value.Completion.{Completion}
use Rattle.jc_running.specs.declared.value.Completion.TheVariants.{Returned}
use Rattle.jc_running.specs.Outcomes.{Out, Val, Thrown, Exited, Going, Wrong, give, wrong, stop, bind, behind, node}
use Rattle.jc_heaps.specs.declared.state.Object.{Object}
use Rattle.jc_heaps.specs.Layout.{default_of}
use Rattle.jc_heaps.specs.Making.{make, make_string}
use Rattle.jc_typed.specs.declared.program.TypedProgram.{TypedProgram}
use Rattle.jc_typed.specs.Trees.{Expr, Stmt}
use Rattle.jc_meaning.specs.Kept.{TypedState, TypedRun, typed_keeping}
use Rattle.jc_meaning.specs.Programs.{body_of, method_class}
use Rattle.jc_meaning.specs.Calls.{call_static}
use Rattle.jc_meaning.specs.Expressions.{Inner, expr_act}
use Rattle.jc_meaning.specs.Statements.{run_all, stmt_act}
use Rattle.jc_meaning.specs.Classes.{initialise, ready_by}
use Rattle.jc_meaning.specs.declared.target.Native.{Native}
use Rattle.jc_meaning.specs.Natives.{native_of, native_act, name_of}

-- what a program does at one depth: expressions, statements, bodies of methods, and classes that become ready for use
pub record Meaning : Type 0 where
  pub expr : Expr → TypedRun Value
  pub stmt : Stmt → TypedRun Completion
  pub body : MethodId → TypedRun Completion
  pub ready : ClassId → TypedRun (Unit {0})

-- the same for the parts of a form, which run no statements
abbrev pub inner_of : Meaning → Inner
inner_of r = record { expr = r.expr; body = r.body; ready = r.ready }

-- a body: its statements, or what a native method does
abbrev pub written_body : TypedProgram → Meaning → ℕ → Option (List Stmt) → TypedRun Completion
written_body P r k None = wrong
written_body P r k (Some ss) = run_all P (inner_of r) r.stmt k ss

-- a native method ends with a value; each other method has a body that is written
abbrev pub native_or : TypedProgram → Option Native → TypedRun Completion → TypedRun Completion
native_or P (Some n) other = bind (native_act (typed_keeping P.table) P.table P.known n) (λ v. give (Returned v))
native_or P None other = other

abbrev pub body_act : TypedProgram → Meaning → ℕ → MethodId → TypedRun Completion
body_act P r k m = native_or P (native_of P.known.natives m) (written_body P r k (body_of P m))

-- at depth 0 each node stops; the use of a class that nothing has to be done for goes on there too
unfoldable pub meaning : TypedProgram → ℕ → Meaning
meaning P zero = record {
  expr = λ e. stop;
  stmt = λ t. stop;
  body = λ m. stop;
  ready = ready_by P (λ k. stop);
}
meaning P (suc d) = let r = meaning P d in record {
  expr = λ e. node (expr_act P (inner_of r) e);
  stmt = λ t. node (stmt_act P (inner_of r) r.stmt d t);
  body = λ m. node (body_act P r d m);
  ready = ready_by P (λ k. node (initialise P r.body r.ready k));
}

-- the first values of n fields of the table from a number on
abbrev pub field_values : Table → ℕ → ℕ → List Value
field_values T from zero = []
field_values T from (suc n) = default_of T (record { 0 = from }) ∷ field_values T (suc from) n

-- the state as a program begins
abbrev pub first_state : TypedProgram → MethodId → List ℕ → TypedState
first_state P m input = record {
  locals = [];
  frame = record { method = m; variables = []; captured = [] };
  heap = [];
  classes = replicate (class_count P.table) Untouched;
  statics = field_values P.table 0 (length P.table.fields);
  strings = [];
  input = input;
  shown = nothing_shown;
  record_of = [];
}

-- a static method without parameters: its class is initialised, and its body runs
abbrev pub run_static : TypedProgram → MethodId → ℕ → TypedRun Value
run_static P m d = behind ((meaning P d).ready (method_class P.table m)) (call_static P (meaning P d).body m [] [])

-- the strings of a program's arguments, and then their array
abbrev pub argument_strings : TypedProgram → List (List ℕ) → TypedRun (List Value)
argument_strings P [] = give []
argument_strings P (text ∷ texts) =
    bind (make_string (typed_keeping P.table) P.table P.known text) (λ v. bind (argument_strings P texts) (λ vs. give (v ∷ vs)))

abbrev pub argument_array : TypedProgram → List Value → TypedRun ℕ
argument_array P vs = make (record { kept = array_over 0 (Class P.known.string []); parts = vs })

-- a main method: its arguments are made, its class is initialised, and its body runs (JLS 12.1)
abbrev pub run_main : TypedProgram → MethodId → List (List ℕ) → ℕ → TypedRun Value
run_main P m args d =
    bind (argument_strings P args) (λ vs.
    bind (argument_array P vs) (λ a.
    behind ((meaning P d).ready (method_class P.table m)) (call_static P (meaning P d).body m (Address a ∷ []) [])))

-- A run with n units on an input, as a node of its own: of a static method without parameters, and of a main method with arguments,
-- each of which is its UTF-16 units
abbrev pub outcome : TypedProgram → MethodId → List ℕ → ℕ → Out TypedState Value
outcome P m input n = node (run_static P m n) n (first_state P m input)

abbrev pub main_outcome : TypedProgram → MethodId → List (List ℕ) → List ℕ → ℕ → Out TypedState Value
main_outcome P m args input n = node (run_main P m args n) n (first_state P m input)

-- the class of a thrown object, by its name; where an address stands for nothing it is empty
abbrev pub class_name : TypedProgram → Option (Object Ty) → List ℕ
class_name P None = []
class_name P (Some o) = name_of P.table ((typed_keeping P.table).erased o.kept)

-- what went out and how much was taken up to a state, and how the run ended
abbrev pub seen_with : TypedState → Ending → Seen
seen_with s ending = record { output = s.shown.output; taken = s.shown.taken; ending = ending }

-- What a run shows; nothing where the program is none that was checked
abbrev pub seen : TypedProgram → Out TypedState Value → Option Seen
seen P (Val v u s) = Some (seen_with s Ended)
seen P (Thrown a u s) = Some (seen_with s (Threw (class_name P (slice_get s.heap a))))
seen P (Exited code s) = Some (seen_with s (EndedWith code))
seen P (Going s) = Some (seen_with s GoesOn)
seen P Wrong = None

-- a run that is over: it came to its end, threw, or exited
abbrev pub is_over : Out TypedState Value → Bool
is_over (Val v u s) = true
is_over (Thrown a u s) = true
is_over (Exited code s) = true
is_over (Going s) = false
is_over Wrong = true
