-- What is done with a value where it stands: the steps of conversions and casts, and guards (JLS 5.1, 5.5).
use Rattle.std.specs.Prelude.{List, [], ◌∷◌}
use Rattle.jc_types.specs.declared.form.Primitive.{Primitive}
use Rattle.jc_types.specs.declared.form.Primitive.TheVariants.{Boolean, Byte, Short, Char, Int, Long}
use Rattle.jc_types.specs.declared.ids.ClassId.{ClassId}
use Rattle.jc_running.specs.declared.value.Value.{Value}
use Rattle.jc_running.specs.Outcomes.{give, bind, behind}
use Rattle.jc_heaps.specs.Numbers.{converted}
use Rattle.jc_heaps.specs.States.{some_or_wrong}
use Rattle.jc_heaps.specs.Making.{checked}
use Rattle.jc_typed.specs.declared.program.Boxes.{Boxes}
use Rattle.jc_typed.specs.declared.program.BoxedIn.{BoxedIn}
use Rattle.jc_typed.specs.declared.program.TypedProgram.{TypedProgram}
use Rattle.jc_typed.specs.Trees.{Step, Widen, Narrow, BoxUp, Unbox, Up, Test}
use Rattle.jc_meaning.specs.Kept.{TypedRun, typed_keeping}
use Rattle.jc_meaning.specs.Calls.{Bodies, call_static, call_direct}

-- what makes a class ready for use
abbrev pub Ready : Type 0
Ready = ClassId → TypedRun (Unit {0})

-- the class of a primitive type
abbrev pub box_of : Boxes → Primitive → BoxedIn
box_of boxes Boolean = boxes.boolean
box_of boxes Byte = boxes.byte
box_of boxes Short = boxes.short
box_of boxes Char = boxes.char
box_of boxes Int = boxes.int
box_of boxes Long = boxes.long

-- Boxing calls `valueOf`, which the class has to be initialised for (JLS 5.1.7)
abbrev pub boxed : TypedProgram → Bodies → Ready → BoxedIn → Value → TypedRun Value
boxed P body ready box v = behind (ready box.class) (call_static P body box.make (v ∷ []) [])

-- Unboxing calls `intValue` or its like; null throws (JLS 5.1.8)
abbrev pub unboxed : TypedProgram → Bodies → BoxedIn → Value → TypedRun Value
unboxed P body box v = call_direct P body box.value v [] []

-- one step: a conversion of numbers, a call for a box, a test of a reference, and no act at all for a step up
abbrev pub step : TypedProgram → Bodies → Ready → Step → Value → TypedRun Value
step P body ready (Widen to) v = some_or_wrong (converted to v)
step P body ready (Narrow to) v = some_or_wrong (converted to v)
step P body ready (BoxUp of_it) v = boxed P body ready (box_of P.known.boxes of_it) v
step P body ready (Unbox to) v = unboxed P body (box_of P.known.boxes to) v
step P body ready (Up to unchecked) v = give v
step P body ready (Test check to) v = checked (typed_keeping P.table) P.table P.known check to v

-- one step after the other
abbrev pub steps : TypedProgram → Bodies → Ready → List Step → Value → TypedRun Value
steps P body ready [] v = give v
steps P body ready (s ∷ ss) v = bind (step P body ready s v) (steps P body ready ss)
