-- Verification by type checking (JVMS 4.10.1): the first place at which a method isn't type safe.
use Rattle.std.specs.Prelude.{◌≡◌, ℕ, ◌+◌, ◌==◌, Bool, true, false, not, ◌&&◌, ◌||◌, nat_lt, nat_le, List, [], ◌∷◌, codes, if◌then◌else◌}
use Rattle.std.specs.Option.{option_map}
use Rattle.std.specs.declared.option.Option.{Option}
use Rattle.std.specs.declared.option.Option.TheVariants.{Some, None}
use Rattle.jc_class_out.specs.Instructions.{ins_size}
use Rattle.jc_class_out.specs.Spelling.{entry_of_method}
use Rattle.jc_class_out.specs.declared.model.ClassModel.{ClassModel}
use Rattle.jc_class_out.specs.declared.model.CodeModel.{CodeModel}
use Rattle.jc_class_out.specs.declared.model.Frame.{Frame}
use Rattle.jc_class_out.specs.declared.model.Handler.{Handler}
use Rattle.jc_class_out.specs.declared.model.Ins.{Ins}
use Rattle.jc_class_out.specs.declared.model.Item.TheVariants.{Object}
use Rattle.jc_class_out.specs.declared.model.MethodModel.{MethodModel}
use Rattle.jc_jvm.specs.Thrown.{covers}
use Rattle.jc_frames_types.specs.Names.{is_name_below}
use Rattle.jc_frames_types.specs.States.{TypeState, state_of, goes_to, is_empty}
use Rattle.jc_frames_steps.specs.Placed.{Environment, frame_at}
use Rattle.jc_frames_steps.specs.Rules.{goes_where, typed, falls_through}

-- ---- handlers

-- handlerExceptionClass (4.10.1.1): a row without a class catches every Throwable
abbrev pub throwable : List ℕ
throwable = codes "java/lang/Throwable"

abbrev pub caught_class : Option (List ℕ) → List ℕ
caught_class None = throwable
caught_class (Some name) = name

abbrev pub is_there : Option Frame → Bool
is_there None = false
is_there (Some f) = true

-- handlerIsLegal (4.10.1.6): it covers something, its place has a frame, and what it catches is a Throwable
abbrev pub is_legal : Environment → Handler → Bool
is_legal e h = nat_lt h.from h.to && (is_there (frame_at e.code.frames h.at) && is_name_below e.classes (caught_class h.class) throwable)

-- where the first handler begins that isn't
unfoldable pub first_illegal : Environment → List Handler → Option ℕ
first_illegal e [] = None
first_illegal e (h ∷ hs) = if is_legal e h then first_illegal e hs else Some (h.from)

-- the state at a handler: the locals of the instruction, and the exception alone on the stack
abbrev pub thrown : Handler → TypeState → TypeState
thrown h s = record s { stack = Object (caught_class h.class) ∷ []; pending = s.pending }

-- instructionSatisfiesHandlers (4.10.1.6): at each handler that covers the offset
abbrev pub is_satisfied : Environment → ℕ → TypeState → Handler → Bool
is_satisfied e at s h = not (covers at h) || (nat_le 1 s.limit && goes_where e.classes (thrown h s) (frame_at e.code.frames h.at))

unfoldable pub are_satisfied : Environment → ℕ → TypeState → List Handler → Bool
are_satisfied e at s [] = true
are_satisfied e at s (h ∷ hs) = is_satisfied e at s h && are_satisfied e at s hs

-- ---- the instructions of a method, merged with its frames (mergeStackMapAndCode, 4.10.1.5)

-- the frame of the offset, if it is the next one, and the frames behind it
abbrev pub next_frame : ℕ → List Frame → Option Frame
next_frame at [] = None
next_frame at (f ∷ fs) = if f.at == at then Some f else None

abbrev pub behind_frame : ℕ → List Frame → List Frame
behind_frame at [] = []
behind_frame at (f ∷ fs) = if f.at == at then fs else f ∷ fs

-- Where a frame stands, the state before has to go there, unless the place is only reached by jumps; the frame tells the state then. Where none
-- stands, a state has to come from before.
abbrev pub goes_from : Environment → Option TypeState → Frame → Bool
goes_from e None f = true
goes_from e (Some s) f = goes_to e.classes f s

abbrev pub entered : Environment → Option TypeState → Option Frame → Option TypeState
entered e before (Some f) = if goes_from e before f then state_of e.code.locals e.code.stack f else None
entered e before None = before

-- what comes behind an instruction; nothing does where only jumps lead there (afterGoto)
abbrev pub left_by : Ins → TypeState → Option TypeState
left_by i s = if falls_through i then Some s else None

-- None where the instruction isn't type safe in this state, or a handler that covers it isn't satisfied
abbrev pub passed_in : Environment → ℕ → Ins → TypeState → Option (Option TypeState)
passed_in e at i s = if are_satisfied e at s e.code.handlers then option_map (left_by i) (typed e at i s) else None

abbrev pub passed : Environment → ℕ → Ins → Option TypeState → Option (Option TypeState)
passed e at i (Some s) = passed_in e at i s
passed e at i None = None

-- at the end of the code no frame is left over, and nothing comes there
abbrev pub ends_well : List Frame → Option TypeState → Bool
ends_well frames None = is_empty frames
ends_well frames (Some s) = false

-- the first offset at which the code isn't type safe (mergedCodeIsTypeSafe, 4.10.1.6), from this one on
unfoldable pub code_fault : Environment → List Frame → ℕ → Option TypeState → List Ins → Option ℕ
code_fault e frames at before [] = if ends_well frames before then None else Some at
code_fault e frames at before (i ∷ is) =
    elim (passed e at i (entered e before (next_frame at frames))) [ Some next ↦ code_fault e (behind_frame at frames) (at + ins_size at i) next is | None ↦ Some at ]

-- ---- methods and classes

-- methodInitialStackFrame (4.10.1.6), as a frame at the entry
abbrev pub entry_frame : ClassModel → MethodModel → Frame
entry_frame c m = record { at = 0; locals = entry_of_method c.name m; stack = [] }

-- from the state at the entry on, which has to have room
abbrev pub fault_from : Environment → Option TypeState → Option ℕ
fault_from e (Some s) = code_fault e e.code.frames 0 (Some s) e.code.ins
fault_from e None = Some 0

abbrev pub fault_behind : Environment → Option ℕ → Option ℕ
fault_behind e (Some at) = Some at
fault_behind e None = fault_from e (state_of e.code.locals e.code.stack (entry_frame e.class e.method))

-- methodWithCodeIsTypeSafe (4.10.1): its handlers are legal, and its code is type safe; an illegal handler is told by where it begins
abbrev pub body_fault : Environment → Option ℕ
body_fault e = fault_behind e (first_illegal e e.code.handlers)

abbrev pub code_of_method : List ClassModel → ClassModel → MethodModel → Option CodeModel → Option ℕ
code_of_method classes c m None = None
code_of_method classes c m (Some code) = body_fault (record { classes = classes; class = c; method = m; code = code })

-- methodIsTypeSafe: an abstract or native method is
abbrev pub method_fault : List ClassModel → ClassModel → MethodModel → Option ℕ
method_fault classes c m = code_of_method classes c m m.code

abbrev pub or_later : ℕ → Option ℕ → Option (ℕ × ℕ) → Option (ℕ × ℕ)
or_later number (Some at) later = Some (number, at)
or_later number None later = later

-- the number of the first of these methods that isn't, counted from this one on, and the offset
unfoldable pub methods_fault : List ClassModel → ClassModel → ℕ → List MethodModel → Option (ℕ × ℕ)
methods_fault classes c number [] = None
methods_fault classes c number (m ∷ ms) = or_later number (method_fault classes c m) (methods_fault classes c (number + 1) ms)

-- classIsTypeSafe (4.10.1), by the types of its methods
abbrev pub class_fault : List ClassModel → ClassModel → Option (ℕ × ℕ)
class_fault classes c = methods_fault classes c 0 c.methods

-- all methods of the class are type safe among these classes
abbrev pub FramesOk : List ClassModel → ClassModel → Type 0
FramesOk classes c = class_fault classes c ≡ None
