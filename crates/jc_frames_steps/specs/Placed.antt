-- What stands where in the code of a method, and what stays the same while the code is checked (JVMS 4.10.1).
use Rattle.std.specs.Prelude.{ℕ, ◌+◌, List, [], ◌∷◌, map, nat_eq, slice_get, option_and_then}
use Rattle.std.specs.List.{position_from}
use Rattle.std.specs.declared.option.Option.{Option}
use Rattle.jc_class_out.specs.Instructions.{ins_size}
use Rattle.jc_class_out.specs.declared.model.ClassModel.{ClassModel}
use Rattle.jc_class_out.specs.declared.model.CodeModel.{CodeModel}
use Rattle.jc_class_out.specs.declared.model.Frame.{Frame}
use Rattle.jc_class_out.specs.declared.model.Ins.{Ins}
use Rattle.jc_class_out.specs.declared.model.MethodModel.{MethodModel}
use Rattle.jc_class_out.specs.declared.model.Operand.{Operand}
use Rattle.jc_class_out.specs.declared.model.Operand.TheVariants as op
use Rattle.jc_frames_types.specs.Names.{array_of}

-- environment (4.10.1.1): all classes, the class and the method whose code it is, and the code with its frames and handlers
pub record Environment : Type 0 where
  pub classes : List ClassModel
  pub class : ClassModel
  pub method : MethodModel
  pub code : CodeModel

-- the offsets at which instructions stand, the first of them at this one
unfoldable pub starts_from : ℕ → List Ins → List ℕ
starts_from at [] = []
starts_from at (i ∷ is) = at ∷ starts_from (at + ins_size at i) is

-- the number of the first of these places that is the wanted one
abbrev pub number_of : ℕ → List ℕ → Option ℕ
number_of at places = position_from (λ (p : ℕ). nat_eq p at) 0 places

-- the instruction that begins at an offset
abbrev pub ins_at : List Ins → ℕ → Option Ins
ins_at ins at = option_and_then (slice_get ins) (number_of at (starts_from 0 ins))

-- offsetStackFrame (4.10.1.4): the frame that the StackMapTable has for an offset
abbrev pub frame_places : List Frame → List ℕ
frame_places frames = map (λ (f : Frame). f.at) frames

abbrev pub frame_at : List Frame → ℕ → Option Frame
frame_at frames at = option_and_then (slice_get frames) (number_of at (frame_places frames))

-- the type of an array of the class or array type that an instruction names; nothing where it names none
abbrev pub array_by : Operand → List ℕ
array_by (op.Class name) = array_of name
array_by _ = []

abbrev pub array_made : Ins → List ℕ
array_made i = array_by i.operand
