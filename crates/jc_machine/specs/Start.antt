-- Where a run begins.
use Rattle.std.specs.Prelude.{ℕ, ◌-◌, List, [], ◌∷◌, position, replicate, slice_get, option_and_then}
use Rattle.std.specs.Option.{option_map}
use Rattle.std.specs.declared.option.Option.{Option}
use Rattle.std.specs.declared.option.Option.TheVariants.{Some, None}
use Rattle.jc_class_out.specs.declared.model.ClassModel.{ClassModel}
use Rattle.jc_class_out.specs.declared.model.CodeModel.{CodeModel}
use Rattle.jc_machine.specs.declared.frame.Active.{Active}
use Rattle.jc_machine.specs.declared.value.Value.TheVariants.{NullValue}
use Rattle.jc_machine.specs.Names.{spelling, class_spelled, is_main}
use Rattle.jc_machine.specs.Table.{State, Going}

-- The frame of a main with this code. Its first local is a reference that nothing reads, the others hold nothing.
abbrev pub main_frame : ℕ → ℕ → CodeModel → Active
main_frame class method code = record {
  class = class;
  method = method;
  at = 0;
  locals = Some NullValue ∷ replicate (code.locals - 1) None;
  stack = record { values = []; limit = code.stack };
}

-- the frame of the first main of a class
abbrev pub frame_in : ℕ → ClassModel → Option Active
frame_in class c =
    option_and_then (λ method. option_and_then (λ m. option_map (main_frame class method) m.code) (slice_get c.methods method)) (position is_main c.methods)

-- the frame of the first main of the first class whose name is spelled so
abbrev pub first_frame : List ClassModel → List ℕ → Option Active
first_frame classes units =
    option_and_then (λ class. option_and_then (frame_in class) (slice_get classes class)) (class_spelled classes units)

-- The arguments are not made yet, since no row reads them.
abbrev pub begins : List (List ℕ) → Active → State
begins arguments frame = Going frame []

-- the state before the first step, where the first class of this binary name has a main
abbrev pub start_of : List ClassModel → List ℕ → List (List ℕ) → Option State
start_of classes name arguments = option_map (begins arguments) (first_frame classes (spelling name))
