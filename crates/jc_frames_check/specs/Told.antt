-- What functions answer and are given, as the definitions have it.
use Rattle.std.specs.Prelude.{ℕ, Bool, true, false, List, [], ◌∷◌}
use Rattle.std.specs.declared.option.Option.{Option}
use Rattle.std.specs.declared.option.Option.TheVariants.{Some, None}
use Rattle.jc_frames_types.specs.States.{TypeState}
use Rattle.jc_frames_check.specs.declared.methods.FrameFault.{FrameFault}

abbrev pub told : Option FrameFault → Option (ℕ × ℕ)
told (Some f) = Some (f.method, f.at)
told None = None

-- the state, where one comes to an instruction from before
abbrev pub coming : Bool → TypeState → Option TypeState
coming true s = Some s
coming false s = None

-- the first of some names, or none of any unit
abbrev pub first_name : List (List ℕ) → List ℕ
first_name [] = []
first_name (name ∷ names) = name
