-- Frames of one byte, and how each frame is seen from the one before it (JVMS 4.7.4).
use Rattle.std.specs.Prelude.{ℕ, ◌-◌, Bool, List, [], length, Option, Some, None, Result, Ok}
use Rattle.std.specs.List.{slice_get}
use Rattle.jc_class_out.specs.declared.format.Flaw.{Flaw}
use Rattle.jc_class_out.specs.declared.model.Frame.{Frame}
use Rattle.jc_class_out.specs.declared.model.Item.{Item}
use Rattle.jc_class_out.specs.Reading.{◌>>=◌, wants}
use Rattle.jc_class_out.specs.Frames.{begins, place_of}

-- 0 to 63: the same locals, and nothing on the stack; so many bytes are left from the tag on
abbrev pub same_at : List Bool → Option ℕ → List Item → ℕ → ℕ → List ℕ → Result (Frame × List ℕ) Flaw
same_at marks before locals left delta bytes = wants (begins marks (place_of before delta)) left >>= λ _. Ok (record { at = place_of before delta; locals = locals; stack = [] }, bytes)

-- the last of some frames and its place; None where there is no frame yet
abbrev pub last_of : List Frame → Option Frame
last_of frames = slice_get frames (length frames - 1)

abbrev pub place_before : Option Frame → Option ℕ
place_before None = None
place_before (Some f) = Some f.at

-- before the first frame the locals are those at the method's entry
abbrev pub locals_before : List Item → Option Frame → List Item
locals_before entry None = entry
locals_before entry (Some f) = f.locals
