-- Whether a step makes an object, an array, a string or a frame. No other step takes memory.
use Rattle.std.specs.Prelude.{Bool, false, List}
use Rattle.std.specs.declared.option.Option.{Option}
use Rattle.std.specs.declared.option.Option.TheVariants.{Some, None}
use Rattle.jc_class_out.specs.declared.model.ClassModel.{ClassModel}
use Rattle.jc_jvm.specs.Thrown.{State, Going, Over}
use Rattle.jc_jvm.specs.declared.frame.Frame.{Frame}
use Rattle.jc_jvm.specs.declared.frame.Waiting.{Waiting}
use Rattle.jc_jvm.specs.declared.world.World.{World}
use Rattle.jc_rows.specs.Laid.{row_at}
use Rattle.jc_rows.specs.declared.row.Placed.{Placed}
use Rattle.jc_stepping.specs.Makes.{row_step_makes}

-- the same of the instruction at the frame's place; where there is none, the step makes nothing
abbrev pub placed_makes : List ClassModel → World → Frame → List Waiting → Option Placed → Bool
placed_makes classes world now waiting (Some placed) = row_step_makes classes world placed.next now waiting placed.row
placed_makes classes world now waiting None = false

-- the step from a state
abbrev pub step_makes : List ClassModel → State → Bool
step_makes classes (Going world now waiting) = placed_makes classes world now waiting (row_at classes now.class now.method now.at)
step_makes classes (Over ending) = false
