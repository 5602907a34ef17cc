-- What a step did, as the definition's step.
use Rattle.std.specs.Prelude.{◌≡◌, List}
use Rattle.jc_class_out.specs.declared.model.ClassModel.{ClassModel}
use Rattle.jc_jvm.specs.Calls.{Step, Moves, Asks, Quiet, Puts, settled, byte_read}
use Rattle.jc_jvm.specs.Frames.{pushes}
use Rattle.jc_jvm.specs.declared.frame.Frame.{Frame}
use Rattle.jc_jvm.specs.declared.frame.Waiting.{Waiting}
use Rattle.jc_jvm.specs.declared.world.World.{World}
use Rattle.jc_waiting.specs.Onwards.{state_of}
use Rattle.jc_stepping.specs.declared.did.Did.{Did}
use Rattle.jc_stepping.specs.declared.did.Did.TheVariants as did

-- with this world, frame and what waits
abbrev pub step_done : List ClassModel → Did → World → Frame → List Waiting → Step
step_done classes (did.Moves on) world now waiting = Moves Quiet (state_of on world now waiting)
step_done classes (did.Puts byte on) world now waiting = Moves (Puts byte) (state_of on world now waiting)
step_done classes (did.Asks next) world now waiting = Asks (λ byte. settled classes world waiting (pushes next now now.stack.values (byte_read byte)))

-- where it asks for a byte, all is as it was
abbrev pub KeptWhenAsks : Did → World → Frame → List Waiting → World → Frame → List Waiting → Type 0
KeptWhenAsks (did.Asks next) world now waiting world' now' waiting' = (world' ≡ world) × (now' ≡ now) × (waiting' ≡ waiting)
KeptWhenAsks _ world now waiting world' now' waiting' = Unit {0}

-- it asks for nothing
abbrev pub NeverAsks : Did → Type 0
NeverAsks (did.Asks next) = ⊥
NeverAsks _ = Unit {0}
