-- How a machine goes on, as the definition's state.
use Rattle.std.specs.Prelude.{ℕ, List}
use Rattle.std.specs.declared.option.Option.{Option}
use Rattle.std.specs.declared.option.Option.TheVariants.{Some, None}
use Rattle.jc_class_out.specs.declared.model.ClassModel.{ClassModel}
use Rattle.jc_jvm.specs.Thrown.{State, Going, Over, unwound}
use Rattle.jc_jvm.specs.declared.frame.Frame.{Frame}
use Rattle.jc_jvm.specs.declared.frame.Waiting.{Waiting}
use Rattle.jc_jvm.specs.Initialising.{resumed}
use Rattle.jc_jvm.specs.Worlds.{state_of_class}
use Rattle.jc_jvm.specs.declared.world.ClassState.{ClassState}
use Rattle.jc_jvm.specs.declared.world.ClassState.TheVariants as state
use Rattle.jc_jvm.specs.declared.world.World.{World}
use Rattle.jc_waiting.specs.declared.initialising.First.{First}
use Rattle.jc_waiting.specs.declared.initialising.First.TheVariants as first
use Rattle.jc_waiting.specs.declared.onward.Onward.{Onward}
use Rattle.jc_waiting.specs.declared.onward.Onward.TheVariants as onward
use Rattle.jc_waiting.specs.declared.onward.Passed.{Passed}
use Rattle.jc_waiting.specs.declared.onward.Passed.TheVariants.{Left, Goes}

-- with this world, frame and what waits
abbrev pub state_of : Onward → World → Frame → List Waiting → State
state_of onward.Runs world now waiting = Going world now waiting
state_of (onward.Ends ending) world now waiting = Over ending

-- the state after an exception passed what waited nearest
abbrev pub state_after : List ClassModel → Passed → World → Frame → List Waiting → State
state_after classes (Left on) world now waiting = state_of on world now waiting
state_after classes (Goes thrown address) world now waiting = unwound classes waiting world thrown address

-- what waits goes on, unless it went on already
abbrev pub state_resumed : List ClassModel → Option Onward → World → Frame → List Waiting → State
state_resumed classes (Some on) world now waiting = state_of on world now waiting
state_resumed classes None world now waiting = resumed classes world waiting

-- what has to be done about a superclass in this state
abbrev pub first_by_state : ℕ → Option ClassState → First
first_by_state before (Some state.Untouched) = first.Untouched before
first_by_state before (Some state.Failed) = first.Failed
first_by_state before _ = first.Nothing

-- a class without a superclass to initialise has nothing to wait for
abbrev pub first_of : World → Option ℕ → First
first_of world (Some before) = first_by_state before (state_of_class world before)
first_of world None = first.Nothing
