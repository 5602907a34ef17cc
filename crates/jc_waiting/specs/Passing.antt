-- What is known of what an exception may still make, once it passed what waited nearest.
use Rattle.std.specs.Prelude.{Bool, IsTrue, List}
use Rattle.jc_class_out.specs.declared.model.ClassModel.{ClassModel}
use Rattle.jc_jvm.specs.declared.frame.Waiting.{Waiting}
use Rattle.jc_waiting.specs.Memory.{unwound_makes}
use Rattle.jc_waiting.specs.declared.onward.Passed.{Passed}
use Rattle.jc_waiting.specs.declared.onward.Passed.TheVariants.{Left, Goes}

-- where it goes on and makes something, it did so before too
abbrev pub GoesOnMaking : List ClassModel → Bool → List Waiting → Passed → Type 0
GoesOnMaking classes before waiting (Left on) = Unit {0}
GoesOnMaking classes before waiting (Goes thrown address) = IsTrue (unwound_makes classes waiting thrown) → IsTrue before
