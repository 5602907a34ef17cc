-- What an exception may make on its way, once it passed what waited nearest.
use Rattle.std.proofs.Common.{◌≡◌, ◌∷◌, ℕ, Bool, true, false, List, sym, subst, ap, if◌then◌else◌}
use Rattle.std.specs.Prelude.{IsTrue, is_some}
use Rattle.std.specs.declared.option.Option.{Option}
use Rattle.std.specs.declared.option.Option.TheVariants.{Some, None}
use Rattle.jc_class_out.specs.declared.model.ClassModel.{ClassModel}
use Rattle.jc_jvm.specs.Thrown.{fault_class, handler_of, is_error}
use Rattle.jc_jvm.specs.declared.frame.Frame.{Frame}
use Rattle.jc_jvm.specs.declared.frame.Waiting.{Waiting}
use Rattle.jc_jvm.specs.declared.frame.Waiting.TheVariants.{Caller, Prepared, Initialising}
use Rattle.jc_jvm.specs.declared.world.Fault.TheVariants.{ExceptionInInitializer}
use Rattle.jc_waiting.specs.Memory.{fault_makes, unwound_makes}
use Rattle.jc_waiting.specs.Passing.{GoesOnMaking}
use Rattle.jc_waiting.specs.declared.onward.Passed.TheVariants.{Goes}

-- a frame that doesn't handle it
pub frame_passed : (classes : List ClassModel) (now : Frame) (waiting : List Waiting) (k address : ℕ) → handler_of classes k now ≡ None → GoesOnMaking classes (unwound_makes classes (Caller now ∷ waiting) k) waiting (Goes k address)
frame_passed classes now waiting k address none h =
    let P : Option ℕ → Type 0 = λ o. (elim o [ Some to ↦ false | None ↦ unwound_makes classes waiting k ]) ≡ true in subst P (sym none) h

-- a class whose initialiser hasn't begun
pub prepared_passed : (classes : List ClassModel) (c : ℕ) (waiting : List Waiting) (k address : ℕ) → GoesOnMaking classes (unwound_makes classes (Prepared c ∷ waiting) k) waiting (Goes k address)
prepared_passed classes c waiting k address h = h

-- an initialiser that an Error leaves
pub error_passed : (classes : List ClassModel) (c : ℕ) (waiting : List Waiting) (k address : ℕ) → is_error classes k ≡ true → GoesOnMaking classes (unwound_makes classes (Initialising c ∷ waiting) k) waiting (Goes k address)
error_passed classes c waiting k address error h = let P : Bool → Type 0 = λ b. (if b then unwound_makes classes waiting k else fault_makes classes ExceptionInInitializer) ≡ true in subst P (sym error) h

-- an initialiser that another exception leaves
pub other_makes : (classes : List ClassModel) (c : ℕ) (waiting : List Waiting) (k wrapper : ℕ) → is_error classes k ≡ false → fault_class classes ExceptionInInitializer ≡ Some wrapper →
    IsTrue (unwound_makes classes (Initialising c ∷ waiting) k)
other_makes classes c waiting k wrapper other there =
    let P : Bool → Type 0 = λ b. (if b then unwound_makes classes waiting k else fault_makes classes ExceptionInInitializer) ≡ true in
    subst P (sym other) (ap (λ (o : Option ℕ). is_some o) there)

pub other_passed : (classes : List ClassModel) (c : ℕ) (waiting : List Waiting) (k wrapper address : ℕ) → is_error classes k ≡ false → fault_class classes ExceptionInInitializer ≡ Some wrapper →
    GoesOnMaking classes (unwound_makes classes (Initialising c ∷ waiting) k) waiting (Goes wrapper address)
other_passed classes c waiting k wrapper address other there h = other_makes classes c waiting k wrapper other there

pub ruleset passed_rules = (frame_passed, prepared_passed, error_passed, other_makes, other_passed)
