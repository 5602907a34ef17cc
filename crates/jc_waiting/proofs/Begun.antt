-- How the initialisation of a class begins, by what has to be done about its superclass.
use Rattle.std.proofs.Common.{◌≡◌, ◌<◌, ◌-◌, ℕ, zero, suc, List, ◌∷◌, refl, arith}
use Rattle.std.specs.declared.option.Option.{Option}
use Rattle.std.specs.declared.option.Option.TheVariants.{Some, None}
use Rattle.jc_class_out.specs.declared.model.ClassModel.{ClassModel}
use Rattle.jc_jvm.specs.Initialising.{initialised_on, first_super, resumed}
use Rattle.jc_jvm.specs.Thrown.{State, Over, fault_among}
use Rattle.jc_jvm.specs.Worlds.{with_state, state_of_class}
use Rattle.jc_jvm.specs.declared.frame.Waiting.{Waiting}
use Rattle.jc_jvm.specs.declared.frame.Waiting.TheVariants.{Prepared}
use Rattle.jc_jvm.specs.declared.world.ClassState.{ClassState}
use Rattle.jc_jvm.specs.declared.world.ClassState.TheVariants.{Untouched, InProgress, Ready, Failed}
use Rattle.jc_jvm.specs.declared.world.Ending.TheVariants.{Stuck}
use Rattle.jc_jvm.specs.declared.world.Fault.TheVariants.{NoClassDefFound}
use Rattle.jc_jvm.specs.declared.world.World.{World}
use Rattle.jc_waiting.specs.Onwards.{first_by_state, first_of}
use Rattle.jc_waiting.specs.declared.initialising.First.{First}
use Rattle.jc_waiting.specs.declared.initialising.First.TheVariants as first

abbrev pub begun_by : List ClassModel → ℕ → First → World → List Waiting → State
begun_by classes n (first.Untouched s) world waiting = initialised_on classes n s world waiting
begun_by classes n first.Failed world waiting = fault_among classes world waiting NoClassDefFound
begun_by classes n first.Nothing world waiting = resumed classes world waiting

by_state : (classes : List ClassModel) (n s : ℕ) (world : World) (waiting : List Waiting) (o : Option ClassState) →
    (elim o [
      | Some Untouched ↦ initialised_on classes n s world waiting
      | Some Failed ↦ fault_among classes world waiting NoClassDefFound
      | _ ↦ resumed classes world waiting
    ]) ≡ begun_by classes n (first_by_state s o) world waiting
by_state classes n s world waiting (Some Untouched) = refl
by_state classes n s world waiting (Some InProgress) = refl
by_state classes n s world waiting (Some Ready) = refl
by_state classes n s world waiting (Some Failed) = refl
by_state classes n s world waiting None = refl

by_super : (classes : List ClassModel) (n : ℕ) (world : World) (waiting : List Waiting) (o : Option ℕ) →
    (elim o [
      | None ↦ resumed classes world waiting
      | Some s ↦ elim (state_of_class world s) [
        | Some Untouched ↦ initialised_on classes n s world waiting
        | Some Failed ↦ fault_among classes world waiting NoClassDefFound
        | _ ↦ resumed classes world waiting
      ]
    ]) ≡ begun_by classes n (first_of world o) world waiting
by_super classes n world waiting None = refl
by_super classes n world waiting (Some s) = by_state classes n s world waiting (state_of_class world s)

begun_suc : (classes : List ClassModel) (n c : ℕ) (world : World) (waiting : List Waiting) →
    initialised_on classes (suc n) c world waiting ≡ begun_by classes n (first_of (with_state InProgress c world) (first_super classes c)) (with_state InProgress c world) (Prepared c ∷ waiting)
unfolding initialised_on
begun_suc classes n c world waiting = by_super classes n (with_state InProgress c world) (Prepared c ∷ waiting) (first_super classes c)

-- with a step left
pub begun : (classes : List ClassModel) (n c : ℕ) (world : World) (waiting : List Waiting) → 0 < n →
    initialised_on classes n c world waiting ≡ begun_by classes (n - 1) (first_of (with_state InProgress c world) (first_super classes c)) (with_state InProgress c world) (Prepared c ∷ waiting)
begun classes zero c world waiting h = absurd (omega arith)
begun classes (suc n) c world waiting h = let e : suc n - 1 ≡ n = omega arith in rw e (begun_suc classes n c world waiting)

-- with none
pub not_begun : (classes : List ClassModel) (c : ℕ) (world : World) (waiting : List Waiting) → initialised_on classes 0 c world waiting ≡ Over Stuck
unfolding initialised_on
not_begun classes c world waiting = refl
