-- Where the steps of an operand lead, from its static type on (JLS 5.1). A guard stands where erasure loses what the static type says (JLS 4.6).
use Rattle.std.specs.Prelude.{◌≡◌, ◌⊎◌, ◌&&◌, Bool, true, false, List, [], ◌∷◌}
use Rattle.jc_types.specs.declared.environment.Bounds.{Bounds}
use Rattle.jc_types.specs.declared.erased.Erased.{Erased}
use Rattle.jc_types.specs.declared.form.Ty.{Ty}
use Rattle.jc_types.specs.declared.form.Ty.TheVariants.{Prim}
use Rattle.jc_types.specs.declared.table.Table.{Table}
use Rattle.jc_types.specs.Erasing.{erasure}
use Rattle.jc_types.specs.Reifying.{reifiable}
use Rattle.jc_running.specs.declared.seen.Check.{Check}
use Rattle.jc_running.specs.declared.seen.Check.TheVariants.{WrittenCast, ReadGuard, UseGuard, EntryGuard}
use Rattle.jc_judge.specs.declared.question.Answer.TheVariants.{Yes}
use Rattle.jc_judge.specs.Deciding.{answer_of}
use Rattle.jc_judge.specs.Kinds.{primitive_below}
use Rattle.jc_convert.specs.Casting.{is_numeric}
use Rattle.jc_boxes.specs.Boxes.{boxed}
use Rattle.jc_convert.specs.Converting.{box, converts_unchecked}
use Rattle.jc_convert.specs.Steps.{IsBetween, IsBoxAbove}
use Rattle.jc_typed.specs.Trees.{Step, Widen, Narrow, BoxUp, Unbox, Up, Test}

-- Why a value may go up to a type: its own is below that, or an unchecked conversion goes there, or it is the class of a primitive type above it
abbrev pub MayGoUp : Table → List Bounds → Ty → Ty → Type 0
MayGoUp T env s t = (answer_of T 64 env s t ≡ Yes) ⊎ ((converts_unchecked T env s t ≡ true) ⊎ IsBoxAbove T env s t)

-- An unchecked conversion has a warning but to a type whose arguments are all `?` (JLS 5.1.9). So without one what goes up is below the type, or that is reifiable
abbrev pub Rises : Table → List Bounds → Ty → Ty → Bool → Type 0
Rises T env s t true = (converts_unchecked T env s t ≡ true) × (reifiable T t ≡ false)
Rises T env s t false = (answer_of T 64 env s t ≡ Yes) ⊎ (((converts_unchecked T env s t ≡ true) × (reifiable T t ≡ true)) ⊎ IsBoxAbove T env s t)

-- the steps of a cast never say that a warning stands there, since the cast itself does (JLS 5.5.2)
abbrev pub RisesInCast : Table → List Bounds → Ty → Ty → Bool → Type 0
RisesInCast T env s t true = ⊥
RisesInCast T env s t false = MayGoUp T env s t

-- What a guard stands for: a read guard tests for the erasure of the static type, a use guard for that too, or for one that the value is used as where it stands. `t` is the type behind the step
abbrev pub IsGuard : (Erased → Type 0) → Table → List Bounds → Check → Ty → Erased → Ty → Type 0
IsGuard Used T env ReadGuard s e t = (t ≡ s) × (e ≡ erasure T env s)
IsGuard Used T env UseGuard s e t = (t ≡ s) × ((e ≡ erasure T env s) ⊎ Used e)
IsGuard Used T env WrittenCast s e t = ⊥
IsGuard Used T env EntryGuard s e t = ⊥

-- .. and in a cast a written test too, for the erasure of the type that the test goes to: that is the one of the cast, from the cast's operand, or it is reifiable (JLS 5.5.2)
abbrev pub IsCastTest : Ty → Ty → Table → List Bounds → Check → Ty → Erased → Ty → Type 0
IsCastTest from to T env ReadGuard s e t = IsGuard (λ f. ⊥) T env ReadGuard s e t
IsCastTest from to T env UseGuard s e t = IsGuard (λ f. ⊥) T env UseGuard s e t
IsCastTest from to T env WrittenCast s e t = (e ≡ erasure T env t) × (((s ≡ from) × (t ≡ to)) ⊎ (reifiable T t ≡ true))
IsCastTest from to T env EntryGuard s e t = ⊥

-- one step, from a type to another, and one after the other; `unchecked` says that a warning stands at a step upwards
module _ (Test_by : Table → List Bounds → Check → Ty → Erased → Ty → Type 0) (Up_by : Table → List Bounds → Ty → Ty → Bool → Type 0) (T : Table) (env : List Bounds) where
  abbrev pub IsStepBy : Ty → Step → Ty → Type 0
  IsStepBy s (Widen q) t = IsBetween (λ p q. primitive_below p q ≡ true) s q t
  IsStepBy s (Narrow q) t = IsBetween (λ p q. (is_numeric p && is_numeric q) ≡ true) s q t
  IsStepBy s (BoxUp p) t = (s ≡ Prim p) × (t ≡ box T p)
  IsStepBy s (Unbox p) t = (s ≡ box T p) × (t ≡ Prim p)
  IsStepBy s (Up x unchecked) t = (t ≡ x) × Up_by T env s t unchecked
  IsStepBy s (Test check e) t = Test_by T env check s e t

  abbrev pub LeadsBy : Ty → List Step → Ty → Type 0
  LeadsBy s [] t = s ≡ t
  LeadsBy s (x ∷ xs) t = (m : Ty) × IsStepBy s x m × LeadsBy m xs t

-- .. where a value may be used as one of these erased types
abbrev pub LeadsAs : (Erased → Type 0) → Table → List Bounds → Ty → List Step → Ty → Type 0
LeadsAs Used T env = LeadsBy (IsGuard Used) Rises T env

abbrev pub Leads : Table → List Bounds → Ty → List Step → Ty → Type 0
Leads T env = LeadsAs (λ e. ⊥) T env

-- .. of a branch of a conditional, whose value goes up, as one of its own type or of the class of that, to a least upper bound of such types (JLS 15.25): by being that bound it is above them
abbrev pub RisesTo : Ty → Ty → Table → List Bounds → Ty → Ty → Bool → Type 0
RisesTo v u T env s t unchecked = (unchecked ≡ false) × (s ≡ v) × (t ≡ u)

abbrev pub LiftsTo : Table → List Bounds → Ty → List Step → Ty → Type 0
LiftsTo T env s ss u = LeadsBy (IsGuard (λ e. ⊥)) (RisesTo (boxed T s) u) T env s ss u

-- .. of a cast
abbrev pub CastLeads : Table → List Bounds → Ty → List Step → Ty → Type 0
CastLeads T env s ss t = LeadsBy (IsCastTest s t) RisesInCast T env s ss t

-- one of these steps goes up by an unchecked conversion, be it to a type whose arguments are all `?`
abbrev pub IsUncheckedUp : Table → List Bounds → Ty → Step → Type 0
IsUncheckedUp T env s (Up x unchecked) = converts_unchecked T env s x ≡ true
IsUncheckedUp T env s _ = ⊥

abbrev pub GoesUnchecked : (Erased → Type 0) → Table → List Bounds → Ty → List Step → Type 0
GoesUnchecked Used T env s [] = ⊥
GoesUnchecked Used T env s (x ∷ xs) = IsUncheckedUp T env s x ⊎ ((m : Ty) × IsStepBy (IsGuard Used) Rises T env s x m × GoesUnchecked Used T env m xs)
