-- Well-formed types (JLS 4.5).
use Rattle.std.specs.Prelude.{◌≡◌, ℕ, ◌+◌, ◌==◌, Bool, true, false, Option, Some, None, List, [], ◌∷◌, ◌++◌, length, map}
use Rattle.jc_rules.specs.declared.stop.Stop.{Stop}
use Rattle.jc_rules.specs.declared.stop.Stop.TheVariants.{Refused, WantOfMemory}
use Rattle.jc_types.specs.declared.form.Ty.{Ty, Ty-F, out-Ty}
use Rattle.jc_types.specs.declared.form.Ty.TheVariants.{Class}
use Rattle.jc_types.specs.declared.form.Arg.{Arg, Arg-F, out-Arg}
use Rattle.jc_types.specs.declared.ids.VarId.{VarId}
use Rattle.jc_types.specs.declared.table.Table.{Table}
use Rattle.jc_types.specs.declared.environment.Bounds.{Bounds}
use Rattle.jc_types.specs.Accessors.{vars_of}
use Rattle.jc_types.specs.Inside.{inside}
use Rattle.jc_judge.specs.declared.question.Part.{Part}
use Rattle.jc_judge.specs.declared.question.Part.TheVariants.{Ask}
use Rattle.jc_judge.specs.declared.question.Answer.{Answer}
use Rattle.jc_judge.specs.declared.question.Answer.TheVariants.{Yes, No, Deep}
use Rattle.jc_judge.specs.declared.faults.TypeFault.{TypeFault}
use Rattle.jc_judge.specs.declared.faults.TypeFault.TheVariants as fault
use Rattle.jc_judge.specs.Kinds.{ArgLayer, Layer, is_primitive}
use Rattle.jc_judge.specs.Capturing.{captured_args, fresh_args, put_bounds, meets_at}
use Rattle.jc_judge.specs.Trees.{Answers, Proof, Refute, PartProved, PartRefuted, Each, OneOf}

-- Yes exactly where each of these has a proof of height 64, and No exactly where one of them has a refutation
abbrev pub Verdict : Table → List Bounds → List Part → Answer → Type 0
Verdict T env parts a = Answers (Each (PartProved (Proof T 64 env)) parts) (OneOf (PartRefuted (Refute T 64 env)) parts) a

-- what an argument is captured as is below each of its declared bounds
abbrev pub upper_parts : Ty → List Ty → List Part
upper_parts s bounds = map (Ask s) bounds

-- L of `? super L` is below each of the declared bounds
abbrev pub lower_parts : ArgLayer → List Ty → List Part
lower_parts (Arg-F.Super l) bounds = map (Ask l) bounds
lower_parts _ bounds = []

-- the argument is a primitive type, or a wildcard with one for its bound
abbrev pub is_primitive_arg : ArgLayer → Bool
is_primitive_arg (Arg-F.Exact t) = is_primitive t
is_primitive_arg Arg-F.Any = false
is_primitive_arg (Arg-F.Extends t) = is_primitive t
is_primitive_arg (Arg-F.Super t) = is_primitive t

-- fresh variables with no bound but Object
abbrev pub bare : List Bounds → List Bounds
bare [] = []
bare (b ∷ bs) = record { uppers = Class (record { 0 = 0 }) [] ∷ []; lower = None } ∷ bare bs

-- none where both hold; where no answer is No, a question that stays open is the fault
abbrev pub unless_deep : Answer → Answer → Option TypeFault
unless_deep Yes Yes = None
unless_deep _ _ = Some fault.Deep

-- the fault of argument i, that of the least rule, by the verdicts on its upper and its lower parts
abbrev pub arg_fault : ℕ → Answer → Answer → Bool → Option TypeFault
arg_fault i No lower meets = Some (fault.Bound i)
arg_fault i Yes No meets = Some (fault.SuperBound i)
arg_fault i Deep No meets = Some (fault.SuperBound i)
arg_fault i upper lower true = Some (fault.ClassesMeet i)
arg_fault i upper lower false = unless_deep upper lower

-- the first fault, or what is found in the rest
abbrev pub OrElse : Option TypeFault → (Option TypeFault → Type 0) → Option TypeFault → Type 0
OrElse None rest found = rest found
OrElse (Some f) rest found = found ≡ Some f

-- `found` is the fault of argument i, a reference, which is captured as s. The env has the fresh variables in `full`, and has
-- them with no bound but Object in `plain`
pub record ReferenceChecked (T : Table) (full plain : List Bounds) (bounds : List Ty) (i : ℕ) (s : Ty) (a : Arg) (found : Option TypeFault) : Type 0 where
  pub upper : Answer
  pub lower : Answer
  pub upper_is : Verdict T full (upper_parts s bounds) upper
  pub lower_is : Verdict T plain (lower_parts (out-Arg a) bounds) lower
  pub found_is : found ≡ arg_fault i upper lower (meets_at T bounds (out-Arg a))

-- a primitive argument, or a wildcard with a primitive bound, has that fault alone: its declared bounds aren't asked
abbrev pub KindChecked : Table → List Bounds → List Bounds → List Ty → ℕ → Ty → Arg → Option TypeFault → Bool → Type 0
KindChecked T full plain bounds i s a found true = found ≡ Some (fault.PrimitiveArgument i)
KindChecked T full plain bounds i s a found false = ReferenceChecked T full plain bounds i s a found

-- `found` is the fault of argument i, primitive or not
abbrev pub ArgChecked : Table → List Bounds → List Bounds → List Ty → ℕ → Ty → Arg → Option TypeFault → Type 0
ArgChecked T full plain bounds i s a found = KindChecked T full plain bounds i s a found (is_primitive_arg (out-Arg a))

-- the fault of the first argument that has one, from argument i on, where `by` stands for the parameters `vars`
abbrev pub ArgsChecked : Table → List Bounds → List Bounds → List VarId → List Ty → ℕ → List VarId → List Ty → List Arg → Option TypeFault → Type 0
ArgsChecked T full plain vars by i [] ss args found = found ≡ None
ArgsChecked T full plain vars by i (p ∷ ps) [] args found = found ≡ None
ArgsChecked T full plain vars by i (p ∷ ps) (s ∷ ss) [] found = found ≡ None
ArgsChecked T full plain vars by i (p ∷ ps) (s ∷ ss) (a ∷ args) found =
    (f : Option TypeFault) × ArgChecked T full plain (put_bounds T vars by p) i s a f × OrElse f (ArgsChecked T full plain vars by (i + 1) ps ss args) found

-- of a class type with as many arguments as its class has parameters
abbrev pub ClassChecked : Table → List Bounds → List VarId → List Ty → List Arg → Option TypeFault → Type 0
ClassChecked T env vars by args found =
    let fresh = fresh_args T vars by vars args in ArgsChecked T (env ++ fresh) (env ++ bare fresh) vars by 0 vars by args found

-- another number of arguments than the class has parameters is the fault, whatever else there is
abbrev pub CountChecked : Table → List Bounds → List VarId → List Arg → Bool → Option TypeFault → Type 0
CountChecked T env vars args true found = ClassChecked T env vars (captured_args (length env) args) args found
CountChecked T env vars args false found = found ≡ Some fault.Count

-- what is no class type has no fault of its own, nor has a raw type
abbrev pub OwnChecked_at : Table → List Bounds → Layer → Option TypeFault → Type 0
OwnChecked_at T env (Ty-F.Class id args) found = CountChecked T env (vars_of T id) args (length args == length (vars_of T id)) found
OwnChecked_at T env _ found = found ≡ None

-- `found` is the type's own fault: that of its count, or of its first argument with one
unfoldable pub OwnChecked : Table → List Bounds → Ty → Option TypeFault → Type 0
OwnChecked T env t found = OwnChecked_at T env (out-Ty t) found

-- `found` is the fault of the first of these types that has one of its own
abbrev pub AllChecked : Table → List Bounds → List Ty → Option TypeFault → Type 0
AllChecked T env [] found = found ≡ None
AllChecked T env (t ∷ ts) found = (f : Option TypeFault) × OwnChecked T env t f × OrElse f (AllChecked T env ts) found

-- `found` is the fault of the first class type in the type that has one, and None where the type is well formed
abbrev pub IsChecked : Table → List Bounds → Ty → Option TypeFault → Type 0
IsChecked T env t found = AllChecked T env (inside t) found

-- why a check stopped: want of memory says nothing
abbrev pub IsCheckStop : Table → List Bounds → Ty → Stop TypeFault → Type 0
IsCheckStop T env t (Refused f) = IsChecked T env t (Some f)
IsCheckStop T env t WantOfMemory = Unit {0}
