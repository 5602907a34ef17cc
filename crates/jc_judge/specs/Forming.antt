-- Whether a type is well formed, as far as its bounds go (JLS 4.5), and all faults of a class type.
use Rattle.std.specs.Prelude.{ℕ, ◌+◌, ◌==◌, ◌||◌, Bool, true, false, Option, Some, None, List, [], ◌∷◌, ◌++◌, length, ◌⊎◌, if◌then◌else◌}
use Rattle.jc_types.specs.declared.form.Ty.{Ty, Ty-F, out-Ty}
use Rattle.jc_types.specs.declared.form.Arg.{Arg, out-Arg}
use Rattle.jc_types.specs.declared.ids.VarId.{VarId}
use Rattle.jc_types.specs.declared.table.Table.{Table}
use Rattle.jc_types.specs.declared.environment.Bounds.{Bounds}
use Rattle.jc_types.specs.Accessors.{vars_of}
use Rattle.jc_types.specs.Inside.{inside}
use Rattle.jc_judge.specs.declared.question.Part.{Part}
use Rattle.jc_judge.specs.declared.question.Answer.{Answer}
use Rattle.jc_judge.specs.declared.question.Answer.TheVariants.{Yes, No, Deep}
use Rattle.jc_judge.specs.declared.faults.TypeFault.{TypeFault}
use Rattle.jc_judge.specs.declared.faults.TypeFault.TheVariants as fault
use Rattle.jc_judge.specs.Kinds.{Layer, ArgLayer}
use Rattle.jc_judge.specs.Capturing.{captured_args, fresh_args, put_bounds, meets_at}
use Rattle.jc_judge.specs.Trees.{Trees, PartProved, PartRefuted, Each, OneOf, Proof, Refute, both}
use Rattle.jc_judge.specs.Deciding.{answer_of, part_answer, every_answer}
use Rattle.jc_judge.specs.WellFormed.{upper_parts, lower_parts, is_primitive_arg, bare}

-- what has to hold of an argument that is captured as s, whose parameter has these bounds. A primitive one is asked nothing
abbrev pub captured_parts : Ty → ArgLayer → List Ty → List Part
captured_parts s a bounds = if is_primitive_arg a then [] else upper_parts s bounds

-- what has to hold of the lower bound of a super wildcard. A primitive one is asked nothing
abbrev pub bare_parts : ArgLayer → List Ty → List Part
bare_parts a bounds = if is_primitive_arg a then [] else lower_parts a bounds

-- of all arguments, where `by` stands for the parameters `vars`: what has to hold in the env with the fresh variables
abbrev pub all_captured : Table → List VarId → List Ty → List VarId → List Ty → List Arg → List Part
all_captured T vars by [] ss args = []
all_captured T vars by (p ∷ ps) [] args = []
all_captured T vars by (p ∷ ps) (s ∷ ss) [] = []
all_captured T vars by (p ∷ ps) (s ∷ ss) (a ∷ args) =
    captured_parts s (out-Arg a) (put_bounds T vars by p) ++ all_captured T vars by ps ss args

-- and what has to hold where they have no bound but Object
abbrev pub all_bare : Table → List VarId → List Ty → List VarId → List Arg → List Part
all_bare T vars by [] args = []
all_bare T vars by (p ∷ ps) [] = []
all_bare T vars by (p ∷ ps) (a ∷ args) = bare_parts (out-Arg a) (put_bounds T vars by p) ++ all_bare T vars by ps args

-- what a type's own arguments ask: parts of an env with the fresh variables, and of one where they are bare
pub record Needs : Type 0 where
  pub full : List Bounds
  pub captured : List Part
  pub plain : List Bounds
  pub lower : List Part

-- nothing is asked
abbrev pub no_needs : Needs
no_needs = record { full = []; captured = []; plain = []; lower = [] }

-- of a class type with as many arguments as its class has parameters, where the env has the variables captured before
abbrev pub class_needs : Table → List Bounds → List VarId → List Arg → Needs
class_needs T env vars args =
    let by = captured_args (length env) args in
    let fresh = fresh_args T vars by vars args in
    record {
      full = env ++ fresh;
      captured = all_captured T vars by vars by args;
      plain = env ++ bare fresh;
      lower = all_bare T vars by vars args;
    }

-- a class type with another number of arguments than its class has parameters counts as raw, and a raw type asks nothing
abbrev pub counted_needs : Table → List Bounds → List VarId → List Arg → Bool → Needs
counted_needs T env vars args true = class_needs T env vars args
counted_needs T env vars args false = no_needs

-- what is no class type asks nothing, nor does a raw type
abbrev pub needs_at : Table → List Bounds → Layer → Needs
needs_at T env (Ty-F.Class id args) = counted_needs T env (vars_of T id) args (length args == length (vars_of T id))
needs_at T env _ = no_needs

-- what the type itself asks: types inside its arguments ask for themselves
unfoldable pub needs : Table → List Bounds → Ty → Needs
needs T env t = needs_at T env (out-Ty t)

-- after capture each argument is within its declared bounds, and so is the lower bound of each super wildcard where the fresh
-- variables are bare, by trees of subtyping
abbrev pub IsFormedBy : Trees → Needs → Type 0
IsFormedBy tree n = Each (PartProved (tree n.full)) n.captured × Each (PartProved (tree n.plain)) n.lower

-- one of them isn't
abbrev pub IsIllBy : Trees → Needs → Type 0
IsIllBy tree n = OneOf (PartRefuted (tree n.full)) n.captured ⊎ OneOf (PartRefuted (tree n.plain)) n.lower

-- each of these types is well formed, as far as its own arguments go
abbrev pub AllFormed : Trees → Table → List Bounds → List Ty → Type 0
AllFormed tree T env [] = Unit {0}
AllFormed tree T env (t ∷ ts) = IsFormedBy tree (needs T env t) × AllFormed tree T env ts

-- one of these types is ill formed, as far as its own arguments go
abbrev pub OneIll : Trees → Table → List Bounds → List Ty → Type 0
OneIll tree T env [] = ⊥
OneIll tree T env (t ∷ ts) = IsIllBy tree (needs T env t) ⊎ OneIll tree T env ts

-- a type is well formed: each class type inside it is, itself included. A relation stands for the trees of subtyping
abbrev pub Formed : Trees → Table → List Bounds → Ty → Type 0
Formed tree T env t = AllFormed tree T env (inside t)

-- and it isn't: one of them isn't
abbrev pub Ill : Trees → Table → List Bounds → Ty → Type 0
Ill tree T env t = OneIll tree T env (inside t)

-- by trees of at most this height
abbrev pub IsWellFormed : Table → ℕ → List Bounds → Ty → Type 0
IsWellFormed T d env t = Formed (Proof T d) T env t

abbrev pub IsIllFormed : Table → ℕ → List Bounds → Ty → Type 0
IsIllFormed T d env t = Ill (Refute T d) T env t

-- whether all these hold, by trees of at most this height
abbrev pub all_hold : Table → ℕ → List Bounds → List Part → Answer
all_hold T d env parts = every_answer (part_answer (answer_of T d env)) parts

-- whether all that a type's own arguments ask holds, each in its own env
abbrev pub needs_answer : Table → ℕ → Needs → Answer
needs_answer T d n = both (all_hold T d n.full n.captured) (all_hold T d n.plain n.lower)

-- whether each of these types is well formed by itself
abbrev pub all_formed_answer : Table → ℕ → List Bounds → List Ty → Answer
all_formed_answer T d env [] = Yes
all_formed_answer T d env (t ∷ ts) = both (needs_answer T d (needs T env t)) (all_formed_answer T d env ts)

-- whether a type is well formed, by trees of at most this height: Yes where it is, No where it isn't, and Deep where neither is known
unfoldable pub formed_answer : Table → ℕ → List Bounds → Ty → Answer
formed_answer T d env t = all_formed_answer T d env (inside t)

-- the answer is No
abbrev pub is_no : Answer → Bool
is_no No = true
is_no _ = false

-- the answer is Deep
abbrev pub is_deep : Answer → Bool
is_deep Deep = true
is_deep _ = false

-- this fault where the condition holds, and none where it doesn't
abbrev pub fault_if : Bool → TypeFault → List TypeFault
fault_if true f = f ∷ []
fault_if false f = []

-- the faults of argument i, which is no primitive type, by the answers on its upper and its lower parts, in the order of the rules
abbrev pub reference_faults : ℕ → Answer → Answer → Bool → List TypeFault
reference_faults i upper lower meets =
    fault_if (is_no upper) (fault.Bound i) ++ fault_if (is_no lower) (fault.SuperBound i) ++ fault_if meets (fault.ClassesMeet i)
    ++ fault_if (is_deep upper || is_deep lower) fault.Deep

-- a primitive argument breaks its own rule alone
abbrev pub faults_of_arg : Table → List Bounds → List Bounds → List Ty → ℕ → Ty → Arg → Bool → List TypeFault
faults_of_arg T full plain bounds i s a true = fault.PrimitiveArgument i ∷ []
faults_of_arg T full plain bounds i s a false =
    reference_faults i (all_hold T 64 full (upper_parts s bounds)) (all_hold T 64 plain (lower_parts (out-Arg a) bounds)) (meets_at T bounds (out-Arg a))

-- the faults of argument i, captured as s, whose parameter has these bounds, with the fresh variables in `full` and bare ones in `plain`
abbrev pub arg_faults : Table → List Bounds → List Bounds → List Ty → ℕ → Ty → Arg → List TypeFault
arg_faults T full plain bounds i s a = faults_of_arg T full plain bounds i s a (is_primitive_arg (out-Arg a))

-- those of all arguments from number i on, which are captured as `ss`, where `by` stands for the parameters `vars`
abbrev pub args_faults : Table → List Bounds → List Bounds → List VarId → List Ty → ℕ → List VarId → List Ty → List Arg → List TypeFault
args_faults T full plain vars by i [] ss args = []
args_faults T full plain vars by i (p ∷ ps) [] args = []
args_faults T full plain vars by i (p ∷ ps) (s ∷ ss) [] = []
args_faults T full plain vars by i (p ∷ ps) (s ∷ ss) (a ∷ args) =
    arg_faults T full plain (put_bounds T vars by p) i s a ++ args_faults T full plain vars by (i + 1) ps ss args

-- another number of arguments than the class has parameters is the one fault that there is
abbrev pub counted_faults : Table → List Bounds → List VarId → List Arg → Bool → List TypeFault
counted_faults T env vars args false = fault.Count ∷ []
counted_faults T env vars args true =
    let by = captured_args (length env) args in
    let fresh = fresh_args T vars by vars args in
    args_faults T (env ++ fresh) (env ++ bare fresh) vars by 0 vars by args

-- what is no class type has no fault of its own, nor has a raw type
abbrev pub faults_at : Table → List Bounds → Layer → List TypeFault
faults_at T env (Ty-F.Class id args) = counted_faults T env (vars_of T id) args (length args == length (vars_of T id))
faults_at T env _ = []

-- all faults of a class type, by its arguments in order and at each by the order of the rules (JLS 4.5)
unfoldable pub class_faults : Table → List Bounds → Ty → List TypeFault
class_faults T env t = faults_at T env (out-Ty t)

-- of each of these types, in their order
abbrev pub all_faults : Table → List Bounds → List Ty → List TypeFault
all_faults T env [] = []
all_faults T env (t ∷ ts) = class_faults T env t ++ all_faults T env ts

-- of each class type inside a type, in the order in which they are written
abbrev pub type_faults : Table → List Bounds → Ty → List TypeFault
type_faults T env t = all_faults T env (inside t)

-- None where there is no fault
abbrev pub first_fault : List TypeFault → Option TypeFault
first_fault [] = None
first_fault (f ∷ fs) = Some f
