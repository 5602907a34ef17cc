-- The member that a call means (JLS 15.12.2.2 to 15.12.2.6).
use Rattle.std.specs.Prelude.{ℕ, zero, suc, ◌+◌, ◌==◌, Bool, true, false, cond, ◌&&◌, ◌||◌, Option, Some, None, List, [], ◌∷◌, map}
use Rattle.std.specs.Option.{option_map}
use Rattle.jc_types.specs.declared.conversion.Phase.{Phase}
use Rattle.jc_types.specs.declared.conversion.Phase.TheVariants.{Subtyping, Invocation, VariableArity}
use Rattle.jc_types.specs.declared.environment.Bounds.{Bounds}
use Rattle.jc_types.specs.declared.form.Ty.{Ty}
use Rattle.jc_types.specs.declared.table.Table.{Table}
use Rattle.jc_types.specs.Accessors.{has_body}
use Rattle.jc_types.specs.Sameness.{same}
use Rattle.jc_types.specs.Substitution.{subst}
use Rattle.jc_judge.specs.declared.question.Answer.{Answer}
use Rattle.jc_judge.specs.declared.question.Answer.TheVariants.{Yes, No, Deep}
use Rattle.jc_judge.specs.Kinds.{is_primitive}
use Rattle.jc_overriding.specs.declared.view.MethodView.{MethodView}
use Rattle.jc_overriding.specs.Signatures.{adapted, erased_within, override_equivalent}
use Rattle.jc_convert.specs.declared.answer.Converts.{Converts}
use Rattle.jc_convert.specs.declared.answer.Converts.TheVariants as converts
use Rattle.jc_convert.specs.Converting.{invocation}
use Rattle.jc_infer.specs.Asked.{and_then}
use Rattle.jc_resolve.specs.declared.site.CallSite.{CallSite}
use Rattle.jc_resolve.specs.declared.applied.Candidate.{Candidate}
use Rattle.jc_resolve.specs.declared.choice.Choice.{Choice}
use Rattle.jc_resolve.specs.declared.choice.Chosen.{Chosen}
use Rattle.jc_resolve.specs.declared.choice.Choice.TheVariants as choice
use Rattle.jc_resolve.specs.Applying.{gathered}
use Rattle.jc_resolve.specs.Specific.{maximal}

-- ---- the chosen member

-- the result and the thrown types of a call that an unchecked conversion made applicable are erased (JLS 15.12.2.6)
abbrev pub result_type : Table → List Bounds → MethodView → List Ty → Bool → Ty → Ty
result_type T env m by true t = erased_within T env m t
result_type T env m by false t = subst m.vars by t

-- a candidate with its parameters, its result and its thrown types as the call has them
abbrev pub told : Table → List Bounds → Phase → Candidate → Chosen
told T env phase c =
    record {
      member = c.member;
      phase = phase;
      type_args = c.type_args;
      params = map (subst c.member.vars c.type_args) c.member.params;
      formals = c.formals;
      kept = option_map (subst c.member.vars c.type_args) c.member.result;
      result = option_map (result_type T env c.member c.type_args c.unchecked) c.member.result;
      thrown = map (result_type T env c.member c.type_args c.unchecked) c.member.thrown;
      unchecked = c.unchecked;
    }

-- .. as the choice
abbrev pub chosen : Table → List Bounds → Phase → Candidate → Choice
chosen T env phase c = choice.Chosen (told T env phase c)

-- the first two of several candidates; fewer than two mean that none is applicable
abbrev pub ambiguous : List Candidate → Choice
ambiguous (a ∷ b ∷ cs) = choice.Ambiguous a.member.id b.member.id
ambiguous _ = choice.NoneApplicable

-- ---- several members with one signature

-- their signatures are override-equivalent (JLS 8.4.2)
unfoldable pub equivalent : Table → MethodView → MethodView → Bool
equivalent T a b = override_equivalent T a b

-- .. of a member and each of these
abbrev pub all_equivalent_to : Table → MethodView → List Candidate → Bool
all_equivalent_to T a [] = true
all_equivalent_to T a (b ∷ bs) = equivalent T a b.member && all_equivalent_to T a bs

-- .. of each two of them
abbrev pub all_equivalent : Table → List Candidate → Bool
all_equivalent T [] = true
all_equivalent T (a ∷ others) = all_equivalent_to T a.member others && all_equivalent T others

-- 1 for true, 0 for false
abbrev pub one_if : Bool → ℕ
one_if true = 1
one_if false = 0

-- how many have a body
abbrev pub bodies : Table → List Candidate → ℕ
bodies T [] = 0
bodies T (c ∷ cs) = one_if (has_body T c.member.id) + bodies T cs

-- the first that has a body
abbrev pub first_with_body : Table → List Candidate → Option Candidate
first_with_body T [] = None
first_with_body T (c ∷ cs) = cond (has_body T c.member.id) (Some c) (first_with_body T cs)

-- the answer of what is known at once: never Deep
abbrev pub yes_if : Bool → Answer
yes_if true = Yes
yes_if false = No

-- whether there is a conversion
abbrev pub converts_to : Converts → Answer
converts_to (converts.Yes c) = Yes
converts_to converts.NoConversion = No
converts_to converts.Deep = Deep

-- a result of a reference type fits another one that it is below, by an unchecked conversion too, or whose erasure it is (JLS 8.4.5)
abbrev pub reference_fits : Table → List Bounds → MethodView → MethodView → Ty → Ty → Answer
reference_fits T env a b s t = cond (same s (erased_within T env b t)) Yes (converts_to (invocation T env s (adapted a b t)))

-- primitive types have to be the same one
abbrev pub type_fits : Table → List Bounds → MethodView → MethodView → Ty → Ty → Answer
type_fits T env a b s t = cond (is_primitive s || is_primitive t) (yes_if (same s t)) (reference_fits T env a b s t)

-- None is `void`, which fits `void` alone
abbrev pub result_fits_of : Table → List Bounds → MethodView → MethodView → Option Ty → Option Ty → Answer
result_fits_of T env a b None None = Yes
result_fits_of T env a b (Some s) (Some t) = type_fits T env a b s t
result_fits_of T env a b _ _ = No

-- a's result fits b's
abbrev pub result_fits : Table → List Bounds → MethodView → MethodView → Answer
result_fits T env a b = cond (a.id.0 == b.id.0) Yes (result_fits_of T env a b a.result b.result)

-- a's result fits those of all of these; the first that isn't proved decides
abbrev pub fits_all : Table → List Bounds → MethodView → List Candidate → Answer
fits_all T env a [] = Yes
fits_all T env a (b ∷ bs) = and_then (result_fits T env a b.member) (fits_all T env a bs)

-- a candidate where the answer is Yes, what is more where it is No
abbrev pub chosen_if : Table → List Bounds → Phase → Answer → Candidate → Choice → Choice
chosen_if T env phase Yes c more = chosen T env phase c
chosen_if T env phase No c more = more
chosen_if T env phase Deep c more = choice.Deep

-- the first whose result fits those of all
abbrev pub by_result : Table → List Bounds → Phase → List Candidate → List Candidate → Choice
by_result T env phase all [] = ambiguous all
by_result T env phase all (c ∷ cs) = chosen_if T env phase (fits_all T env c.member all) c (by_result T env phase all cs)

-- the candidate, if there is one; else the first two of all are told
abbrev pub chosen_or_ambiguous : Table → List Bounds → Phase → List Candidate → Option Candidate → Choice
chosen_or_ambiguous T env phase all None = ambiguous all
chosen_or_ambiguous T env phase all (Some c) = chosen T env phase c

-- the only one that has a body; by their results where none has; and more than one is ambiguous
abbrev pub by_body : Table → List Bounds → Phase → List Candidate → ℕ → Choice
by_body T env phase all zero = by_result T env phase all all
by_body T env phase all (suc zero) = chosen_or_ambiguous T env phase all (first_with_body T all)
by_body T env phase all (suc (suc n)) = ambiguous all

-- ---- the choice

-- a single one; of several with one signature by bodies and results; any others are ambiguous
abbrev pub chosen_among : Table → List Bounds → Phase → List Candidate → Choice
chosen_among T env phase (c ∷ []) = chosen T env phase c
chosen_among T env phase cs = cond (all_equivalent T cs) (by_body T env phase cs (bodies T cs)) (ambiguous cs)

-- where each of some members is beaten by another one, none is more specific than the others
abbrev pub or_all : List Candidate → List Candidate → List Candidate
or_all all [] = all
or_all all (c ∷ cs) = c ∷ cs

-- the choice among the maximal ones of `all`; Deep where these aren't known
abbrev pub most_specific : Table → List Bounds → Phase → List Candidate → Option (List Candidate) → Choice
most_specific T env phase all None = choice.Deep
most_specific T env phase all (Some cs) = chosen_among T env phase (or_all all cs)

-- of a phase with applicable members the most specific one; None where it has none
abbrev pub decided : Table → List Bounds → Phase → Option (List Candidate) → Option Choice
decided T env phase None = Some choice.Deep
decided T env phase (Some []) = None
decided T env phase (Some (c ∷ cs)) = Some (most_specific T env phase (c ∷ cs) (maximal T env phase (c ∷ cs) (c ∷ cs)))

-- the choice of a phase; None where no member is applicable in it
abbrev pub in_phase : Table → List Bounds → CallSite → Phase → Option Choice
in_phase T env site phase = decided T env phase (gathered T env site phase site.members)

-- the choice of the first phase that has one
abbrev pub or_further : Option Choice → Choice → Choice
or_further (Some c) further = c
or_further None further = further

-- there was no member to choose from
abbrev pub unless_none : List MethodView → Choice → Choice
unless_none [] c = choice.NoMember
unless_none (m ∷ ms) c = c

-- the member that a call means, by the first phase with an applicable one
unfoldable pub resolved : Table → List Bounds → CallSite → Choice
resolved T env site =
    unless_none site.members
    (or_further (in_phase T env site Subtyping) (or_further (in_phase T env site Invocation) (or_further (in_phase T env site VariableArity) choice.NoneApplicable)))
