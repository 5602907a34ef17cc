-- Steps of a chain, its beginning and its end.
use Rattle.std.proofs.Common.{◌≡◌, refl, ◌∙◌, Option, None, Some}
use Rattle.jc_exprs_nodes_spec.specs.Told.{Standing, fine, ran, spanned}
use Rattle.jc_exprs_nodes_spec.specs.Gates.{gated}
use Rattle.jc_exprs_nodes_spec.specs.Typeds.{Typed}
use Rattle.jc_exprs_nodes_spec.proofs.Runs.{ran_fine, ran_onward, ran_two}
use Rattle.jc_exprs_nodes.proofs.Gathering.{ran_spanned}
use Rattle.jc_exprs_parts_spec.specs.Chains.{Joined, Signed, Unsigned, Whole, joining, signed, whole}
use Rattle.jc_exprs_chains.specs.Chaining.{Finished, FirstJoined, FirstSigned, JoinedStep, SignedStep, SignsFinished, TestedStep, as_first, as_signed, as_unsigned, as_whole}

pub joined_step : JoinedStep
joined_step T o m r s = ran_two (λ j t. joining T o j t) m (spanned r) s ∙ rw (ran_spanned r (ran m s).state) refl

pub tested_step : TestedStep
tested_step f m s = ran_onward f m s

pub signed_step : SignedStep
signed_step f m s = ran_onward f m s

first_by : (o : Option Typed) (s : Standing) → gated (λ t. fine (Whole t)) o s ≡ record { state = s; has = as_first o }
first_by None s = refl
first_by (Some t) s = ran_fine (Whole t) s

pub first_joined : FirstJoined
first_joined m s = ran_onward (λ t. fine (Whole t)) m s ∙ first_by (ran m s).has (ran m s).state

finished_by : (o : Option Joined) (s : Standing) → gated (λ j. fine (whole j)) o s ≡ record { state = s; has = as_whole o }
finished_by None s = refl
finished_by (Some j) s = ran_fine (whole j) s

pub finished : Finished
finished m s = ran_onward (λ j. fine (whole j)) m s ∙ finished_by (ran m s).has (ran m s).state

unsigned_by : (o : Option Typed) (s : Standing) → gated (λ t. fine (Unsigned t)) o s ≡ record { state = s; has = as_unsigned o }
unsigned_by None s = refl
unsigned_by (Some t) s = ran_fine (Unsigned t) s

pub first_signed : FirstSigned
first_signed m s = ran_onward (λ t. fine (Unsigned t)) m s ∙ unsigned_by (ran m s).has (ran m s).state

signed_by : (o : Option Signed) (s : Standing) → gated (λ g. fine (signed g)) o s ≡ record { state = s; has = as_signed o }
signed_by None s = refl
signed_by (Some g) s = ran_fine (signed g) s

pub signs_finished : SignsFinished
signs_finished m s = ran_onward (λ g. fine (signed g)) m s ∙ signed_by (ran m s).has (ran m s).state
