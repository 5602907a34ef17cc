use Rattle.std.proofs.Common.{drop}
use Rattle.jc_components.specs.Claims.{LeadOn}
use Rattle.jc_components.proofs.checking.lead_on.Given as goal

abbrev pub invariant-loop-to : goal.invariant-loop-to
invariant-loop-to l = LeadOn l.claims l.claim (drop l.to-index l.row) → LeadOn l.claims l.claim l.row
