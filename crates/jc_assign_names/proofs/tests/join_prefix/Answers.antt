use Rattle.std.proofs.Common.{◌∙◌, ap₂}
use Rattle.jc_assign_spec.specs.Marks.{met}
use Rattle.jc_assign_parts.specs.Lanes.{Knowing, Marking, stepped}
use Rattle.jc_assign_names.proofs.tests.join_prefix.Goals as goal

pub returns : goal.returns
returns c = c.meet_now.ensures ∙ ap₂ (λ (m : Marking) (s : Knowing). stepped (λ l k. met (m.each l) k) s) c.prefix_test-other.ensures.no c.prefix_test-other.ensures.yes
