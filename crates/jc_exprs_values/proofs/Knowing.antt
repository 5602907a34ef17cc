-- Constants of conditionals, and the parts of these in an arena that grows.
use Rattle.std.proofs.Common.{◌≡◌, refl, List, Option, None, Some}
use Rattle.jc_typed.specs.declared.nodes.Node.{Node}
use Rattle.jc_typed.specs.Parts.{Grows}
use Rattle.jc_exprs_nodes_spec.specs.Typeds.{Known}
use Rattle.jc_exprs_nodes.specs.Walks.{known}
use Rattle.jc_exprs_nodes.proofs.Staying.{known_stays, part_stays}
use Rattle.jc_exprs_parts_spec.specs.Values.{known_choice}
use Rattle.jc_exprs_values.specs.declared.choices.Choice.{Choice}
use Rattle.jc_exprs_values.specs.Chosen.{IsChoice, branches}

-- one of three that is no constant
pub no_test : (c a b : Option Known) → c ≡ None → known_choice c a b ≡ None
no_test None a b e = refl
no_test (Some k) a b e = absurd (cc e)

pub no_first : (c a b : Option Known) → a ≡ None → known_choice c a b ≡ None
no_first None a b e = refl
no_first (Some k) None b e = refl
no_first (Some k) (Some l) b e = absurd (cc e)

pub no_second : (c a b : Option Known) → b ≡ None → known_choice c a b ≡ None
no_second None a b e = refl
no_second (Some k) None b e = refl
no_second (Some k) (Some l) None e = refl
no_second (Some k) (Some l) (Some m) e = absurd (cc e)

pub ruleset choices = (no_test, no_first, no_second)

pub choice_stays : (ms ns : List Node) (c : Choice) → Grows ms ns → IsChoice ms c → IsChoice ns c
choice_stays ms ns c g i = record { test = part_stays ms ns c.test g i.test; first = part_stays ms ns c.first g i.first; second = part_stays ms ns c.second g i.second }

pub test_stays : (ms ns : List Node) (c : Choice) → Grows ms ns → IsChoice ms c → known ns c.test.at ≡ known ms c.test.at
test_stays ms ns c g i = known_stays ms ns c.test.at g i.test.below.0

pub branches_stay : (ms ns : List Node) (c : Choice) → Grows ms ns → IsChoice ms c → branches ns c ≡ branches ms c
branches_stay ms ns c g i = rw (known_stays ms ns c.first.at g i.first.below.0, known_stays ms ns c.second.at g i.second.below.0) refl

pub ruleset stays = (choice_stays, test_stays, branches_stay)
