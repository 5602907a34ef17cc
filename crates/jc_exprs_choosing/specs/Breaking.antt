-- Rules that are broken before anything else is asked.
use Rattle.std.specs.Prelude.{List, [], ◌∷◌, Option, None, Some}
use Rattle.jc_rules.specs.declared.rule.Refusal.{Refusal}
use Rattle.jc_types.specs.Breaks.{least}
use Rattle.jc_exprs_nodes_spec.specs.Told.{Standing, standing}
use Rattle.jc_exprs_nodes.specs.Walks.{as_breaks}
use Rattle.jc_exprs_choosing.specs.declared.breaking.Broken.{Broken}

abbrev pub breaks_of : Option Broken → List Refusal
breaks_of None = []
breaks_of (Some b) = b.first ∷ as_breaks b.other

-- how a walk stands where these rules are broken
abbrev pub noted : List Refusal → Standing → Standing
noted bs s = standing s.env (least s.found bs)
