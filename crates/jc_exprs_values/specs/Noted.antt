-- Premises of a node that fail: a walk goes on behind them, and keeps the least.
use Rattle.std.specs.Prelude.{Bool, true, false, List, [], ◌∷◌}
use Rattle.jc_rules.specs.declared.rule.Refusal.{Refusal}
use Rattle.jc_types.specs.Breaks.{least}
use Rattle.jc_exprs_nodes_spec.specs.Told.{Standing, standing}

-- how a walk stands behind these breaks
abbrev pub noted : Standing → List Refusal → Standing
noted s bs = standing s.env (least s.found bs)

-- there is one
abbrev pub is_broken : List Refusal → Bool
is_broken [] = false
is_broken (b ∷ bs) = true
