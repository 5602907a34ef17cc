use Rattle.std.proofs.Common.{◌≡◌, false, drop}
use Rattle.jc_modifiers.specs.LastFormal.{last_or}
use Rattle.jc_modifiers.proofs.words.is_variable_arity.Given as goal

abbrev pub invariant-loop-formal : goal.invariant-loop-formal
invariant-loop-formal l = last_or l.last (drop l.formal-index l.formals) ≡ last_or false l.formals
