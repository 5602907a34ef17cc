use Rattle.std.proofs.Common.{◌≡◌, drop}
use Rattle.jc_declares.specs.Modifiers.{repeats}
use Rattle.jc_modifiers.proofs.words.repeats.Given as goal

abbrev pub invariant-loop-at : goal.invariant-loop-at
invariant-loop-at l = repeats (drop l.at l.modifiers) ≡ repeats l.modifiers
