use Rattle.std.proofs.Common.{◌≡◌, drop}
use Rattle.jc_declares.specs.Modifiers.{only_words}
use Rattle.jc_modifiers.proofs.words.only_words.Given as goal

abbrev pub invariant-loop-modifier : goal.invariant-loop-modifier
invariant-loop-modifier l = only_words l.allowed (drop l.modifier-index l.modifiers) ≡ only_words l.allowed l.modifiers
