use Rattle.std.proofs.Common.{◌≡◌, drop}
use Rattle.jc_declares.specs.Modifiers.{annotated}
use Rattle.jc_modifiers.proofs.words.annotated.Given as goal

abbrev pub invariant-loop-modifier : goal.invariant-loop-modifier
invariant-loop-modifier l = annotated l.name (drop l.modifier-index l.modifiers) ≡ annotated l.name l.modifiers
