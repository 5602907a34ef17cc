use Rattle.std.proofs.Common.{◌≡◌, drop}
use Rattle.jc_declares.specs.Words.{says}
use Rattle.jc_heads.proofs.marks.says.Given as goal

abbrev pub invariant-loop-modifier : goal.invariant-loop-modifier
invariant-loop-modifier l = says l.word (drop l.modifier-index l.modifiers) ≡ says l.word l.modifiers
