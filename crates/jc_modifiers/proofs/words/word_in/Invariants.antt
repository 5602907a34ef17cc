use Rattle.std.proofs.Common.{◌≡◌, drop}
use Rattle.jc_declares.specs.Modifiers.{word_in}
use Rattle.jc_modifiers.proofs.words.word_in.Given as goal

abbrev pub invariant-loop-other : goal.invariant-loop-other
invariant-loop-other l = word_in l.word (drop l.other-index l.words) ≡ word_in l.word l.words
