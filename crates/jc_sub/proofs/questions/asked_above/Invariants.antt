use Rattle.std.proofs.Common.{◌≡◌, take, map}
use Rattle.jc_judge.specs.declared.question.Part.TheVariants.{Ask}
use Rattle.jc_sub.proofs.questions.asked_above.Given as goal

abbrev pub invariant-loop-i : goal.invariant-loop-i
invariant-loop-i l = l.out ≡ map (Ask l.s) (take l.i l.targets)
