use Rattle.std.proofs.Common.{◌≡◌, ◌+◌, ◌*◌, ◌++◌, take}
use Rattle.jc_judge.specs.Trees.{Answers, Proof, Refute, PartProved, PartRefuted, Each, OneOf}
use Rattle.jc_sub.proofs.answering.+below.Given as goal

abbrev pub decreases-below_at : goal.decreases-below_at
decreases-below_at l = 4 * l.height

abbrev pub decreases-part_answer : goal.decreases-part_answer
decreases-part_answer l = 4 * l.height + 1

abbrev pub decreases-every : goal.decreases-every
decreases-every l = 4 * l.height + 2

abbrev pub decreases-some_of : goal.decreases-some_of
decreases-some_of l = 4 * l.height + 2

abbrev pub decreases-answer : goal.decreases-answer
decreases-answer l = 4 * l.height + 3

abbrev pub invariant-every-loop-i : goal.invariant-every-loop-i
invariant-every-loop-i l =
    (l.fresh ≡ l.fn.fresh) × Answers (Each (PartProved (Proof l.table l.height (l.env ++ l.fn.fresh))) (take l.i l.parts)) (OneOf (PartRefuted (Refute l.table l.height (l.env ++ l.fn.fresh))) (take l.i l.parts)) l.answer

abbrev pub invariant-some_of-loop-i : goal.invariant-some_of-loop-i
invariant-some_of-loop-i l =
    (l.fresh ≡ l.fn.fresh) × Answers (OneOf (PartProved (Proof l.table l.height (l.env ++ l.fn.fresh))) (take l.i l.parts)) (Each (PartRefuted (Refute l.table l.height (l.env ++ l.fn.fresh))) (take l.i l.parts)) l.answer
