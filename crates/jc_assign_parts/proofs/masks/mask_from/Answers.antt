use Rattle.jc_assign_parts.proofs.Marking.{word_before, word_behind}
use Rattle.jc_assign_parts.proofs.masks.mask_from.Goals as goal
use Rattle.jc_assign_parts.proofs.masks.mask_from.Goals.{else-n-first-via-then-n-first+else-n-first-lt64, else-n-first-via-else-n-first}

pub returns-else-n-first : goal.returns-else-n-first
returns-else-n-first c = elim c.else-n-first.branch [
  | else-n-first-via-then-n-first+else-n-first-lt64 w ↦ word_behind c.args.first c.args.n w.if-n-first.true w.if-n-first-lt64.false
  | else-n-first-via-else-n-first w ↦ word_before c.args.first c.args.n w.if-n-first.false
]
