use Rattle.jc_assign_parts.proofs.Marking.{put_true, put_false}
use Rattle.jc_assign_parts.proofs.words.put.Goals as goal

pub returns-then-value : goal.returns-then-value
returns-then-value c = rw c.if-value.true (put_true c.args.w c.args.mask)

pub returns-else-value : goal.returns-else-value
returns-else-value c = rw c.if-value.false (put_false c.args.w c.args.mask)
