use Rattle.jc_assign_parts.proofs.Marking.{put_either, put_less}
use Rattle.jc_assign_parts.proofs.words.put_worlds.Goals as goal

pub returns-then-value : goal.returns-then-value
returns-then-value c = rw c.if-value.true (put_either c.args.w c.alike.result c.either.result c.args.mask c.alike.ensures c.either.ensures)

pub returns-else-value : goal.returns-else-value
returns-else-value c = rw c.if-value.false (put_less c.args.w c.alike-else-value.result c.less.result c.args.mask c.alike-else-value.ensures c.less.ensures)
