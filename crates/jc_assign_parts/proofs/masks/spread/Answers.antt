use Rattle.jc_assign_parts.proofs.Marking.{word_all, word_none}
use Rattle.jc_assign_parts.proofs.masks.spread.Goals as goal

pub returns-then-holds : goal.returns-then-holds
returns-then-holds c = rw c.if-holds.true word_all

pub returns-else-holds : goal.returns-else-holds
returns-else-holds c = rw c.if-holds.false word_none
