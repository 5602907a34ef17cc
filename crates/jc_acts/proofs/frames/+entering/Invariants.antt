use Rattle.std.proofs.Common.{◌+◌, ◌*◌, length}
use Rattle.jc_acts.proofs.frames.+entering.Given as goal

abbrev pub decreases-entered_all : goal.decreases-entered_all
decreases-entered_all l = 3 * length l.called.now

abbrev pub decreases-entered_as : goal.decreases-entered_as
decreases-entered_as l = 3 * length l.more.now + 2

abbrev pub decreases-entered_from : goal.decreases-entered_from
decreases-entered_from l = 3 * length l.more.now + 1
