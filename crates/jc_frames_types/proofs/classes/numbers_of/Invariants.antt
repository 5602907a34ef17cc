use Rattle.std.proofs.Common.{take}
use Rattle.jc_frames_types.specs.Indexed.{AreNumbers}
use Rattle.jc_frames_types.proofs.classes.numbers_of.Given as goal

-- the classes so far have their numbers
abbrev pub invariant-loop-number : goal.invariant-loop-number
invariant-loop-number l = AreNumbers (take l.number l.classes) l.numbers
