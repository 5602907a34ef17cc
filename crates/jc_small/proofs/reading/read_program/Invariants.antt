use Rattle.std.proofs.Common.{◌≡◌, drop, []}
use Rattle.jc_small.specs.declared.reading.Point.TheVariants.{Head}
use Rattle.jc_small.specs.Parse.{run}
use Rattle.jc_small.specs.Small.{kinds}
use Rattle.jc_small.proofs.reading.read_program.Given as goal

-- the tokens that are left give the same program
abbrev pub invariant-loop-t : goal.invariant-loop-t
invariant-loop-t l = run (kinds (drop l.t-index l.tokens)) l.point l.done l.now ≡ run (kinds l.tokens) (Head 0) [] []
