use Rattle.std.proofs.Common.{◌≡◌, ◌-◌, ◌++◌, ◌∷◌, take, replicate, true, false}
use Rattle.jc_class_out.proofs.fitting.mark_one.Given as goal

abbrev pub invariant-loop-place : goal.invariant-loop-place
invariant-loop-place l = take l.place l.marks ≡ take l.at l.fn.marks ++ (true ∷ replicate (l.place - l.at - 1) false)
