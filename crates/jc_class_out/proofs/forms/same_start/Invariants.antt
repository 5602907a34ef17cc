use Rattle.std.proofs.Common.{◌≡◌, drop}
use Rattle.jc_class_out.specs.Forms.{alike}
use Rattle.jc_class_out.proofs.forms.same_start.Given as goal

abbrev pub invariant-loop-one : goal.invariant-loop-one
invariant-loop-one l = alike (drop l.one-index l.seen) l.left ≡ alike l.seen l.locals
