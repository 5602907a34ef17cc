use Rattle.std.proofs.Common.{◌≡◌, drop, None}
use Rattle.std.specs.Prelude.{◌&&◌}
use Rattle.jc_class_out.specs.Forms.{start_locals, place_before, locals_before}
use Rattle.jc_class_out.specs.Fitting.{frames_fit, frames_within}
use Rattle.jc_class_out.proofs.fitting.frames.Given as goal

abbrev pub invariant-loop-one : goal.invariant-loop-one
invariant-loop-one l = (frames_fit l.marks (place_before l.before) (locals_before l.before) (drop l.one-index l.table) && frames_within l.left (place_before l.before) (locals_before l.before) (drop l.one-index l.table)) ≡ (frames_fit l.marks None (start_locals l.start) l.table && frames_within l.room None (start_locals l.start) l.table)
