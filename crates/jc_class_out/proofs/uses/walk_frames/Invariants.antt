use Rattle.std.proofs.Common.{◌≡◌, take}
use Rattle.jc_class_out.specs.Forms.{start_locals, locals_before}
use Rattle.jc_class_out.specs.Spelling.{Told, frames_uses}
use Rattle.jc_class_out.proofs.Tellings.{seen_after}
use Rattle.jc_class_out.proofs.uses.walk_frames.Given as goal

abbrev pub invariant-loop-frame : goal.invariant-loop-frame
invariant-loop-frame g l = record { told : Told g.V.Visitor.sees l.initial.visitor (frames_uses (start_locals l.start) (take l.frame-index l.frames)) l.visitor; seen : locals_before l.before ≡ seen_after (start_locals l.start) (take l.frame-index l.frames) }
