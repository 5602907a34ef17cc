use Rattle.std.proofs.Common.{◌≡◌, ◌++◌, drop, None}
use Rattle.jc_class_out.specs.Forms.{start_locals, place_before, locals_before}
use Rattle.jc_class_out.specs.Spelling.{knowns, spell_frames}
use Rattle.jc_class_out.proofs.writing.put_frames.Given as goal

abbrev pub invariant-loop-frame : goal.invariant-loop-frame
invariant-loop-frame l = l.out.items ++ spell_frames (knowns l.pool.keys) (place_before l.before) (locals_before l.before) (drop l.frame-index l.frames) ≡ l.initial.out.items ++ spell_frames (knowns l.pool.keys) None (start_locals l.start) l.frames
