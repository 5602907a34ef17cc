use Rattle.jc_expressing.proofs.noting.note_read.Goals as goal

pub returns : goal.returns
returns c = c.note.ensures c.args.program.now
