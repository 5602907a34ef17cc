use Rattle.jc_calling.proofs.acting.note_element.Goals as goal

pub returns : goal.returns
returns c = c.note.ensures c.args.program.now
