use Rattle.jc_acts.proofs.capturing.noted.Goals as goal

pub returns-then-is_noted : goal.returns-then-is_noted
returns-then-is_noted c = λ program inner. rw c.if-is_noted.true (c.note.ensures program)
