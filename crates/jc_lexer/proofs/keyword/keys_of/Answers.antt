use Rattle.std.proofs.Common.{◌∙◌}
use Rattle.jc_lexer.proofs.Keywords.{key_in_of}
use Rattle.jc_lexer.proofs.keyword.keys_of.Goals as goal

pub returns-in-1 : goal.returns-in-1
returns-in-1 c = λ text h. key_in_of 1 text (h ∙ c.in-1.is)

pub returns-in-2 : goal.returns-in-2
returns-in-2 c = λ text h. key_in_of 2 text (h ∙ c.in-2.is)

pub returns-in-3 : goal.returns-in-3
returns-in-3 c = λ text h. key_in_of 3 text (h ∙ c.in-3.is)

pub returns-in-4 : goal.returns-in-4
returns-in-4 c = λ text h. key_in_of 4 text (h ∙ c.in-4.is)

pub returns-in-5 : goal.returns-in-5
returns-in-5 c = λ text h. key_in_of 5 text (h ∙ c.in-5.is)

pub returns-in-6 : goal.returns-in-6
returns-in-6 c = λ text h. key_in_of 6 text (h ∙ c.in-6.is)

pub returns-in-7 : goal.returns-in-7
returns-in-7 c = λ text h. key_in_of 7 text (h ∙ c.in-7.is)

pub returns-in-8 : goal.returns-in-8
returns-in-8 c = λ text h. key_in_of 8 text (h ∙ c.in-8.is)

pub returns-in-9 : goal.returns-in-9
returns-in-9 c = λ text h. key_in_of 9 text (h ∙ c.in-9.is)

pub returns-in-10 : goal.returns-in-10
returns-in-10 c = λ text h. key_in_of 10 text (h ∙ c.in-10.is)

pub returns-in-12 : goal.returns-in-12
returns-in-12 c = λ text h. key_in_of 12 text (h ∙ c.in-12.is)
