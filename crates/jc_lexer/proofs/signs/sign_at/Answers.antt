use Rattle.std.proofs.Common.{◌∙◌, sym}
use Rattle.jc_lexer.specs.Signs.{sign_at}
use Rattle.jc_lexer.proofs.Table.{sign_some, sign_longest}
use Rattle.jc_lexer.proofs.signs.sign_at.Goals as goal

pub returns-clause-value : goal.returns-clause-value
unfolding sign_at
returns-clause-value c = c.sign_in.ensures ∙ c.signs_of.ensures c.args.text.now (sym c.code_at.ensures)

pub returns-clause-longest : goal.returns-clause-longest
returns-clause-longest c = sign_longest c.args.text.now c.sign_in.result (c.sign_in.ensures ∙ c.signs_of.ensures c.args.text.now (sym c.code_at.ensures))

pub returns-clause-some : goal.returns-clause-some
returns-clause-some c = sign_some c.args.text.now c.sign_in.result (c.sign_in.ensures ∙ c.signs_of.ensures c.args.text.now (sym c.code_at.ensures))
