use Rattle.std.proofs.Common.{arith}
use Rattle.jc_small.proofs.ReadTokens.{parsed}
use Rattle.jc_small.proofs.reading.parse.Goals as goal

pub returns : goal.returns
returns c = parsed c.args.tokens.now c.read_program.result c.if-tokens-gt-MOST_TOKENS.false c.read_program.ensures
