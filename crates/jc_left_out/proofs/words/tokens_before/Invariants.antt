use Rattle.std.proofs.Common.{◌≡◌, ◌+◌, drop}
use Rattle.jc_left_out.specs.LeftOut.{tokens_before}
use Rattle.jc_left_out.proofs.words.tokens_before.Given as goal

abbrev pub invariant-loop-token : goal.invariant-loop-token
invariant-loop-token l = (l.place ≡ l.token-index) × (l.place + tokens_before (drop l.token-index l.tokens) l.at ≡ tokens_before l.tokens l.at)
