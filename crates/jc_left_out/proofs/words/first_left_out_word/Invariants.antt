use Rattle.std.proofs.Common.{◌≡◌, drop}
use Rattle.jc_left_out.specs.LeftOut.{first_left_out_word}
use Rattle.jc_left_out.proofs.PlacesOfTokens.{moved}
use Rattle.jc_left_out.proofs.words.first_left_out_word.Given as goal

abbrev pub invariant-loop-token : goal.invariant-loop-token
invariant-loop-token l = (l.place ≡ l.token-index) × (moved l.place (first_left_out_word l.prelude (drop l.token-index l.tokens)) ≡ first_left_out_word l.prelude l.tokens)
