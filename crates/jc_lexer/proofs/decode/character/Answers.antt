use Rattle.std.proofs.Common.{◌<◌, ◌∙◌, subst, sym, ℕ}
use Rattle.jc_lexer.proofs.Plain.{plain_character}
use Rattle.jc_lexer.proofs.decode.character.Goals as goal

pub returns-then-byte-ne92-clause-value : goal.returns-then-byte-ne92-clause-value
returns-then-byte-ne92-clause-value c =
    plain_character c.args.bytes.now c.args.odd c.from.result (c.from.ensures ∙ c.byte-byte.ensures)
    (subst (λ (n : ℕ). n < 128) (sym c.from.ensures) c.if-byte-lt128.true) (λ i. c.if-byte-ne92.true (sym c.from.ensures ∙ i))
