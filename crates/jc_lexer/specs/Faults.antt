-- The faults of a text, their rules and their places.
use Rattle.std.specs.Prelude.{ℕ}
use Rattle.jc_lexer.specs.declared.fault.LexFault.{LexFault}
use Rattle.jc_lexer.specs.declared.fault.LexFault.TheVariants.{NotUtf8, BadEscape, BadCharacter, BadLiteral, OpenComment, OpenText, Floating, Dollar}

-- the number of the rule that a fault breaks
abbrev pub rule_of : LexFault → ℕ
rule_of (NotUtf8 at) = 102
rule_of (BadEscape at) = 103
rule_of (BadCharacter at) = 104
rule_of (BadLiteral at) = 105
rule_of (OpenComment at) = 106
rule_of (OpenText at) = 107
rule_of (Floating at) = 108
rule_of (Dollar at) = 109

-- the offset that a fault stands at
abbrev pub place_of : LexFault → ℕ
place_of (NotUtf8 at) = at
place_of (BadEscape at) = at
place_of (BadCharacter at) = at
place_of (BadLiteral at) = at
place_of (OpenComment at) = at
place_of (OpenText at) = at
place_of (Floating at) = at
place_of (Dollar at) = at
