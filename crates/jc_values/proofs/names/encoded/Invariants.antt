use Rattle.std.proofs.Common.{◌≡◌, take}
use Rattle.std.specs.Char.Escape.{encode_utf16}
use Rattle.std.specs.List.{flat_map}
use Rattle.jc_values.proofs.names.encoded.Given as goal

-- the units of the characters so far
abbrev pub invariant-loop-c : goal.invariant-loop-c
invariant-loop-c l = l.found.items ≡ flat_map encode_utf16 (take l.c-index l.text)
