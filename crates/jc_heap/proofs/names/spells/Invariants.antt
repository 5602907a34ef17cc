use Rattle.std.proofs.Common.{◌≡◌, drop, length}
use Rattle.std.specs.Str.{bytes_eq}
use Rattle.jc_heap.proofs.names.spells.Given as goal

-- what is left gives the same answer
abbrev pub invariant-loop-i : goal.invariant-loop-i
invariant-loop-i l = record { same : bytes_eq (drop l.i l.units) (drop l.i l.text) ≡ bytes_eq l.units l.text; long : length l.units ≡ length l.bytes; bytes : l.bytes ≡ l.text }
