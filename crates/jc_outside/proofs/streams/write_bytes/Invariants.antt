use Rattle.std.proofs.Common.{◌≤◌, length, take}
use Rattle.jc_outside.specs.Told.{Gets}
use Rattle.jc_outside.proofs.streams.write_bytes.Given as goal

-- the first bytes are written
abbrev pub invariant-loop : goal.invariant-loop
invariant-loop g l = record {
  within : l.written ≤ length l.bytes;
  so_far : Gets (g.W.Write.contents l.fn.to) (take l.written l.bytes) (g.W.Write.contents l.to);
}
