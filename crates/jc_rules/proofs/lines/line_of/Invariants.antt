use Rattle.std.proofs.Common.{◌≡◌, ◌≤◌}
use Rattle.jc_rules.specs.Lines.{line_ends_by}
use Rattle.jc_rules.proofs.lines.line_of.Given as goal

abbrev pub invariant-loop-byte : goal.invariant-loop-byte
invariant-loop-byte l = (l.ends ≡ line_ends_by l.text l.byte) × (l.ends ≤ l.byte)
