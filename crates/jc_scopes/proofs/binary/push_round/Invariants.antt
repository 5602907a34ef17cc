use Rattle.std.proofs.Common.{◌≡◌, ◌++◌, ◌≤◌, drop, length}
use Rattle.std.specs.Prelude.{string_bytes}
use Rattle.jc_declares.specs.Heads.{with_dollars}
use Rattle.jc_scopes.proofs.binary.push_round.Given as goal

abbrev pub invariant-loop-left : goal.invariant-loop-left
invariant-loop-left l =
    record {
      within : l.left ≤ length l.round;
      text : string_bytes l.text ≡ string_bytes l.initial.text ++ with_dollars l.heads (drop l.left l.round);
    }

abbrev pub decreases-loop-left : goal.decreases-loop-left
decreases-loop-left l = l.left
