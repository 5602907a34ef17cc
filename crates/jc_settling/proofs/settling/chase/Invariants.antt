use Rattle.std.proofs.Common.{◌≡◌, length}
use Rattle.jc_settling.specs.Steps.{IsSound}
use Rattle.jc_settling.proofs.settling.chase.Given as goal

abbrev pub invariant-turns : goal.invariant-turns
invariant-turns l = record {
  length : length l.known.items ≡ length l.initial.known.items;
  sound : IsSound l.sources.declared.heads.now l.initial.known.items → IsSound l.sources.declared.heads.now l.known.items;
}
