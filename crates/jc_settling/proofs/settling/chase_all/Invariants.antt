use Rattle.std.proofs.Common.{◌≡◌, length}
use Rattle.jc_settling.specs.Steps.{IsSound}
use Rattle.jc_settling.proofs.settling.chase_all.Given as goal

abbrev pub invariant-loop-class : goal.invariant-loop-class
invariant-loop-class l = record {
  length : length l.known.items ≡ length l.initial.known.items;
  sound : IsSound l.sources.declared.heads.now l.initial.known.items → IsSound l.sources.declared.heads.now l.known.items;
}
