use Rattle.std.proofs.Common.{◌≡◌, length}
use Rattle.jc_settling.specs.Steps.{IsSound, Passed}
use Rattle.jc_settling.proofs.settling.pass_over.Given as goal

abbrev pub invariant-loop-class : goal.invariant-loop-class
invariant-loop-class l = record {
  length : length l.known.items ≡ length l.initial.known.items;
  sound : IsSound l.sources.declared.heads.now l.initial.known.items → IsSound l.sources.declared.heads.now l.known.items;
  passed : Passed l.sources.declared.heads.now l.initial.known.items l.known.items l.class l.changed;
}
