use Rattle.std.proofs.Common.{◌≡◌, length}
use Rattle.jc_settling.specs.Steps.{IsSound, blanks}
use Rattle.jc_settling.proofs.settling.settle_all.Given as goal

abbrev pub invariant-passes : goal.invariant-passes
invariant-passes l = record {
  length : length l.known.items ≡ length l.sources.declared.heads.now.classes;
  sound : IsSound l.sources.declared.heads.now l.known.items;
}

abbrev pub decreases-passes : goal.decreases-passes
decreases-passes l = blanks l.known.items
