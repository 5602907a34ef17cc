use Rattle.std.proofs.Common.{◌≡◌, drop, string_bytes}
use Rattle.jc_looking.specs.Members.{known_in}
use Rattle.jc_looking.specs.Sights.{passed_packages_seen}
use Rattle.jc_looking.proofs.names.pass_packages.Given as goal

abbrev pub invariant-loop-at : goal.invariant-loop-at
invariant-loop-at l = record {
  passed : l.passed ≡ l.initial.passed;
  rest :
      passed_packages_seen l.scene.declared.heads.now (known_in l.scene.known.now) (string_bytes l.«package») (drop l.at l.more)
      ≡ passed_packages_seen l.scene.declared.heads.now (known_in l.scene.known.now) l.first l.more;
}
