use Rattle.std.proofs.Common.{◌≡◌, [], drop}
use Rattle.jc_jvm.specs.Start.{with_strings}
use Rattle.jc_core.proofs.start.make_strings.Given as goal

-- what is left gives the same
abbrev pub invariant-loop-text : goal.invariant-loop-text
invariant-loop-text l = with_strings l.classes (drop l.text-index l.texts) (l.world, l.found.items) ≡ with_strings l.classes l.texts (l.initial.world, [])
