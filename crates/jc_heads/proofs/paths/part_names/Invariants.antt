use Rattle.std.proofs.Common.{◌≡◌, take, map}
use Rattle.jc_declares.specs.Heads.{part_name}
use Rattle.jc_heads.proofs.paths.part_names.Given as goal

abbrev pub invariant-loop-part : goal.invariant-loop-part
invariant-loop-part l = l.list ≡ map part_name (take l.part-index l.parts)
