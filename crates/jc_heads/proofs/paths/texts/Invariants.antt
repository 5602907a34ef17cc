use Rattle.std.proofs.Common.{◌≡◌, take, map}
use Rattle.jc_declares.specs.Heads.{text_of}
use Rattle.jc_heads.proofs.paths.texts.Given as goal

abbrev pub invariant-loop-name : goal.invariant-loop-name
invariant-loop-name l = l.list ≡ map text_of (take l.name-index l.names)
