use Rattle.std.proofs.Common.{◌≡◌, take, map}
use Rattle.jc_declares.specs.Heads.{import_head}
use Rattle.jc_heads.proofs.paths.import_heads.Given as goal

abbrev pub invariant-loop-import : goal.invariant-loop-import
invariant-loop-import l = l.list ≡ map import_head (take l.import-index l.imports)
