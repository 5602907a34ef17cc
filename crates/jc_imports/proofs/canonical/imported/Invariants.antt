use Rattle.std.proofs.Common.{◌≡◌, drop}
use Rattle.jc_declares.specs.Looking.{next_parts, imported}
use Rattle.jc_imports.specs.Founds.{found_of}
use Rattle.jc_imports.proofs.canonical.imported.Given as goal

abbrev pub invariant-loop-name : goal.invariant-loop-name
invariant-loop-name l = next_parts l.declared.heads.now (found_of l.found) (drop l.name-index l.import.path.more) ≡ imported l.declared.heads.now l.import
