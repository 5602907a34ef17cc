use Rattle.std.proofs.Common.{◌≡◌, ◌++◌, drop}
use Rattle.jc_declares.specs.Making.{demands}
use Rattle.jc_scopes.proofs.units.demands.Given as goal

abbrev pub invariant-loop-import : goal.invariant-loop-import
invariant-loop-import l = l.list ++ demands l.declared.heads.now l.file (drop l.import-index l.imports) ≡ demands l.declared.heads.now l.file l.imports
