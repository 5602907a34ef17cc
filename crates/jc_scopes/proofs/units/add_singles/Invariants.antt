use Rattle.std.proofs.Common.{◌≡◌, drop}
use Rattle.jc_declares.specs.Looking.{singles}
use Rattle.jc_declares.specs.Making.{first_names}
use Rattle.jc_scopes.proofs.units.add_singles.Given as goal

abbrev pub invariant-loop-import : goal.invariant-loop-import
invariant-loop-import l = first_names l.names (singles l.declared.heads.now (drop l.import-index l.imports)) ≡ first_names l.initial.names (singles l.declared.heads.now l.imports)
