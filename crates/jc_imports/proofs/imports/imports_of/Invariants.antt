use Rattle.std.proofs.Common.{◌≡◌, ◌++◌, map, drop}
use Rattle.jc_imports.specs.Imported.{imports_seen, imports_by_units}
use Rattle.jc_imports.proofs.imports.imports_of.Given as goal

abbrev pub invariant-loop-unit : goal.invariant-loop-unit
invariant-loop-unit l =
    map imports_seen l.units ++ imports_by_units l.declared.heads.now (drop l.unit-index l.declared.heads.now.units) ≡ imports_by_units l.declared.heads.now l.declared.heads.now.units
