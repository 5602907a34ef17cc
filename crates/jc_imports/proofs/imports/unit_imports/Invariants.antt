use Rattle.std.proofs.Common.{◌≡◌, ◌++◌, [], map, drop}
use Rattle.jc_declares.specs.Looking.{imported, singles}
use Rattle.jc_imports.specs.Founds.{found_of}
use Rattle.jc_imports.specs.Imported.{with_firsts, demands_of}
use Rattle.jc_imports.proofs.imports.unit_imports.Given as goal

abbrev pub invariant-loop-import : goal.invariant-loop-import
invariant-loop-import l = record {
  found : map found_of l.found ++ map (imported l.declared.heads.now) (drop l.import-index l.imports) ≡ map (imported l.declared.heads.now) l.imports;
  singles : with_firsts (singles l.declared.heads.now (drop l.import-index l.imports)) l.singles ≡ with_firsts (singles l.declared.heads.now l.imports) [];
  demands : map found_of l.demands ++ demands_of l.declared.heads.now (drop l.import-index l.imports) ≡ demands_of l.declared.heads.now l.imports;
}
