use Rattle.std.proofs.Common.{◌≡◌, drop}
use Rattle.jc_types.specs.Breaks.{least}
use Rattle.jc_declares.specs.HeadBreaks.{of_each, import_breaks}
use Rattle.jc_name_rules.proofs.imports.imports_broken.Given as goal

abbrev pub invariant-loop-import : goal.invariant-loop-import
invariant-loop-import l = least l.found (of_each (import_breaks l.declared.heads.now l.unit) l.import-index (drop l.import-index l.import-items)) ≡ least l.initial.found (of_each (import_breaks l.declared.heads.now l.unit) 0 l.import-items)
