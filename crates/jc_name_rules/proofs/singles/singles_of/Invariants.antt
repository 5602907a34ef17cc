use Rattle.std.proofs.Common.{◌≡◌, drop}
use Rattle.jc_declares.specs.Looking.{singles}
use Rattle.jc_name_rules.specs.Singles.{with_entries}
use Rattle.jc_name_rules.proofs.singles.singles_of.Given as goal

abbrev pub invariant-loop-import : goal.invariant-loop-import
invariant-loop-import l = with_entries (singles l.declared.heads.now (drop l.import-index l.imports)) l.singles ≡ with_entries (singles l.declared.heads.now l.imports) l.initial.singles
