use Rattle.std.proofs.Common.{◌≡◌, drop, take}
use Rattle.jc_types.specs.Breaks.{least}
use Rattle.jc_declares.specs.HeadBreaks.{of_each}
use Rattle.jc_declares.specs.Looking.{singles}
use Rattle.jc_name_rules.specs.Singles.{AreSingles, twice_in}
use Rattle.jc_name_rules.proofs.imports.twice_broken.Given as goal

abbrev pub invariant-loop-number : goal.invariant-loop-number
invariant-loop-number l =
    record {
      least : least l.found (of_each (twice_in l.declared.heads.now l.file l.imports) l.number (drop l.number l.imports)) ≡ least l.initial.found (of_each (twice_in l.declared.heads.now l.file l.imports) 0 l.imports);
      singles : AreSingles (singles l.declared.heads.now (take l.number l.imports)) l.singles;
    }
