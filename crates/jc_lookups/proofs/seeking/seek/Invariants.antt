use Rattle.std.proofs.Common.{length, reverse}
use Rattle.jc_jvm.specs.Classes.{field_on}
use Rattle.jc_lookups.specs.Searched.{Stands}
use Rattle.jc_lookups.proofs.seeking.seek.Given as goal

-- the search is to give the answer
abbrev pub invariant-loop-turns : goal.invariant-loop-turns
invariant-loop-turns l = Stands l.classes l.name l.descriptor l.known.items (reverse l.tasks) (field_on l.classes l.name l.descriptor (length l.classes) l.class)
