use Rattle.std.proofs.Common.{take}
use Rattle.std.specs.List.{flat_map}
use Rattle.jc_class_out.specs.Spelling.{Told, inner_uses}
use Rattle.jc_class_out.proofs.uses.walk_rows.Given as goal

abbrev pub invariant-loop-row : goal.invariant-loop-row
invariant-loop-row g l = Told g.V.Visitor.sees l.initial.visitor (flat_map inner_uses (take l.row-index l.rows)) l.visitor
