use Rattle.std.proofs.Common.{take}
use Rattle.std.specs.List.{flat_map}
use Rattle.jc_class_out.specs.Spelling.{Told, class_uses}
use Rattle.jc_class_out.proofs.uses.walk_interfaces.Given as goal

abbrev pub invariant-loop-name : goal.invariant-loop-name
invariant-loop-name g l = Told g.V.Visitor.sees l.initial.visitor (flat_map class_uses (take l.name-index l.names)) l.visitor
