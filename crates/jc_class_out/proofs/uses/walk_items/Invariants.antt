use Rattle.std.proofs.Common.{take}
use Rattle.std.specs.List.{flat_map}
use Rattle.jc_class_out.specs.Spelling.{Told, item_uses}
use Rattle.jc_class_out.proofs.uses.walk_items.Given as goal

abbrev pub invariant-loop-item : goal.invariant-loop-item
invariant-loop-item g l = Told g.V.Visitor.sees l.initial.visitor (flat_map item_uses (take l.item-index l.items)) l.visitor
