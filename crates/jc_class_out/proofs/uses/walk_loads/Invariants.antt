use Rattle.std.proofs.Common.{take}
use Rattle.std.specs.List.{flat_map}
use Rattle.jc_class_out.specs.Spelling.{Told, ins_first_uses}
use Rattle.jc_class_out.proofs.uses.walk_loads.Given as goal

abbrev pub invariant-loop-ins : goal.invariant-loop-ins
invariant-loop-ins g l = Told g.V.Visitor.sees l.initial.visitor (flat_map ins_first_uses (take l.ins-index l.list)) l.visitor
