use Rattle.std.proofs.Common.{take}
use Rattle.std.specs.List.{flat_map}
use Rattle.jc_class_out.specs.Spelling.{Told, method_uses}
use Rattle.jc_class_out.proofs.uses.walk_methods.Given as goal

abbrev pub invariant-loop-method : goal.invariant-loop-method
invariant-loop-method g l = Told g.V.Visitor.sees l.initial.visitor (flat_map (method_uses l.class) (take l.method-index l.methods)) l.visitor
