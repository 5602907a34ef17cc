use Rattle.std.proofs.Common.{take}
use Rattle.std.specs.List.{flat_map}
use Rattle.jc_class_out.specs.Spelling.{Told, handler_uses}
use Rattle.jc_class_out.proofs.uses.walk_handlers.Given as goal

abbrev pub invariant-loop-handler : goal.invariant-loop-handler
invariant-loop-handler g l = Told g.V.Visitor.sees l.initial.visitor (flat_map handler_uses (take l.handler-index l.handlers)) l.visitor
