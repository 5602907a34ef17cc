use Rattle.std.proofs.Common.{take}
use Rattle.std.specs.List.{flat_map}
use Rattle.jc_class_out.specs.Spelling.{Told, field_uses}
use Rattle.jc_class_out.proofs.uses.walk_fields.Given as goal

abbrev pub invariant-loop-field : goal.invariant-loop-field
invariant-loop-field g l = Told g.V.Visitor.sees l.initial.visitor (flat_map field_uses (take l.field-index l.fields)) l.visitor
