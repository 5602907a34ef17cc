use Rattle.std.proofs.Common.{◌≡◌, map, take}
use Rattle.jc_class_out.specs.declared.model.ClassModel.{ClassModel}
use Rattle.jc_jvm.specs.Types.{zero_of_field}
use Rattle.jc_core.proofs.start.statics_of.Given as goal

abbrev pub invariant-loop-class : goal.invariant-loop-class
invariant-loop-class l = l.found ≡ map (λ (c : ClassModel). map zero_of_field c.fields) (take l.class-index l.classes)
