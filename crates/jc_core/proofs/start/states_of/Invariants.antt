use Rattle.std.proofs.Common.{◌≡◌, map, take}
use Rattle.jc_class_out.specs.declared.model.ClassModel.{ClassModel}
use Rattle.jc_jvm.specs.declared.world.ClassState.TheVariants.{Untouched}
use Rattle.jc_core.proofs.start.states_of.Given as goal

abbrev pub invariant-loop-class : goal.invariant-loop-class
invariant-loop-class l = l.found.items ≡ map (λ (c : ClassModel). Untouched) (take l.class-index l.classes)
