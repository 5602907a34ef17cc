-- The classes that the machine itself asks for.
use Rattle.std.specs.Prelude.{◌≡◌, List, codes}
use Rattle.jc_class_out.specs.declared.model.ClassModel.{ClassModel}
use Rattle.jc_jvm.specs.Classes.{class_named}
use Rattle.jc_jvm.specs.Thrown.{fault_class}
use Rattle.jc_jvm.specs.declared.world.Fault.TheVariants as fault
use Rattle.jc_heap.specs.declared.special.SpecialClasses.{SpecialClasses}

-- the number of each class that the machine asks for by itself, or None where the program has no such class
pub record AreSpecial (classes : List ClassModel) (s : SpecialClasses) : Type 0 where
  pub object : s.object ≡ class_named classes (codes "java/lang/Object")
  pub throwable : s.throwable ≡ class_named classes (codes "java/lang/Throwable")
  pub error : s.error ≡ class_named classes (codes "java/lang/Error")
  pub arithmetic : s.arithmetic ≡ fault_class classes fault.Arithmetic
  pub array_index : s.array_index ≡ fault_class classes fault.ArrayIndexOutOfBounds
  pub array_store : s.array_store ≡ fault_class classes fault.ArrayStore
  pub class_cast : s.class_cast ≡ fault_class classes fault.ClassCast
  pub in_initializer : s.in_initializer ≡ fault_class classes fault.ExceptionInInitializer
  pub negative_size : s.negative_size ≡ fault_class classes fault.NegativeArraySize
  pub no_class_def : s.no_class_def ≡ fault_class classes fault.NoClassDefFound
  pub null_pointer : s.null_pointer ≡ fault_class classes fault.NullPointer
