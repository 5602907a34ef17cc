-- Types of the classes of a table (JLS 4.3, 4.5, 4.8).
use Rattle.std.specs.Prelude.{◌≡◌, ◌≢◌, ◌<◌, [], Some}
use Rattle.jc_types.specs.declared.form.Ty.{Ty}
use Rattle.jc_types.specs.declared.form.Ty.TheVariants.{Raw}
use Rattle.jc_types.specs.declared.ids.ClassId.{ClassId}
use Rattle.jc_types.specs.declared.table.Table.{Table}
use Rattle.jc_types.specs.Accessors.{class_count, vars_of}
use Rattle.jc_judge.specs.Kinds.{class_of}

-- a type of a class of the table, with arguments or without, and raw only where the class has type parameters
pub record IsClassType (T : Table) (t : Ty) : Type 0 where
  pub class : ClassId
  pub is : class_of t ≡ Some class
  pub within : class.0 < class_count T
  pub raw : t ≡ Raw class → vars_of T class ≢ []
