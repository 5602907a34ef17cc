-- The values with which the fields of new objects begin.
use Rattle.std.specs.Prelude.{not, List, map, filter, length}
use Rattle.std.specs.List.{range_with_len}
use Rattle.jc_class_out.specs.declared.model.ClassModel.{ClassModel}
use Rattle.jc_class_out.specs.declared.model.FieldModel.{FieldModel}
use Rattle.jc_jvm.specs.Classes.{is_static_field}
use Rattle.jc_jvm.specs.Types.{zero_of_field, new_fields}
use Rattle.jc_jvm.specs.declared.value.Value.{Value}

-- those of the instance fields among some
abbrev pub own_zeros : List FieldModel → List Value
own_zeros fields = map zero_of_field (filter (λ f. not (is_static_field f)) fields)

-- those of each class
unfoldable pub all_fields : List ClassModel → List (List Value)
all_fields classes = map (new_fields classes) (range_with_len 0 (length classes))
