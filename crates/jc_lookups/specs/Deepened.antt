-- Types by their dimensions.
use Rattle.std.specs.Prelude.{ℕ, ◌+◌, ◌-◌, ◌==◌, List, length, take, if◌then◌else◌}
use Rattle.std.specs.Option.{option_map}
use Rattle.std.specs.declared.option.Option.{Option}
use Rattle.jc_class_out.specs.declared.model.ClassModel.{ClassModel}
use Rattle.jc_jvm.specs.Classes.{class_named}
use Rattle.jc_jvm.specs.Types.{shape_of_class, based, primitive_of}
use Rattle.jc_jvm.specs.declared.value.Shape.{Shape}

-- with so many dimensions more
abbrev pub deepened : ℕ → Option Shape → Option Shape
deepened n shape = option_map (λ (s : Shape). record s { dims = s.dims + n }) shape

-- the type of a descriptor that is no array's
abbrev pub bare_shape : List ClassModel → ℕ → List ℕ → Option Shape
bare_shape classes u us = if u == 76 then option_map shape_of_class (class_named classes (take (length us - 1) us)) else option_map based (primitive_of u)
