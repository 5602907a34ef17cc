-- Which fields are the one that is looked for.
use Rattle.std.specs.Prelude.{ℕ, Bool, not, ◌&&◌, List, map, filter}
use Rattle.jc_class_out.specs.declared.model.FieldModel.{FieldModel}
use Rattle.jc_jvm.specs.Classes.{is_field, is_static_field}

-- of each instance field among some; only in the class that declares it one can be
abbrev pub own_marks : Bool → List ℕ → List ℕ → List FieldModel → List Bool
own_marks here name descriptor fields = map (λ f. here && is_field name descriptor f) (filter (λ f. not (is_static_field f)) fields)
