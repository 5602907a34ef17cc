-- Where rows of an exception table handle an exception.
use Rattle.std.specs.Prelude.{ℕ, ◌&&◌, List, [], ◌∷◌, if◌then◌else◌}
use Rattle.std.specs.declared.option.Option.{Option}
use Rattle.std.specs.declared.option.Option.TheVariants.{Some, None}
use Rattle.jc_class_out.specs.declared.model.ClassModel.{ClassModel}
use Rattle.jc_class_out.specs.declared.model.Handler.{Handler}
use Rattle.jc_jvm.specs.Thrown.{catches, covers}

-- by the first one that covers the place and catches the exception
abbrev pub handled_at : List ClassModel → ℕ → ℕ → List Handler → Option ℕ
handled_at classes thrown at [] = None
handled_at classes thrown at (row ∷ rows) = if covers at row && catches classes thrown row.class then Some row.at else handled_at classes thrown at rows
