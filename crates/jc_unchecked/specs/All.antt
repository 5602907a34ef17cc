-- What the bodies of all methods are warned of, behind what was told.
use Rattle.std.specs.Prelude.{List, [], ◌∷◌}
use Rattle.jc_types.specs.declared.table.Table.{Table}
use Rattle.jc_typed.specs.declared.program.TypedMethod.{TypedMethod}
use Rattle.jc_unchecked_spec.specs.declared.warning.Warning.{Warning}
use Rattle.jc_unchecked_spec.specs.Warnings.{body_warned}
use Rattle.jc_unchecked_list.specs.Telling.{told}

-- method by method, and of each the last warning first
abbrev pub bodies_told : Table → List TypedMethod → List Warning → List Warning
bodies_told T [] before = before
bodies_told T (m ∷ ms) before = bodies_told T ms (told (body_warned T m m.body) before)
