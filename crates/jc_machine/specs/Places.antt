-- The rows of a method in one list, by byte offset, and why it gives the rows that the instructions have.
use Rattle.std.specs.Prelude.{ℕ, ◌+◌, ◌-◌, nat_le, List, [], ◌∷◌, ◌++◌, map, replicate, if◌then◌else◌}
use Rattle.std.specs.declared.option.Option.{Option}
use Rattle.std.specs.declared.option.Option.TheVariants.{Some, None}
use Rattle.jc_class_out.specs.declared.model.ClassModel.{ClassModel}
use Rattle.jc_class_out.specs.declared.model.CodeModel.{CodeModel}
use Rattle.jc_class_out.specs.declared.model.Ins.{Ins}
use Rattle.jc_class_out.specs.declared.model.MethodModel.{MethodModel}
use Rattle.jc_machine.specs.declared.rows.Placed.{Placed}
use Rattle.jc_machine.specs.Code.{size_of, place_of}

-- of each byte from this place on, the row of the instruction that begins there
abbrev pub places_from : ℕ → List Ins → List (Option Placed)
places_from at [] = []
places_from at (i ∷ is) =
    if nat_le (at + size_of at i) 65535 then place_of at i ∷ (replicate (size_of at i - 1) None ++ places_from (at + size_of at i) is) else []

-- a method without code has no rows; those of a class's methods, and of all classes, are in their order
abbrev pub places_of_code : Option CodeModel → List (Option Placed)
places_of_code None = []
places_of_code (Some code) = places_from 0 code.ins

abbrev pub places_of_methods : List MethodModel → List (List (Option Placed))
places_of_methods methods = map (λ m. places_of_code m.code) methods

abbrev pub places_of_classes : List ClassModel → List (List (List (Option Placed)))
places_of_classes classes = map (λ c. places_of_methods c.methods) classes
