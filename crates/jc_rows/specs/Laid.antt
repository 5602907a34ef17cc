-- The rows of methods by byte offset.
use Rattle.std.specs.Prelude.{ℕ, ◌+◌, ◌-◌, List, [], ◌∷◌, ◌++◌, map, length, replicate}
use Rattle.std.specs.List.{range_with_len}
use Rattle.std.specs.Option.{option_map}
use Rattle.std.specs.declared.option.Option.{Option}
use Rattle.std.specs.declared.option.Option.TheVariants.{Some, None}
use Rattle.jc_class_out.specs.declared.model.ClassModel.{ClassModel}
use Rattle.jc_class_out.specs.declared.model.CodeModel.{CodeModel}
use Rattle.jc_class_out.specs.declared.model.Ins.{Ins}
use Rattle.jc_class_out.specs.Instructions.{ins_size}
use Rattle.jc_jvm.specs.Classes.{methods_of, code_at, placed_at}
use Rattle.jc_rows.specs.Decoded.{row_of}
use Rattle.jc_rows.specs.declared.row.Placed.{Placed}

-- an instruction of this method, and the place behind it
abbrev pub placed_as : List ClassModel → ℕ × ℕ → Ins × ℕ → Placed
placed_as classes method placed = record { row = row_of classes method placed.0; next = placed.1 }

-- Where an instruction begins stands its row, at each other offset of its bytes nothing.
abbrev pub places_of : (Ins × ℕ → Placed) → ℕ → List Ins → List (Option Placed)
places_of f start [] = []
places_of f start (i ∷ is) = Some (f (i, start + ins_size start i)) ∷ (replicate (ins_size start i - 1) None ++ places_of f (start + ins_size start i) is)

-- a method without code has no rows
abbrev pub places_in_code : (Ins × ℕ → Placed) → Option CodeModel → List (Option Placed)
places_in_code f (Some code) = places_of f 0 code.ins
places_in_code f None = []

-- the rows of a method
abbrev pub method_rows : List ClassModel → ℕ → ℕ → List (Option Placed)
method_rows classes k m = places_in_code (placed_as classes (k, m)) (code_at classes k m)

-- the rows of all methods of a class, and of all classes, in their order
abbrev pub class_rows : List ClassModel → ℕ → List (List (Option Placed))
class_rows classes k = map (method_rows classes k) (range_with_len 0 (length (methods_of classes k)))

unfoldable pub all_rows : List ClassModel → List (List (List (Option Placed)))
all_rows classes = map (class_rows classes) (range_with_len 0 (length classes))

-- the row at a place of a method
abbrev pub row_at : List ClassModel → ℕ → ℕ → ℕ → Option Placed
row_at classes k m at = option_map (placed_as classes (k, m)) (placed_at classes k m at)
