-- Classes, methods and code by name and by number.
use Rattle.std.specs.Prelude.{ℕ, ◌==◌, Bool, ◌&&◌, List, map, position, slice_get, option_and_then, if◌then◌else◌, codes, bit_and, is_some}
use Rattle.std.specs.Char.Escape.{encode_utf16}
use Rattle.std.specs.List.{flat_map}
use Rattle.std.specs.Str.{bytes_eq, chars}
use Rattle.std.specs.declared.option.Option.{Option}
use Rattle.jc_class_out.specs.declared.model.ClassModel.{ClassModel}
use Rattle.jc_class_out.specs.declared.model.CodeModel.{CodeModel}
use Rattle.jc_class_out.specs.declared.model.MethodModel.{MethodModel}
use Rattle.jc_machine.specs.declared.rows.Placed.{Placed}
use Rattle.jc_machine.specs.Code.{placed_in}

-- a dot of a binary name is a slash in class files (JVMS 4.2.1)
abbrev pub slash : ℕ → ℕ
slash char = if char == 46 then 47 else char

-- the UTF-16 units by which class files spell a binary name
abbrev pub spelling : List ℕ → List ℕ
spelling text = flat_map encode_utf16 (map slash (chars text))

-- the number of the first class whose name is spelled so
abbrev pub class_spelled : List ClassModel → List ℕ → Option ℕ
class_spelled classes units = position (λ class. bytes_eq class.name units) classes

-- public static void main(String[]), with code (JVMS 5.2); public is 1 and static 8
abbrev pub is_main : MethodModel → Bool
is_main method =
    bytes_eq method.name (codes "main") && bytes_eq method.descriptor (codes "([Ljava/lang/String;)V") && bit_and method.flags 9 == 9 && is_some method.code

-- the code of the method of this number in the class of that number
abbrev pub code_at : List ClassModel → ℕ → ℕ → Option CodeModel
code_at classes class method =
    option_and_then (λ c. option_and_then (λ m. m.code) (slice_get c.methods method)) (slice_get classes class)

-- the row at a place of that code
abbrev pub placed_at : List ClassModel → ℕ → ℕ → ℕ → Option Placed
placed_at classes class method at = option_and_then (λ code. placed_in code.ins at) (code_at classes class method)
