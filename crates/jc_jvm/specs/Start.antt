-- Where a run begins (JVMS 5.2).
use Rattle.std.specs.Prelude.{ℕ, ◌+◌, ◌==◌, Bool, ◌&&◌, List, [], ◌∷◌, ◌++◌, map, length, position, option_and_then, is_some, codes, if◌then◌else◌}
use Rattle.std.specs.Char.Escape.{encode_utf16}
use Rattle.std.specs.List.{flat_map}
use Rattle.std.specs.Option.{option_map, unwrap_or}
use Rattle.std.specs.Str.{bytes_eq, chars}
use Rattle.std.specs.declared.option.Option.{Option}
use Rattle.std.specs.declared.option.Option.TheVariants.{Some, None}
use Rattle.jc_class_out.specs.declared.model.ClassModel.{ClassModel}
use Rattle.jc_class_out.specs.declared.model.MethodModel.{MethodModel}
use Rattle.jc_jvm.specs.Classes.{class_named, methods_of, has_flag, is_static_method}
use Rattle.jc_jvm.specs.Frames.{frame_of}
use Rattle.jc_jvm.specs.Initialising.{initialised}
use Rattle.jc_jvm.specs.Thrown.{State, Over}
use Rattle.jc_jvm.specs.Types.{shape_of_class}
use Rattle.jc_jvm.specs.Worlds.{first_world, with_string, string_address, string_class, with_cell, next_address}
use Rattle.jc_jvm.specs.declared.cells.Cell.{Cell}
use Rattle.jc_jvm.specs.declared.cells.Cell.TheVariants.{Array}
use Rattle.jc_jvm.specs.declared.frame.Frame.{Frame}
use Rattle.jc_jvm.specs.declared.frame.Waiting.TheVariants.{Caller}
use Rattle.jc_jvm.specs.declared.value.Value.{Value}
use Rattle.jc_jvm.specs.declared.value.Value.TheVariants.{Address}
use Rattle.jc_jvm.specs.declared.world.Ending.TheVariants.{Stuck}
use Rattle.jc_jvm.specs.declared.world.World.{World}

-- ---- main

-- a dot of a binary name is a slash in class files (JVMS 4.2.1)
abbrev pub slash : ℕ → ℕ
slash char = if char == 46 then 47 else char

-- the UTF-16 units by which class files spell a binary name
abbrev pub spelling : List ℕ → List ℕ
spelling text = flat_map encode_utf16 (map slash (chars text))

-- public static void main(String[]), with code; public is 1
abbrev pub is_main : MethodModel → Bool
is_main m =
    bytes_eq m.name (codes "main") && bytes_eq m.descriptor (codes "([Ljava/lang/String;)V") && has_flag 0x0001 m.flags && is_static_method m && is_some m.code

-- the first main of the first class of this binary name
abbrev pub main_of : List ClassModel → List ℕ → Option (ℕ × ℕ)
main_of classes name =
    option_and_then (λ (k : ℕ). option_map (λ (m : ℕ). (k, m)) (position is_main (methods_of classes k))) (class_named classes (spelling name))

-- ---- arguments: a String of each, in order, and then their array

-- the UTF-16 units of an argument
abbrev pub units_of_text : List ℕ → List ℕ
units_of_text text = flat_map encode_utf16 (chars text)

-- the Strings of texts, and the values of an array that holds them
abbrev pub with_strings : List ClassModel → List (List ℕ) → World × List Value → Option (World × List Value)
with_strings classes [] made = Some made
with_strings classes (text ∷ texts) made =
    option_and_then (λ (world : World). with_strings classes texts (world, made.1 ++ Address (string_address made.0) ∷ [])) (with_string classes (units_of_text text) made.0)

-- Where no argument is there and no class String, the elements of the array are of no class.
abbrev pub arguments_cell : List ClassModel → List Value → Cell
arguments_cell classes values = Array (shape_of_class (unwrap_or (string_class classes) (length classes))) values

-- ---- the state before the first step: the main class is initialised before main

-- the frame of main waits for the initialisation; without room for its argument the machine is stuck
abbrev pub main_waits : List ClassModel → ℕ → World → Option Frame → State
main_waits classes k world (Some frame) = initialised classes k world (Caller frame ∷ [])
main_waits classes k world None = Over Stuck

abbrev pub begins : List ClassModel → ℕ × ℕ → Option (World × List Value) → State
begins classes main (Some made) =
    main_waits classes main.0 (with_cell (arguments_cell classes made.1) made.0) (frame_of classes main (Address (next_address made.0) ∷ []))
begins classes main None = Over Stuck

abbrev pub started : List ClassModel → List (List ℕ) → ℕ × ℕ → State
started classes arguments main = begins classes main (with_strings classes arguments (first_world classes, []))

-- where the first class of this binary name has a main
abbrev pub start_of : List ClassModel → List ℕ → List (List ℕ) → Option State
start_of classes name arguments = option_map (started classes arguments) (main_of classes name)
