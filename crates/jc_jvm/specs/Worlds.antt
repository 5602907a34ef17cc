-- What frames share: the heap, class states, static fields, interned strings (JVMS 2.5).
use Rattle.std.specs.Prelude.{ℕ, ◌+◌, List, [], ◌∷◌, ◌++◌, map, length, position, replicate, slice_get, slice_set, option_and_then, pos, codes, if◌then◌else◌}
use Rattle.std.specs.Option.{option_map}
use Rattle.std.specs.Str.{bytes_eq}
use Rattle.std.specs.declared.option.Option.{Option}
use Rattle.std.specs.declared.option.Option.TheVariants.{Some, None}
use Rattle.jc_class_out.specs.declared.model.ClassModel.{ClassModel}
use Rattle.jc_class_out.specs.declared.model.FieldModel.{FieldModel}
use Rattle.jc_jvm.specs.Classes.{class_named, instance_fields}
use Rattle.jc_jvm.specs.Slotted.{static_in, statics_with}
use Rattle.jc_jvm.specs.Types.{new_fields, based, sort_of_shape, zero_of, zero_of_field}
use Rattle.jc_jvm.specs.declared.cells.Cell.{Cell}
use Rattle.jc_jvm.specs.declared.cells.Cell.TheVariants.{Instance, Array}
use Rattle.jc_jvm.specs.declared.value.Base.TheVariants as base
use Rattle.jc_jvm.specs.declared.value.Shape.{Shape}
use Rattle.jc_jvm.specs.declared.value.Value.{Value}
use Rattle.jc_jvm.specs.declared.value.Value.TheVariants.{Whole, Address}
use Rattle.jc_jvm.specs.declared.world.ClassState.{ClassState}
use Rattle.jc_jvm.specs.declared.world.ClassState.TheVariants.{Untouched}
use Rattle.jc_jvm.specs.declared.world.Interned.{Interned}
use Rattle.jc_jvm.specs.declared.world.World.{World}

-- ---- objects and arrays; the address of a new one is the number of those before it

-- the world with another heap, or with one cell more at its end
abbrev pub with_heap : List Cell → World → World
with_heap heap world = record world { heap = heap }

abbrev pub with_cell : Cell → World → World
with_cell cell world = with_heap (world.heap ++ cell ∷ []) world

-- a new object of a class, whose fields hold their zeros
abbrev pub with_object : List ClassModel → ℕ → World → World
with_object classes k world = with_cell (Instance k (new_fields classes k)) world

-- a new array of so many elements, which hold their zeros
abbrev pub zeros : Shape → ℕ → List Value
zeros of n = replicate n (zero_of (sort_of_shape of))

-- the elements have the type `of`
abbrev pub with_array : Shape → ℕ → World → World
with_array of n world = with_cell (Array of (zeros of n)) world

-- the new address
abbrev pub next_address : World → ℕ
next_address world = length world.heap

-- ---- strings: a char array, and then the String that holds it in its first field of that type

-- the class String, and where a class's objects have their first char array
abbrev pub string_class : List ClassModel → Option ℕ
string_class classes = class_named classes (codes "java/lang/String")

abbrev pub chars_slot : List ClassModel → ℕ → Option ℕ
chars_slot classes k = position (λ (s : ℕ × FieldModel). bytes_eq s.1.descriptor (codes "[C")) (instance_fields classes k)

-- the char array of a text, and the String that holds the one at this address
abbrev pub chars_cell : List ℕ → Cell
chars_cell text = Array (based base.Char) (map (λ (u : ℕ). Whole (pos u)) text)

abbrev pub string_cell : List ClassModel → ℕ → ℕ → ℕ → Cell
string_cell classes k slot chars = Instance k (slice_set (new_fields classes k) slot (Address chars))

-- the world with a new String of this text, where the classes have a String with such a field
abbrev pub with_string : List ClassModel → List ℕ → World → Option World
with_string classes text world =
    option_and_then (λ (k : ℕ). option_map (λ (slot : ℕ). with_cell (string_cell classes k slot (next_address world)) (with_cell (chars_cell text) world)) (chars_slot classes k)) (string_class classes)

-- the address of the String that `with_string` makes
abbrev pub string_address : World → ℕ
string_address world = next_address world + 1

-- the String of a literal that was used before
abbrev pub interned_in : List Interned → List ℕ → Option ℕ
interned_in [] text = None
interned_in (i ∷ is) text = if bytes_eq i.text text then Some i.address else interned_in is text

-- this text's literal is the String at this address from now on
abbrev pub with_interned : List ℕ → ℕ → World → World
with_interned text address world = record world { interned = world.interned ++ record { text = text; address = address } ∷ [] }

-- ---- class states and static fields

-- how far the initialisation of a class is; None of a number that is no class
abbrev pub state_of_class : World → ℕ → Option ClassState
state_of_class world k = slice_get world.states k

abbrev pub with_state : ClassState → ℕ → World → World
with_state state k world = record world { states = slice_set world.states k state }

-- the value of the static field of this class and number, and the world with another one
abbrev pub statics_at : World → ℕ × ℕ → Option Value
statics_at world place = static_in world.statics place.0 place.1

abbrev pub with_static : ℕ × ℕ → Value → World → World
with_static place v world = record world { statics = statics_with world.statics place.0 place.1 v }

-- before anything runs
abbrev pub first_world : List ClassModel → World
first_world classes = record {
  heap = [];
  states = map (λ (c : ClassModel). Untouched) classes;
  statics = map (λ (c : ClassModel). map zero_of_field c.fields) classes;
  interned = [];
}
