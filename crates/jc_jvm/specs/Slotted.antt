-- Slots of objects and elements of arrays.
use Rattle.std.specs.Prelude.{ℕ, ◌^◌, ◌<◌, Bool, false, nat_lt, List, length, slice_get, slice_set, option_and_then}
use Rattle.std.specs.declared.option.Option.{Option}
use Rattle.std.specs.declared.option.Option.TheVariants.{Some, None}
use Rattle.jc_jvm.specs.declared.cells.Cell.{Cell}
use Rattle.jc_jvm.specs.declared.cells.Cell.TheVariants.{Instance, Array}
use Rattle.jc_jvm.specs.declared.value.Value.{Value}

-- the slots of an object or of an array
abbrev pub slots_of : Cell → List Value
slots_of (Instance class fields) = fields
slots_of (Array of items) = items

-- no more slots than an int counts
abbrev pub IsSmall : Cell → Type 0
IsSmall cell = length (slots_of cell) < 2 ^ 31

-- with this value in a slot
abbrev pub cell_with : ℕ → Value → Cell → Cell
cell_with slot v (Instance class fields) = Instance class (slice_set fields slot v)
cell_with slot v (Array of items) = Array of (slice_set items slot v)

-- where nothing stands at the address, the heap stays
abbrev pub heap_set : List Cell → ℕ → ℕ → Value → Option Cell → List Cell
heap_set heap at slot v None = heap
heap_set heap at slot v (Some cell) = slice_set heap at (cell_with slot v cell)

-- the heap with this value in a slot of what stands at an address
abbrev pub heap_with : List Cell → ℕ → ℕ → Value → List Cell
heap_with heap at slot v = heap_set heap at slot v (slice_get heap at)

-- no slot is where nothing stands
abbrev pub cell_has : ℕ → Option Cell → Bool
cell_has slot None = false
cell_has slot (Some cell) = nat_lt slot (length (slots_of cell))

-- whether there is such a slot at an address
abbrev pub has_slot : List Cell → ℕ → ℕ → Bool
has_slot heap at slot = cell_has slot (slice_get heap at)

-- ---- static fields, by the numbers of the class and of the field

-- the value of that field; it changes nothing to set a field that isn't there
abbrev pub static_in : List (List Value) → ℕ → ℕ → Option Value
static_in statics class field = option_and_then (λ (values : List Value). slice_get values field) (slice_get statics class)

abbrev pub statics_set : List (List Value) → ℕ → ℕ → Value → Option (List Value) → List (List Value)
statics_set statics class field v None = statics
statics_set statics class field v (Some values) = slice_set statics class (slice_set values field v)

abbrev pub statics_with : List (List Value) → ℕ → ℕ → Value → List (List Value)
statics_with statics class field v = statics_set statics class field v (slice_get statics class)
