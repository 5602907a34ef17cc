-- The instructions on objects, arrays and static fields (JVMS 6.5) that run no other code.
use Rattle.std.specs.Prelude.{ℕ, zero, suc, ◌+◌, ◌*◌, ◌%◌, ◌^◌, ◌==◌, Bool, true, false, ◌&&◌, nat_lt, nat_le, List, [], ◌∷◌, ◌++◌, length, slice_get, option_and_then, ℤ, pos, negsuc, if◌then◌else◌}
use Rattle.std.specs.Int.{w8, w16, w32, cast_signed, cast_unsigned}
use Rattle.std.specs.Option.{option_map}
use Rattle.std.specs.declared.option.Option.{Option}
use Rattle.std.specs.declared.option.Option.TheVariants.{Some, None}
use Rattle.jc_class_out.specs.declared.model.ClassModel.{ClassModel}
use Rattle.jc_jvm.specs.Frames.{Act, Fails, throws, pushes, leaves}
use Rattle.jc_jvm.specs.Slotted.{heap_with}
use Rattle.jc_jvm.specs.Types.{is_of_sort, sort_of_shape, shallower, fits}
use Rattle.jc_jvm.specs.Worlds.{with_heap, with_array, with_object, with_string, string_address, with_interned, interned_in, next_address, zeros}
use Rattle.jc_jvm.specs.declared.cells.Cell.{Cell}
use Rattle.jc_jvm.specs.declared.cells.Cell.TheVariants.{Instance, Array}
use Rattle.jc_jvm.specs.declared.frame.Frame.{Frame}
use Rattle.jc_jvm.specs.declared.groups.Element.{Element}
use Rattle.jc_jvm.specs.declared.groups.Element.TheVariants.{OfInt, OfLong, OfReference, OfByte, OfChar, OfShort}
use Rattle.jc_jvm.specs.declared.operands.Sort.{Sort}
use Rattle.jc_jvm.specs.declared.operands.Sort.TheVariants.{WholeSort, LongSort, ReferenceSort}
use Rattle.jc_jvm.specs.declared.value.Base.{Base}
use Rattle.jc_jvm.specs.declared.value.Base.TheVariants as base
use Rattle.jc_jvm.specs.declared.value.Shape.{Shape}
use Rattle.jc_jvm.specs.declared.value.Value.{Value}
use Rattle.jc_jvm.specs.declared.value.Value.TheVariants.{Whole, Long, Address, NullValue}
use Rattle.jc_jvm.specs.declared.world.Fault.TheVariants.{ArrayIndexOutOfBounds, ArrayStore, ClassCast, NegativeArraySize, NullPointer}
use Rattle.jc_jvm.specs.declared.world.World.{World}

-- what an instruction does to its frame, and what all frames share afterwards
abbrev pub Act_in : Type 0
Act_in = World × Act

-- ---- arrays: null is tested first, then the range, and for aastore then the type

-- the type of the elements that each instruction is for; baload and bastore also have booleans (JVMS 6.5)
abbrev pub is_element_base : Element → Base → Bool
is_element_base OfInt base.Int = true
is_element_base OfLong base.Long = true
is_element_base OfReference (base.Class k) = true
is_element_base OfByte base.Byte = true
is_element_base OfByte base.Boolean = true
is_element_base OfChar base.Char = true
is_element_base OfShort base.Short = true
is_element_base _ _ = false

-- elements that are arrays are references
abbrev pub is_reference_element : Element → Bool
is_reference_element OfReference = true
is_reference_element _ = false

-- an array of these elements may be read and written by such an instruction
abbrev pub is_array_of : Element → Shape → Bool
is_array_of element of = if of.dims == 0 then is_element_base element of.base else is_reference_element element

-- the place of an index, if it is in range
abbrev pub place_in : List Value → ℤ → Option ℕ
place_in items (pos n) = if nat_lt n (length items) then Some n else None
place_in items (negsuc n) = None

-- an index out of range throws
abbrev pub element_pushed : ℕ → Frame → List Value → Option Value → Act
element_pushed next now rest (Some v) = pushes next now rest v
element_pushed next now rest None = throws ArrayIndexOutOfBounds now

-- the element of the array in this cell; the table allows nothing where it is no array, or one of other elements
abbrev pub element_of : Element → Option Cell → ℤ → ℕ → Frame → List Value → Act
element_of element (Some (Array of items)) index next now rest =
    if is_array_of element of then element_pushed next now rest (option_and_then (slice_get items) (place_in items index)) else Fails
element_of element _ index next now rest = Fails

-- iaload and its kin: the index is on top, the array beneath it
abbrev pub element_loaded : Element → World → ℕ → Frame → List Value → Act
element_loaded element world next now (Whole index ∷ Address at ∷ rest) = element_of element (slice_get world.heap at) index next now rest
element_loaded element world next now (Whole index ∷ NullValue ∷ rest) = throws NullPointer now
element_loaded element world next now _ = Fails

-- the value that an array of these elements keeps: an int narrowed to the element, which is one bit for a boolean
abbrev pub narrowed_to : Base → ℤ → ℤ
narrowed_to base.Boolean n = pos (cast_unsigned w32 n % 2)
narrowed_to base.Byte n = cast_signed w8 (cast_unsigned w32 n % 2 ^ 8)
narrowed_to base.Char n = pos (cast_unsigned w32 n % 2 ^ 16)
narrowed_to base.Short n = cast_signed w16 (cast_unsigned w32 n % 2 ^ 16)
narrowed_to _ n = n

-- only ints are narrowed
abbrev pub kept : Shape → Value → Value
kept of (Whole n) = Whole (narrowed_to of.base n)
kept of v = v

-- a value may stand in an array: aastore asks its type (JVMS 6.5), the others only its sort
abbrev pub may_stand : List ClassModel → World → Shape → Value → Bool
may_stand classes world of (Address a) = fits classes world.heap of (Address a)
may_stand classes world of v = true

-- the range is tested before the type of the value
abbrev pub element_put : List ClassModel → World → ℕ → Shape → Value → ℕ → Frame → List Value → Option ℕ → Act_in
element_put classes world at of v next now rest None = (world, throws ArrayIndexOutOfBounds now)
element_put classes world at of v next now rest (Some place) =
    if may_stand classes world of v then (with_heap (heap_with world.heap at place (kept of v)) world, leaves next now rest) else (world, throws ArrayStore now)

-- the array in this cell; the table allows nothing where it is none, or where the value isn't of the sort of its elements
abbrev pub element_kept : List ClassModel → Element → World → Option Cell → ℕ → ℤ → Value → ℕ → Frame → List Value → Act_in
element_kept classes element world (Some (Array of items)) at index v next now rest =
    if is_array_of element of && is_of_sort (sort_of_shape of) v then element_put classes world at of v next now rest (place_in items index) else (world, Fails)
element_kept classes element world _ at index v next now rest = (world, Fails)

-- the sort of the values that each instruction stores
abbrev pub sort_of_element : Element → Sort
sort_of_element OfLong = LongSort
sort_of_element OfReference = ReferenceSort
sort_of_element _ = WholeSort

-- iastore and its kin: the value is on top, then the index, then the array; the value's sort is asked for null too
abbrev pub element_stored : List ClassModel → Element → World → ℕ → Frame → List Value → Act_in
element_stored classes element world next now (v ∷ Whole index ∷ Address at ∷ rest) = element_kept classes element world (slice_get world.heap at) at index v next now rest
element_stored classes element world next now (v ∷ Whole index ∷ NullValue ∷ rest) =
    if is_of_sort (sort_of_element element) v then (world, throws NullPointer now) else (world, Fails)
element_stored classes element world next now _ = (world, Fails)

-- arraylength; of null a NullPointerException (JVMS 6.5, arraylength)
abbrev pub length_pushed : Option Cell → ℕ → Frame → List Value → Act
length_pushed (Some (Array of items)) next now rest = pushes next now rest (Whole (pos (length items)))
length_pushed _ next now rest = Fails

-- the array is on top
abbrev pub array_length : World → ℕ → Frame → List Value → Act
array_length world next now (Address at ∷ rest) = length_pushed (slice_get world.heap at) next now rest
array_length world next now (NullValue ∷ rest) = throws NullPointer now
array_length world next now _ = Fails

-- newarray, anewarray: a negative length throws before anything is made
abbrev pub array_made : Shape → World → ℕ → Frame → List Value → Act_in
array_made of world next now (Whole (pos n) ∷ rest) = (with_array of n world, pushes next now rest (Address (next_address world)))
array_made of world next now (Whole (negsuc n) ∷ rest) = (world, throws NegativeArraySize now)
array_made of world next now _ = (world, Fails)

-- ---- arrays of several lengths: the outer one first, then from left to right

-- how many arrays stand in one of these lengths, itself among them
unfoldable pub arrays_within : List ℕ → ℕ
arrays_within [] = 0
arrays_within (n ∷ rest) = 1 + n * arrays_within rest

-- so many addresses, each so far behind the one before
abbrev pub addresses : ℕ → ℕ → ℕ → List Value
addresses zero far at = []
addresses (suc n) far at = Address at ∷ addresses n far (at + far)

-- the cells of so many arrays, each of which begins so far behind the one before
abbrev pub cells_of : ℕ → ℕ → ℕ → (ℕ → List Cell) → List Cell
cells_of zero far at inner = []
cells_of (suc n) far at inner = inner at ++ cells_of n far (at + far) inner

-- an array of n elements at this address, and behind it the arrays that are its elements, if there are more lengths
abbrev pub nested : Shape → ℕ → List ℕ → ℕ → (ℕ → List Cell) → List Cell
nested of n [] at inner = Array of (zeros of n) ∷ []
nested of n (m ∷ more) at inner =
    Array of (addresses n (arrays_within (m ∷ more)) (at + 1)) ∷ cells_of n (arrays_within (m ∷ more)) (at + 1) inner

-- the arrays that stand from an address on for an array of these lengths, whose elements have this type
unfoldable pub nest : List ℕ → Shape → ℕ → List Cell
nest [] of at = []
nest (n ∷ rest) of at = nested of n rest at (nest rest (shallower of))

-- so many lengths from the top, the last one first; none where one isn't there or is no int
abbrev pub lengths_on : ℕ → List ℤ → List Value → Option (List ℤ × List Value)
lengths_on zero found values = Some (found, values)
lengths_on (suc n) found (Whole length ∷ rest) = lengths_on n (length ∷ found) rest
lengths_on (suc n) found _ = None

-- the lengths, if none is negative
abbrev pub naturals : List ℤ → Option (List ℕ)
naturals [] = Some []
naturals (pos n ∷ ns) = option_map (λ (more : List ℕ). n ∷ more) (naturals ns)
naturals (negsuc n ∷ ns) = None

-- a negative length throws before anything is made
abbrev pub nest_made : Shape → World → ℕ → Frame → List Value → Option (List ℕ) → Act_in
nest_made of world next now rest (Some lengths) =
    (with_heap (world.heap ++ nest lengths of (next_address world)) world, pushes next now rest (Address (next_address world)))
nest_made of world next now rest None = (world, throws NegativeArraySize now)

-- where the lengths are ints, which the table wants
abbrev pub nest_by : Shape → World → ℕ → Frame → Option (List ℤ × List Value) → Act_in
nest_by of world next now (Some found) = nest_made of world next now found.1 (naturals found.0)
nest_by of world next now None = (world, Fails)

-- multianewarray of an array type, by so many of its dimensions
abbrev pub arrays_made : Shape → ℕ → World → ℕ → Frame → Act_in
arrays_made shape dims world next now =
    if nat_le 1 dims && nat_le dims shape.dims then nest_by (shallower shape) world next now (lengths_on dims [] now.stack.values) else (world, Fails)

-- ---- objects

-- new: neither an interface nor abstract
abbrev pub object_made : List ClassModel → ℕ → World → ℕ → Frame → Act_in
object_made classes k world next now = (with_object classes k world, pushes next now now.stack.values (Address (next_address world)))

-- the value of a field, if it is there and of the sort of the field's descriptor
abbrev pub field_pushed : Sort → ℕ → Frame → List Value → Option Value → Act
field_pushed sort next now rest (Some v) = if is_of_sort sort v then pushes next now rest v else Fails
field_pushed sort next now rest None = Fails

-- what an object holds in this slot; arrays have none
abbrev pub slot_in : Option Cell → ℕ → Option Value
slot_in (Some (Instance class fields)) slot = slice_get fields slot
slot_in _ slot = None

-- getfield of the field in this slot, whose values have this sort
abbrev pub field_loaded : Sort → ℕ → World → ℕ → Frame → List Value → Act
field_loaded sort slot world next now (Address at ∷ rest) = field_pushed sort next now rest (slot_in (slice_get world.heap at) slot)
field_loaded sort slot world next now (NullValue ∷ rest) = throws NullPointer now
field_loaded sort slot world next now _ = Fails

-- there is such a slot, and a value of the sort stands in it
abbrev pub holds : Sort → Option Value → Bool
holds sort (Some old) = is_of_sort sort old
holds sort None = false

-- putfield: the sorts of the value and of the one that it takes the place of are asked
abbrev pub field_stored : Sort → ℕ → World → ℕ → Frame → List Value → Act_in
field_stored sort slot world next now (v ∷ Address at ∷ rest) =
    if is_of_sort sort v && holds sort (slot_in (slice_get world.heap at) slot)
    then (with_heap (heap_with world.heap at slot v) world, leaves next now rest) else (world, Fails)
field_stored sort slot world next now (v ∷ NullValue ∷ rest) = if is_of_sort sort v then (world, throws NullPointer now) else (world, Fails)
field_stored sort slot world next now _ = (world, Fails)

-- ---- types

-- checkcast of a reference that isn't null
abbrev pub cast_to : List ClassModel → Shape → World → ℕ → Frame → ℕ → List Value → Act
cast_to classes shape world next now at rest = if fits classes world.heap shape (Address at) then leaves next now (Address at ∷ rest) else throws ClassCast now

-- a boolean is the int 1 or 0 (JVMS 2.3.4)
abbrev pub truth : Bool → Value
truth true = Whole (pos 1)
truth false = Whole (pos 0)

-- ---- string literals: equal ones are one object, made at the first use (JVMS 5.1)

-- the String was made, and is the literal's from now on; without a class String the table allows nothing
abbrev pub literal_made : List ℕ → World → ℕ → Frame → Option World → Act_in
literal_made text world next now (Some made) = (with_interned text (string_address world) made, pushes next now now.stack.values (Address (string_address world)))
literal_made text world next now None = (world, Fails)

-- the String that was made before, or else a new one
abbrev pub literal_by : List ClassModel → List ℕ → World → ℕ → Frame → Option ℕ → Act_in
literal_by classes text world next now (Some address) = (world, pushes next now now.stack.values (Address address))
literal_by classes text world next now None = literal_made text world next now (with_string classes text world)

-- ldc of this text
abbrev pub literal_pushed : List ClassModel → List ℕ → World → ℕ → Frame → Act_in
literal_pushed classes text world next now = literal_by classes text world next now (interned_in world.interned text)
