-- Where strings are, and a string that was made.
use Rattle.std.specs.Prelude.{◌≡◌, ℕ, Bool, not, List, map, filter, option_and_then, codes}
use Rattle.std.specs.Option.{option_map}
use Rattle.std.specs.Str.{bytes_eq}
use Rattle.std.specs.declared.option.Option.{Option}
use Rattle.std.specs.declared.option.Option.TheVariants.{Some, None}
use Rattle.jc_class_out.specs.declared.model.ClassModel.{ClassModel}
use Rattle.jc_class_out.specs.declared.model.FieldModel.{FieldModel}
use Rattle.jc_jvm.specs.Classes.{is_static_field}
use Rattle.jc_jvm.specs.Worlds.{string_class, chars_slot, with_string, string_address}
use Rattle.jc_jvm.specs.declared.world.World.{World}
use Rattle.jc_heap.specs.declared.places.StringPlace.{StringPlace}

-- the class String and the slot of its char array
abbrev pub place_by : (ℕ → Option ℕ) → Option ℕ → Option StringPlace
place_by slots class = option_and_then (λ (k : ℕ). option_map (λ (slot : ℕ). record { class = k; slot = slot }) (slots k)) class

-- None where the classes have no String, or that has no char array
unfoldable pub string_place : List ClassModel → Option StringPlace
string_place classes = place_by (chars_slot classes) (string_class classes)

-- a field of type char[]
abbrev pub is_chars : FieldModel → Bool
is_chars f = bytes_eq f.descriptor (codes "[C")

-- of each instance field among some, whether it may hold chars
abbrev pub own_marks : List FieldModel → List Bool
own_marks fields = map is_chars (filter (λ f. not (is_static_field f)) fields)

-- a String of a text was made in a world, or none, where there can't be one
abbrev pub StringMade : List ClassModel → List ℕ → World → Option ℕ → World → Type 0
StringMade classes text before (Some at) after = (at ≡ string_address before) × (with_string classes text before ≡ Some after)
StringMade classes text before None after = (with_string classes text before ≡ None) × (after ≡ before)
