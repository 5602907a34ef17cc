-- Lines of a text (JLS 3.4).
use Rattle.std.specs.Prelude.{ℕ, zero, suc, ◌+◌, ◌==◌, Bool, true, false, ◌&&◌, ◌||◌, List, slice_get, Option, Some, None, if◌then◌else◌}

-- there is a byte, and it is `wanted`
abbrev pub is_byte : ℕ → Option ℕ → Bool
is_byte wanted None = false
is_byte wanted (Some b) = b == wanted

-- the byte at this place, if there is one, is `wanted`
abbrev pub has_byte : ℕ → List ℕ → ℕ → Bool
has_byte wanted text place = is_byte wanted (slice_get text place)

-- the other truth value
abbrev pub not : Bool → Bool
not true = false
not false = true

-- a line end has its last byte at this place: a line feed, or a carriage return that no line feed follows
abbrev pub ends_line : List ℕ → ℕ → Bool
ends_line text place = has_byte 10 text place || (has_byte 13 text place && not (has_byte 10 text (place + 1)))

-- how many line ends have their last byte before this place, so that they end at it or before it
unfoldable pub line_ends_by : List ℕ → ℕ → ℕ
line_ends_by text zero = 0
line_ends_by text (suc n) = line_ends_by text n + (if ends_line text n then 1 else 0)
