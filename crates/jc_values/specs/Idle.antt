-- The computations of the meaning that run no body and initialise no class.
use Rattle.std.specs.Prelude.{ℕ, Bool, true}
use Rattle.jc_types.specs.declared.ids.FieldId.{FieldId}
use Rattle.jc_types.specs.declared.form.Ty.{Ty}
use Rattle.jc_running.specs.declared.value.Value.{Value}
use Rattle.jc_running.specs.declared.value.Value.TheVariants.{Address}
use Rattle.jc_types.specs.declared.erased.Erased.{Erased}
use Rattle.jc_running.specs.Outcomes.{give, stop}
use Rattle.jc_heaps.specs.Making.{passes}
use Rattle.jc_typed.specs.declared.program.TypedProgram.{TypedProgram}
use Rattle.jc_meaning.specs.Kept.{TypedRun, typed_keeping}
use Rattle.jc_meaning.specs.Expressions as e

-- an inner meaning in which each expression, body and initialisation stops
abbrev pub idle : e.Inner
idle = record { expr = λ x. stop; body = λ m. stop; ready = λ k. stop }

-- a field of an object and its change; null throws (JLS 15.11.1)
abbrev pub get_field : TypedProgram → FieldId → Value → TypedRun Value
get_field P = e.get_field P idle

abbrev pub set_field : TypedProgram → FieldId → Value → Value → TypedRun (Unit {0})
set_field P = e.set_field P idle

-- an element and its change, and the length of an array; null throws, and so does an index outside of the array (JLS 15.13.1)
abbrev pub get_element : TypedProgram → Value → Value → TypedRun Value
get_element P = e.get_element P idle

abbrev pub set_element : TypedProgram → Value → Value → Value → TypedRun (Unit {0})
set_element P = e.set_element P idle

abbrev pub length_of : TypedProgram → Value → TypedRun Value
length_of P = e.length_of P idle

-- a new array of a closed array type, with that many elements as new
abbrev pub new_array : TypedProgram → Ty → ℕ → TypedRun ℕ
new_array P = e.new_array P idle

-- whether an array of elements of an erased type can have a value as an element (JLS 10.5)
abbrev pub storable_as : TypedProgram → Erased → Value → TypedRun Bool
storable_as P to (Address a) = passes (typed_keeping P.table) P.table to (Address a)
storable_as P to _ = give true
