-- Objects, arrays, strings and exceptions as they are made, and the tests of references.
use Rattle.std.specs.Prelude.{ℕ, ◌%◌, ◌^◌, ◌==◌, nat_lt, ℤ, pos, negsuc, Bool, true, false, List, [], ◌∷◌, ◌++◌, map, length, Option, Some, None, if◌then◌else◌, int_lt, unsigned_abs}
use Rattle.std.specs.Char.Escape.{encode_utf16}
use Rattle.std.specs.List.{flat_map}
use Rattle.std.specs.Str.{bytes_eq, chars}
use Rattle.jc_types.specs.declared.ids.ClassId.{ClassId}
use Rattle.jc_types.specs.declared.erased.Erased.{Erased}
use Rattle.jc_types.specs.declared.erased.Base.{Base}
use Rattle.jc_types.specs.declared.erased.Base.TheVariants as base
use Rattle.jc_types.specs.declared.table.Table.{Table}
use Rattle.jc_typed.specs.declared.program.Known.{Known}
use Rattle.jc_running.specs.declared.value.Value.{Value}
use Rattle.jc_running.specs.declared.value.Value.TheVariants.{Whole, Address, Null}
use Rattle.jc_running.specs.declared.seen.Check.{Check}
use Rattle.jc_running.specs.Shows.{with_byte, with_taken, with_failure}
use Rattle.jc_running.specs.Outcomes.{Val, Run, give, throw, exit, wrong, bind, behind, spend}
use Rattle.jc_heaps.specs.declared.state.Object.{Object}
use Rattle.jc_heaps.specs.declared.state.Interned.{Interned}
use Rattle.jc_heaps.specs.declared.state.State.{State}
use Rattle.jc_heaps.specs.States.{change, object_at, set_part}
use Rattle.jc_heaps.specs.Classes.{is_of, element_of}
use Rattle.jc_heaps.specs.Numbers.{element_as}
use Rattle.jc_heaps.specs.Layout.{new_fields, slot_of}
use Rattle.jc_heaps.specs.declared.given.Given.{Given}
use Rattle.jc_heaps.specs.declared.given.Given.TheVariants.{Gives, ByZero, Unfit}

-- what a kept type erases to, and what objects of a class without parameters, arrays of `char` and arrays keep
pub record Keeping (K : Type 0) : Type 0 where
  pub erased : K → Erased
  pub of_class : ClassId → K
  pub of_chars : K

-- the UTF-16 units of a text (JLS 3.1)
abbrev pub units_of_text : List ℕ → List ℕ
units_of_text text = flat_map encode_utf16 (chars text)

-- a new object or array, and its address, which is the number of those made before it
abbrev pub make : {K F R : Type 0} → Object K → Run (State K F R) ℕ
make o u s = Val (length s.heap) u (record s { heap = s.heap ++ o ∷ [] })

-- a new object of a class without parameters, whose fields are as new
abbrev pub make_plain : {K F R : Type 0} → Keeping K → Table → ClassId → Run (State K F R) ℕ
make_plain keeping T k = make (record { kept = keeping.of_class k; parts = new_fields T k })

-- An exception of the machine: an object whose fields are as new, so that its message is null; no constructor runs and no class
-- is initialised for it (JLS 11.1.2, 15.6)
abbrev pub raise : {K F R A : Type 0} → Keeping K → Table → ClassId → Run (State K F R) A
raise keeping T k = bind (make_plain keeping T k) throw

-- a UTF-16 unit as an element of an array of `char`
abbrev pub char_value : ℕ → Value
char_value unit = Whole (pos unit)

-- the array of the units goes into the field of the string at an address; where its class has no such field, that is wrong
abbrev pub set_chars : {K F R : Type 0} → Option ℕ → ℕ → ℕ → Run (State K F R) Value
set_chars None at chars = wrong
set_chars (Some slot) at chars = behind (set_part at slot (Address chars)) (give (Address at))

-- a new string: the array of its units, and then the object that has it
abbrev pub make_string : {K F R : Type 0} → Keeping K → Table → Known → List ℕ → Run (State K F R) Value
make_string keeping T known units =
    bind (make (record { kept = keeping.of_chars; parts = map char_value units })) (λ chars.
    bind (make_plain keeping T known.string) (λ at. set_chars (slot_of T known.chars) at chars))

-- the address of the string of these units among those that constants made; None where there is none yet
abbrev pub interned_in : List ℕ → List Interned → Option ℕ
interned_in units [] = None
interned_in units (i ∷ is) = if bytes_eq i.units units then Some i.address else interned_in units is

-- a new string becomes the one of all constants with these units
abbrev pub keep_string : {K F R : Type 0} → List ℕ → Value → Run (State K F R) Value
keep_string units (Address a) = behind (change (λ s. record s { strings = s.strings ++ record { units = units; address = a } ∷ [] })) (give (Address a))
keep_string units _ = wrong

-- the string that is there already, or a new one, which is kept
abbrev pub if_interned : {K F R : Type 0} → Keeping K → Table → Known → List ℕ → Option ℕ → Run (State K F R) Value
if_interned keeping T known units (Some a) = give (Address a)
if_interned keeping T known units None = bind (make_string keeping T known units) (keep_string units)

-- the one string of equal constants, which is made at its first use (JLS 3.10.5, 15.28)
abbrev pub constant_string : {K F R : Type 0} → Keeping K → Table → Known → List ℕ → Run (State K F R) Value
constant_string keeping T known units u s = if_interned keeping T known units (interned_in units s.strings) u s

-- the address of a reference that isn't null; null throws (JLS 15.6)
abbrev pub address_of : {K F R : Type 0} → Keeping K → Table → Known → Value → Run (State K F R) ℕ
address_of keeping T known (Address a) = give a
address_of keeping T known Null = raise keeping T known.thrown.null_pointer
address_of keeping T known _ = wrong

-- the place of an element, within the range of the array (JLS 10.4)
abbrev pub place_of : {K F R : Type 0} → Keeping K → Table → Known → Object K → Value → Run (State K F R) ℕ
place_of keeping T known o (Whole n) =
    if int_lt n (pos 0) then raise keeping T known.thrown.out_of_bounds else
    if nat_lt (unsigned_abs n) (length o.parts) then give (unsigned_abs n) else
    raise keeping T known.thrown.out_of_bounds
place_of keeping T known o _ = wrong

-- whether a reference is null or refers to an object of an erased type
abbrev pub passes : {K F R : Type 0} → Keeping K → Table → Erased → Value → Run (State K F R) Bool
passes keeping T to Null = give true
passes keeping T to (Address a) = bind (object_at a) (λ o. give (is_of T (keeping.erased o.kept) to))
passes keeping T to _ = wrong

-- A check that fails spends a unit, is noted, and throws (JLS 5.5.3, 15.16)
abbrev pub fail : {K F R A : Type 0} → Keeping K → Table → Known → Check → Run (State K F R) A
fail keeping T known check =
    behind (spend (change (λ s. record s { shown = with_failure check s.shown }))) (raise keeping T known.thrown.class_cast)

-- the value where the test holds, and else the failure of the check
abbrev pub if_passes : {K F R : Type 0} → Keeping K → Table → Known → Check → Value → Bool → Run (State K F R) Value
if_passes keeping T known check v true = give v
if_passes keeping T known check v false = fail keeping T known check

-- a value that has to be null or of an erased type
abbrev pub checked : {K F R : Type 0} → Keeping K → Table → Known → Check → Erased → Value → Run (State K F R) Value
checked keeping T known check to v = bind (passes keeping T to v) (if_passes keeping T known check v)

-- a store into an array of references tests that the element is of its element type (JLS 10.5)
abbrev pub stored_if : {K F R : Type 0} → Keeping K → Table → Known → ℕ → ℕ → Value → Bool → Run (State K F R) (Unit {0})
stored_if keeping T known at place v true = set_part at place v
stored_if keeping T known at place v false = raise keeping T known.thrown.array_store

-- an int that is stored in an array of a smaller type is narrowed to it
abbrev pub kept_in_base : Base → Value → Value
kept_in_base (base.Prim p) v = element_as p v
kept_in_base _ v = v

abbrev pub kept_as : Erased → Value → Value
kept_as e v = if e.dims == 0 then kept_in_base e.base v else v

-- null and what is no reference can be stored in any array
abbrev pub storable : {K F R : Type 0} → Keeping K → Table → Object K → Value → Run (State K F R) Bool
storable keeping T o (Address a) = passes keeping T (element_of (keeping.erased o.kept)) (Address a)
storable keeping T o _ = give true

abbrev pub store : {K F R : Type 0} → Keeping K → Table → Known → ℕ → Object K → ℕ → Value → Run (State K F R) (Unit {0})
store keeping T known at o place v =
    bind (storable keeping T o v) (stored_if keeping T known at place (kept_as (element_of (keeping.erased o.kept)) v))

-- what an operator gave
abbrev pub given : {K F R : Type 0} → Keeping K → Table → Known → Given → Run (State K F R) Value
given keeping T known (Gives v) = give v
given keeping T known ByZero = raise keeping T known.thrown.arithmetic
given keeping T known Unfit = wrong

-- The identity hash of an object: the number of objects and arrays that were made before it, modulo 2^31
abbrev pub identity_hash : ℕ → Value
identity_hash a = Whole (pos (a % 2 ^ 31))

-- A byte goes out, which spends a unit
abbrev pub put_byte : {K F R : Type 0} → ℕ → Run (State K F R) (Unit {0})
put_byte b = spend (change (λ s. record s { shown = with_byte b s.shown }))

-- the first one of these bytes, which spends a unit, or -1 where there is none
abbrev pub taken_from : {K F R : Type 0} → List ℕ → Run (State K F R) Value
taken_from [] = give (Whole (negsuc 0))
taken_from (b ∷ bs) = behind (spend (change (λ s. record s { input = bs; shown = with_taken s.shown }))) (give (Whole (pos b)))

-- the next byte of the input, or -1 where none is left, which spends no unit
abbrev pub take_byte : {K F R : Type 0} → Run (State K F R) Value
take_byte u s = taken_from s.input u s

-- The program ends itself with a code
abbrev pub exit_with : {K F R A : Type 0} → ℤ → Run (State K F R) A
exit_with code = spend (exit code)
