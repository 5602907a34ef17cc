-- The native methods of the library.
use Rattle.std.specs.Prelude.{ℕ, ◌%◌, ◌==◌, ℤ, List, [], ◌++◌, codes, replicate, Option, Some, None, if◌then◌else◌}
use Rattle.std.specs.Int.{w32, cast_unsigned}
use Rattle.jc_types.specs.declared.ids.MethodId.{MethodId}
use Rattle.jc_types.specs.declared.form.Primitive.{Primitive}
use Rattle.jc_types.specs.declared.form.Primitive.TheVariants as primitive
use Rattle.jc_types.specs.declared.erased.Erased.{Erased}
use Rattle.jc_types.specs.declared.erased.Base.{Base}
use Rattle.jc_types.specs.declared.erased.Base.TheVariants as base
use Rattle.jc_types.specs.declared.table.Table.{Table}
use Rattle.jc_types.specs.Accessors.{binary_of}
use Rattle.jc_running.specs.declared.value.Value.{Value}
use Rattle.jc_running.specs.declared.value.Value.TheVariants.{Address, Null}
use Rattle.jc_running.specs.Outcomes.{Run, give, wrong, bind, behind}
use Rattle.jc_heaps.specs.declared.state.State.{State}
use Rattle.jc_heaps.specs.States.{some_or_wrong, local, object_at}
use Rattle.jc_heaps.specs.Numbers.{whole_of}
use Rattle.jc_heaps.specs.Making.{Keeping, make_string, units_of_text, put_byte, take_byte, exit_with, identity_hash}
use Rattle.jc_typed.specs.declared.program.Known.{Known}
use Rattle.jc_typed.specs.declared.program.Natives.{Natives}
use Rattle.jc_meaning.specs.declared.target.Native.{Native}
use Rattle.jc_meaning.specs.declared.target.Native.TheVariants.{HashCode, ClassName, Put, ReadByte, Halt}

-- which native method this is, if it is one
abbrev pub native_of : Natives → MethodId → Option Native
native_of n m =
    if m.0 == n.hash_code.0 then Some HashCode else
    if m.0 == n.class_name.0 then Some ClassName else
    if m.0 == n.thrown_name.0 then Some ClassName else
    if m.0 == n.put.0 then Some Put else
    if m.0 == n.read_byte.0 then Some ReadByte else
    if m.0 == n.halt.0 then Some Halt else None

-- the letter of a primitive type in the name of an array class (JVMS 4.3.2)
abbrev pub letter_of : Primitive → List ℕ
letter_of primitive.Boolean = codes "Z"
letter_of primitive.Byte = codes "B"
letter_of primitive.Short = codes "S"
letter_of primitive.Char = codes "C"
letter_of primitive.Int = codes "I"
letter_of primitive.Long = codes "J"

-- a class as an element stands between `L` and `;`
abbrev pub element_name : Table → Base → List ℕ
element_name T (base.Prim p) = letter_of p
element_name T (base.Class k) = codes "L" ++ binary_of T k ++ codes ";"
element_name T base.NullTy = []

-- the name of a class; a primitive type, which no object is of, has none
abbrev pub plain_name : Table → Base → List ℕ
plain_name T (base.Class k) = binary_of T k
plain_name T _ = []

-- the binary name of a class with dots (JLS 13.1), and that of an array class by its dimensions and elements
abbrev pub name_of : Table → Erased → List ℕ
name_of T e = if e.dims == 0 then plain_name T e.base else replicate e.dims 91 ++ element_name T e.base

-- the address that a reference holds; null and a number are wrong
abbrev pub address_in : {S : Type 0} → Value → Run S ℕ
address_in (Address a) = give a
address_in _ = wrong

-- the int that a variable holds
abbrev pub whole_in : {K F R : Type 0} → ℕ → Run (State K F R) ℤ
whole_in n = bind (local n) (λ v. some_or_wrong (whole_of v))

-- A native method by its variables: the receiver or the argument is number 0. The name is a new string of its UTF-16 units at each call, a byte goes
-- out by its low eight bits, and where no byte is left -1 is read
abbrev pub native_act : {K F R : Type 0} → Keeping K → Table → Known → Native → Run (State K F R) Value
native_act keeping T known HashCode = bind (local 0) (λ v. bind (address_in v) (λ a. give (identity_hash a)))
native_act keeping T known ClassName =
    bind (local 0) (λ v. bind (address_in v) (λ a. bind (object_at a) (λ o. make_string keeping T known (units_of_text (name_of T (keeping.erased o.kept))))))
native_act keeping T known Put = bind (whole_in 0) (λ n. behind (put_byte (cast_unsigned w32 n % 256)) (give Null))
native_act keeping T known ReadByte = take_byte
native_act keeping T known Halt = bind (whole_in 0) exit_with
