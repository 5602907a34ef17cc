-- The rows of the instruction table (JVMS 6.5): which row an instruction is.
use Rattle.std.specs.Prelude.{ℕ, ◌==◌, Bool, ◌&&◌, ◌||◌, nat_le, List, codes, if◌then◌else◌, pos, ◌-ℤ◌}
use Rattle.std.specs.Str.{bytes_eq}
use Rattle.std.specs.declared.option.Option.{Option}
use Rattle.std.specs.declared.option.Option.TheVariants.{Some, None}
use Rattle.jc_class_out.specs.declared.model.Ins.{Ins}
use Rattle.jc_class_out.specs.declared.model.Loaded.{Loaded}
use Rattle.jc_class_out.specs.declared.model.Loaded.TheVariants.{Whole as LoadedWhole, Long as LoadedLong, Text as LoadedText}
use Rattle.jc_class_out.specs.declared.model.Operand.{Operand}
use Rattle.jc_class_out.specs.declared.model.Operand.TheVariants.{Nothing, Number, Local, Step, Load, Member, Class, Dims, Jump, Switch}
use Rattle.jc_machine.specs.declared.rows.Row.{Row}
use Rattle.jc_machine.specs.declared.rows.Row.TheVariants.{Push, LoadReference, AddInt, GetOut, WriteByte, Construct, Return}

-- iconst_m1 to iconst_5, iadd, return
abbrev pub plain_row : ℕ → Option Row
plain_row code =
    if nat_le 0x02 code && nat_le code 0x08 then Some (Push (pos code -ℤ pos 3)) else
    if code == 0x60 then Some AddInt else
    if code == 0xb1 then Some Return else None

-- bipush, sipush
abbrev pub is_push : ℕ → Bool
is_push code = code == 0x10 || code == 0x11

-- ldc, ldc_w
abbrev pub is_load_constant : ℕ → Bool
is_load_constant code = code == 0x12 || code == 0x13

-- only ints are loaded yet
abbrev pub constant_row : ℕ → Loaded → Option Row
constant_row code (LoadedWhole n) = if is_load_constant code then Some (Push n) else None
constant_row code (LoadedLong n) = None
constant_row code (LoadedText text) = None

-- a member of this class, name and descriptor
abbrev pub is_member : List ℕ → List ℕ → List ℕ → List ℕ → List ℕ → List ℕ → Bool
is_member wanted_class wanted_name wanted_descriptor class name descriptor =
    bytes_eq class wanted_class && bytes_eq name wanted_name && bytes_eq descriptor wanted_descriptor

-- the three members that the machine knows
abbrev pub is_out : List ℕ → List ℕ → List ℕ → Bool
is_out = is_member (codes "java/lang/System") (codes "out") (codes "Ljava/io/PrintStream;")

abbrev pub is_write : List ℕ → List ℕ → List ℕ → Bool
is_write = is_member (codes "java/io/PrintStream") (codes "write") (codes "(I)V")

abbrev pub is_object_constructor : List ℕ → List ℕ → List ℕ → Bool
is_object_constructor = is_member (codes "java/lang/Object") (codes "<init>") (codes "()V")

-- getstatic, invokevirtual, invokespecial
abbrev pub member_row : ℕ → List ℕ → List ℕ → List ℕ → Option Row
member_row code class name descriptor =
    if code == 0xb2 && is_out class name descriptor then Some GetOut else
    if code == 0xb6 && is_write class name descriptor then Some WriteByte else
    if code == 0xb7 && is_object_constructor class name descriptor then Some Construct else None

-- the row of an instruction by its operand: of those with a local only `aload`
abbrev pub operand_row : ℕ → Operand → Option Row
operand_row code Nothing = plain_row code
operand_row code (Number n) = if is_push code then Some (Push n) else None
operand_row code (Local local) = if code == 0x19 then Some (LoadReference local) else None
operand_row code (Step local by) = None
operand_row code (Load loaded) = constant_row code loaded
operand_row code (Member class name descriptor) = member_row code class name descriptor
operand_row code (Class class) = None
operand_row code (Dims class dims) = None
operand_row code (Jump to) = None
operand_row code (Switch otherwise cases) = None

-- The row of an instruction. The table has no row behind `wide` yet.
abbrev pub row_of : Ins → Option Row
row_of ins = if ins.wide then None else operand_row ins.code ins.operand
