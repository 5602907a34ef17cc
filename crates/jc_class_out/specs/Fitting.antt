-- Which classes the writer can spell: each number has room in its field, jumps and handlers go to instructions, operands go
-- with their opcodes, and the pool has room for each constant that is used.
use Rattle.std.specs.Prelude.{◌≡◌, ◌<◌, ◌≤◌, ℕ, ◌+◌, ◌-◌, ◌*◌, ◌^◌, ℤ, pos, negsuc, Bool, true, false, not, ◌&&◌, ◌==◌, nat_lt, nat_le, List, [], ◌∷◌, length, Option, Some, None, if◌then◌else◌}
use Rattle.std.specs.List.{list_all}
use Rattle.jc_class_out.specs.declared.forms.Form.{Form}
use Rattle.jc_class_out.specs.declared.format.Kind.{Kind}
use Rattle.jc_class_out.specs.declared.format.Kind.TheVariants.{Plain, Byte, Short, ArrayOf, Load, LoadWide, LoadLong, Local, Step, Jump, Switch, Field, Method, Interface, Class, Dims, Unknown}
use Rattle.jc_class_out.specs.declared.model.ClassModel.{ClassModel}
use Rattle.jc_class_out.specs.declared.model.CodeModel.{CodeModel}
use Rattle.jc_class_out.specs.declared.model.FieldModel.{FieldModel}
use Rattle.jc_class_out.specs.declared.model.Frame.{Frame}
use Rattle.jc_class_out.specs.declared.model.Handler.{Handler}
use Rattle.jc_class_out.specs.declared.model.InnerModel.{InnerModel}
use Rattle.jc_class_out.specs.declared.model.Ins.{Ins}
use Rattle.jc_class_out.specs.declared.model.Item.{Item}
use Rattle.jc_class_out.specs.declared.model.Item.TheVariants as item
use Rattle.jc_class_out.specs.declared.model.Loaded.{Loaded}
use Rattle.jc_class_out.specs.declared.model.Loaded.TheVariants as loaded
use Rattle.jc_class_out.specs.declared.model.MethodModel.{MethodModel}
use Rattle.jc_class_out.specs.declared.model.SwitchCase.{SwitchCase}
use Rattle.jc_class_out.specs.declared.model.Operand.{Operand}
use Rattle.jc_class_out.specs.declared.model.Operand.TheVariants as op
use Rattle.jc_class_out.specs.Texts.{text_bytes}
use Rattle.jc_class_out.specs.Descriptors.{is_field_descriptor, is_method_descriptor, parameter_units, or_zero}
use Rattle.jc_class_out.specs.Pool.{Known, KnownText, KnownWhole, KnownLong, KnownBehind, KnownClass, KnownLiteral, KnownField, KnownMethod, KnownInterface, KnownPair, is_descriptor}
use Rattle.jc_class_out.specs.Instructions.{is_array_code, kind_of, is_above, target, ins_size}
use Rattle.jc_class_out.specs.Frames.{begins}
use Rattle.jc_class_out.specs.Code.{marks_of, size_from, ends}
use Rattle.jc_class_out.specs.Format.{is_bodiless}
use Rattle.jc_class_out.specs.Forms.{form_of, written_locals, written_stack, delta_of, head_length}
use Rattle.jc_class_out.specs.Spelling.{adds, loads_of, uses, distance, entry_of_method}

-- ---- numbers

-- a number, without a sign, has room in one byte (u1), or in two (u2)
abbrev pub is_u8 : ℕ → Bool
is_u8 n = nat_lt n 256

abbrev pub is_u16 : ℕ → Bool
is_u16 n = nat_lt n 65536

-- whether a signed number has room: its magnitude, or that of one more where it is negative, is below half the range
abbrev pub magnitude : ℤ → ℕ
magnitude (pos n) = n
magnitude (negsuc n) = n

-- `half` is half the range, so that it is 2^31 for an int
abbrev pub is_signed : ℕ → ℤ → Bool
is_signed half z = nat_lt (magnitude z) half

-- the number of things in a list has room in two bytes
abbrev pub is_count : {A : Type 0} → List A → Bool
is_count xs = nat_lt (length xs) 65536

-- ---- constants

-- each unit is a char, and the bytes in modified UTF-8 are counted by a u2 (JVMS 4.4.7)
unfoldable pub text_fits : List ℕ → Bool
text_fits t = list_all is_u16 t && nat_lt (length (text_bytes t)) 65536

-- numbers have room in their entries, and descriptors are of their members' sort; other entries name texts, which stand for themselves
abbrev pub known_fits : Known → Bool
known_fits (KnownText t) = text_fits t
known_fits (KnownWhole n) = is_signed (2 ^ 31) n
known_fits (KnownLong n) = is_signed (2 ^ 63) n
known_fits (KnownBehind n) = true
known_fits (KnownClass t) = true
known_fits (KnownLiteral t) = true
known_fits (KnownField c n d) = is_field_descriptor d
known_fits (KnownMethod c n d) = is_method_descriptor d
known_fits (KnownInterface c n d) = is_method_descriptor d
known_fits (KnownPair n d) = is_descriptor d

-- how many places the constants take, each once
abbrev pub places : List Known → ℕ
places us = length (adds [] us)

-- ---- operands

-- an operand has to be of the sort that its instruction wants; here it is none
abbrev pub is_nothing : Operand → Bool
is_nothing op.Nothing = true
is_nothing _ = false

-- the numbers of bipush and sipush, which have one byte and two, with a sign
abbrev pub is_number : ℕ → Operand → Bool
is_number half (op.Number n) = is_signed half n
is_number half _ = false

-- the type of newarray, by its code
abbrev pub is_array_number : ℤ → Bool
is_array_number (pos n) = is_array_code n
is_array_number (negsuc n) = false

abbrev pub is_array : Operand → Bool
is_array (op.Number n) = is_array_number n
is_array _ = false

-- the number of a local, below 256 or behind `wide` below 65536; of iinc the number that it adds has room too
abbrev pub is_local_below : ℕ → Operand → Bool
is_local_below limit (op.Local n) = nat_lt n limit
is_local_below limit _ = false

abbrev pub is_step_below : ℕ → ℕ → Operand → Bool
is_step_below limit half (op.Step n by) = nat_lt n limit && is_signed half by
is_step_below limit half _ = false

-- ldc and ldc_w load ints and strings, ldc2_w loads longs
abbrev pub is_loaded : Loaded → Bool
is_loaded (loaded.Whole n) = true
is_loaded (loaded.Text t) = true
is_loaded (loaded.Long n) = false

-- the operand of ldc and ldc_w, and that of ldc2_w
abbrev pub is_load_of : Operand → Bool
is_load_of (op.Load l) = is_loaded l
is_load_of _ = false

abbrev pub is_load_long : Operand → Bool
is_load_long (op.Load l) = not (is_loaded l)
is_load_long _ = false

-- the class, the name and the descriptor of a field or a method
abbrev pub is_member : Operand → Bool
is_member (op.Member c n d) = true
is_member _ = false

-- the units of the arguments have one byte
abbrev pub is_interface_member : Operand → Bool
is_interface_member (op.Member c n d) = nat_lt (or_zero (parameter_units d)) 255
is_interface_member _ = false

-- the name of a class, and of multianewarray the number of dimensions too, which is one byte and not 0
abbrev pub is_class_operand : Operand → Bool
is_class_operand (op.Class c) = true
is_class_operand _ = false

abbrev pub is_dims : Operand → Bool
is_dims (op.Dims c n) = nat_lt 0 n && is_u8 n
is_dims _ = false

-- a jump is reached by a signed distance of two bytes
abbrev pub is_jump_from : ℕ → Operand → Bool
is_jump_from at (op.Jump to) = target at (distance at to) == to
is_jump_from at _ = false

-- the keys of lookupswitch are ints, each greater than the one before; None before the first (JVMS 6.5, lookupswitch)
unfoldable pub cases_ascend : Option ℤ → List SwitchCase → Bool
cases_ascend before [] = true
cases_ascend before (c ∷ cs) = is_signed (2 ^ 31) c.key && is_above before c.key && cases_ascend (Some (c.key)) cs

-- the number of cases has four bytes and a sign
abbrev pub is_switch : Operand → Bool
is_switch (op.Switch otherwise cases) = nat_lt (length cases) (2 ^ 31) && cases_ascend None cases
is_switch _ = false

-- the operand of an instruction at this place in the code is of the sort that its opcode wants; an unknown opcode has none
unfoldable pub operand_fits : ℕ → Kind → Operand → Bool
operand_fits at Plain o = is_nothing o
operand_fits at Byte o = is_number (2 ^ 7) o
operand_fits at Short o = is_number (2 ^ 15) o
operand_fits at ArrayOf o = is_array o
operand_fits at Load o = is_load_of o
operand_fits at LoadWide o = is_load_of o
operand_fits at LoadLong o = is_load_long o
operand_fits at Local o = is_local_below 256 o
operand_fits at Step o = is_step_below 256 (2 ^ 7) o
operand_fits at Jump o = is_jump_from at o
operand_fits at Switch o = is_switch o
operand_fits at Field o = is_member o
operand_fits at Method o = is_member o
operand_fits at Interface o = is_interface_member o
operand_fits at Class o = is_class_operand o
operand_fits at Dims o = is_dims o
operand_fits at Unknown o = false

-- behind `wide` stand only loads, stores and iinc, with numbers of two bytes
unfoldable pub wide_fits : Kind → Operand → Bool
wide_fits Local o = is_local_below 65536 o
wide_fits Step o = is_step_below 65536 (2 ^ 15) o
wide_fits _ o = false

-- `wide` is no instruction of its own
unfoldable pub ins_fits : ℕ → Ins → Bool
ins_fits at i = if i.wide then (is_u8 i.code && wide_fits (kind_of i.code) i.operand) else (is_u8 i.code && (not (i.code == 0xc4) && operand_fits at (kind_of i.code) i.operand))

-- each instruction fits at its place; the place of the first one comes first
unfoldable pub all_fit : ℕ → List Ins → Bool
all_fit at [] = true
all_fit at (i ∷ is) = ins_fits at i && all_fit (at + ins_size at i) is

-- a switch and a jump go to places where an instruction begins; `marks` tells which these are
abbrev pub case_lands : List Bool → SwitchCase → Bool
case_lands marks c = begins marks c.at

abbrev pub operand_lands : List Bool → Operand → Bool
operand_lands marks (op.Jump to) = begins marks to
operand_lands marks (op.Switch otherwise cases) = begins marks otherwise && list_all (case_lands marks) cases
operand_lands marks _ = true

-- wherever the instruction may go, an instruction begins
abbrev pub ins_lands : List Bool → Ins → Bool
ins_lands marks i = operand_lands marks i.operand

-- ---- handlers and frames

-- the covered part isn't empty, begins at an instruction and ends behind one, and the handler begins at one (JVMS 4.7.3)
unfoldable pub handler_fits : List Bool → Handler → Bool
handler_fits marks h = begins marks h.from && (ends marks h.to && (nat_lt h.from h.to && begins marks h.at))

-- an uninitialized item tells the place of its `new`, which is an instruction (JVMS 4.7.4)
abbrev pub item_fits : List Bool → Item → Bool
item_fits marks (item.Uninitialized at) = begins marks at
item_fits marks _ = true

-- the places of frames ascend; None before the first
abbrev pub is_behind : Option ℕ → ℕ → Bool
is_behind None at = true
is_behind (Some before) at = nat_lt before at

-- the items are counted by a u2, and each fits
unfoldable pub items_fit : List Bool → List Item → Bool
items_fit marks items = is_count items && list_all (item_fits marks) items

-- the items that stand in the form; the others are those of the frame before
unfoldable pub form_fits : List Bool → Frame → Form → Bool
form_fits marks f form = items_fit marks (written_locals f form) && items_fit marks (written_stack f form)

-- a frame stands at an instruction, behind the frame before; `seen` is the locals of that frame, or at the method's entry
unfoldable pub frame_fits : List Bool → Option ℕ → List Item → Frame → Bool
frame_fits marks before seen f = begins marks f.at && (is_behind before f.at && form_fits marks f (form_of seen f))

-- each frame fits behind the one before
unfoldable pub frames_fit : List Bool → Option ℕ → List Item → List Frame → Bool
frames_fit marks before seen [] = true
frames_fit marks before seen (f ∷ fs) = frame_fits marks before seen f && frames_fit marks (Some (f.at)) f.locals fs

-- the bytes of verification_type_info: its tag, and for two sorts an index or an offset (JVMS 4.7.4)
abbrev pub item_length : Item → ℕ
item_length (item.Object name) = 3
item_length (item.Uninitialized at) = 3
item_length _ = 1

-- the sum over the items
unfoldable pub items_length : List Item → ℕ
items_length [] = 0
items_length (i ∷ is) = item_length i + items_length is

-- the bytes of a frame: its head, whose length is that of its form, and the items that stand in it
unfoldable pub form_length : ℕ → Frame → Form → ℕ
form_length delta f form = head_length delta form + (items_length (written_locals f form) + items_length (written_stack f form))

-- the same from the frame before: by its place, or None, and by its locals
unfoldable pub frame_length : Option ℕ → List Item → Frame → ℕ
frame_length before seen f = form_length (delta_of before f.at) f (form_of seen f)

-- whether the frames take at most so many bytes
unfoldable pub frames_within : ℕ → Option ℕ → List Item → List Frame → Bool
frames_within room before seen [] = true
frames_within room before seen (f ∷ fs) = nat_le (frame_length before seen f) room && frames_within (room - frame_length before seen f) (Some (f.at)) f.locals fs

-- ---- code, methods, classes

-- the length of the attribute Code has four bytes: what the rest of it leaves to the frames
abbrev pub frames_room : CodeModel → ℕ
frames_room c = 2 ^ 32 - 1 - (20 + size_from 0 c.ins + 8 * length c.handlers)

-- the code has at least one byte and less than 65536, its instructions fit, and they go to instructions only (JVMS 4.7.3)
unfoldable pub ins_all_fit : List Ins → Bool
ins_all_fit ins = nat_lt 0 (size_from 0 ins) && (nat_lt (size_from 0 ins) 65536 && (all_fit 0 ins && list_all (ins_lands (marks_of ins)) ins))

-- handlers and frames are counted by a u2, each fits, and the frames have room in the attribute Code
unfoldable pub tables_fit : List Bool → List Item → CodeModel → Bool
tables_fit marks entry c = is_count c.handlers && (list_all (handler_fits marks) c.handlers && (is_count c.frames && (frames_fit marks None entry c.frames && frames_within (frames_room c) None entry c.frames)))

-- `entry` is the locals at the method's entry
unfoldable pub code_fits : List Item → CodeModel → Bool
code_fits entry c = is_u16 c.stack && (is_u16 c.locals && (ins_all_fit c.ins && tables_fit (marks_of c.ins) entry c))

-- there is code exactly where the method isn't abstract or native
abbrev pub code_or_none_fits : Bool → List Item → Option CodeModel → Bool
code_or_none_fits bodiless entry None = bodiless
code_or_none_fits bodiless entry (Some c) = not bodiless && code_fits entry c

-- `class` is the name of the class
unfoldable pub method_fits : List ℕ → MethodModel → Bool
method_fits class m = is_u16 m.flags && (is_method_descriptor m.descriptor && code_or_none_fits (is_bodiless m.flags) (entry_of_method class m) m.code)

-- the flags have two bytes, and the descriptor is one of a field
unfoldable pub field_fits : FieldModel → Bool
field_fits f = is_u16 f.flags && is_field_descriptor f.descriptor

-- only the flags of a member type may lack room; its names are texts of the pool
abbrev pub inner_fits : InnerModel → Bool
inner_fits i = is_u16 i.flags

-- interfaces, fields, methods and member types are counted by a u2 each
unfoldable pub counts_fit : ClassModel → Bool
counts_fit c = is_count c.interfaces && (is_count c.fields && (is_count c.methods && is_count c.inner))

-- all that stands behind the pool fits
unfoldable pub members_fit : ClassModel → Bool
members_fit c = is_u16 c.flags && (counts_fit c && (list_all field_fits c.fields && (list_all (method_fits c.name) c.methods && list_all inner_fits c.inner)))

-- ldc has one byte for a number, and the count of the pool two
unfoldable pub pool_fits : ClassModel → Bool
pool_fits c = list_all known_fits (uses c) && (nat_le (places (loads_of c)) 255 && nat_le (places (uses c)) 65534)

-- the class can be spelled as a class file
unfoldable pub fits_of : ClassModel → Bool
fits_of c = members_fit c && pool_fits c

-- the size of code in which each instruction fits
pub record IsSize (ins : List Ins) (size : ℕ) : Type 0 where
  pub fit : all_fit 0 ins ≡ true
  pub is : size ≡ size_from 0 ins
  pub small : size < 65536

-- the bytes of items, and of a frame, that fit
pub record ItemsTake (marks : List Bool) (items : List Item) (size : ℕ) : Type 0 where
  pub fit : items_fit marks items ≡ true
  pub is : size ≡ items_length items
  pub small : size ≤ 3 * 65536

-- the bytes of a frame in this form, where so much stands between it and the frame before
pub record FormTakes (marks : List Bool) (delta : ℕ) (f : Frame) (form : Form) (size : ℕ) : Type 0 where
  pub fit : form_fits marks f form ≡ true
  pub is : size ≡ form_length delta f form

-- the bytes of a frame behind the one at `before`, whose locals are `seen`
pub record FrameTakes (marks : List Bool) (before : Option ℕ) (seen : List Item) (f : Frame) (size : ℕ) : Type 0 where
  pub fit : frame_fits marks before seen f ≡ true
  pub is : size ≡ frame_length before seen f
