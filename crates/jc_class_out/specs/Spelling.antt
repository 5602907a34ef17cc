-- How the writer spells a class: the constants that it uses, each once and in the order of their first use, those of ldc
-- before all others, since ldc has one byte for their number; then each part with the numbers of its constants. Each frame
-- has its shortest form. A number that is too great for its field is cut off here; `fits` sees to it that none is.
use Rattle.std.specs.Prelude.{◌≡◌, ℕ, ◌+◌, ◌-◌, ◌%◌, ◌^◌, ℤ, Bool, true, false, ◌&&◌, nat_lt, List, [], ◌∷◌, ◌++◌, length, map, codes, replicate, Option, Some, None, if◌then◌else◌}
use Rattle.std.specs.Int.{w16, w32, w64, cast_unsigned, to_be_bytes}
use Rattle.std.specs.List.{list_any, flat_map, position}
use Rattle.std.specs.Ordering.{int_eq}
use Rattle.std.specs.Str.{bytes_eq}
use Rattle.jc_class_out.specs.declared.format.Constant.{Constant}
use Rattle.jc_class_out.specs.declared.format.Constant.TheVariants as constant
use Rattle.jc_class_out.specs.declared.forms.Form.{Form}
use Rattle.jc_class_out.specs.declared.forms.Form.TheVariants as form
use Rattle.jc_class_out.specs.declared.format.Kind.{Kind}
use Rattle.jc_class_out.specs.declared.format.Kind.TheVariants.{Short, Load, Field, Interface}
use Rattle.jc_class_out.specs.declared.model.ClassModel.{ClassModel}
use Rattle.jc_class_out.specs.declared.model.CodeModel.{CodeModel}
use Rattle.jc_class_out.specs.declared.model.FieldModel.{FieldModel}
use Rattle.jc_class_out.specs.declared.model.Frame.{Frame}
use Rattle.jc_class_out.specs.declared.model.Handler.{Handler}
use Rattle.jc_class_out.specs.declared.model.InnerModel.{InnerModel}
use Rattle.jc_class_out.specs.declared.model.Ins.{Ins}
use Rattle.jc_class_out.specs.declared.model.Item.{Item}
use Rattle.jc_class_out.specs.declared.model.Item.TheVariants as item
use Rattle.jc_class_out.specs.declared.model.Loaded.{Loaded}
use Rattle.jc_class_out.specs.declared.model.Loaded.TheVariants as loaded
use Rattle.jc_class_out.specs.declared.model.MethodModel.{MethodModel}
use Rattle.jc_class_out.specs.declared.model.SwitchCase.{SwitchCase}
use Rattle.jc_class_out.specs.declared.model.Operand.{Operand}
use Rattle.jc_class_out.specs.declared.model.Operand.TheVariants as op
use Rattle.jc_class_out.specs.Texts.{text_bytes}
use Rattle.jc_class_out.specs.Descriptors.{parameter_units, or_zero, entry_locals}
use Rattle.jc_class_out.specs.Forms.{form_of, written_locals, written_stack, delta_of}
use Rattle.jc_class_out.specs.Pool.{Known, KnownText, KnownWhole, KnownLong, KnownBehind, KnownClass, KnownLiteral, KnownField, KnownMethod, KnownInterface, KnownPair}
use Rattle.jc_class_out.specs.Instructions.{kind_of, padding}
use Rattle.jc_class_out.specs.Format.{major}

-- ---- constants, each once

-- what a constant means, whichever shared texts it has
abbrev pub known : Constant → Known
known (constant.Text t) = KnownText t.now
known (constant.Whole n) = KnownWhole n
known (constant.Long n) = KnownLong n
known (constant.Behind n) = KnownBehind n
known (constant.Class t) = KnownClass t.now
known (constant.Literal t) = KnownLiteral t.now
known (constant.Field c n d) = KnownField c.now n.now d.now
known (constant.Method c n d) = KnownMethod c.now n.now d.now
known (constant.Interface c n d) = KnownInterface c.now n.now d.now
known (constant.Pair n d) = KnownPair n.now d.now

abbrev pub knowns : List Constant → List Known
knowns constants = map known constants

-- whether two constants are one entry: of the same sort, with the same parts
abbrev pub same_known : Known → Known → Bool
same_known (KnownText a) (KnownText b) = bytes_eq a b
same_known (KnownWhole a) (KnownWhole b) = int_eq a b
same_known (KnownLong a) (KnownLong b) = int_eq a b
same_known (KnownBehind a) (KnownBehind b) = int_eq a b
same_known (KnownClass a) (KnownClass b) = bytes_eq a b
same_known (KnownLiteral a) (KnownLiteral b) = bytes_eq a b
same_known (KnownField c n d) (KnownField e m f) = bytes_eq c e && (bytes_eq n m && bytes_eq d f)
same_known (KnownMethod c n d) (KnownMethod e m f) = bytes_eq c e && (bytes_eq n m && bytes_eq d f)
same_known (KnownInterface c n d) (KnownInterface e m f) = bytes_eq c e && (bytes_eq n m && bytes_eq d f)
same_known (KnownPair n d) (KnownPair m f) = bytes_eq n m && bytes_eq d f
same_known _ _ = false

-- the constant is in the pool
unfoldable pub has : List Known → Known → Bool
has ks k = list_any (same_known k) ks

-- the constant is added at the end, if it isn't there yet
abbrev pub add : List Known → Known → List Known
add ks k = if has ks k then ks else ks ++ k ∷ []

-- the constants after each of us was added where it wasn't there
unfoldable pub adds : List Known → List Known → List Known
adds ks [] = ks
adds ks (u ∷ us) = adds (add ks u) us

-- the index of a place, which has two bytes; 0 for a constant that isn't there or stands too far behind
abbrev pub number_if : Option ℕ → ℕ
number_if None = 0
number_if (Some i) = if nat_lt i 65535 then i + 1 else 0

-- the number of a constant in the pool, counted from 1
unfoldable pub number : List Known → Known → ℕ
number ks k = number_if (position (same_known k) ks)

-- what somebody is who was told of constants, one after the other
abbrev pub Told : {S : Type 0} → (S → Known → S → Type 0) → S → List Known → S → Type 0
Told sees s [] t = s ≡ t
Told {S} sees s (k ∷ ks) t = (m : S) × (sees s k m) × (Told sees m ks t)

-- ---- the constants that each part uses

-- an entry comes behind the entries that it names
abbrev pub class_uses : List ℕ → List Known
class_uses name = KnownText name ∷ KnownClass name ∷ []

abbrev pub pair_uses : List ℕ → List ℕ → List Known
pair_uses name descriptor = KnownText name ∷ KnownText descriptor ∷ KnownPair name descriptor ∷ []

-- a class, or a text, that may be missing: then index 0 stands for it, and no constant is used
abbrev pub class_or_none_uses : Option (List ℕ) → List Known
class_or_none_uses None = []
class_or_none_uses (Some name) = class_uses name

abbrev pub name_or_none_uses : Option (List ℕ) → List Known
name_or_none_uses None = []
name_or_none_uses (Some name) = KnownText name ∷ []

-- the kinds whose spelling differs from that of others: sipush, ldc, invokeinterface
abbrev pub is_short : Kind → Bool
is_short Short = true
is_short _ = false

abbrev pub is_load : Kind → Bool
is_load Load = true
is_load _ = false

abbrev pub is_interface : Kind → Bool
is_interface Interface = true
is_interface _ = false

-- the entry of a member, by the instruction that names it: a field, a method of an interface for invokeinterface, or another method
abbrev pub member_known : Kind → List ℕ → List ℕ → List ℕ → Known
member_known Field c n d = KnownField c n d
member_known Interface c n d = KnownInterface c n d
member_known _ c n d = KnownMethod c n d

-- the entry that the instruction itself names
abbrev pub loaded_known : Loaded → Known
loaded_known (loaded.Whole n) = KnownWhole n
loaded_known (loaded.Long n) = KnownLong n
loaded_known (loaded.Text t) = KnownLiteral t

-- that entry and all that it takes: a long its second place, a string its text
abbrev pub loaded_uses : Loaded → List Known
loaded_uses (loaded.Whole n) = KnownWhole n ∷ []
loaded_uses (loaded.Long n) = KnownLong n ∷ KnownBehind n ∷ []
loaded_uses (loaded.Text t) = KnownText t ∷ KnownLiteral t ∷ []

-- the class, the name and the descriptor come before the member
unfoldable pub member_uses : Kind → List ℕ → List ℕ → List ℕ → List Known
member_uses kind c n d = class_uses c ++ (pair_uses n d ++ member_known kind c n d ∷ [])

-- the entries of an operand; a member's are by the kind of its instruction
unfoldable pub operand_uses : Kind → Operand → List Known
operand_uses kind (op.Load l) = loaded_uses l
operand_uses kind (op.Member c n d) = member_uses kind c n d
operand_uses kind (op.Class c) = class_uses c
operand_uses kind (op.Dims c n) = class_uses c
operand_uses kind _ = []

abbrev pub ins_uses : Ins → List Known
ins_uses i = operand_uses (kind_of i.code) i.operand

-- the entries that need an index of one byte, and so come first in the pool; ldc loads no longs
abbrev pub first_loaded : Loaded → List Known
first_loaded (loaded.Whole n) = KnownWhole n ∷ []
first_loaded (loaded.Text t) = KnownLiteral t ∷ []
first_loaded (loaded.Long n) = []

abbrev pub first_uses : Operand → List Known
first_uses (op.Load l) = first_loaded l
first_uses _ = []

-- what ldc loads
unfoldable pub ins_first_uses : Ins → List Known
ins_first_uses i = if is_load (kind_of i.code) then first_uses i.operand else []

-- the class that a handler catches, if it names one
abbrev pub handler_uses : Handler → List Known
handler_uses h = class_or_none_uses h.class

-- an object's class is named in a frame
abbrev pub item_uses : Item → List Known
item_uses (item.Object name) = class_uses name
item_uses _ = []

-- only the items that stand in the form use constants
unfoldable pub form_uses : Frame → Form → List Known
form_uses f form = flat_map item_uses (written_locals f form) ++ flat_map item_uses (written_stack f form)

-- each seen from the locals before it
unfoldable pub frames_uses : List Item → List Frame → List Known
frames_uses seen [] = []
frames_uses seen (f ∷ fs) = form_uses f (form_of seen f) ++ frames_uses f.locals fs

-- the attribute StackMapTable stands only where there are frames
abbrev pub table_uses : List Item → List Frame → List Known
table_uses entry [] = []
table_uses entry (f ∷ fs) = KnownText (codes "StackMapTable") ∷ frames_uses entry (f ∷ fs)

-- `entry` is the locals at the method's entry
unfoldable pub code_uses : List Item → CodeModel → List Known
code_uses entry c = flat_map ins_uses c.ins ++ (flat_map handler_uses c.handlers ++ table_uses entry c.frames)

-- the attribute Code stands only where there is code
abbrev pub code_or_none_uses : List Item → Option CodeModel → List Known
code_or_none_uses entry None = []
code_or_none_uses entry (Some c) = KnownText (codes "Code") ∷ code_uses entry c

-- the locals at a method's entry: the object, if it isn't static, and the parameters
abbrev pub entry_of_method : List ℕ → MethodModel → List Item
entry_of_method class m = entry_locals class m.flags m.name m.descriptor

-- `class` is the name of the class
unfoldable pub method_uses : List ℕ → MethodModel → List Known
method_uses class m = KnownText m.name ∷ KnownText m.descriptor ∷ code_or_none_uses (entry_of_method class m) m.code

-- what the ldc instructions of a method load
abbrev pub code_first_uses : Option CodeModel → List Known
code_first_uses None = []
code_first_uses (Some c) = flat_map ins_first_uses c.ins

abbrev pub method_first_uses : MethodModel → List Known
method_first_uses m = code_first_uses m.code

-- a field has no attribute
unfoldable pub field_uses : FieldModel → List Known
field_uses f = KnownText f.name ∷ KnownText f.descriptor ∷ []

-- a member type, and the class and the name that it may lack (JVMS 4.7.6)
unfoldable pub inner_uses : InnerModel → List Known
inner_uses i = class_uses i.inner ++ (class_or_none_uses i.outer ++ name_or_none_uses i.name)

-- the attribute InnerClasses stands only where there are member types
abbrev pub inners_uses : List InnerModel → List Known
inners_uses [] = []
inners_uses (i ∷ is) = KnownText (codes "InnerClasses") ∷ flat_map inner_uses (i ∷ is)

-- the constants of all that stands behind the pool, in the order of the class file
unfoldable pub members_uses : ClassModel → List Known
members_uses c = class_uses c.name ++ (class_or_none_uses c.superclass ++ (flat_map class_uses c.interfaces
    ++ (flat_map field_uses c.fields ++ (flat_map (method_uses c.name) c.methods ++ inners_uses c.inner))))

-- what all ldc of a class load comes first in the pool
unfoldable pub loads_of : ClassModel → List Known
loads_of c = flat_map method_first_uses c.methods

-- all constants of a class, in the order in which they get their places, as often as they are used
unfoldable pub uses : ClassModel → List Known
uses c = loads_of c ++ members_uses c

-- ---- spelling

-- the index of a constant in two bytes
abbrev pub index : List Known → Known → List ℕ
index ks k = to_be_bytes w16 (number ks k)

-- a count, and then each
unfoldable pub counted : {A : Type 0} → (A → List ℕ) → List A → List ℕ
counted f xs = to_be_bytes w16 (length xs % 65536) ++ flat_map f xs

-- index 0 for what is missing
abbrev pub spell_class_or_none : List Known → Option (List ℕ) → List ℕ
spell_class_or_none ks None = to_be_bytes w16 0
spell_class_or_none ks (Some name) = index ks (KnownClass name)

abbrev pub spell_name_or_none : List Known → Option (List ℕ) → List ℕ
spell_name_or_none ks None = to_be_bytes w16 0
spell_name_or_none ks (Some name) = index ks (KnownText name)

-- how far a place is, in two's complement
abbrev pub wide_distance : ℕ → ℕ → ℕ
wide_distance at to = (to + (2 ^ 32 - at)) % 2 ^ 32

-- the same in two bytes
abbrev pub distance : ℕ → ℕ → ℕ
distance at to = wide_distance at to % 65536

-- a case of lookupswitch: key and distance, four bytes each
unfoldable pub spell_case : ℕ → SwitchCase → List ℕ
spell_case at c = to_be_bytes w32 (cast_unsigned w32 c.key) ++ to_be_bytes w32 (wide_distance at c.at)

-- padding up to a place that four divides, the distance for all other keys, the number of cases, and these (JVMS 6.5, lookupswitch)
unfoldable pub spell_switch : ℕ → ℕ → List SwitchCase → List ℕ
spell_switch at otherwise cases = replicate (padding at) 0 ++ (to_be_bytes w32 (wide_distance at otherwise) ++ (to_be_bytes w32 (length cases % 2 ^ 32) ++ flat_map (spell_case at) cases))

-- of invokeinterface the units of its arguments, the object among them, and a zero (JVMS 6.5, invokeinterface)
abbrev pub interface_tail : Kind → List ℕ → List ℕ
interface_tail kind d = if is_interface kind then ((or_zero (parameter_units d) + 1) % 256) ∷ 0 ∷ [] else []

-- bipush and newarray have one byte, sipush two, in two's complement
unfoldable pub spell_number : Kind → ℤ → List ℕ
spell_number kind n = if is_short kind then to_be_bytes w16 (cast_unsigned w32 n % 65536) else (cast_unsigned w32 n % 256) ∷ []

-- ldc has an index of one byte, ldc_w and ldc2_w of two
unfoldable pub spell_load : List Known → Kind → Loaded → List ℕ
spell_load ks kind l = if is_load kind then (number ks (loaded_known l) % 256) ∷ [] else index ks (loaded_known l)

-- the index of the member's entry, and what invokeinterface has behind it
unfoldable pub spell_member : List Known → Kind → List ℕ → List ℕ → List ℕ → List ℕ
spell_member ks kind c n d = index ks (member_known kind c n d) ++ interface_tail kind d

-- what stands behind the opcode of an instruction at this place, without `wide`
unfoldable pub spell_operand : List Known → ℕ → Kind → Operand → List ℕ
spell_operand ks at kind op.Nothing = []
spell_operand ks at kind (op.Number n) = spell_number kind n
spell_operand ks at kind (op.Local n) = n % 256 ∷ []
spell_operand ks at kind (op.Step n by) = n % 256 ∷ (cast_unsigned w16 by % 256) ∷ []
spell_operand ks at kind (op.Load l) = spell_load ks kind l
spell_operand ks at kind (op.Member c n d) = spell_member ks kind c n d
spell_operand ks at kind (op.Class c) = index ks (KnownClass c)
spell_operand ks at kind (op.Dims c n) = index ks (KnownClass c) ++ n ∷ []
spell_operand ks at kind (op.Jump to) = to_be_bytes w16 (distance at to)
spell_operand ks at kind (op.Switch otherwise cases) = spell_switch at otherwise cases

-- behind `wide` the numbers have two bytes
unfoldable pub spell_wide : Operand → List ℕ
spell_wide (op.Local n) = to_be_bytes w16 n
spell_wide (op.Step n by) = to_be_bytes w16 n ++ to_be_bytes w16 (cast_unsigned w16 by)
spell_wide _ = []

-- an instruction at a place, with its opcode
unfoldable pub spell_ins : List Known → ℕ → Ins → List ℕ
spell_ins ks at i = if i.wide then 0xc4 ∷ i.code ∷ spell_wide i.operand else i.code ∷ spell_operand ks at (kind_of i.code) i.operand

-- the place of the first instruction comes first
unfoldable pub spell_code : List Known → ℕ → List Ins → List ℕ
spell_code ks at [] = []
spell_code ks at (i ∷ is) = spell_ins ks (at % 2 ^ 32) i ++ spell_code ks (at + length (spell_ins ks (at % 2 ^ 32) i)) is

-- the length of the code in four bytes, and the code
unfoldable pub spell_body : List Known → List Ins → List ℕ
spell_body ks is = to_be_bytes w32 (length (spell_code ks 0 is) % 2 ^ 32) ++ spell_code ks 0 is

-- the first place covered, the one behind the last, the handler's place, and the class, where 0 is any (JVMS 4.7.3)
unfoldable pub spell_handler : List Known → Handler → List ℕ
spell_handler ks h = to_be_bytes w16 (h.from % 65536) ++ (to_be_bytes w16 (h.to % 65536) ++ (to_be_bytes w16 (h.at % 65536) ++ spell_class_or_none ks h.class))

-- verification_type_info: its tag, and an index or a place (JVMS 4.7.4)
unfoldable pub spell_item : List Known → Item → List ℕ
spell_item ks item.Top = 0 ∷ []
spell_item ks item.Integer = 1 ∷ []
spell_item ks item.Long = 4 ∷ []
spell_item ks item.NullItem = 5 ∷ []
spell_item ks item.UninitializedThis = 6 ∷ []
spell_item ks (item.Object name) = 7 ∷ index ks (KnownClass name)
spell_item ks (item.Uninitialized at) = 8 ∷ to_be_bytes w16 (at % 65536)

-- a delta below 64 in the tag, a greater one behind another tag
unfoldable pub spell_near : ℕ → ℕ → ℕ → List ℕ
spell_near tag wide delta = if nat_lt delta 64 then (tag + delta) % 256 ∷ [] else wide ∷ to_be_bytes w16 (delta % 65536)

-- the forms same, same_locals_1_stack_item, chop, append and full, the first two also extended (JVMS 4.7.4)
unfoldable pub spell_form : List Known → ℕ → Frame → Form → List ℕ
spell_form ks delta f form.Same = spell_near 0 251 delta
spell_form ks delta f form.SameItem = spell_near 64 247 delta ++ flat_map (spell_item ks) f.stack
spell_form ks delta f (form.Chop k) = (251 - k) ∷ to_be_bytes w16 (delta % 65536)
spell_form ks delta f (form.Append k) = (251 + k) % 256 ∷ (to_be_bytes w16 (delta % 65536) ++ flat_map (spell_item ks) (written_locals f (form.Append k)))
spell_form ks delta f form.Full = 255 ∷ (to_be_bytes w16 (delta % 65536) ++ (counted (spell_item ks) f.locals ++ counted (spell_item ks) f.stack))

-- a frame, by the place of the frame before, or None, and by its locals; then frame by frame, each behind the one before
unfoldable pub spell_frame : List Known → Option ℕ → List Item → Frame → List ℕ
spell_frame ks before seen f = spell_form ks (delta_of before f.at) f (form_of seen f)

unfoldable pub spell_frames : List Known → Option ℕ → List Item → List Frame → List ℕ
spell_frames ks before seen [] = []
spell_frames ks before seen (f ∷ fs) = spell_frame ks before seen f ++ spell_frames ks (Some (f.at)) f.locals fs

-- the index of an attribute's name, its length in four bytes, and what is in it (JVMS 4.7)
unfoldable pub spell_attribute : List Known → List ℕ → List ℕ → List ℕ
spell_attribute ks word content = index ks (KnownText word) ++ (to_be_bytes w32 (length content % 2 ^ 32) ++ content)

-- the content of StackMapTable: how many frames, and then these
unfoldable pub spell_table : List Known → List Item → List Frame → List ℕ
spell_table ks entry frames = to_be_bytes w16 (length frames % 65536) ++ spell_frames ks None entry frames

-- the attributes of the code: StackMapTable if there are frames, or none
abbrev pub spell_code_attributes : List Known → List Item → List Frame → List ℕ
spell_code_attributes ks entry [] = to_be_bytes w16 0
spell_code_attributes ks entry (f ∷ fs) = to_be_bytes w16 1 ++ spell_attribute ks (codes "StackMapTable") (spell_table ks entry (f ∷ fs))

-- the content of the attribute Code (JVMS 4.7.3)
unfoldable pub spell_code_model : List Known → List Item → CodeModel → List ℕ
spell_code_model ks entry c = to_be_bytes w16 c.stack ++ (to_be_bytes w16 c.locals ++ (spell_body ks c.ins ++ (counted (spell_handler ks) c.handlers ++ spell_code_attributes ks entry c.frames)))

-- the attributes of a method: Code, or none
abbrev pub spell_code_or_none : List Known → List Item → Option CodeModel → List ℕ
spell_code_or_none ks entry None = to_be_bytes w16 0
spell_code_or_none ks entry (Some c) = to_be_bytes w16 1 ++ spell_attribute ks (codes "Code") (spell_code_model ks entry c)

-- method_info and field_info; `class` is the name of the class (JVMS 4.5, 4.6)
unfoldable pub spell_method : List Known → List ℕ → MethodModel → List ℕ
spell_method ks class m = to_be_bytes w16 m.flags ++ (index ks (KnownText m.name) ++ (index ks (KnownText m.descriptor) ++ spell_code_or_none ks (entry_of_method class m) m.code))

unfoldable pub spell_field : List Known → FieldModel → List ℕ
spell_field ks f = to_be_bytes w16 f.flags ++ (index ks (KnownText f.name) ++ (index ks (KnownText f.descriptor) ++ to_be_bytes w16 0))

-- an entry of InnerClasses (JVMS 4.7.6)
unfoldable pub spell_inner : List Known → InnerModel → List ℕ
spell_inner ks i = index ks (KnownClass i.inner) ++ (spell_class_or_none ks i.outer ++ (spell_name_or_none ks i.name ++ to_be_bytes w16 i.flags))

-- the attributes of a class: InnerClasses if it has member types, or none
abbrev pub spell_inners : List Known → List InnerModel → List ℕ
spell_inners ks [] = to_be_bytes w16 0
spell_inners ks (i ∷ is) = to_be_bytes w16 1 ++ spell_attribute ks (codes "InnerClasses") (counted (spell_inner ks) (i ∷ is))

-- an interface is the index of its class
unfoldable pub spell_interface : List Known → List ℕ → List ℕ
spell_interface ks name = index ks (KnownClass name)

-- what stands behind the pool (JVMS 4.1)
unfoldable pub spell_members : List Known → ClassModel → List ℕ
spell_members ks c = to_be_bytes w16 c.flags ++ (index ks (KnownClass c.name) ++ (spell_class_or_none ks c.superclass ++ (counted (spell_interface ks) c.interfaces
    ++ (counted (spell_field ks) c.fields ++ (counted (spell_method ks c.name) c.methods ++ spell_inners ks c.inner)))))

-- the entry of a field or a method: tag, class, and name with descriptor (JVMS 4.4.2)
unfoldable pub spell_member_entry : List Known → ℕ → List ℕ → List ℕ → List ℕ → List ℕ
spell_member_entry ks tag c n d = tag ∷ (index ks (KnownClass c) ++ index ks (KnownPair n d))

-- the entry of a text: how many bytes it has in modified UTF-8, and these (JVMS 4.4.7)
unfoldable pub spell_text : List ℕ → List ℕ
spell_text t = 1 ∷ (to_be_bytes w16 (length (text_bytes t) % 65536) ++ text_bytes t)

-- an entry with its tag (JVMS 4.4); the second place of a long has no bytes
unfoldable pub spell_entry : List Known → Known → List ℕ
spell_entry ks (KnownText t) = spell_text t
spell_entry ks (KnownWhole n) = 3 ∷ to_be_bytes w32 (cast_unsigned w32 n)
spell_entry ks (KnownLong n) = 5 ∷ to_be_bytes w64 (cast_unsigned w64 n)
spell_entry ks (KnownBehind n) = []
spell_entry ks (KnownClass t) = 7 ∷ index ks (KnownText t)
spell_entry ks (KnownLiteral t) = 8 ∷ index ks (KnownText t)
spell_entry ks (KnownField c n d) = spell_member_entry ks 9 c n d
spell_entry ks (KnownMethod c n d) = spell_member_entry ks 10 c n d
spell_entry ks (KnownInterface c n d) = spell_member_entry ks 11 c n d
spell_entry ks (KnownPair n d) = 12 ∷ (index ks (KnownText n) ++ index ks (KnownText d))

-- constant_pool_count is one more than the number of places
unfoldable pub spell_pool : List Known → List ℕ
spell_pool ks = to_be_bytes w16 ((length ks + 1) % 65536) ++ flat_map (spell_entry ks) ks

-- the magic number, the minor and the major version, and the pool (JVMS 4.1)
unfoldable pub spell_head : List Known → List ℕ
spell_head ks = to_be_bytes w32 0xCAFEBABE ++ (to_be_bytes w16 0 ++ (to_be_bytes w16 major ++ spell_pool ks))

-- the pool of a class
abbrev pub pool_for : ClassModel → List Known
pool_for class = adds [] (uses class)

-- the file that is written
unfoldable pub file_of : ClassModel → List ℕ
file_of class = spell_head (pool_for class) ++ spell_members (pool_for class) class
