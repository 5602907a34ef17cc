-- The shortest form of a frame (JVMS 4.7.4), seen from the locals before it.
use Rattle.std.specs.Prelude.{ℕ, ◌-◌, Bool, true, false, ◌&&◌, ◌==◌, nat_lt, nat_le, List, [], ◌∷◌, length, drop, Option, Some, None, if◌then◌else◌}
use Rattle.std.specs.Str.{bytes_eq}
use Rattle.jc_class_out.specs.declared.forms.Before.{Before}
use Rattle.jc_class_out.specs.declared.forms.Before.TheVariants as before
use Rattle.jc_class_out.specs.declared.forms.Form.{Form}
use Rattle.jc_class_out.specs.declared.forms.Form.TheVariants.{Same, SameItem, Chop, Append, Full}
use Rattle.jc_class_out.specs.declared.forms.Start.{Start}
use Rattle.jc_class_out.specs.declared.model.Frame.{Frame}
use Rattle.jc_class_out.specs.declared.model.Item.{Item}
use Rattle.jc_class_out.specs.declared.model.Item.TheVariants.{Top, Integer, Long, NullItem, UninitializedThis, Object, Uninitialized}
use Rattle.jc_class_out.specs.Descriptors.{entry_locals}

-- ---- what stands before a frame: the method's entry, or a frame

-- the locals at the entry, from the class, the flags, the name and the descriptor of the method
abbrev pub start_locals : Start → List Item
start_locals s = entry_locals s.class.now s.flags s.name.now s.descriptor.now

-- the place and the locals of what stands before; the method's entry has no place
abbrev pub place_before : Before → Option ℕ
place_before (before.Entry s) = None
place_before (before.Behind f) = Some (f.now.at)

abbrev pub locals_before : Before → List Item
locals_before (before.Entry s) = start_locals s
locals_before (before.Behind f) = f.now.locals

-- ---- which form it is

-- two items are the same for the verifier, with the same name or place
abbrev pub same_item : Item → Item → Bool
same_item Top Top = true
same_item Integer Integer = true
same_item Long Long = true
same_item NullItem NullItem = true
same_item UninitializedThis UninitializedThis = true
same_item (Object a) (Object b) = bytes_eq a b
same_item (Uninitialized a) (Uninitialized b) = a == b
same_item _ _ = false

-- where the other list has ended, nothing differs
abbrev pub first_alike : Item → List Item → Bool
first_alike x [] = true
first_alike x (y ∷ ys) = same_item x y

-- whether they are the same as far as both go
unfoldable pub alike : List Item → List Item → Bool
alike [] ys = true
alike (x ∷ xs) ys = first_alike x ys && alike xs (drop 1 ys)

-- with nothing on the stack: so many locals before it, and so many now
abbrev pub bare_form : ℕ → ℕ → Form
bare_form seen now =
    if seen == now then Same else
    if nat_lt now seen then (if nat_le (seen - now) 3 then Chop (seen - now) else Full) else
    if nat_le (now - seen) 3 then Append (now - seen) else Full

-- by how many locals stood before and stand now, which agree, and by how many items stand on the stack
abbrev pub form_by : ℕ → ℕ → ℕ → Form
form_by seen now stack =
    if stack == 0 then bare_form seen now else
    if stack == 1 && seen == now then SameItem else Full

-- from the locals before; where they differ from the frame's, only the full form is left
unfoldable pub form_of : List Item → Frame → Form
form_of seen f = if alike seen f.locals then form_by (length seen) (length f.locals) (length f.stack) else Full

-- ---- what stands in it

-- the last k of some items; all of them where they are fewer
abbrev pub last_of : ℕ → List Item → List Item
last_of k items = drop (length items - k) items

-- the locals, and the items on the stack, that stand in the frame of this form; the others are known from before
abbrev pub written_locals : Frame → Form → List Item
written_locals f (Append k) = last_of k f.locals
written_locals f Full = f.locals
written_locals f _ = []

abbrev pub written_stack : Frame → Form → List Item
written_stack f SameItem = f.stack
written_stack f Full = f.stack
written_stack f _ = []

-- how far a frame is from the one before it
abbrev pub delta_of : Option ℕ → ℕ → ℕ
delta_of None at = at
delta_of (Some before) at = at - before - 1

-- a delta below 64 stands in the tag
abbrev pub near_length : ℕ → ℕ
near_length delta = if nat_lt delta 64 then 1 else 3

-- the bytes beside the items
abbrev pub head_length : ℕ → Form → ℕ
head_length delta Same = near_length delta
head_length delta SameItem = near_length delta
head_length delta (Chop k) = 3
head_length delta (Append k) = 3
head_length delta Full = 7
