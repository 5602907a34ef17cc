-- The attribute StackMapTable (JVMS 4.7.4).
use Rattle.std.specs.Prelude.{ℕ, zero, suc, ◌+◌, ◌-◌, Bool, false, ◌==◌, List, [], ◌∷◌, ◌++◌, length, take, get_or, Option, Some, None, Result, Ok, Err, nat_lt, nat_le, if◌then◌else◌}
use Rattle.std.specs.Int.{w16}
use Rattle.jc_class_out.specs.declared.format.Slot.{Slot}
use Rattle.jc_class_out.specs.declared.format.Flaw.{Flaw}
use Rattle.jc_class_out.specs.declared.format.Flaw.TheVariants.{Tag}
use Rattle.jc_class_out.specs.declared.model.Frame.{Frame}
use Rattle.jc_class_out.specs.declared.model.Item.{Item}
use Rattle.jc_class_out.specs.declared.model.Item.TheVariants.{Top, Integer, Long, NullItem, UninitializedThis, Object, Uninitialized}
use Rattle.jc_class_out.specs.Reading.{◌>>=◌, wants, u8_at, number_at, many, listed}
use Rattle.jc_class_out.specs.Pool.{class_named_at}

-- the marks of a code say of each of its bytes whether an instruction begins there
abbrev pub begins : List Bool → ℕ → Bool
begins marks to = get_or marks to false

-- the item's place is that of an instruction, its `new`
unfoldable pub offset_item_at : List Bool → List ℕ → Result (Item × List ℕ) Flaw
offset_item_at marks bytes = do
  at ← number_at w16 bytes
  _ ← wants (begins marks at.0) (length bytes)
  Ok (Uninitialized at.0, at.1)

unfoldable pub item_by : List Slot → List Bool → ℕ → ℕ → List ℕ → Result (Item × List ℕ) Flaw
item_by pool marks left tag bytes =
    if tag == 0 then Ok (Top, bytes) else
    if tag == 1 then Ok (Integer, bytes) else
    if tag == 4 then Ok (Long, bytes) else
    if tag == 5 then Ok (NullItem, bytes) else
    if tag == 6 then Ok (UninitializedThis, bytes) else
    if tag == 7 then (class_named_at pool bytes >>= λ c. Ok (Object c.0, c.1)) else
    if tag == 8 then offset_item_at marks bytes else Err (Tag left)

unfoldable pub item_at : List Slot → List Bool → List ℕ → Result (Item × List ℕ) Flaw
item_at pool marks bytes = u8_at bytes >>= λ tag. item_by pool marks (length bytes) tag.0 tag.1

-- The first frame stands at its delta, a later one a byte and its delta behind the one before it.
abbrev pub place_of : Option ℕ → ℕ → ℕ
place_of None delta = delta
place_of (Some before) delta = before + delta + 1

-- a delta of two bytes
unfoldable pub place_at : List Bool → Option ℕ → List ℕ → Result (ℕ × List ℕ) Flaw
place_at marks before bytes = do
  delta ← number_at w16 bytes
  _ ← wants (begins marks (place_of before delta.0)) (length bytes)
  Ok (place_of before delta.0, delta.1)

-- 64 to 127, and 247: the same locals, and one item on the stack
unfoldable pub same_item_at : List Slot → List Bool → List Item → ℕ → List ℕ → Result (Frame × List ℕ) Flaw
same_item_at pool marks locals at bytes = item_at pool marks bytes >>= λ i. Ok (record { at = at; locals = locals; stack = i.0 ∷ [] }, i.1)

-- 247: the same with a delta of two bytes
unfoldable pub same_item_extended_at : List Slot → List Bool → Option ℕ → List Item → List ℕ → Result (Frame × List ℕ) Flaw
same_item_extended_at pool marks before locals bytes = place_at marks before bytes >>= λ at. same_item_at pool marks locals at.0 at.1

-- 248 to 250: the last locals go
unfoldable pub chop_at : List Bool → Option ℕ → List Item → ℕ → ℕ → List ℕ → Result (Frame × List ℕ) Flaw
chop_at marks before locals left fewer bytes = do
  _ ← wants (nat_le fewer (length locals)) left
  at ← place_at marks before bytes
  Ok (record { at = at.0; locals = take (length locals - fewer) locals; stack = [] }, at.1)

-- 251
unfoldable pub same_extended_at : List Bool → Option ℕ → List Item → List ℕ → Result (Frame × List ℕ) Flaw
same_extended_at marks before locals bytes = place_at marks before bytes >>= λ at. Ok (record { at = at.0; locals = locals; stack = [] }, at.1)

-- 252 to 254: more locals
unfoldable pub append_at : List Slot → List Bool → Option ℕ → List Item → ℕ → List ℕ → Result (Frame × List ℕ) Flaw
append_at pool marks before locals more bytes = do
  at ← place_at marks before bytes
  added ← many (item_at pool marks) more at.1
  Ok (record { at = at.0; locals = locals ++ added.0; stack = [] }, added.1)

-- 255: all of it
unfoldable pub full_at : List Slot → List Bool → Option ℕ → List ℕ → Result (Frame × List ℕ) Flaw
full_at pool marks before bytes = do
  at ← place_at marks before bytes
  locals ← listed (item_at pool marks) at.1
  stack ← listed (item_at pool marks) locals.1
  Ok (record { at = at.0; locals = locals.0; stack = stack.0 }, stack.1)

-- of the forms with a tag of their own; 128 to 246 are no frames
unfoldable pub frame_by : List Slot → List Bool → Option ℕ → List Item → ℕ → ℕ → List ℕ → Result (Frame × List ℕ) Flaw
frame_by pool marks before locals left tag bytes =
    if nat_lt tag 247 then Err (Tag left) else
    if tag == 247 then same_item_extended_at pool marks before locals bytes else
    if nat_lt tag 251 then chop_at marks before locals left (251 - tag) bytes else
    if tag == 251 then same_extended_at marks before locals bytes else
    if nat_lt tag 255 then append_at pool marks before locals (tag - 251) bytes else full_at pool marks before bytes

-- the delta of 0 to 63, and of 64 to 127, is in the tag
unfoldable pub frame_at : List Slot → List Bool → Option ℕ → List Item → List ℕ → Result (Frame × List ℕ) Flaw
frame_at pool marks before locals bytes = do
  tag ← u8_at bytes
  if nat_lt tag.0 64 then (wants (begins marks (place_of before tag.0)) (length bytes) >>= λ _. Ok (record { at = place_of before tag.0; locals = locals; stack = [] }, tag.1)) else
      if nat_lt tag.0 128 then (wants (begins marks (place_of before (tag.0 - 64))) (length bytes) >>= λ _. same_item_at pool marks locals (place_of before (tag.0 - 64)) tag.1) else
      frame_by pool marks before locals (length bytes) tag.0 tag.1

-- so many frames, each seen from the one before it
unfoldable pub frames_at : List Slot → List Bool → ℕ → Option ℕ → List Item → List ℕ → Result (List Frame × List ℕ) Flaw
frames_at pool marks zero before locals bytes = Ok ([], bytes)
frames_at pool marks (suc n) before locals bytes = do
  f ← frame_at pool marks before locals bytes
  more ← frames_at pool marks n (Some (f.0.at)) f.0.locals f.1
  Ok (f.0 ∷ more.0, more.1)

-- a u2 that says how many frames follow; `entry` is the locals at the method's entry
unfoldable pub table_at : List Slot → List Bool → List Item → List ℕ → Result (List Frame × List ℕ) Flaw
table_at pool marks entry bytes = number_at w16 bytes >>= λ n. frames_at pool marks n.0 None entry n.1
