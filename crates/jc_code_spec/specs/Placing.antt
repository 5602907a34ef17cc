-- Where the pieces of a code come to stand, and what is left when the labels are places: instructions, handlers and frames (JVMS 4.7.3, 4.7.4).
use Rattle.std.specs.Prelude.{ℕ, ◌+◌, ◌==◌, Bool, true, false, List, [], ◌∷◌, ◌++◌, map, reverse, if◌then◌else◌}
use Rattle.std.specs.Option.{option_map}
use Rattle.jc_types.specs.declared.erased.Erased.{Erased}
use Rattle.jc_types.specs.declared.table.Table.{Table}
use Rattle.jc_class_out.specs.declared.model.Frame.{Frame}
use Rattle.jc_class_out.specs.declared.model.Handler.{Handler}
use Rattle.jc_class_out.specs.declared.model.Ins.{Ins}
use Rattle.jc_class_out.specs.declared.model.Item.{Item}
use Rattle.jc_class_out.specs.declared.model.Item.TheVariants as item
use Rattle.jc_class_out.specs.declared.model.Operand.TheVariants as operand
use Rattle.jc_class_out.specs.declared.model.SwitchCase.{SwitchCase}
use Rattle.jc_class_out.specs.Instructions.{ins_size}
use Rattle.jc_right.specs.Going.{is_null}
use Rattle.jc_code_spec.specs.Naming.{class_name, type_name}
use Rattle.jc_code_spec.specs.Pieces.{Choice, Code, Do, Entry, Jump, Made, Mark, New, Of, Piece, Row, Select, Unmade}
use Rattle.jc_code_spec.specs.Simple.{OfInt, OfLong, OfReference, Sort, sort_of}

-- a label and its place
pub record Placed : Type 0 where
  pub label : ℕ
  pub at : ℕ

-- the place of a label
abbrev pub place_of : List Placed → ℕ → ℕ
place_of [] l = 0
place_of (p ∷ ps) l = if p.label == l then p.at else place_of ps l

-- ---- instructions

abbrev pub case_at : List Placed → Choice → SwitchCase
case_at ps c = record { key = c.key; at = place_of ps c.to }

abbrev pub instruction : List Placed → Piece → List Ins
instruction ps (Do i) = i ∷ []
instruction ps (Jump code to) = record { code = code; wide = false; operand = operand.Jump (place_of ps to) } ∷ []
instruction ps (Select otherwise choices) =
    record { code = 0xab; wide = false; operand = operand.Switch (place_of ps otherwise) (map (case_at ps) choices) } ∷ []
instruction ps (New l class) = record { code = 0xbb; wide = false; operand = operand.Class class } ∷ []
instruction ps (Mark l stack is_made) = []

-- the place behind a piece; places of labels don't count
abbrev pub behind_all : ℕ → List Ins → ℕ
behind_all at [] = at
behind_all at (i ∷ is) = behind_all (at + ins_size at i) is

abbrev pub behind_piece : ℕ → Piece → ℕ
behind_piece at p = behind_all at (instruction [] p)

-- the labels that a piece sets: where it stands
abbrev pub label_at : ℕ → Piece → List Placed
label_at at (Mark l stack is_made) = record { label = l; at = at } ∷ []
label_at at (New l class) = record { label = l; at = at } ∷ []
label_at at p = []

unfoldable pub places_from : ℕ → List Piece → List Placed
places_from at [] = []
places_from at (p ∷ ps) = label_at at p ++ places_from (behind_piece at p) ps

abbrev pub places : Code → List Placed
places c = places_from 0 c.pieces

unfoldable pub instructions : List Placed → List Piece → List Ins
instructions ls [] = []
instructions ls (p ∷ ps) = instruction ls p ++ instructions ls ps

-- the bytes of the code
abbrev pub code_size : Code → ℕ
code_size c = behind_all 0 (instructions (places c) c.pieces)

-- ---- handlers: a row of an empty region is left out (JVMS 4.7.3)

abbrev pub handlers_of : Table → List Placed → List Row → List Handler
handlers_of T ls [] = []
handlers_of T ls (r ∷ rs) =
    if place_of ls r.from == place_of ls r.to then handlers_of T ls rs else
    record { from = place_of ls r.from; to = place_of ls r.to; at = place_of ls r.at; class = option_map (class_name T) r.class } ∷ handlers_of T ls rs

-- ---- frames (JVMS 4.10.1.2)

-- the type of an erased type's values; null's where that is the null type
abbrev pub item_by : Sort → List ℕ → Item
item_by OfInt name = item.Integer
item_by OfLong name = item.Long
item_by OfReference name = item.Object name

abbrev pub item_of : Table → Erased → Item
item_of T e = if is_null e then item.NullItem else item_by (sort_of e) (type_name T e)

abbrev pub entry_item : Table → List Placed → Entry → Item
entry_item T ls (Of e) = item_of T e
entry_item T ls (Made l) = item.Uninitialized (place_of ls l)
entry_item T ls Unmade = item.UninitializedThis

-- before the other constructor was called, `this` is no object yet
abbrev pub first_item : Bool → List Item → List Item
first_item true is = is
first_item false [] = []
first_item false (i ∷ is) = item.UninitializedThis ∷ is

abbrev pub stack_items : Table → List Placed → Bool → List Entry → List Item
stack_items T ls is_made [] = []
stack_items T ls is_made (e ∷ es) = entry_item T ls e ∷ stack_items T ls is_made es

-- a frame at each place where a label stands, once
abbrev pub frame_at : Table → List Placed → List Erased → ℕ → Bool → List Entry → Frame
frame_at T ls locals at is_made stack =
    record { at = at; locals = first_item is_made (map (item_of T) locals); stack = reverse (stack_items T ls is_made stack) }

-- .. but the last one at a place
abbrev pub one_at : Frame → List Frame → List Frame
one_at f [] = f ∷ []
one_at f (g ∷ gs) = if f.at == g.at then g ∷ gs else f ∷ g ∷ gs

abbrev pub frame_of : Table → List Placed → List Erased → ℕ → Piece → List Frame → List Frame
frame_of T ls locals at (Mark l stack is_made) fs = one_at (frame_at T ls locals at is_made stack) fs
frame_of T ls locals at p fs = fs

unfoldable pub frames_from : Table → List Placed → List Erased → ℕ → List Piece → List Frame
frames_from T ls locals at [] = []
frames_from T ls locals at (p ∷ ps) = frame_of T ls locals at p (frames_from T ls locals (behind_piece at p) ps)
