-- Type states (JVMS 4.10.1.4): what is known of the locals and of the stack before an instruction.
use Rattle.std.specs.Prelude.{◌≡◌, ℕ, ◌+◌, ◌-◌, Bool, true, false, not, ◌&&◌, ◌||◌, nat_lt, nat_le, List, [], ◌∷◌, ◌++◌, length, map, replicate, reverse, drop, slice_get, slice_set, codes, option_and_then, MatchBool, if◌then◌else◌}
use Rattle.std.specs.List.{list_any, flat_map}
use Rattle.std.specs.declared.option.Option.{Option}
use Rattle.std.specs.declared.option.Option.TheVariants.{Some, None}
use Rattle.jc_class_out.specs.declared.model.ClassModel.{ClassModel}
use Rattle.jc_class_out.specs.declared.model.Frame.{Frame}
use Rattle.jc_class_out.specs.declared.model.Item.{Item}
use Rattle.jc_class_out.specs.declared.model.Item.TheVariants.{Top, Integer, Long, NullItem, UninitializedThis, Object, Uninitialized}
use Rattle.jc_class_out.specs.Forms.{same_item}
use Rattle.jc_jvm.specs.declared.groups.Width.{Width}
use Rattle.jc_jvm.specs.declared.groups.Width.TheVariants.{NoUnit, OneUnit, TwoUnits}
use Rattle.jc_frames_types.specs.Items.{is_assignable, is_one_unit, is_reference, is_array, is_byte_array}
use Rattle.jc_frames_types.specs.declared.wanted.Wanted.{Wanted}
use Rattle.jc_frames_types.specs.declared.wanted.Wanted.TheVariants as some

-- The types of the locals, and of the stack from the top on, one for each unit; how many units the stack may have; and whether `this` isn't
-- initialised yet (flagThisUninit).
pub record TypeState : Type 0 where
  pub locals : List Item
  pub stack : List Item
  pub limit : ℕ
  pub pending : Bool

-- the same with this stack, or with these locals
abbrev pub with_stack : List Item → TypeState → TypeState
with_stack stack s = record s { stack = stack }

abbrev pub with_locals : List Item → TypeState → TypeState
with_locals locals s = record s { locals = locals }

-- what a function that changes a state in place did: it tells whether the new state is there
abbrev pub Does : Bool → Option TypeState → TypeState → Type 0
Does done wanted new = MatchBool done (wanted ≡ Some new) (wanted ≡ None)

-- ---- the stack

-- the units of a type, from the top on (4.10.1.4, pushOperandStack)
abbrev pub units_on : Item → List Item → List Item
units_on Long stack = Top ∷ Long ∷ stack
units_on i stack = i ∷ stack

-- with this stack, where there is room for it (4.10.1.4, operandStackHasLegalLength)
abbrev pub within_limit : List Item → TypeState → Option TypeState
within_limit stack s = if nat_le (length stack) s.limit then Some (with_stack stack s) else None

abbrev pub pushed : Item → TypeState → Option TypeState
pushed i s = within_limit (units_on i s.stack) s

-- whether a type may be taken for what is wanted; a long has two units, and is taken otherwise
abbrev pub is_wanted : List ClassModel → Wanted → Item → Bool
is_wanted classes some.Whole i = is_assignable classes i Integer
is_wanted classes some.LongPair i = false
is_wanted classes some.OneWord i = is_one_unit i
is_wanted classes some.Reference i = is_reference i
is_wanted classes some.AnyArray i = is_array i
is_wanted classes some.ByteArray i = is_byte_array i
is_wanted classes some.IntArray i = is_assignable classes i (Object (codes "[I"))
is_wanted classes some.LongArray i = is_assignable classes i (Object (codes "[J"))
is_wanted classes some.CharArray i = is_assignable classes i (Object (codes "[C"))
is_wanted classes some.ShortArray i = is_assignable classes i (Object (codes "[S"))
is_wanted classes some.ObjectArray i = is_assignable classes i (Object (codes "[Ljava/lang/Object;"))
is_wanted classes some.AnyObject i = is_assignable classes i (Object (codes "java/lang/Object"))
is_wanted classes some.AnyThrowable i = is_assignable classes i (Object (codes "java/lang/Throwable"))

-- a long, with its second unit on top
abbrev pub is_long_pair : Item → Item → Bool
is_long_pair Top Long = true
is_long_pair _ _ = false

-- the stack beneath a long
abbrev pub beneath_long : List Item → Option (List Item)
beneath_long (a ∷ b ∷ rest) = if is_long_pair a b then Some rest else None
beneath_long _ = None

-- the stack beneath one unit that passes a test
abbrev pub beneath_one : (Item → Bool) → List Item → Option (List Item)
beneath_one test (i ∷ rest) = if test i then Some rest else None
beneath_one test [] = None

-- the state without the topmost value (4.10.1.4, popMatchingType)
abbrev pub with_rest : Option (List Item) → TypeState → Option TypeState
with_rest (Some rest) s = Some (with_stack rest s)
with_rest None s = None

abbrev pub taken : List ClassModel → Wanted → TypeState → Option TypeState
taken classes some.LongPair s = with_rest (beneath_long s.stack) s
taken classes w s = with_rest (beneath_one (is_wanted classes w) s.stack) s

-- one that may stand where this type is wanted
abbrev pub taken_as : List ClassModel → Item → TypeState → Option TypeState
taken_as classes Long s = with_rest (beneath_long s.stack) s
taken_as classes i s = with_rest (beneath_one (λ (x : Item). is_assignable classes x i) s.stack) s

-- ---- pop, dup and their kin (4.10.1.9)

-- the topmost so many units, and those beneath them; None where there are fewer, or where a long would be cut in two
abbrev pub one_unit : List Item → Option (List Item × List Item)
one_unit (a ∷ rest) = if is_one_unit a then Some (a ∷ [], rest) else None
one_unit [] = None

abbrev pub two_units : List Item → Option (List Item × List Item)
two_units (a ∷ b ∷ rest) = if is_long_pair a b || (is_one_unit a && is_one_unit b) then Some (a ∷ b ∷ [], rest) else None
two_units _ = None

abbrev pub units_taken : Width → List Item → Option (List Item × List Item)
units_taken NoUnit stack = Some ([], stack)
units_taken OneUnit stack = one_unit stack
units_taken TwoUnits stack = two_units stack

-- the units on top, where there is room for them
abbrev pub put_on : List Item → TypeState → Option TypeState
put_on [] s = Some s
put_on (u ∷ us) s = within_limit ((u ∷ us) ++ s.stack) s

-- pop and pop2
abbrev pub popped_by : Option (List Item × List Item) → TypeState → Option TypeState
popped_by (Some a) s = Some (with_stack a.1 s)
popped_by None s = None

abbrev pub popped : Width → TypeState → Option TypeState
popped width s = popped_by (units_taken width s.stack) s

-- swap: the unit that was on top comes beneath the other one
abbrev pub exchanged_by : List Item → Option (List Item × List Item) → TypeState → Option TypeState
exchanged_by upper (Some lower) s = option_and_then (put_on lower.0) (put_on upper (with_stack lower.1 s))
exchanged_by upper None s = None

abbrev pub exchanged_from : Option (List Item × List Item) → TypeState → Option TypeState
exchanged_from (Some upper) s = exchanged_by upper.0 (one_unit upper.1) s
exchanged_from None s = None

abbrev pub exchanged : TypeState → Option TypeState
exchanged s = exchanged_from (one_unit s.stack) s

-- dup and its kin: the copied units once more beneath those that stood under them
abbrev pub duplicated_by : List Item → Option (List Item × List Item) → TypeState → Option TypeState
duplicated_by copied (Some under) s = option_and_then (put_on copied) (option_and_then (put_on under.0) (put_on copied (with_stack under.1 s)))
duplicated_by copied None s = None

abbrev pub duplicated_from : Width → Option (List Item × List Item) → TypeState → Option TypeState
duplicated_from under (Some copied) s = duplicated_by copied.0 (units_taken under copied.1) s
duplicated_from under None s = None

abbrev pub duplicated : Width → Width → TypeState → Option TypeState
duplicated copied under s = duplicated_from under (units_taken copied s.stack) s

-- ---- locals

-- where the item is a Long, its second unit goes into the local behind its own
abbrev pub unit_behind : ℕ → Item → List Item → List Item
unit_behind local Long locals = slice_set locals (local + 1) Top
unit_behind local i locals = locals

abbrev pub last_unit : ℕ → Item → ℕ
last_unit local Long = local + 1
last_unit local i = local

abbrev pub is_long : Option Item → Bool
is_long (Some Long) = true
is_long _ = false

-- a long before the local loses its second unit, and so its type (4.10.1.4, modifyPreIndexVariable)
abbrev pub without_long_before : ℕ → List Item → List Item
without_long_before local locals = if nat_lt 0 local && is_long (slice_get locals (local - 1)) then slice_set locals (local - 1) Top else locals

-- with a type in a local, where there are such locals (4.10.1.4, modifyLocalVariable)
abbrev pub stored : ℕ → Item → TypeState → Option TypeState
stored local i s =
    if nat_lt (last_unit local i) (length s.locals) then Some (with_locals (unit_behind local i (slice_set (without_long_before local s.locals) local i)) s) else None

-- ---- objects that aren't initialised

abbrev pub is_empty : {A : Type 0} → List A → Bool
is_empty [] = true
is_empty (x ∷ xs) = false

-- the other type in place of one (4.10.1.4, substitute)
abbrev pub swapped : Item → Item → Item → Item
swapped old new i = if same_item i old then new else i

abbrev pub substituted : Item → Item → TypeState → TypeState
substituted old new s = record s { locals = map (swapped old new) s.locals; stack = map (swapped old new) s.stack }

-- ---- frames

-- the units of items in order
abbrev pub units_of : Item → List Item
units_of Long = Long ∷ Top ∷ []
units_of i = i ∷ []

abbrev pub all_units : List Item → List Item
all_units items = flat_map units_of items

-- these types, and Top for the locals behind them (4.10.1.6, expandToLength)
abbrev pub locals_from : ℕ → List Item → List Item
locals_from count units = units ++ replicate (count - length units) Top

abbrev pub is_this_pending : Item → Bool
is_this_pending UninitializedThis = true
is_this_pending _ = false

-- the state that a frame tells, in code with so many locals and so many units of stack, where it has room in them; `this` is pending where a
-- local says so (4.10.1.6)
unfoldable pub state_of : ℕ → ℕ → Frame → Option TypeState
state_of count limit f =
    if nat_le (length (all_units f.locals)) count && nat_le (length (all_units f.stack)) limit then
    Some (record { locals = locals_from count (all_units f.locals); stack = reverse (all_units f.stack); limit = limit; pending = list_any is_this_pending f.locals }) else None

-- the units behind those of an item, of which a Long has two
abbrev pub units_behind : Item → List Item → Option (List Item)
units_behind Long [] = None
units_behind Long (i ∷ is) = Some is
units_behind j is = Some is

-- the units behind the first ones, where these may stand where the item is wanted
abbrev pub behind_assignable : List ClassModel → Item → List Item → Option (List Item)
behind_assignable classes j (i ∷ is) = if is_assignable classes i j then units_behind j is else None
behind_assignable classes j [] = None

-- the types of the locals may stand where those of a frame are wanted (4.10.1.4, frameIsAssignable); behind its last item all may be anything
unfoldable pub are_locals_assignable : List ClassModel → List Item → List Item → Bool
are_locals_assignable classes locals [] = true
are_locals_assignable classes locals (j ∷ js) = elim (behind_assignable classes j locals) [ Some rest ↦ are_locals_assignable classes rest js | None ↦ false ]

-- the same of a stack, from the bottom on, which has to be as long
unfoldable pub is_stack_assignable : List ClassModel → List Item → List Item → Bool
is_stack_assignable classes stack [] = is_empty stack
is_stack_assignable classes stack (j ∷ js) = elim (behind_assignable classes j stack) [ Some rest ↦ is_stack_assignable classes rest js | None ↦ false ]

-- the state goes where the frame stands; where `this` is pending, it has to be so in the frame (subset of the flags)
abbrev pub goes_to : List ClassModel → Frame → TypeState → Bool
goes_to classes frame s =
    are_locals_assignable classes s.locals frame.locals
    && (is_stack_assignable classes (reverse s.stack) frame.stack && (not s.pending || list_any is_this_pending frame.locals))
