-- Room for a reference on a stack.
use Rattle.std.proofs.Common.{◌≡◌, ◌<◌, ◌∙◌, [], ◌∷◌, ℕ, Bool, true, false, List, ap, arith, length, refl, reverse, sym, take, if◌then◌else◌}
use Rattle.std.specs.Prelude.{IsTrue, pos, negsuc, slice_get}
use Rattle.std.specs.declared.option.Option.{Option}
use Rattle.std.specs.declared.option.Option.TheVariants.{Some, None}
use Rattle.jc_class_out.specs.declared.model.ClassModel.{ClassModel}
use Rattle.jc_heap.proofs.StringPlaces.{no_string}
use Rattle.jc_heap.specs.Strings.{string_place}
use Rattle.jc_jvm.specs.Calls.{acts, stuck}
use Rattle.jc_jvm.specs.Frames.{Act, Fails, go_on, pushes, throws}
use Rattle.jc_jvm.specs.Objects.{array_made, literal_by, literal_made, literal_pushed, object_made}
use Rattle.jc_jvm.specs.Stacked.{Stacked, pushed}
use Rattle.jc_jvm.specs.Worlds.{interned_in, next_address, string_address, with_interned, with_object, with_string}
use Rattle.jc_jvm.specs.declared.frame.Frame.{Frame}
use Rattle.jc_jvm.specs.declared.frame.Waiting.{Waiting}
use Rattle.jc_jvm.specs.declared.value.Value.{Value}
use Rattle.jc_jvm.specs.declared.value.Value.TheVariants.{Whole, Long, Address, NullValue}
use Rattle.jc_jvm.specs.declared.value.Shape.{Shape}
use Rattle.jc_jvm.specs.declared.world.Fault.TheVariants.{NegativeArraySize}
use Rattle.jc_jvm.specs.declared.world.World.{World}
use Rattle.jc_stepping.specs.Makes.{array_makes, array_makes_by, has_room, is_natural, natural_on}
use Rattle.jc_waiting.specs.Memory.{fault_makes}

-- a reference that was put on the stack and taken away again
abbrev pub one_more : Stacked → Bool → Option Stacked
one_more s b = if b then Some (record s { values = NullValue ∷ s.values }) else None

there_by : (s with : Stacked) (b : Bool) → one_more s b ≡ Some with → (b ≡ true) × (with ≡ record s { values = NullValue ∷ s.values })
there_by s with true e = (refl, cc)
there_by s with false e = cc

pub had_room : (s with : Stacked) → pushed s NullValue ≡ Some with → true ≡ has_room s
had_room s with e = sym (there_by s with (has_room s) e).0

pub taken_back : (s with after : Stacked) (top : Value) → pushed s NullValue ≡ Some with → after.limit ≡ with.limit → with.values ≡ top ∷ after.values → after ≡ s
taken_back s with after top e limit values =
    let put : with ≡ record s { values = NullValue ∷ s.values } = (there_by s with (has_room s) e).1 in
    let same : top ∷ after.values ≡ NullValue ∷ s.values = sym values ∙ ap (λ (t : Stacked). t.values) put in
    let rest : after.values ≡ s.values = cc in
    let bound : after.limit ≡ s.limit = limit ∙ ap (λ (t : Stacked). t.limit) put in
    ap (λ (vs : List Value). let t : Stacked = record { values = vs; limit = after.limit } in t) rest
    ∙ ap (λ (n : ℕ). let t : Stacked = record { values = s.values; limit = n } in t) bound

none_by : (s : Stacked) (b : Bool) → one_more s b ≡ None → b ≡ false
none_by s true e = cc
none_by s false e = refl

pub had_none : (s : Stacked) → pushed s NullValue ≡ None → false ≡ has_room s
had_none s e = sym (none_by s (has_room s) e)

pub ruleset room_rules = (had_room, taken_back, had_none)

-- without room nothing is pushed
pushes_none : (next at : ℕ) (now : Frame) → has_room now.stack ≡ false → pushes next now now.stack.values (Address at) ≡ Fails
pushes_none next at now none = ap (λ (b : Bool). go_on next now (if b then Some (record now.stack { values = Address at ∷ now.stack.values }) else None)) none

stuck_by : (classes : List ClassModel) (world : World) (waiting : List Waiting) (a : Act) → a ≡ Fails → acts classes waiting (world, a) ≡ stuck
stuck_by classes world waiting a e = ap (λ (b : Act). acts classes waiting (world, b)) e

pub object_stuck : (classes : List ClassModel) (k : ℕ) (world : World) (next : ℕ) (now : Frame) (waiting : List Waiting) → has_room now.stack ≡ false → acts classes waiting (object_made classes k world next now) ≡ stuck
object_stuck classes k world next now waiting none =
    stuck_by classes (with_object classes k world) waiting (pushes next now now.stack.values (Address (next_address world))) (pushes_none next (next_address world) now none)

made_stuck : (classes : List ClassModel) (text : List ℕ) (world : World) (next : ℕ) (now : Frame) (waiting : List Waiting) (made : Option World) → has_room now.stack ≡ false →
    acts classes waiting (literal_made text world next now made) ≡ stuck
made_stuck classes text world next now waiting (Some made) none =
    stuck_by classes (with_interned text (string_address world) made) waiting (pushes next now now.stack.values (Address (string_address world))) (pushes_none next (string_address world) now none)
made_stuck classes text world next now waiting None none = refl

by_stuck : (classes : List ClassModel) (text : List ℕ) (world : World) (next : ℕ) (now : Frame) (waiting : List Waiting) (known : Option ℕ) → has_room now.stack ≡ false →
    acts classes waiting (literal_by classes text world next now known) ≡ stuck
by_stuck classes text world next now waiting (Some at) none = stuck_by classes world waiting (pushes next now now.stack.values (Address at)) (pushes_none next at now none)
by_stuck classes text world next now waiting None none = made_stuck classes text world next now waiting (with_string classes text world) none

pub literal_stuck : (classes : List ClassModel) (text : List ℕ) (world : World) (next : ℕ) (now : Frame) (waiting : List Waiting) → has_room now.stack ≡ false →
    acts classes waiting (literal_pushed classes text world next now) ≡ stuck
literal_stuck classes text world next now waiting none = by_stuck classes text world next now waiting (interned_in world.interned text) none

-- without a class for strings none is made
nowhere_by : (classes : List ClassModel) (text : List ℕ) (world : World) (next : ℕ) (now : Frame) (waiting : List Waiting) (known : Option ℕ) → known ≡ None → string_place classes ≡ None →
    acts classes waiting (literal_by classes text world next now known) ≡ stuck
nowhere_by classes text world next now waiting (Some at) e none = cc
nowhere_by classes text world next now waiting None e none = ap (λ (made : Option World). acts classes waiting (literal_made text world next now made)) (no_string classes text world none)

pub literal_nowhere : (classes : List ClassModel) (text : List ℕ) (world : World) (next : ℕ) (now : Frame) (waiting : List Waiting) → interned_in world.interned text ≡ None → string_place classes ≡ None →
    acts classes waiting (literal_pushed classes text world next now) ≡ stuck
literal_nowhere classes text world next now waiting new none = nowhere_by classes text world next now waiting (interned_in world.interned text) new none

-- ---- the length on top

abbrev pub natural_at : Option Value → Option Bool
natural_at (Some (Whole n)) = Some (is_natural n)
natural_at _ = None

pub natural_first : (values top : List Value) → top ≡ reverse (take 1 values) → natural_on values ≡ natural_at (slice_get top 0)
natural_first [] top e = ap (λ (vs : List Value). natural_at (slice_get vs 0)) (sym e)
natural_first (Whole n ∷ rest) top e = ap (λ (vs : List Value). natural_at (slice_get vs 0)) (sym e)
natural_first (Long n ∷ rest) top e = ap (λ (vs : List Value). natural_at (slice_get vs 0)) (sym e)
natural_first (Address at ∷ rest) top e = ap (λ (vs : List Value). natural_at (slice_get vs 0)) (sym e)
natural_first (NullValue ∷ rest) top e = ap (λ (vs : List Value). natural_at (slice_get vs 0)) (sym e)

pub natural_none : (values : List Value) → length values < 1 → natural_on values ≡ None
natural_none [] h = refl
natural_none (v ∷ rest) h = absurd (omega arith)

pub ruleset length_rules = (natural_first, natural_none)

pub array_negative : (of : Shape) (world : World) (next : ℕ) (now : Frame) (values : List Value) → natural_on values ≡ Some false → array_made of world next now values ≡ (world, throws NegativeArraySize now)
array_negative of world next now (Whole (pos m) ∷ rest) e = cc
array_negative of world next now (Whole (negsuc m) ∷ rest) e = refl
array_negative of world next now (Long m ∷ rest) e = cc
array_negative of world next now (Address at ∷ rest) e = cc
array_negative of world next now (NullValue ∷ rest) e = cc
array_negative of world next now [] e = cc

pub array_fails : (of : Shape) (world : World) (next : ℕ) (now : Frame) (values : List Value) → natural_on values ≡ None → array_made of world next now values ≡ (world, Fails)
array_fails of world next now (Whole n ∷ rest) e = cc
array_fails of world next now (Long m ∷ rest) e = refl
array_fails of world next now (Address at ∷ rest) e = refl
array_fails of world next now (NullValue ∷ rest) e = refl
array_fails of world next now [] e = refl

pub makes_one : (classes : List ClassModel) (values : List Value) → natural_on values ≡ Some true → IsTrue (array_makes classes values)
makes_one classes values e = ap (λ (o : Option Bool). array_makes_by classes o) e

pub makes_fault : (classes : List ClassModel) (values : List Value) → natural_on values ≡ Some false → IsTrue (fault_makes classes NegativeArraySize) → IsTrue (array_makes classes values)
makes_fault classes values e h = ap (λ (o : Option Bool). array_makes_by classes o) e ∙ h

pub ruleset array_rules = (array_negative, array_fails, makes_one, makes_fault)
