-- The constant pool (JVMS 4.4): its entries, what they mean, and how they are read.
use Rattle.std.specs.Prelude.{ℕ, zero, suc, ◌-◌, ℤ, Bool, true, false, ◌||◌, ◌&&◌, ◌==◌, List, [], ◌∷◌, length, take, drop, slice_get, option_and_then, Option, Some, None, Result, Ok, Err, nat_lt, if◌then◌else◌}
use Rattle.std.specs.Int.{w16, w32, w64, cast_signed}
use Rattle.jc_class_out.specs.declared.format.Entry.{Entry}
use Rattle.jc_class_out.specs.declared.format.Entry.TheVariants.{Behind, Text, Whole, Long, Class, Literal, Field, Method, Interface, Pair}
use Rattle.jc_class_out.specs.declared.format.Slot.{Slot}
use Rattle.jc_class_out.specs.declared.format.Flaw.{Flaw}
use Rattle.jc_class_out.specs.declared.format.Flaw.TheVariants.{Short, Tag, Index, Text as BadText}
use Rattle.jc_class_out.specs.Reading.{◌>>=◌, or_flaw, wants, u8_at, number_at}
use Rattle.jc_class_out.specs.Texts.{text_of_bytes}
use Rattle.jc_class_out.specs.Descriptors.{is_field_descriptor, is_method_descriptor}

-- what an entry means, with the entries that it names put in
pub data Known : Type 0 where
  KnownText : List ℕ → Known
  KnownWhole : ℤ → Known
  KnownLong : ℤ → Known
  -- the second place of that long
  KnownBehind : ℤ → Known
  KnownClass : List ℕ → Known
  KnownLiteral : List ℕ → Known
  -- class, name, descriptor
  KnownField : List ℕ → List ℕ → List ℕ → Known
  KnownMethod : List ℕ → List ℕ → List ℕ → Known
  KnownInterface : List ℕ → List ℕ → List ℕ → Known
  -- name, descriptor
  KnownPair : List ℕ → List ℕ → Known

-- ---- look-ups; the first entry has number 1

-- number 0 and numbers behind the pool's end have no entry
unfoldable pub entry_of : List Slot → ℕ → Option Entry
entry_of pool zero = None
entry_of pool (suc i) = option_and_then (λ (s : Slot). Some s.entry) (slice_get pool i)

-- the units of the text that an entry is, or that the entry of a number is; other entries have none
abbrev pub a_text : Entry → Option (List ℕ)
a_text (Text units) = Some units
a_text _ = None

-- the units of the text at a number
abbrev pub text_of : List Slot → ℕ → Option (List ℕ)
text_of pool i = option_and_then a_text (entry_of pool i)

-- the name of the class that an entry names, or that of the entry of a number
abbrev pub a_class : List Slot → Entry → Option (List ℕ)
a_class pool (Class name) = text_of pool name
a_class pool _ = None

abbrev pub class_of : List Slot → ℕ → Option (List ℕ)
class_of pool i = option_and_then (a_class pool) (entry_of pool i)

-- both, or None where one is missing
abbrev pub both : {A B : Type 0} → Option A → Option B → Option (A × B)
both None b = None
both (Some a) None = None
both (Some a) (Some b) = Some (a, b)

-- the name and the descriptor of an entry NameAndType, and of the entry of a number (JVMS 4.4.6)
abbrev pub a_pair : List Slot → Entry → Option (List ℕ × List ℕ)
a_pair pool (Pair name descriptor) = both (text_of pool name) (text_of pool descriptor)
a_pair pool _ = None

abbrev pub pair_of : List Slot → ℕ → Option (List ℕ × List ℕ)
pair_of pool i = option_and_then (a_pair pool) (entry_of pool i)

-- the meaning of an entry from its parts, three, one or two; None where a part is missing
abbrev pub member_by : (List ℕ → List ℕ → List ℕ → Known) → Option (List ℕ × (List ℕ × List ℕ)) → Option Known
member_by known None = None
member_by known (Some m) = Some (known m.0 m.1.0 m.1.1)

abbrev pub one_by : (List ℕ → Known) → Option (List ℕ) → Option Known
one_by known None = None
one_by known (Some t) = Some (known t)

abbrev pub two_by : (List ℕ → List ℕ → Known) → Option (List ℕ × List ℕ) → Option Known
two_by known None = None
two_by known (Some p) = Some (known p.0 p.1)

-- what an entry means; the second place of a long is no entry, and has no meaning (JVMS 4.4.5)
unfoldable pub known_of_entry : List Slot → Entry → Option Known
known_of_entry pool Behind = None
known_of_entry pool (Text t) = Some (KnownText t)
known_of_entry pool (Whole n) = Some (KnownWhole n)
known_of_entry pool (Long n) = Some (KnownLong n)
known_of_entry pool (Class name) = one_by KnownClass (text_of pool name)
known_of_entry pool (Literal text) = one_by KnownLiteral (text_of pool text)
known_of_entry pool (Field class pair) = member_by KnownField (both (class_of pool class) (pair_of pool pair))
known_of_entry pool (Method class pair) = member_by KnownMethod (both (class_of pool class) (pair_of pool pair))
known_of_entry pool (Interface class pair) = member_by KnownInterface (both (class_of pool class) (pair_of pool pair))
known_of_entry pool (Pair name descriptor) = two_by KnownPair (both (text_of pool name) (text_of pool descriptor))

-- what the entry of that number means
unfoldable pub known_of : List Slot → ℕ → Option Known
known_of pool i = option_and_then (known_of_entry pool) (entry_of pool i)

-- the tags of JVMS 4.4; the second place of a long has none, and neither has a number without an entry
abbrev pub tag_of : Entry → ℕ
tag_of Behind = 0
tag_of (Text t) = 1
tag_of (Whole n) = 3
tag_of (Long n) = 5
tag_of (Class n) = 7
tag_of (Literal n) = 8
tag_of (Field c p) = 9
tag_of (Method c p) = 10
tag_of (Interface c p) = 11
tag_of (Pair n d) = 12

-- the tag at a number, or 0
abbrev pub tag_if : Option Entry → ℕ
tag_if None = 0
tag_if (Some e) = tag_of e

abbrev pub tag_at : List Slot → ℕ → ℕ
tag_at pool i = tag_if (entry_of pool i)

-- ---- reading

-- a u2 that says how many bytes follow, which have to be modified UTF-8 (JVMS 4.4.7)
unfoldable pub text_at : List ℕ → Result (List ℕ × List ℕ) Flaw
text_at bytes = do
  n ← number_at w16 bytes
  if nat_lt (length n.1) n.0 then Err Short else
      (or_flaw (text_of_bytes (take n.0 n.1)) (BadText (length n.1)) >>= λ t. Ok (t, drop n.0 n.1))

-- two u2, one after the other
unfoldable pub two_at : List ℕ → Result (ℕ × ℕ × List ℕ) Flaw
two_at bytes = do
  a ← number_at w16 bytes
  b ← number_at w16 a.1
  Ok (a.0, b.0, b.1)

-- the entry behind its tag; `left` is how many bytes are left from the tag on, where the flaw of an unknown tag is
unfoldable pub entry_by : ℕ → ℕ → List ℕ → Result (Entry × List ℕ) Flaw
entry_by left tag bytes =
    if tag == 1 then (text_at bytes >>= λ t. Ok (Text t.0, t.1)) else
    if tag == 3 then (number_at w32 bytes >>= λ n. Ok (Whole (cast_signed w32 n.0), n.1)) else
    if tag == 5 then (number_at w64 bytes >>= λ n. Ok (Long (cast_signed w64 n.0), n.1)) else
    if tag == 7 then (number_at w16 bytes >>= λ n. Ok (Class n.0, n.1)) else
    if tag == 8 then (number_at w16 bytes >>= λ n. Ok (Literal n.0, n.1)) else
    if tag == 9 then (two_at bytes >>= λ n. Ok (Field n.0 n.1, n.2)) else
    if tag == 10 then (two_at bytes >>= λ n. Ok (Method n.0 n.1, n.2)) else
    if tag == 11 then (two_at bytes >>= λ n. Ok (Interface n.0 n.1, n.2)) else
    if tag == 12 then (two_at bytes >>= λ n. Ok (Pair n.0 n.1, n.2)) else Err (Tag left)

-- the entry with its tag
unfoldable pub entry_at : List ℕ → Result (Entry × List ℕ) Flaw
entry_at bytes = do
  tag ← u8_at bytes
  entry_by (length bytes) tag.0 tag.1

-- A Long takes two places (JVMS 4.4.5): then the place of its tag is pending.
abbrev pub pending_of : ℕ → Entry → Option ℕ
pending_of left (Long n) = Some left
pending_of left _ = None

-- the next place of the pool, and the place pending behind it; a pending one takes no bytes
unfoldable pub slot_at : Option ℕ → List ℕ → Result (Slot × Option ℕ × List ℕ) Flaw
slot_at (Some left) bytes = Ok (record { left = left; entry = Behind }, None, bytes)
slot_at None bytes = do
  e ← entry_at bytes
  Ok (record { left = length bytes; entry = e.0 }, pending_of (length bytes) e.0, e.1)

-- so many places; a long in the last one has no second place, which is a flaw
unfoldable pub slots_at : ℕ → Option ℕ → List ℕ → Result (List Slot × List ℕ) Flaw
slots_at zero None bytes = Ok ([], bytes)
slots_at zero (Some left) bytes = Err (Index left)
slots_at (suc n) pending bytes = do
  s ← slot_at pending bytes
  more ← slots_at n s.1 s.2
  Ok (s.0 ∷ more.0, more.1)

-- Where the pool ends, the numbers in it are tested, from left to right. One stands behind the tag, a second one behind it.
-- A descriptor is tested with the entry that names it, as far as it is there.
abbrev pub text_is : (List ℕ → Bool) → Option (List ℕ) → Bool
text_is test None = false
text_is test (Some t) = test t

-- a pair that isn't whole passes here, since its tag and its own entry are tested besides
abbrev pub pair_is : (List ℕ → Bool) → Option (List ℕ × List ℕ) → Bool
pair_is test None = true
pair_is test (Some p) = test p.1

-- a name with descriptor may be of a field or of a method
abbrev pub is_descriptor : List ℕ → Bool
is_descriptor d = is_field_descriptor d || is_method_descriptor d

-- the class and the pair of a member; `left` is counted from its tag on, so that they stand 1 and 3 bytes behind it
abbrev pub check_member : List Slot → ℕ → (List ℕ → Bool) → ℕ → ℕ → Result ℕ Flaw
check_member pool left test class pair = wants (tag_at pool class == 7) (left - 1) >>= λ _. wants (tag_at pool pair == 12 && pair_is test (pair_of pool pair)) (left - 3)

-- the numbers in an entry go to entries of the right tags; entries without numbers pass
abbrev pub check_entry : List Slot → ℕ → Entry → Result ℕ Flaw
check_entry pool left (Class name) = wants (tag_at pool name == 1) (left - 1)
check_entry pool left (Literal text) = wants (tag_at pool text == 1) (left - 1)
check_entry pool left (Field class pair) = check_member pool left is_field_descriptor class pair
check_entry pool left (Method class pair) = check_member pool left is_method_descriptor class pair
check_entry pool left (Interface class pair) = check_member pool left is_method_descriptor class pair
check_entry pool left (Pair name descriptor) = wants (tag_at pool name == 1) (left - 1) >>= λ _. wants (text_is is_descriptor (text_of pool descriptor)) (left - 3)
check_entry pool left _ = Ok 0

-- the entry of a place; each place of the list is checked in `pool`, from left to right
unfoldable pub check_slot : List Slot → Slot → Result ℕ Flaw
check_slot pool s = check_entry pool s.left s.entry

-- place by place, up to the first flaw
unfoldable pub checked : List Slot → List Slot → Result ℕ Flaw
checked pool [] = Ok 0
checked pool (s ∷ ss) = check_slot pool s >>= λ _. checked pool ss

-- constant_pool_count is one more than the number of places
unfoldable pub pool_at : List ℕ → Result (List Slot × List ℕ) Flaw
pool_at bytes = do
  n ← number_at w16 bytes
  if n.0 == 0 then Err (Index (length bytes)) else
      (slots_at (n.0 - 1) None n.1 >>= λ s. checked s.0 s.0 >>= λ _. Ok s)

-- ---- indices into the pool

-- the text of an index, and the name of the class of an index; there has to be one
unfoldable pub named_at : List Slot → List ℕ → Result (List ℕ × List ℕ) Flaw
named_at pool bytes = do
  i ← number_at w16 bytes
  t ← or_flaw (text_of pool i.0) (Index (length bytes))
  Ok (t, i.1)

unfoldable pub class_named_at : List Slot → List ℕ → Result (List ℕ × List ℕ) Flaw
class_named_at pool bytes = do
  i ← number_at w16 bytes
  t ← or_flaw (class_of pool i.0) (Index (length bytes))
  Ok (t, i.1)

-- 0, or a class
unfoldable pub class_or_none_at : List Slot → List ℕ → Result (Option (List ℕ) × List ℕ) Flaw
class_or_none_at pool bytes = do
  i ← number_at w16 bytes
  if i.0 == 0 then Ok (None, i.1) else (or_flaw (class_of pool i.0) (Index (length bytes)) >>= λ t. Ok (Some t, i.1))

-- 0, or a text
unfoldable pub name_or_none_at : List Slot → List ℕ → Result (Option (List ℕ) × List ℕ) Flaw
name_or_none_at pool bytes = do
  i ← number_at w16 bytes
  if i.0 == 0 then Ok (None, i.1) else (or_flaw (text_of pool i.0) (Index (length bytes)) >>= λ t. Ok (Some t, i.1))

-- a descriptor of the wanted sort
unfoldable pub descriptor_at : (List ℕ → Bool) → List Slot → List ℕ → Result (List ℕ × List ℕ) Flaw
descriptor_at test pool bytes = do
  t ← named_at pool bytes
  if test t.0 then Ok t else Err (Index (length bytes))
