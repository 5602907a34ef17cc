-- Constants that stand in the pool of a file, and what they name.
use Rattle.std.proofs.Common.{◌≡◌, ◌<◌, ℕ, zero, suc, ◌-◌, ℤ, Bool, true, false, eqb, List, [], ◌∷◌, ◌++◌, length, Option, Some, None, Result, Ok, Err, refl, sym, ap, subst, ◌∙◌, arith}
use Rattle.std.specs.Prelude.{◌&&◌, slice_get, option_and_then}
use Rattle.std.specs.List.{AllByRecursion}
use Rattle.std.proofs.lemmas.Bool.{and_parts}
use Rattle.jc_class_out.specs.declared.format.Entry.{Entry}
use Rattle.jc_class_out.specs.declared.format.Entry.TheVariants as entry
use Rattle.jc_class_out.specs.declared.format.Flaw.{Flaw}
use Rattle.jc_class_out.specs.declared.format.Kind.TheVariants as kind
use Rattle.jc_class_out.specs.declared.format.Slot.{Slot}
use Rattle.jc_class_out.specs.Reading.{◌>>=◌, wants}
use Rattle.jc_class_out.specs.Descriptors.{is_field_descriptor, is_method_descriptor}
use Rattle.jc_class_out.specs.Pool.{Known, KnownText, KnownWhole, KnownLong, KnownBehind, KnownClass, KnownLiteral, KnownField, KnownMethod, KnownInterface, KnownPair, entry_of, a_text, text_of, a_class, class_of, both, a_pair, pair_of, member_by, one_by, two_by, known_of_entry, known_of, tag_of, tag_at, pending_of, text_is, pair_is, is_descriptor, check_member, check_entry, check_slot}
use Rattle.jc_class_out.specs.Spelling.{class_uses, pair_uses, member_uses}
use Rattle.jc_class_out.specs.Fitting.{known_fits}
use Rattle.jc_class_out.proofs.PoolGood.{EntryOk, SlotsOk, IsChecked, PoolOk}

-- ---- look-ups that found something

pub and_then_some : {A B : Type 0} (f : A → Option B) (o : Option A) (y : B) → option_and_then f o ≡ Some y → (x : A) × (o ≡ Some x) × (f x ≡ Some y)
and_then_some f None y h = absurd cc
and_then_some f (Some x) y h = (x, refl, h)

pub both_some : {A B : Type 0} (a : Option A) (b : Option B) (x : A × B) → both a b ≡ Some x → (a ≡ Some (x.0)) × (b ≡ Some (x.1))
both_some None b x h = absurd cc
both_some (Some a) None x h = absurd cc
both_some (Some a) (Some b) x h = let e : (a, b) ≡ x = cc in (ap (λ (z : _). Some (z.0)) e, ap (λ (z : _). Some (z.1)) e)

-- the slot of a number
abbrev pub SlotAt : List Slot → ℕ → Slot → Type 0
SlotAt pool i s = (j : ℕ) × (i ≡ suc j) × (slice_get pool j ≡ Some s)

pub slot_of : (pool : List Slot) (i : ℕ) (e : Entry) → entry_of pool i ≡ Some e → (s : Slot) × SlotAt pool i s × (s.entry ≡ e)
unfolding entry_of
slot_of pool zero e h = absurd cc
slot_of pool (suc j) e h =
    let f : Slot → Option Entry = λ (s : Slot). Some (s.entry) in
    let p = and_then_some f (slice_get pool j) e h in
    (p.0, (j, refl, p.1), (let q : Some (p.0.entry) ≡ Some e = p.2 in cc))

entry_at_slot : (pool : List Slot) (j : ℕ) (s : Slot) → slice_get pool j ≡ Some s → entry_of pool (suc j) ≡ Some (s.entry)
unfolding entry_of
entry_at_slot pool j s h = rw h refl

get_below : (pool : List Slot) (j : ℕ) (s : Slot) → slice_get pool j ≡ Some s → j < length pool
get_below [] zero s h = absurd cc
get_below [] (suc j) s h = absurd cc
get_below (x ∷ pool) zero s h = omega arith
get_below (x ∷ pool) (suc j) s h = omega (arith, get_below pool j s h)

-- ---- what stands at a number, the second place of a long too

abbrev behind_of : Option Entry → Option Known
behind_of (Some (entry.Long n)) = Some (KnownBehind n)
behind_of _ = None

abbrev known_in : List Slot → ℕ → Entry → Option Known
known_in pool i entry.Behind = behind_of (entry_of pool (i - 1))
known_in pool i e = known_of_entry pool e

abbrev known_if : List Slot → ℕ → Option Entry → Option Known
known_if pool i None = None
known_if pool i (Some e) = known_in pool i e

-- of the place j, which has the number j and 1
unfoldable pub known_at : List Slot → ℕ → Option Known
known_at pool j = known_if pool (suc j) (entry_of pool (suc j))

-- it stands at a place below n
abbrev pub StandsBelow : List Slot → ℕ → Known → Type 0
StandsBelow pool n k = (j : ℕ) × (j < n) × (known_at pool j ≡ Some k)

abbrev pub Stands : List Slot → Known → Type 0
Stands pool k = StandsBelow pool (length pool) k

abbrev pub Stand : List Slot → List Known → Type 0
Stand pool ks = AllByRecursion (Stands pool) ks

behind_none : (pool : List Slot) (k : Known) → known_of_entry pool entry.Behind ≡ Some k → ⊥
unfolding known_of_entry
behind_none pool k h = cc

known_in_is : (pool : List Slot) (i : ℕ) (e : Entry) (k : Known) → known_of_entry pool e ≡ Some k → known_in pool i e ≡ Some k
known_in_is pool i entry.Behind k h = absurd (behind_none pool k h)
known_in_is pool i (entry.Text t) k h = h
known_in_is pool i (entry.Whole n) k h = h
known_in_is pool i (entry.Long n) k h = h
known_in_is pool i (entry.Class n) k h = h
known_in_is pool i (entry.Literal n) k h = h
known_in_is pool i (entry.Field c p) k h = h
known_in_is pool i (entry.Method c p) k h = h
known_in_is pool i (entry.Interface c p) k h = h
known_in_is pool i (entry.Pair n d) k h = h

-- an entry at a number, and what it means
pub entry_stands : (pool : List Slot) (i : ℕ) (e : Entry) (k : Known) → entry_of pool i ≡ Some e → known_of_entry pool e ≡ Some k → (j : ℕ) × (i ≡ suc j) × (j < length pool) × (known_at pool j ≡ Some k)
unfolding known_at
entry_stands pool i e k h g =
    let s = slot_of pool i e h in
    let j = s.1.0 in
    let at : entry_of pool (suc s.1.0) ≡ Some e = subst (λ (x : ℕ). entry_of pool x ≡ Some e) s.1.1 h in
    (s.1.0, s.1.1, get_below pool s.1.0 s.0 s.1.2, rw at (known_in_is pool (suc s.1.0) e k g))

pub known_stands_at : (pool : List Slot) (i : ℕ) (k : Known) → known_of pool i ≡ Some k → (j : ℕ) × (i ≡ suc j) × (j < length pool) × (known_at pool j ≡ Some k)
unfolding known_of
known_stands_at pool i k h = let p = and_then_some (known_of_entry pool) (entry_of pool i) k h in entry_stands pool i p.0 k p.1 p.2

pub known_stands : (pool : List Slot) (i : ℕ) (k : Known) → known_of pool i ≡ Some k → Stands pool k
known_stands pool i k h = let p = known_stands_at pool i k h in (p.0, p.2, p.3)

-- ---- texts, classes and pairs

a_text_is : (e : Entry) (t : List ℕ) → a_text e ≡ Some t → e ≡ entry.Text t
a_text_is (entry.Text u) t h = cc
a_text_is _ t h = absurd cc

pub text_stands : (pool : List Slot) (i : ℕ) (t : List ℕ) → text_of pool i ≡ Some t → Stands pool (KnownText t)
unfolding known_of_entry
text_stands pool i t h =
    let p = and_then_some a_text (entry_of pool i) t h in
    let e : entry_of pool i ≡ Some (entry.Text t) = p.1 ∙ ap (λ (x : Entry). Some x) (a_text_is p.0 t p.2) in
    let s = entry_stands pool i (entry.Text t) (KnownText t) e refl in
    (s.0, s.2, s.3)

-- the number of the name in a class
a_class_is : (pool : List Slot) (e : Entry) (t : List ℕ) → a_class pool e ≡ Some t → (n : ℕ) × (e ≡ entry.Class n) × (text_of pool n ≡ Some t)
a_class_is pool (entry.Class n) t h = (n, refl, h)
a_class_is pool _ t h = absurd cc

pub class_stands : (pool : List Slot) (i : ℕ) (t : List ℕ) → class_of pool i ≡ Some t → Stand pool (class_uses t)
unfolding known_of_entry
class_stands pool i t h =
    let p = and_then_some (a_class pool) (entry_of pool i) t h in
    let c = a_class_is pool p.0 t p.2 in
    let e : entry_of pool i ≡ Some (entry.Class c.0) = p.1 ∙ ap (λ (x : Entry). Some x) c.1 in
    let s = entry_stands pool i (entry.Class c.0) (KnownClass t) e (rw c.2 refl) in
    (text_stands pool c.0 t c.2, ((s.0, s.2, s.3), tt))

a_pair_is : (pool : List Slot) (e : Entry) (t : List ℕ × List ℕ) → a_pair pool e ≡ Some t → (n : ℕ) × (d : ℕ) × (e ≡ entry.Pair n d) × (text_of pool n ≡ Some (t.0)) × (text_of pool d ≡ Some (t.1))
a_pair_is pool (entry.Pair n d) t h = let b = both_some (text_of pool n) (text_of pool d) t h in (n, d, refl, b.0, b.1)
a_pair_is pool _ t h = absurd cc

pub pair_stands : (pool : List Slot) (i : ℕ) (t : List ℕ × List ℕ) → pair_of pool i ≡ Some t → Stand pool (pair_uses (t.0) (t.1))
unfolding known_of_entry
pair_stands pool i t h =
    let p = and_then_some (a_pair pool) (entry_of pool i) t h in
    let c = a_pair_is pool p.0 t p.2 in
    let e : entry_of pool i ≡ Some (entry.Pair c.0 c.1) = p.1 ∙ ap (λ (x : Entry). Some x) c.2 in
    let s = entry_stands pool i (entry.Pair c.0 c.1) (KnownPair (t.0) (t.1)) e (rw (c.3, c.4) refl) in
    (text_stands pool c.0 (t.0) c.3, (text_stands pool c.1 (t.1) c.4, ((s.0, s.2, s.3), tt)))

-- ---- members, literals and longs

tag_known : Known → ℕ
tag_known (KnownText t) = 1
tag_known (KnownWhole n) = 3
tag_known (KnownLong n) = 5
tag_known (KnownBehind n) = 0
tag_known (KnownClass t) = 7
tag_known (KnownLiteral t) = 8
tag_known (KnownField c n d) = 9
tag_known (KnownMethod c n d) = 10
tag_known (KnownInterface c n d) = 11
tag_known (KnownPair n d) = 12

pub one_some : (f : List ℕ → Known) (o : Option (List ℕ)) (k : Known) → one_by f o ≡ Some k → (t : List ℕ) × (o ≡ Some t) × (f t ≡ k)
one_some f None k h = absurd cc
one_some f (Some t) k h = (t, refl, cc)

pub two_some : (f : List ℕ → List ℕ → Known) (o : Option (List ℕ × List ℕ)) (k : Known) → two_by f o ≡ Some k → (t : List ℕ × List ℕ) × (o ≡ Some t) × (f (t.0) (t.1) ≡ k)
two_some f None k h = absurd cc
two_some f (Some t) k h = (t, refl, cc)

pub member_some : (f : List ℕ → List ℕ → List ℕ → Known) (o : Option (List ℕ × (List ℕ × List ℕ))) (k : Known) → member_by f o ≡ Some k → (m : List ℕ × (List ℕ × List ℕ)) × (o ≡ Some m) × (f (m.0) (m.1.0) (m.1.1) ≡ k)
member_some f None k h = absurd cc
member_some f (Some m) k h = (m, refl, cc)

known_tag : (pool : List Slot) (e : Entry) (k : Known) → known_of_entry pool e ≡ Some k → tag_known k ≡ tag_of e
unfolding known_of_entry tag_known
known_tag pool entry.Behind k h = absurd cc
known_tag pool (entry.Text t) k h = let e : KnownText t ≡ k = cc in ap tag_known (sym e)
known_tag pool (entry.Whole n) k h = let e : KnownWhole n ≡ k = cc in ap tag_known (sym e)
known_tag pool (entry.Long n) k h = let e : KnownLong n ≡ k = cc in ap tag_known (sym e)
known_tag pool (entry.Class n) k h = let p = one_some KnownClass (text_of pool n) k h in ap tag_known (sym p.2)
known_tag pool (entry.Literal n) k h = let p = one_some KnownLiteral (text_of pool n) k h in ap tag_known (sym p.2)
known_tag pool (entry.Field c p) k h = let m = member_some KnownField (both (class_of pool c) (pair_of pool p)) k h in ap tag_known (sym m.2)
known_tag pool (entry.Method c p) k h = let m = member_some KnownMethod (both (class_of pool c) (pair_of pool p)) k h in ap tag_known (sym m.2)
known_tag pool (entry.Interface c p) k h = let m = member_some KnownInterface (both (class_of pool c) (pair_of pool p)) k h in ap tag_known (sym m.2)
known_tag pool (entry.Pair n d) k h = let m = two_some KnownPair (both (text_of pool n) (text_of pool d)) k h in ap tag_known (sym m.2)

-- what a member names
record MemberIs (pool : List Slot) (c n d : List ℕ) : Type 0 where
  class : ℕ
  pair : ℕ
  class_is : class_of pool class ≡ Some c
  pair_is : pair_of pool pair ≡ Some (n, d)

member_is : (pool : List Slot) (class pair : ℕ) (m : List ℕ × (List ℕ × List ℕ)) (c n d : List ℕ) → both (class_of pool class) (pair_of pool pair) ≡ Some m → m.0 ≡ c → m.1.0 ≡ n → m.1.1 ≡ d → MemberIs pool c n d
member_is pool class pair m c n d h e f g =
    let b = both_some (class_of pool class) (pair_of pool pair) m h in
    record { class = class; pair = pair; class_is = b.0 ∙ ap (λ (x : List ℕ). Some x) e; pair_is = b.1 ∙ (let q : m.1 ≡ (n, d) = rw (sym f, sym g) refl in ap (λ (x : List ℕ × List ℕ). Some x) q) }

other_tag : (pool : List Slot) (e : Entry) (k : Known) (tag : ℕ) → known_of_entry pool e ≡ Some k → tag_known k ≡ tag → (tag_of e ≡ tag → ⊥) → ⊥
other_tag pool e k tag h t other = other (sym (known_tag pool e k h) ∙ t)

field_is : (pool : List Slot) (e : Entry) (c n d : List ℕ) → known_of_entry pool e ≡ Some (KnownField c n d) → MemberIs pool c n d
unfolding known_of_entry tag_known
field_is pool (entry.Field class pair) c n d h =
    let p = member_some KnownField (both (class_of pool class) (pair_of pool pair)) (KnownField c n d) h in
    let q : KnownField (p.0.0) (p.0.1.0) (p.0.1.1) ≡ KnownField c n d = p.2 in
    member_is pool class pair p.0 c n d p.1 (cc) (cc) (cc)
field_is pool e c n d h = absurd (other_tag pool e (KnownField c n d) 9 h refl (λ q. omega (arith, q)))

method_is : (pool : List Slot) (e : Entry) (c n d : List ℕ) → known_of_entry pool e ≡ Some (KnownMethod c n d) → MemberIs pool c n d
unfolding known_of_entry tag_known
method_is pool (entry.Method class pair) c n d h =
    let p = member_some KnownMethod (both (class_of pool class) (pair_of pool pair)) (KnownMethod c n d) h in
    let q : KnownMethod (p.0.0) (p.0.1.0) (p.0.1.1) ≡ KnownMethod c n d = p.2 in
    member_is pool class pair p.0 c n d p.1 (cc) (cc) (cc)
method_is pool e c n d h = absurd (other_tag pool e (KnownMethod c n d) 10 h refl (λ q. omega (arith, q)))

interface_is : (pool : List Slot) (e : Entry) (c n d : List ℕ) → known_of_entry pool e ≡ Some (KnownInterface c n d) → MemberIs pool c n d
unfolding known_of_entry tag_known
interface_is pool (entry.Interface class pair) c n d h =
    let p = member_some KnownInterface (both (class_of pool class) (pair_of pool pair)) (KnownInterface c n d) h in
    let q : KnownInterface (p.0.0) (p.0.1.0) (p.0.1.1) ≡ KnownInterface c n d = p.2 in
    member_is pool class pair p.0 c n d p.1 (cc) (cc) (cc)
interface_is pool e c n d h = absurd (other_tag pool e (KnownInterface c n d) 11 h refl (λ q. omega (arith, q)))

-- what a member uses, itself at the end
abbrev around_member : List ℕ → List ℕ → List ℕ → Known → List Known
around_member c n d k = class_uses c ++ (pair_uses n d ++ k ∷ [])

member_stands : (pool : List Slot) (c n d : List ℕ) (k : Known) → MemberIs pool c n d → Stands pool k → Stand pool (around_member c n d k)
member_stands pool c n d k m s =
    let a = class_stands pool m.class c m.class_is in
    let b = pair_stands pool m.pair (n, d) m.pair_is in
    (a.0, (a.1.0, (b.0, (b.1.0, (b.1.1.0, (s, tt))))))

entry_by_number : (pool : List Slot) (i : ℕ) (k : Known) → known_of pool i ≡ Some k → (e : Entry) × (entry_of pool i ≡ Some e) × (known_of_entry pool e ≡ Some k)
unfolding known_of
entry_by_number pool i k h = and_then_some (known_of_entry pool) (entry_of pool i) k h

pub field_stands : (pool : List Slot) (i : ℕ) (c n d : List ℕ) → known_of pool i ≡ Some (KnownField c n d) → Stand pool (member_uses kind.Field c n d)
unfolding member_uses
field_stands pool i c n d h = let e = entry_by_number pool i (KnownField c n d) h in member_stands pool c n d (KnownField c n d) (field_is pool e.0 c n d e.2) (known_stands pool i (KnownField c n d) h)

pub method_stands : (pool : List Slot) (i : ℕ) (c n d : List ℕ) → known_of pool i ≡ Some (KnownMethod c n d) → Stand pool (member_uses kind.Method c n d)
unfolding member_uses
method_stands pool i c n d h = let e = entry_by_number pool i (KnownMethod c n d) h in member_stands pool c n d (KnownMethod c n d) (method_is pool e.0 c n d e.2) (known_stands pool i (KnownMethod c n d) h)

pub interface_stands : (pool : List Slot) (i : ℕ) (c n d : List ℕ) → known_of pool i ≡ Some (KnownInterface c n d) → Stand pool (member_uses kind.Interface c n d)
unfolding member_uses
interface_stands pool i c n d h = let e = entry_by_number pool i (KnownInterface c n d) h in member_stands pool c n d (KnownInterface c n d) (interface_is pool e.0 c n d e.2) (known_stands pool i (KnownInterface c n d) h)

literal_is : (pool : List Slot) (e : Entry) (t : List ℕ) → known_of_entry pool e ≡ Some (KnownLiteral t) → (i : ℕ) × (text_of pool i ≡ Some t)
unfolding known_of_entry tag_known
literal_is pool (entry.Literal i) t h = let p = one_some KnownLiteral (text_of pool i) (KnownLiteral t) h in let q : KnownLiteral p.0 ≡ KnownLiteral t = p.2 in let e : p.0 ≡ t = cc in (i, p.1 ∙ ap (λ (x : List ℕ). Some x) e)
literal_is pool e t h = absurd (other_tag pool e (KnownLiteral t) 8 h refl (λ q. omega (arith, q)))

pub literal_stands : (pool : List Slot) (i : ℕ) (t : List ℕ) → known_of pool i ≡ Some (KnownLiteral t) → Stand pool (KnownText t ∷ KnownLiteral t ∷ [])
literal_stands pool i t h =
    let e = entry_by_number pool i (KnownLiteral t) h in
    let l = literal_is pool e.0 t e.2 in
    (text_stands pool l.0 t l.1, (known_stands pool i (KnownLiteral t) h, tt))

-- ---- the second place of a long

next_slot : (p : Option ℕ) (ss : List Slot) (j : ℕ) (s : Slot) (n : ℤ) → SlotsOk p ss → slice_get ss j ≡ Some s → s.entry ≡ entry.Long n → (t : Slot) × (slice_get ss (suc j) ≡ Some t) × (t.entry ≡ entry.Behind)
next_slot None [] zero s n ok h e = absurd cc
next_slot None [] (suc j) s n ok h e = absurd cc
next_slot (Some left) [] j s n ok h e = absurd ok
next_slot (Some left) (x ∷ ss) zero s n ok h e = let q : x ≡ s = cc in let r : x.entry ≡ entry.Long n = ap (λ (y : Slot). y.entry) q ∙ e in let z : x.entry ≡ entry.Behind = ok.0 in absurd cc
next_slot (Some left) (x ∷ ss) (suc j) s n ok h e = next_slot None ss j s n ok.1 h e
next_slot None (x ∷ ss) (suc j) s n ok h e = next_slot (pending_of (x.left) (x.entry)) ss j s n ok.1 h e
next_slot None (x ∷ []) zero s n ok h e =
    let q : x ≡ s = cc in
    let r : x.entry ≡ entry.Long n = ap (λ (y : Slot). y.entry) q ∙ e in
    let bad : SlotsOk (pending_of (x.left) (entry.Long n)) [] = subst (λ (y : Entry). SlotsOk (pending_of (x.left) y) []) r ok.1 in
    absurd bad
next_slot None (x ∷ t ∷ ss) zero s n ok h e =
    let q : x ≡ s = cc in
    let r : x.entry ≡ entry.Long n = ap (λ (y : Slot). y.entry) q ∙ e in
    let good : SlotsOk (pending_of (x.left) (entry.Long n)) (t ∷ ss) = subst (λ (y : Entry). SlotsOk (pending_of (x.left) y) (t ∷ ss)) r ok.1 in
    (t, refl, good.0)

long_is : (pool : List Slot) (e : Entry) (n : ℤ) → known_of_entry pool e ≡ Some (KnownLong n) → e ≡ entry.Long n
unfolding known_of_entry tag_known
long_is pool (entry.Long m) n h = let q : KnownLong m ≡ KnownLong n = cc in cc
long_is pool e n h = absurd (other_tag pool e (KnownLong n) 5 h refl (λ q. omega (arith, q)))

pub long_stands : (pool : List Slot) → PoolOk pool → (i : ℕ) (n : ℤ) → known_of pool i ≡ Some (KnownLong n) → Stand pool (KnownLong n ∷ KnownBehind n ∷ [])
unfolding known_at
long_stands pool ok i n h =
    let e = entry_by_number pool i (KnownLong n) h in
    let s = slot_of pool i e.0 e.1 in
    let j = s.1.0 in
    let long : s.0.entry ≡ entry.Long n = s.2 ∙ long_is pool e.0 n e.2 in
    let t = next_slot None pool s.1.0 s.0 n ok.slots s.1.2 long in
    let here : entry_of pool (suc s.1.0) ≡ Some (entry.Long n) = entry_at_slot pool s.1.0 s.0 s.1.2 ∙ ap (λ (x : Entry). Some x) long in
    let next : entry_of pool (suc (suc s.1.0)) ≡ Some entry.Behind = entry_at_slot pool (suc s.1.0) t.0 t.1 ∙ ap (λ (x : Entry). Some x) t.2 in
    let less : suc (suc s.1.0) - 1 ≡ suc s.1.0 = omega arith in
    (known_stands pool i (KnownLong n) h, ((suc s.1.0, get_below pool (suc s.1.0) t.0 t.1, rw (next, less, here) refl), tt))

-- ---- what stands in a pool can stand there

pub all_at : {A : Type 0} (P : A → Type 0) (xs : List A) (j : ℕ) (x : A) → AllByRecursion P xs → slice_get xs j ≡ Some x → P x
all_at P [] zero x h g = absurd cc
all_at P [] (suc j) x h g = absurd cc
all_at P (y ∷ xs) zero x h g = let e : y ≡ x = cc in subst P e h.0
all_at P (y ∷ xs) (suc j) x h g = all_at P xs j x h.1 g

entries_ok : (p : Option ℕ) (ss : List Slot) → SlotsOk p ss → AllByRecursion (λ (s : Slot). EntryOk (s.entry)) ss
entries_ok None [] ok = tt
entries_ok (Some left) [] ok = absurd ok
entries_ok None (s ∷ ss) ok = (ok.0, entries_ok (pending_of (s.left) (s.entry)) ss ok.1)
entries_ok (Some left) (s ∷ ss) ok = (subst EntryOk (sym ok.0) tt, entries_ok None ss ok.1)

then_ok : (r : Result ℕ Flaw) (s : Result ℕ Flaw) (m : ℕ) → (r >>= λ _. s) ≡ Ok m → s ≡ Ok m
then_ok (Ok n) s m h = h
then_ok (Err e) s m h = absurd cc

wants_ok : (b : Bool) (left m : ℕ) → wants b left ≡ Ok m → b ≡ true
wants_ok true left m h = refl
wants_ok false left m h = absurd cc

-- the descriptor of a member was tested
member_tested : (pool : List Slot) (left : ℕ) (test : List ℕ → Bool) (class pair m : ℕ) (p : List ℕ × List ℕ) → check_member pool left test class pair ≡ Ok m → pair_of pool pair ≡ Some p → test (p.1) ≡ true
member_tested pool left test class pair m p h e =
    let t = then_ok (wants (eqb (tag_at pool class) 7) (left - 1)) (wants (eqb (tag_at pool pair) 12 && pair_is test (pair_of pool pair)) (left - 3)) m h in
    let b = wants_ok (eqb (tag_at pool pair) 12 && pair_is test (pair_of pool pair)) (left - 3) m t in
    let q = and_parts (eqb (tag_at pool pair) 12) (pair_is test (pair_of pool pair)) b in
    sym (ap (pair_is test) e) ∙ q.1

behind_fits : (o : Option Entry) (k : Known) → behind_of o ≡ Some k → known_fits k ≡ true
behind_fits None k h = absurd cc
behind_fits (Some (entry.Long n)) k h = let e : KnownBehind n ≡ k = cc in subst (λ (x : Known). known_fits x ≡ true) e refl
behind_fits (Some _) k h = absurd cc

known_in_fits : (pool : List Slot) (i left m : ℕ) (e : Entry) (k : Known) → EntryOk e → check_entry pool left e ≡ Ok m → known_in pool i e ≡ Some k → known_fits k ≡ true
unfolding known_of_entry
known_in_fits pool i left m entry.Behind k ok h g = behind_fits (entry_of pool (i - 1)) k g
known_in_fits pool i left m (entry.Text t) k ok h g = let e : KnownText t ≡ k = cc in subst (λ (x : Known). known_fits x ≡ true) e ok
known_in_fits pool i left m (entry.Whole n) k ok h g = let e : KnownWhole n ≡ k = cc in subst (λ (x : Known). known_fits x ≡ true) e ok
known_in_fits pool i left m (entry.Long n) k ok h g = let e : KnownLong n ≡ k = cc in subst (λ (x : Known). known_fits x ≡ true) e ok
known_in_fits pool i left m (entry.Class n) k ok h g = let p = one_some KnownClass (text_of pool n) k g in subst (λ (x : Known). known_fits x ≡ true) p.2 refl
known_in_fits pool i left m (entry.Literal n) k ok h g = let p = one_some KnownLiteral (text_of pool n) k g in subst (λ (x : Known). known_fits x ≡ true) p.2 refl
known_in_fits pool i left m (entry.Field class pair) k ok h g =
    let p = member_some KnownField (both (class_of pool class) (pair_of pool pair)) k g in
    let b = both_some (class_of pool class) (pair_of pool pair) p.0 p.1 in
    subst (λ (x : Known). known_fits x ≡ true) p.2 (member_tested pool left is_field_descriptor class pair m (p.0.1) h b.1)
known_in_fits pool i left m (entry.Method class pair) k ok h g =
    let p = member_some KnownMethod (both (class_of pool class) (pair_of pool pair)) k g in
    let b = both_some (class_of pool class) (pair_of pool pair) p.0 p.1 in
    subst (λ (x : Known). known_fits x ≡ true) p.2 (member_tested pool left is_method_descriptor class pair m (p.0.1) h b.1)
known_in_fits pool i left m (entry.Interface class pair) k ok h g =
    let p = member_some KnownInterface (both (class_of pool class) (pair_of pool pair)) k g in
    let b = both_some (class_of pool class) (pair_of pool pair) p.0 p.1 in
    subst (λ (x : Known). known_fits x ≡ true) p.2 (member_tested pool left is_method_descriptor class pair m (p.0.1) h b.1)
known_in_fits pool i left m (entry.Pair n d) k ok h g =
    let p = two_some KnownPair (both (text_of pool n) (text_of pool d)) k g in
    let b = both_some (text_of pool n) (text_of pool d) p.0 p.1 in
    let t = then_ok (wants (eqb (tag_at pool n) 1) (left - 1)) (wants (text_is is_descriptor (text_of pool d)) (left - 3)) m h in
    let w = wants_ok (text_is is_descriptor (text_of pool d)) (left - 3) m t in
    subst (λ (x : Known). known_fits x ≡ true) p.2 (sym (ap (text_is is_descriptor) b.1) ∙ w)

if_some : (pool : List Slot) (i : ℕ) (o : Option Entry) (k : Known) → known_if pool i o ≡ Some k → (e : Entry) × (o ≡ Some e) × (known_in pool i e ≡ Some k)
if_some pool i None k h = absurd cc
if_some pool i (Some e) k h = (e, refl, h)

pub stands_fits : (pool : List Slot) → PoolOk pool → (n : ℕ) (k : Known) → StandsBelow pool n k → known_fits k ≡ true
unfolding known_at check_slot
stands_fits pool ok n k s =
    let p = if_some pool (suc s.0) (entry_of pool (suc s.0)) k s.2 in
    let at = slot_of pool (suc s.0) p.0 p.1 in
    let j = at.1.0 in
    let fine = all_at (λ (x : Slot). EntryOk (x.entry)) pool at.1.0 at.0 (entries_ok None pool ok.slots) at.1.2 in
    let checks = all_at (IsChecked pool) pool at.1.0 at.0 ok.checks at.1.2 in
    let c : check_entry pool (at.0.left) p.0 ≡ Ok checks.0 = ap (check_entry pool (at.0.left)) (sym at.2) ∙ checks.1 in
    known_in_fits pool (suc s.0) (at.0.left) checks.0 p.0 k (subst EntryOk at.2 fine) c p.2

-- it stands in the pool
pub below_stands : (pool : List Slot) (n : ℕ) (k : Known) → StandsBelow pool n k → Stands pool k
unfolding known_at
below_stands pool n k s =
    let p = if_some pool (suc s.0) (entry_of pool (suc s.0)) k s.2 in
    let at = slot_of pool (suc s.0) p.0 p.1 in
    let lt = get_below pool at.1.0 at.0 at.1.2 in
    (s.0, omega (arith, lt, at.1.1), s.2)
