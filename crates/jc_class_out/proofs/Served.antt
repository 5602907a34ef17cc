-- A pool in a file that serves the constants of the writer's list: each is found by its number.
use Rattle.std.proofs.Common.{◌≡◌, ◌<◌, ℕ, Bool, true, false, List, ◌++◌, length, map, Option, Some, None, Ok, refl, sym, ap, ◌∙◌, arith}
use Rattle.std.specs.Prelude.{slice_get, option_and_then, option_map}
use Rattle.std.specs.Int.{w16}
use Rattle.std.proofs.lemmas.Option.{slice_get-map}
use Rattle.std.proofs.lemmas.Bool.{ne_eqb}
use Rattle.jc_class_out.specs.declared.format.Entry.{Entry}
use Rattle.jc_class_out.specs.declared.format.Entry.TheVariants as entry
use Rattle.jc_class_out.specs.declared.format.Slot.{Slot}
use Rattle.jc_class_out.specs.Reading.{number_at}
use Rattle.jc_class_out.specs.Pool.{Known, KnownText, KnownWhole, KnownLong, KnownBehind, KnownClass, KnownLiteral, KnownField, KnownMethod, KnownInterface, KnownPair, entry_of, text_of, class_of, pair_of, known_of_entry, known_of, tag_of, tag_at, named_at, class_named_at, class_or_none_at, name_or_none_at}
use Rattle.jc_class_out.specs.Spelling.{has, number, index, spell_class_or_none, spell_name_or_none}
use Rattle.jc_class_out.proofs.Numbers.{u2_again}
use Rattle.jc_class_out.proofs.Known.{at_place, number_small}

-- the entry that stands for a constant
abbrev pub entry_for : List Known → Known → Entry
entry_for ks (KnownText t) = entry.Text t
entry_for ks (KnownWhole n) = entry.Whole n
entry_for ks (KnownLong n) = entry.Long n
entry_for ks (KnownBehind n) = entry.Behind
entry_for ks (KnownClass t) = entry.Class (number ks (KnownText t))
entry_for ks (KnownLiteral t) = entry.Literal (number ks (KnownText t))
entry_for ks (KnownField c n d) = entry.Field (number ks (KnownClass c)) (number ks (KnownPair n d))
entry_for ks (KnownMethod c n d) = entry.Method (number ks (KnownClass c)) (number ks (KnownPair n d))
entry_for ks (KnownInterface c n d) = entry.Interface (number ks (KnownClass c)) (number ks (KnownPair n d))
entry_for ks (KnownPair n d) = entry.Pair (number ks (KnownText n)) (number ks (KnownText d))

-- what a constant names is there too
abbrev pub Parts : List Known → Known → Type 0
Parts ks (KnownText t) = Unit {0}
Parts ks (KnownWhole n) = Unit {0}
Parts ks (KnownLong n) = Unit {0}
Parts ks (KnownBehind n) = Unit {0}
Parts ks (KnownClass t) = has ks (KnownText t) ≡ true
Parts ks (KnownLiteral t) = has ks (KnownText t) ≡ true
Parts ks (KnownField c n d) = (has ks (KnownClass c) ≡ true) × (has ks (KnownPair n d) ≡ true)
Parts ks (KnownMethod c n d) = (has ks (KnownClass c) ≡ true) × (has ks (KnownPair n d) ≡ true)
Parts ks (KnownInterface c n d) = (has ks (KnownClass c) ≡ true) × (has ks (KnownPair n d) ≡ true)
Parts ks (KnownPair n d) = (has ks (KnownText n) ≡ true) × (has ks (KnownText d) ≡ true)

abbrev pub entries : List Slot → List Entry
entries slots = map (λ (s : Slot). s.entry) slots

pub record Serves (ks : List Known) (slots : List Slot) : Type 0 where
  pub short : length ks < 65535
  pub is : entries slots ≡ map (entry_for ks) ks
  pub closed : (k : Known) → has ks k ≡ true → Parts ks k

the_entry : (o : Option Slot) (e : Entry) → option_map (λ (s : Slot). s.entry) o ≡ Some e → option_and_then (λ (s : Slot). Some s.entry) o ≡ Some e
the_entry None e h = absurd cc
the_entry (Some s) e h = h

pub entry_served : (ks : List Known) (slots : List Slot) → Serves ks slots → (k : Known) → has ks k ≡ true → entry_of slots (number ks k) ≡ Some (entry_for ks k)
unfolding entry_of
entry_served ks slots s k h =
    let p = at_place ks k h s.short in
    let at = p.1 in
    let one : option_map (λ (x : Slot). x.entry) (slice_get slots p.0) ≡ Some (entry_for ks k) =
    sym (slice_get-map (λ (x : Slot). x.entry) slots p.0) ∙ ap (λ (x : List Entry). slice_get x p.0) s.is ∙ slice_get-map (entry_for ks) ks p.0 ∙ ap (option_map (entry_for ks)) at.is in
    rw (at.number_is) (the_entry (slice_get slots p.0) (entry_for ks k) one)

pub text_served : (ks : List Known) (slots : List Slot) → Serves ks slots → (t : List ℕ) → has ks (KnownText t) ≡ true → text_of slots (number ks (KnownText t)) ≡ Some t
text_served ks slots s t h = rw (entry_served ks slots s (KnownText t) h) refl

pub class_served : (ks : List Known) (slots : List Slot) → Serves ks slots → (t : List ℕ) → has ks (KnownClass t) ≡ true → class_of slots (number ks (KnownClass t)) ≡ Some t
class_served ks slots s t h = rw (entry_served ks slots s (KnownClass t) h) (text_served ks slots s t (s.closed (KnownClass t) h))

pub pair_served : (ks : List Known) (slots : List Slot) → Serves ks slots → (n d : List ℕ) → has ks (KnownPair n d) ≡ true → pair_of slots (number ks (KnownPair n d)) ≡ Some (n, d)
pair_served ks slots s n d h =
    let c = s.closed (KnownPair n d) h in
    rw (entry_served ks slots s (KnownPair n d) h) (rw (text_served ks slots s n c.0, text_served ks slots s d c.1) refl)

abbrev pub is_behind_known : Known → Bool
is_behind_known (KnownBehind n) = true
is_behind_known _ = false

entry_known : (ks : List Known) (slots : List Slot) → Serves ks slots → (k : Known) → has ks k ≡ true → is_behind_known k ≡ false → known_of_entry slots (entry_for ks k) ≡ Some k
unfolding known_of_entry
entry_known ks slots s (KnownText t) h b = refl
entry_known ks slots s (KnownWhole n) h b = refl
entry_known ks slots s (KnownLong n) h b = refl
entry_known ks slots s (KnownBehind n) h b = absurd cc
entry_known ks slots s (KnownClass t) h b = rw (text_served ks slots s t (s.closed (KnownClass t) h)) refl
entry_known ks slots s (KnownLiteral t) h b = rw (text_served ks slots s t (s.closed (KnownLiteral t) h)) refl
entry_known ks slots s (KnownField c n d) h b = let p = s.closed (KnownField c n d) h in rw (class_served ks slots s c p.0, pair_served ks slots s n d p.1) refl
entry_known ks slots s (KnownMethod c n d) h b = let p = s.closed (KnownMethod c n d) h in rw (class_served ks slots s c p.0, pair_served ks slots s n d p.1) refl
entry_known ks slots s (KnownInterface c n d) h b = let p = s.closed (KnownInterface c n d) h in rw (class_served ks slots s c p.0, pair_served ks slots s n d p.1) refl
entry_known ks slots s (KnownPair n d) h b = let p = s.closed (KnownPair n d) h in rw (text_served ks slots s n p.0, text_served ks slots s d p.1) refl

pub known_served : (ks : List Known) (slots : List Slot) → Serves ks slots → (k : Known) → has ks k ≡ true → is_behind_known k ≡ false → known_of slots (number ks k) ≡ Some k
unfolding known_of
known_served ks slots s k h b = rw (entry_served ks slots s k h) (entry_known ks slots s k h b)

pub tag_served : (ks : List Known) (slots : List Slot) → Serves ks slots → (k : Known) → has ks k ≡ true → tag_at slots (number ks k) ≡ tag_of (entry_for ks k)
tag_served ks slots s k h = rw (entry_served ks slots s k h) refl

-- ---- indices that are read again

pub index_again : (ks : List Known) (k : Known) (rest : List ℕ) → number_at w16 (index ks k ++ rest) ≡ Ok (number ks k, rest)
index_again ks k rest = u2_again (number ks k) rest (number_small ks k)

pub named_again : (ks : List Known) (slots : List Slot) → Serves ks slots → (t rest : List ℕ) → has ks (KnownText t) ≡ true → named_at slots (index ks (KnownText t) ++ rest) ≡ Ok (t, rest)
unfolding named_at
named_again ks slots s t rest h = rw (index_again ks (KnownText t) rest, text_served ks slots s t h) refl

pub class_again : (ks : List Known) (slots : List Slot) → Serves ks slots → (t rest : List ℕ) → has ks (KnownClass t) ≡ true → class_named_at slots (index ks (KnownClass t) ++ rest) ≡ Ok (t, rest)
unfolding class_named_at
class_again ks slots s t rest h = rw (index_again ks (KnownClass t) rest, class_served ks slots s t h) refl

-- ---- indices that may be 0

abbrev pub HasClass : List Known → Option (List ℕ) → Type 0
HasClass ks None = Unit {0}
HasClass ks (Some name) = has ks (KnownClass name) ≡ true

abbrev pub HasName : List Known → Option (List ℕ) → Type 0
HasName ks None = Unit {0}
HasName ks (Some name) = has ks (KnownText name) ≡ true

not_zero : (ks : List Known) (slots : List Slot) → Serves ks slots → (k : Known) → has ks k ≡ true → number ks k ≡ 0 → ⊥
not_zero ks slots s k h e = let p = at_place ks k h s.short in omega (arith, e, p.1.number_is)

pub class_or_none_again : (ks : List Known) (slots : List Slot) → Serves ks slots → (o : Option (List ℕ)) (rest : List ℕ) → HasClass ks o → class_or_none_at slots (spell_class_or_none ks o ++ rest) ≡ Ok (o, rest)
unfolding class_or_none_at
class_or_none_again ks slots s None rest h = rw (u2_again 0 rest (omega arith)) refl
class_or_none_again ks slots s (Some t) rest h = rw (index_again ks (KnownClass t) rest, ne_eqb (number ks (KnownClass t)) 0 (not_zero ks slots s (KnownClass t) h), class_served ks slots s t h) refl

pub name_or_none_again : (ks : List Known) (slots : List Slot) → Serves ks slots → (o : Option (List ℕ)) (rest : List ℕ) → HasName ks o → name_or_none_at slots (spell_name_or_none ks o ++ rest) ≡ Ok (o, rest)
unfolding name_or_none_at
name_or_none_again ks slots s None rest h = rw (u2_again 0 rest (omega arith)) refl
name_or_none_again ks slots s (Some t) rest h = rw (index_again ks (KnownText t) rest, ne_eqb (number ks (KnownText t)) 0 (not_zero ks slots s (KnownText t) h), text_served ks slots s t h) refl
