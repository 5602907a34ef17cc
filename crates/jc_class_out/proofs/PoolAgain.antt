-- The pool is read again, and serves its constants.
use Rattle.std.proofs.Common.{◌≡◌, ◌<◌, ℕ, ◌+◌, ◌-◌, ◌%◌, Bool, true, false, eqb, List, [], ◌∷◌, ◌++◌, length, map, Option, Some, None, Ok, refl, ap, subst, ◌∙◌, append_assoc, arith}
use Rattle.std.specs.Int.{w16, w32, w64, to_be_bytes, cast_unsigned}
use Rattle.std.specs.List.{flat_map, list_all, AllByRecursion}
use Rattle.std.proofs.lemmas.Bool.{ne_eqb, and_parts}
use Rattle.jc_class_out.specs.declared.format.Entry.{Entry}
use Rattle.jc_class_out.specs.declared.format.Entry.TheVariants as entry
use Rattle.jc_class_out.specs.declared.format.Slot.{Slot}
use Rattle.jc_class_out.specs.Pool.{Known, KnownText, KnownWhole, KnownLong, KnownBehind, KnownClass, KnownLiteral, KnownField, KnownMethod, KnownInterface, KnownPair, two_at, entry_by, entry_at, pending_of, slot_at, slots_at, check_entry, check_slot, checked, pool_at}
use Rattle.jc_class_out.specs.Spelling.{has, number, spell_entry, spell_member_entry, spell_text, spell_pool}
use Rattle.jc_class_out.specs.Fitting.{known_fits}
use Rattle.jc_class_out.proofs.Numbers.{u2_again, u4_again, u8_again, whole_u2, signed32, unsigned32, signed64, unsigned64}
use Rattle.jc_class_out.proofs.Known.{number_small}
use Rattle.jc_class_out.proofs.Served.{Serves, Parts, entry_for, entries, is_behind_known, index_again, tag_served, text_served, pair_served}
use Rattle.jc_class_out.proofs.TextsAgain.{text_again}

two_again : (a b : ℕ) (rest : List ℕ) → a < 65536 → b < 65536 → two_at ((to_be_bytes w16 a ++ to_be_bytes w16 b) ++ rest) ≡ Ok (a, b, rest)
unfolding two_at
two_again a b rest x y = rw (u2_again a (to_be_bytes w16 b ++ rest) x, u2_again b rest y) refl

entry_again : (ks : List Known) (k : Known) (rest : List ℕ) → known_fits k ≡ true → is_behind_known k ≡ false → entry_at (spell_entry ks k ++ rest) ≡ Ok (entry_for ks k, rest)
unfolding entry_at entry_by spell_entry spell_text spell_member_entry
entry_again ks (KnownText t) rest f b = rw (text_again t rest f) refl
entry_again ks (KnownWhole n) rest f b = rw (u4_again (cast_unsigned w32 n) rest (unsigned32 n f), signed32 n f) refl
entry_again ks (KnownLong n) rest f b = rw (u8_again (cast_unsigned w64 n) rest (unsigned64 n f), signed64 n f) refl
entry_again ks (KnownBehind n) rest f b = absurd cc
entry_again ks (KnownClass t) rest f b = rw (index_again ks (KnownText t) rest) refl
entry_again ks (KnownLiteral t) rest f b = rw (index_again ks (KnownText t) rest) refl
entry_again ks (KnownField c n d) rest f b = rw (two_again (number ks (KnownClass c)) (number ks (KnownPair n d)) rest (number_small ks (KnownClass c)) (number_small ks (KnownPair n d))) refl
entry_again ks (KnownMethod c n d) rest f b = rw (two_again (number ks (KnownClass c)) (number ks (KnownPair n d)) rest (number_small ks (KnownClass c)) (number_small ks (KnownPair n d))) refl
entry_again ks (KnownInterface c n d) rest f b = rw (two_again (number ks (KnownClass c)) (number ks (KnownPair n d)) rest (number_small ks (KnownClass c)) (number_small ks (KnownPair n d))) refl
entry_again ks (KnownPair n d) rest f b = rw (two_again (number ks (KnownText n)) (number ks (KnownText d)) rest (number_small ks (KnownText n)) (number_small ks (KnownText d))) refl

-- ---- places

abbrev pub is_long_known : Known → Bool
is_long_known (KnownLong n) = true
is_long_known _ = false

-- behind each long, and nowhere else, is its second place
unfoldable pub Spaced : Bool → List Known → Type 0
Spaced pending [] = pending ≡ false
Spaced pending (k ∷ ks) = (is_behind_known k ≡ pending) × Spaced (is_long_known k) ks

abbrev waits : Option ℕ → Bool
waits None = false
waits (Some left) = true

waits_long : (ks : List Known) (left : ℕ) (k : Known) → is_long_known k ≡ waits (pending_of left (entry_for ks k))
waits_long ks left (KnownText t) = refl
waits_long ks left (KnownWhole n) = refl
waits_long ks left (KnownLong n) = refl
waits_long ks left (KnownBehind n) = refl
waits_long ks left (KnownClass t) = refl
waits_long ks left (KnownLiteral t) = refl
waits_long ks left (KnownField c n d) = refl
waits_long ks left (KnownMethod c n d) = refl
waits_long ks left (KnownInterface c n d) = refl
waits_long ks left (KnownPair n d) = refl

behind_entry : (ks : List Known) (k : Known) (rest : List ℕ) → is_behind_known k ≡ true → (entry_for ks k ≡ entry.Behind) × (spell_entry ks k ++ rest ≡ rest)
unfolding spell_entry
behind_entry ks (KnownBehind n) rest h = (refl, refl)
behind_entry ks _ rest h = absurd cc

not_long : (k : Known) → is_behind_known k ≡ true → is_long_known k ≡ false
not_long (KnownBehind n) h = refl
not_long _ h = absurd cc

pub slots_again : (all ks : List Known) (p : Option ℕ) (rest : List ℕ) → Spaced (waits p) ks → list_all known_fits ks ≡ true
    → (slots : List Slot) × (slots_at (length ks) p (flat_map (spell_entry all) ks ++ rest) ≡ Ok (slots, rest)) × (entries slots ≡ map (entry_for all) ks)
unfolding slots_at slot_at Spaced
slots_again all [] None rest sp f = ([], refl, refl)
slots_again all [] (Some left) rest sp f = absurd cc
slots_again all (k ∷ ks) (Some left) rest sp f =
    let g = and_parts (known_fits k) (list_all known_fits ks) f in
    let b = behind_entry all k (flat_map (spell_entry all) ks ++ rest) sp.0 in
    let long : is_long_known k ≡ false = not_long k sp.0 in
    let ih = slots_again all ks None rest (subst (λ (b : Bool). Spaced b ks) long sp.1) g.1 in
    let one : Slot = record { left = left; entry = entry.Behind } in
    let regrouped : (spell_entry all k ++ flat_map (spell_entry all) ks) ++ rest ≡ flat_map (spell_entry all) ks ++ rest = append_assoc (spell_entry all k) (flat_map (spell_entry all) ks) rest ∙ b.1 in
    (one ∷ ih.0, rw (regrouped, ih.1) refl, rw (b.0) (ap (λ (x : List Entry). entry.Behind ∷ x) ih.2))
slots_again all (k ∷ ks) None rest sp f =
    let g = and_parts (known_fits k) (list_all known_fits ks) f in
    let tail = flat_map (spell_entry all) ks ++ rest in
    let whole = spell_entry all k ++ (flat_map (spell_entry all) ks ++ rest) in
    let regrouped : (spell_entry all k ++ flat_map (spell_entry all) ks) ++ rest ≡ spell_entry all k ++ (flat_map (spell_entry all) ks ++ rest) = append_assoc (spell_entry all k) (flat_map (spell_entry all) ks) rest in
    let ih = slots_again all ks (pending_of (length (spell_entry all k ++ (flat_map (spell_entry all) ks ++ rest))) (entry_for all k)) rest
    (subst (λ (b : Bool). Spaced b ks) (waits_long all (length (spell_entry all k ++ (flat_map (spell_entry all) ks ++ rest))) k) sp.1) g.1 in
    let one : Slot = record { left = length (spell_entry all k ++ (flat_map (spell_entry all) ks ++ rest)); entry = entry_for all k } in
    (one ∷ ih.0, rw (regrouped, entry_again all k (flat_map (spell_entry all) ks ++ rest) g.0 sp.0, ih.1) refl, ap (λ (x : List Entry). entry_for all k ∷ x) ih.2)

-- ---- the tests where the pool ends

each_part : (all : List Known) (slots : List Slot) → Serves all slots → (left : ℕ) (k : Known) → known_fits k ≡ true → Parts all k → check_entry slots left (entry_for all k) ≡ Ok 0
each_part all slots s left (KnownText t) f p = refl
each_part all slots s left (KnownWhole n) f p = refl
each_part all slots s left (KnownLong n) f p = refl
each_part all slots s left (KnownBehind n) f p = refl
each_part all slots s left (KnownClass t) f p = rw (tag_served all slots s (KnownText t) p) refl
each_part all slots s left (KnownLiteral t) f p = rw (tag_served all slots s (KnownText t) p) refl
each_part all slots s left (KnownField c n d) f p = rw (tag_served all slots s (KnownClass c) p.0, tag_served all slots s (KnownPair n d) p.1, pair_served all slots s n d p.1, f) refl
each_part all slots s left (KnownMethod c n d) f p = rw (tag_served all slots s (KnownClass c) p.0, tag_served all slots s (KnownPair n d) p.1, pair_served all slots s n d p.1, f) refl
each_part all slots s left (KnownInterface c n d) f p = rw (tag_served all slots s (KnownClass c) p.0, tag_served all slots s (KnownPair n d) p.1, pair_served all slots s n d p.1, f) refl
each_part all slots s left (KnownPair n d) f p = rw (tag_served all slots s (KnownText n) p.0, text_served all slots s d p.1, f) refl

checked_again : (all : List Known) (slots : List Slot) → Serves all slots → (ks : List Known) (ss : List Slot) → entries ss ≡ map (entry_for all) ks → list_all known_fits ks ≡ true → AllByRecursion (Parts all) ks → checked slots ss ≡ Ok 0
unfolding checked check_slot
checked_again all slots s [] [] e f p = refl
checked_again all slots s [] (x ∷ ss) e f p = absurd cc
checked_again all slots s (k ∷ ks) [] e f p = absurd cc
checked_again all slots s (k ∷ ks) (x ∷ ss) e f p =
    let g = and_parts (known_fits k) (list_all known_fits ks) f in
    let here : x.entry ≡ entry_for all k = cc in
    let more : entries ss ≡ map (entry_for all) ks = cc in
    rw (here, each_part all slots s x.left k g.0 p.0) (checked_again all slots s ks ss more g.1 p.1)

pub record PoolAgain (ks : List Known) (rest : List ℕ) : Type 0 where
  pub slots : List Slot
  pub serves : Serves ks slots
  pub is : pool_at (spell_pool ks ++ rest) ≡ Ok (slots, rest)

pub pool_again : (ks : List Known) (rest : List ℕ) → length ks < 65535 → list_all known_fits ks ≡ true → Spaced false ks → ((k : Known) → has ks k ≡ true → Parts ks k) → AllByRecursion (Parts ks) ks → PoolAgain ks rest
unfolding pool_at spell_pool
pool_again ks rest lt f sp closed parts =
    let a = slots_again ks ks None rest sp f in
    let s : Serves ks a.0 = record { short = lt; is = a.2; closed = closed } in
    let ck : checked a.0 a.0 ≡ Ok 0 = checked_again ks a.0 s ks a.0 a.2 f parts in
    let e : (length ks + 1) % 65536 ≡ length ks + 1 = whole_u2 (length ks + 1) (omega (arith, lt)) in
    let nz : eqb (length ks + 1) 0 ≡ false = ne_eqb (length ks + 1) 0 (λ z. omega (arith, z)) in
    let less : length ks + 1 - 1 ≡ length ks = omega arith in
    record { slots = a.0; serves = s; is = rw (e, u2_again (length ks + 1) (flat_map (spell_entry ks) ks ++ rest) (omega (arith, lt)), nz, less, a.1, ck) refl }
