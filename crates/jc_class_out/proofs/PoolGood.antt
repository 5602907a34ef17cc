-- What holds of a pool that was read.
use Rattle.std.proofs.Common.{◌≡◌, ◌<◌, ◌≤◌, ◌^◌, ℕ, zero, suc, ◌+◌, ◌-◌, pos, negsuc, Bool, true, false, cond, ltb, eqb, List, [], ◌∷◌, length, take, drop, Option, Some, None, Result, Ok, Err, refl, ap, subst, arith}
use Rattle.std.specs.Prelude.{◌&&◌, nat_lt}
use Rattle.std.specs.Int.{w8, w16, w32, w64, cast_signed}
use Rattle.std.specs.List.{list_all, AllByRecursion}
use Rattle.std.proofs.lemmas.Bool.{ltb-false, lt-ltb}
use Rattle.std.proofs.lemmas.List.{length-take-le}
use Rattle.jc_class_out.specs.declared.format.Entry.{Entry}
use Rattle.jc_class_out.specs.declared.format.Entry.TheVariants as entry
use Rattle.jc_class_out.specs.declared.format.Flaw.{Flaw}
use Rattle.jc_class_out.specs.declared.format.Flaw.TheVariants as flaw
use Rattle.jc_class_out.specs.declared.format.Slot.{Slot}
use Rattle.jc_class_out.specs.Reading.{◌>>=◌, or_flaw, u8_at, number_at}
use Rattle.jc_class_out.specs.Texts.{text_bytes, text_of_bytes}
use Rattle.jc_class_out.specs.Pool.{text_at, two_at, entry_by, entry_at, pending_of, slot_at, slots_at, check_slot, checked, pool_at}
use Rattle.jc_class_out.specs.Fitting.{is_u16, is_signed, text_fits}
use Rattle.jc_class_out.proofs.Good.{Good, good_ok, good_err, good_bind, good_if, good_flaw, good_more, Ranged, ranged_drop, Got, Numbered, u1_good, u2_good, u4_good, u8_good}
use Rattle.jc_class_out.proofs.TextsGood.{text_good}

-- what was read holds, and the bytes behind it are in range
pub record Kept {A : Type 0} (P : A → Type 0) (x : A × List ℕ) : Type 0 where
  pub of : P x.0
  pub ranged : Ranged x.1

-- ---- signed numbers of that width

signed_by : (limit half n : ℕ) (b : Bool) → limit ≡ half + half → 0 < half → n < limit → ltb n half ≡ b → is_signed half (cond b (pos n) (negsuc (limit - suc n))) ≡ true
signed_by limit half n true e some lt h = h
signed_by limit half n false e some lt h = let le = ltb-false n half h in lt-ltb (limit - suc n) half (omega (arith, e, le, lt, some))

pub signed32_good : (n : ℕ) → n < 2 ^ 32 → is_signed (2 ^ 31) (cast_signed w32 n) ≡ true
signed32_good n lt = signed_by (2 ^ 32) (2 ^ 31) n (ltb n (2 ^ 31)) refl (omega arith) lt refl

pub signed64_good : (n : ℕ) → n < 2 ^ 64 → is_signed (2 ^ 63) (cast_signed w64 n) ≡ true
signed64_good n lt = signed_by (2 ^ 64) (2 ^ 63) n (ltb n (2 ^ 63)) refl (omega arith) lt refl

pub signed16_good : (n : ℕ) → n < 65536 → is_signed (2 ^ 15) (cast_signed w16 n) ≡ true
signed16_good n lt = signed_by 65536 32768 n (ltb n 32768) refl (omega arith) lt refl

pub signed8_good : (n : ℕ) → n < 256 → is_signed (2 ^ 7) (cast_signed w8 n) ≡ true
signed8_good n lt = signed_by 256 128 n (ltb n 128) refl (omega arith) lt refl

-- ---- entries

abbrev pub EntryOk : Entry → Type 0
EntryOk (entry.Text t) = text_fits t ≡ true
EntryOk (entry.Whole n) = is_signed (2 ^ 31) n ≡ true
EntryOk (entry.Long n) = is_signed (2 ^ 63) n ≡ true
EntryOk _ = Unit {0}

text_at_good : (bytes : List ℕ) → Ranged bytes → Good (Kept (λ (t : List ℕ). text_fits t ≡ true)) (text_at bytes)
unfolding text_at text_fits
text_at_good bytes r =
    let Q : List ℕ × List ℕ → Type 0 = Kept (λ (t : List ℕ). (list_all is_u16 t && ltb (length (text_bytes t)) 65536) ≡ true) in
    good_bind (Got (Numbered 65536 2) bytes) Q (number_at w16 bytes) _ (u2_good bytes r)
    (λ n pn. good_if Q (nat_lt (length n.1) n.0) _ _ (λ h. good_err Q flaw.Short)
    (λ h. good_bind (λ (t : List ℕ). text_of_bytes (take n.0 n.1) ≡ Some t) Q (or_flaw (text_of_bytes (take n.0 n.1)) (flaw.Text (length n.1))) _ (good_flaw (text_of_bytes (take n.0 n.1)) (flaw.Text (length n.1)))
    (λ t e. let ok = text_good (take n.0 n.1) t e in
    let le = ltb-false (length n.1) n.0 h in
    let small : length (text_bytes t) < 65536 = omega (arith, ok.1, length-take-le n.0 n.1 le, pn.of.0) in
    good_ok Q (t, drop n.0 n.1) (record { of = rw (ok.0, lt-ltb (length (text_bytes t)) 65536 small) refl; ranged = ranged_drop n.0 n.1 pn.ranged }))))

abbrev EntryRead : Entry × List ℕ → Type 0
EntryRead = Kept EntryOk

one_number : (bytes : List ℕ) → Ranged bytes → (make : ℕ → Entry) → ((n : ℕ) → EntryOk (make n)) → Good EntryRead (number_at w16 bytes >>= λ n. Ok (make n.0, n.1))
one_number bytes r make h = good_bind (Got (Numbered 65536 2) bytes) EntryRead (number_at w16 bytes) _ (u2_good bytes r) (λ n pn. good_ok EntryRead (make n.0, n.1) (record { of = h n.0; ranged = pn.ranged }))

two_good : (bytes : List ℕ) → Ranged bytes → Good (λ (x : ℕ × ℕ × List ℕ). Ranged x.2) (two_at bytes)
unfolding two_at
two_good bytes r =
    good_bind (Got (Numbered 65536 2) bytes) _ (number_at w16 bytes) _ (u2_good bytes r)
    (λ a pa. good_bind (Got (Numbered 65536 2) a.1) _ (number_at w16 a.1) _ (u2_good a.1 pa.ranged) (λ b pb. good_ok (λ (x : ℕ × ℕ × List ℕ). Ranged x.2) (a.0, b.0, b.1) pb.ranged))

two_numbers : (bytes : List ℕ) → Ranged bytes → (make : ℕ → ℕ → Entry) → ((n m : ℕ) → EntryOk (make n m)) → Good EntryRead (two_at bytes >>= λ n. Ok (make n.0 n.1, n.2))
two_numbers bytes r make h = good_bind (λ (x : ℕ × ℕ × List ℕ). Ranged x.2) EntryRead (two_at bytes) _ (two_good bytes r) (λ n pn. good_ok EntryRead (make n.0 n.1, n.2) (record { of = h n.0 n.1; ranged = pn }))

whole_good : (bytes : List ℕ) → Ranged bytes → Good EntryRead (number_at w32 bytes >>= λ n. Ok (entry.Whole (cast_signed w32 n.0), n.1))
whole_good bytes r = good_bind (Got (Numbered (2 ^ 32) 4) bytes) EntryRead (number_at w32 bytes) _ (u4_good bytes r) (λ n pn. good_ok EntryRead (entry.Whole (cast_signed w32 n.0), n.1) (record { of = signed32_good n.0 pn.of.0; ranged = pn.ranged }))

long_good : (bytes : List ℕ) → Ranged bytes → Good EntryRead (number_at w64 bytes >>= λ n. Ok (entry.Long (cast_signed w64 n.0), n.1))
long_good bytes r = good_bind (Got (Numbered (2 ^ 64) 8) bytes) EntryRead (number_at w64 bytes) _ (u8_good bytes r) (λ n pn. good_ok EntryRead (entry.Long (cast_signed w64 n.0), n.1) (record { of = signed64_good n.0 pn.of.0; ranged = pn.ranged }))

entry_by_good : (left tag : ℕ) (bytes : List ℕ) → Ranged bytes → Good EntryRead (entry_by left tag bytes)
unfolding entry_by
entry_by_good left tag bytes r =
    good_if EntryRead (eqb tag 1) _ _ (λ h. good_bind (Kept (λ (t : List ℕ). text_fits t ≡ true)) EntryRead (text_at bytes) _ (text_at_good bytes r) (λ t pt. good_ok EntryRead (entry.Text t.0, t.1) (record { of = pt.of; ranged = pt.ranged })))
    (λ n1. good_if EntryRead (eqb tag 3) _ _ (λ h. whole_good bytes r)
    (λ n2. good_if EntryRead (eqb tag 5) _ _ (λ h. long_good bytes r)
    (λ n3. good_if EntryRead (eqb tag 7) _ _ (λ h. one_number bytes r (λ n. entry.Class n) (λ n. tt))
    (λ n4. good_if EntryRead (eqb tag 8) _ _ (λ h. one_number bytes r (λ n. entry.Literal n) (λ n. tt))
    (λ n5. good_if EntryRead (eqb tag 9) _ _ (λ h. two_numbers bytes r (λ n m. entry.Field n m) (λ n m. tt))
    (λ n6. good_if EntryRead (eqb tag 10) _ _ (λ h. two_numbers bytes r (λ n m. entry.Method n m) (λ n m. tt))
    (λ n7. good_if EntryRead (eqb tag 11) _ _ (λ h. two_numbers bytes r (λ n m. entry.Interface n m) (λ n m. tt))
    (λ n8. good_if EntryRead (eqb tag 12) _ _ (λ h. two_numbers bytes r (λ n m. entry.Pair n m) (λ n m. tt)) (λ n9. good_err EntryRead (flaw.Tag left))))))))))

entry_good : (bytes : List ℕ) → Ranged bytes → Good EntryRead (entry_at bytes)
unfolding entry_at
entry_good bytes r = good_bind (Got (Numbered 256 1) bytes) EntryRead (u8_at bytes) _ (u1_good bytes r) (λ t pt. entry_by_good (length bytes) t.0 t.1 pt.ranged)

-- ---- slots

-- a long has its second place behind it
abbrev pub SlotsOk : Option ℕ → List Slot → Type 0
SlotsOk None [] = Unit {0}
SlotsOk (Some left) [] = ⊥
SlotsOk None (s ∷ ss) = EntryOk s.entry × SlotsOk (pending_of s.left s.entry) ss
SlotsOk (Some left) (s ∷ ss) = (s.entry ≡ entry.Behind) × SlotsOk None ss

abbrev SlotsRead : ℕ → Option ℕ → List Slot × List ℕ → Type 0
SlotsRead n pending = Kept (λ (ss : List Slot). SlotsOk pending ss × (length ss ≡ n))

abbrev SlotRead : Slot × Option ℕ × List ℕ → Type 0
SlotRead x = EntryOk (x.0.entry) × (x.1 ≡ pending_of (x.0.left) (x.0.entry)) × Ranged x.2

slot_good : (bytes : List ℕ) → Ranged bytes → Good SlotRead (slot_at None bytes)
unfolding slot_at
slot_good bytes r = good_bind EntryRead SlotRead (entry_at bytes) _ (entry_good bytes r) (λ e pe. good_ok SlotRead (record { left = length bytes; entry = e.0 }, pending_of (length bytes) e.0, e.1) (pe.of, refl, pe.ranged))

slots_good : (n : ℕ) (pending : Option ℕ) (bytes : List ℕ) → Ranged bytes → Good (SlotsRead n pending) (slots_at n pending bytes)
unfolding slots_at slot_at
slots_good zero None bytes r = good_ok (SlotsRead 0 None) ([], bytes) (record { of = (tt, refl); ranged = r })
slots_good zero (Some left) bytes r = good_err (SlotsRead 0 (Some left)) (flaw.Index left)
slots_good (suc n) (Some left) bytes r =
    let s : Slot = record { left = left; entry = entry.Behind } in
    good_bind (SlotsRead n None) (SlotsRead (suc n) (Some left)) (slots_at n None bytes) _ (slots_good n None bytes r)
    (λ ss pss. good_ok (SlotsRead (suc n) (Some left)) (s ∷ ss.0, ss.1) (record { of = ((refl, pss.of.0), ap (λ (k : ℕ). suc k) pss.of.1); ranged = pss.ranged }))
slots_good (suc n) None bytes r =
    good_bind SlotRead (SlotsRead (suc n) None) (slot_at None bytes) _ (slot_good bytes r)
    (λ e pe. good_bind (SlotsRead n e.1) (SlotsRead (suc n) None) (slots_at n e.1 e.2) _ (slots_good n e.1 e.2 pe.2)
    (λ ss pss. good_ok (SlotsRead (suc n) None) (e.0 ∷ ss.0, ss.1) (record { of = ((pe.0, subst (λ (p : Option ℕ). SlotsOk p ss.0) pe.1 pss.of.0), ap (λ (k : ℕ). suc k) pss.of.1); ranged = pss.ranged })))

-- ---- the pool

abbrev pub IsChecked : List Slot → Slot → Type 0
IsChecked pool s = (m : ℕ) × (check_slot pool s ≡ Ok m)

pub record PoolOk (pool : List Slot) : Type 0 where
  pub short : length pool ≤ 65534
  pub slots : SlotsOk None pool
  pub checks : AllByRecursion (IsChecked pool) pool

is_ok_good : (r : Result ℕ Flaw) → Good (λ (n : ℕ). (m : ℕ) × (r ≡ Ok m)) r
is_ok_good (Ok m) = good_ok (λ (n : ℕ). (k : ℕ) × (Ok m ≡ Ok k)) m (m, refl)
is_ok_good (Err e) = good_err (λ (n : ℕ). (k : ℕ) × (Err e ≡ Ok k)) e

checked_good : (pool ss : List Slot) → Good (λ (n : ℕ). AllByRecursion (IsChecked pool) ss) (checked pool ss)
unfolding checked
checked_good pool [] = good_ok (λ (n : ℕ). Unit {0}) 0 tt
checked_good pool (s ∷ ss) =
    let Q : ℕ → Type 0 = λ (n : ℕ). AllByRecursion (IsChecked pool) (s ∷ ss) in
    good_bind (λ (n : ℕ). IsChecked pool s) Q (check_slot pool s) _ (is_ok_good (check_slot pool s))
    (λ m pm. good_more (λ (n : ℕ). AllByRecursion (IsChecked pool) ss) Q (checked pool ss) (checked_good pool ss) (λ n pn. (pm, pn)))

pub pool_good : (bytes : List ℕ) → Ranged bytes → Good (Kept PoolOk) (pool_at bytes)
unfolding pool_at
pool_good bytes r =
    good_bind (Got (Numbered 65536 2) bytes) (Kept PoolOk) (number_at w16 bytes) _ (u2_good bytes r)
    (λ n pn. good_if (Kept PoolOk) (eqb n.0 0) _ _ (λ h. good_err (Kept PoolOk) (flaw.Index (length bytes)))
    (λ h. good_bind (SlotsRead (n.0 - 1) None) (Kept PoolOk) (slots_at (n.0 - 1) None n.1) _ (slots_good (n.0 - 1) None n.1 pn.ranged)
    (λ s ps. good_bind (λ (k : ℕ). AllByRecursion (IsChecked s.0) s.0) (Kept PoolOk) (checked s.0 s.0) _ (checked_good s.0 s.0)
    (λ k pk. good_ok (Kept PoolOk) s (record { of = record { short = omega (arith, ps.of.1, pn.of.0); slots = ps.of.0; checks = pk }; ranged = ps.ranged })))))
