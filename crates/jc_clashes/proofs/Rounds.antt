-- One step of spreading on, its end, and the shapes that come of it.
use Rattle.std.proofs.Common.{◌≡◌, ℕ, zero, suc, ◌+◌, ◌-◌, ◌==◌, ◌<◌, arith, Bool, true, false, cond, List, [], ◌∷◌, ◌++◌, map, length, drop, get_or, add-one, drop-cons, refl, sym, ap, ◌∙◌}
use Rattle.std.specs.Prelude.{slice_get}
use Rattle.std.specs.List.{list_any}
use Rattle.std.proofs.lemmas.Bool.{and_parts}
use Rattle.jc_rules.proofs.Truths.{equal_numbers}
use Rattle.jc_types.specs.declared.form.Ty.{Ty}
use Rattle.jc_types.specs.declared.ids.MethodId.{MethodId}
use Rattle.jc_types.specs.declared.table.Table.{Table}
use Rattle.jc_overriding.specs.Signatures.{same_all}
use Rattle.jc_members.specs.Below.{replaces}
use Rattle.jc_clashes.specs.declared.shapes.Shape.{Shape}
use Rattle.jc_clashes.specs.Erasures.{joined, with_one}
use Rattle.jc_clashes.specs.Marks.{is_marked}
use Rattle.jc_clashes.specs.Shapes.{above_at, above_in, row_in, set_in, shape_of, shapes_of}
use Rattle.jc_clashes.specs.Spreading.{are_as_many, below_in, belows_of, erasures_within, gathered, spread, widened}

-- ---- where nothing is added

none_more : (es : List (List Ty)) → es ≡ es ++ []
none_more [] = refl
none_more (e ∷ es) = ap (λ l. e ∷ l) (none_more es)

assoc : (xs ys zs : List (List Ty)) → (xs ++ ys) ++ zs ≡ xs ++ (ys ++ zs)
assoc [] ys zs = refl
assoc (x ∷ xs) ys zs = ap (λ l. x ∷ l) (assoc xs ys zs)

-- these, and more behind them
record Grown (es fs : List (List Ty)) : Type 0 where
  pub more : List (List Ty)
  pub is : fs ≡ es ++ more

then_grown : (es fs gs : List (List Ty)) → Grown es fs → Grown fs gs → Grown es gs
then_grown es fs gs a b = record { more = a.more ++ b.more; is = b.is ∙ ap (λ l. l ++ b.more) a.is ∙ assoc es a.more b.more }

one_grown : (es : List (List Ty)) (f : List Ty) → Grown es (with_one es f)
one_grown es f = by (list_any (same_all f) es)
  where
    by : (b : Bool) → Grown es (cond b es (es ++ f ∷ []))
    by true = record { more = []; is = none_more es }
    by false = record { more = f ∷ []; is = refl }

joined_grown : (es fs : List (List Ty)) → Grown es (joined es fs)
joined_grown es [] = record { more = []; is = none_more es }
joined_grown es (f ∷ fs) = then_grown es (with_one es f) (joined (with_one es f) fs) (one_grown es f) (joined_grown (with_one es f) fs)

gathered_grown : (bs : List Bool) (sets : List (List (List Ty))) (es : List (List Ty)) → Grown es (gathered bs sets es)
gathered_grown [] sets es = record { more = []; is = none_more es }
gathered_grown (b ∷ bs) [] es = record { more = []; is = none_more es }
gathered_grown (b ∷ bs) (set ∷ sets) es = then_grown es (cond b (joined es set) es) (gathered bs sets (cond b (joined es set) es)) (by b) (gathered_grown bs sets (cond b (joined es set) es))
  where
    by : (c : Bool) → Grown es (cond c (joined es set) es)
    by true = joined_grown es set
    by false = record { more = []; is = none_more es }

nothing_more : (es more : List (List Ty)) → length es ≡ length (es ++ more) → es ++ more ≡ es
nothing_more [] [] e = refl
nothing_more [] (x ∷ xs) e = absurd (omega arith)
nothing_more (x ∷ es) more e = ap (λ l. x ∷ l) (nothing_more es more (omega arith))

same_grown : (es fs : List (List Ty)) → Grown es fs → (length es == length fs) ≡ true → fs ≡ es
same_grown es fs g e = g.is ∙ nothing_more es g.more (equal_numbers (length es) (length fs) e ∙ ap length g.is)

as_many : (belows : List (List Bool)) (all sets : List (List (List Ty))) → are_as_many sets (widened belows all sets) ≡ true → widened belows all sets ≡ sets
as_many [] all [] e = refl
as_many [] all (set ∷ sets) e = cc
as_many (below ∷ belows) all [] e = refl
as_many (below ∷ belows) all (set ∷ sets) e =
    let both = and_parts (length set == length (gathered below all set)) (are_as_many sets (widened belows all sets)) e in
    ap (λ s. s ∷ widened belows all sets) (same_grown set (gathered below all set) (gathered_grown below all set) both.0) ∙ ap (λ ss. set ∷ ss) (as_many belows all sets both.1)

ended : (belows : List (List Bool)) (n : ℕ) (sets : List (List (List Ty))) → widened belows sets sets ≡ sets → spread belows n sets ≡ sets
ended belows zero sets e = refl
ended belows (suc n) sets e = ap (spread belows n) e ∙ ended belows n sets e

pub stopped : (belows : List (List Bool)) (n : ℕ) (sets next whole : List (List (List Ty))) → next ≡ widened belows sets sets → true ≡ are_as_many sets next → spread belows n sets ≡ whole → sets ≡ whole
stopped belows n sets next whole e f g = sym (ended belows n sets (as_many belows sets sets (sym (f ∙ ap (are_as_many sets) e)))) ∙ g

-- ---- one step on

pub step_on : (belows : List (List Bool)) (i n : ℕ) (sets next whole : List (List (List Ty))) → i < n → next ≡ widened belows sets sets → spread belows (n - i) sets ≡ whole → spread belows (n - (i + 1)) next ≡ whole
step_on belows i n sets next whole lt e f =
    let count : n - i ≡ suc (n - (i + 1)) = omega arith in
    ap (spread belows (n - (i + 1))) e ∙ ap (λ k. spread belows k sets) (sym count) ∙ f

-- ---- all steps

module _ (T : Table) (all : List MethodId) where
  widened_told : (k : ℕ) (ms : List MethodId) → widened (belows_of T all ms) (map (erasures_within T all k) all) (map (erasures_within T all k) ms) ≡ map (erasures_within T all (suc k)) ms
  widened_told k [] = refl
  widened_told k (m ∷ ms) = ap (λ sets. erasures_within T all (suc k) m ∷ sets) (widened_told k ms)

  spread_within : (n k : ℕ) → spread (belows_of T all all) n (map (erasures_within T all k) all) ≡ map (erasures_within T all (n + k)) all
  spread_within zero k = let none : k ≡ 0 + k = omega arith in ap (λ j. map (erasures_within T all j) all) none
  spread_within (suc n) k =
      let count : n + suc k ≡ suc n + k = omega arith in
      ap (spread (belows_of T all all) n) (widened_told k all) ∙ spread_within n (suc k) ∙ ap (λ j. map (erasures_within T all j) all) count

  pub spread_told : (n : ℕ) → spread (belows_of T all all) n (map (erasures_within T all 0) all) ≡ map (erasures_within T all n) all
  spread_told n = let none : n + 0 ≡ n = omega arith in spread_within n 0 ∙ ap (λ j. map (erasures_within T all j) all) none

  -- ---- one shape

  marked_told : (f : MethodId → Bool) (ms : List MethodId) (at : ℕ) (d : MethodId) → at < length ms → is_marked (map f ms) at ≡ f (get_or ms at d)
  marked_told f [] at d lt = absurd (omega arith)
  marked_told f (m ∷ ms) zero d lt = refl
  marked_told f (m ∷ ms) (suc at) d lt = marked_told f ms at d (omega arith)

  row_told : (ms : List MethodId) (at : ℕ) (d : MethodId) → at < length ms → row_in (slice_get (belows_of T all ms) at) ≡ below_in T all (get_or ms at d)
  row_told [] at d lt = absurd (omega arith)
  row_told (m ∷ ms) zero d lt = refl
  row_told (m ∷ ms) (suc at) d lt = row_told ms at d (omega arith)

  set_told : (h : MethodId → List (List Ty)) (ms : List MethodId) (at : ℕ) (d : MethodId) → at < length ms → set_in (slice_get (map h ms) at) ≡ h (get_or ms at d)
  set_told h [] at d lt = absurd (omega arith)
  set_told h (m ∷ ms) zero d lt = refl
  set_told h (m ∷ ms) (suc at) d lt = set_told h ms at d (omega arith)

  above_told : (at : ℕ) (d : MethodId) (js : List MethodId) → at < length all → above_at at js (belows_of T all js) ≡ above_in T (get_or all at d) js
  above_told at d [] lt = refl
  above_told at d (j ∷ js) lt =
      ap (λ b. cond b (j ∷ []) [] ++ above_at at js (belows_of T all js)) (marked_told (replaces T j) all at d lt)
      ∙ ap (λ js. cond (replaces T j (get_or all at d)) (j ∷ []) [] ++ js) (above_told at d js lt)

  first_left : (at : ℕ) (m d : MethodId) → at < length all → m ≡ get_or all at d → drop at all ≡ m ∷ drop (at + 1) all
  first_left at m d lt is = drop-cons all at d lt ∙ ap (λ n. n ∷ drop (suc at) all) (sym is) ∙ ap (λ k. m ∷ drop k all) (sym (add-one at))

  shapes_on : (out ss : List Shape) (s : Shape) → (out ++ s ∷ []) ++ ss ≡ out ++ (s ∷ ss)
  shapes_on [] ss s = refl
  shapes_on (x ∷ out) ss s = ap (λ l. x ∷ l) (shapes_on out ss s)

  pub shape_on : (at : ℕ) (m d : MethodId) (below : List Bool) (above : List MethodId) (erasures : List (List Ty)) (belows : List (List Bool)) (sets : List (List (List Ty))) (out next whole : List Shape)
      → at < length all → next ≡ out ++ record { id = m; below = below; above = above; erasures = erasures } ∷ [] → m ≡ get_or all at d → belows ≡ belows_of T all all → sets ≡ spread belows (length T.methods) (map (erasures_within T all 0) all) → above ≡ above_at at all belows → below ≡ row_in (slice_get belows at) → erasures ≡ set_in (slice_get sets at)
      → out ++ shapes_of T all (drop at all) ≡ whole → next ++ shapes_of T all (drop (at + 1) all) ≡ whole
  shape_on at m d below above erasures belows sets out next whole lt pushed is e f g j h i =
      ap (λ l. l ++ shapes_of T all (drop (at + 1) all)) pushed ∙ shapes_on out (shapes_of T all (drop (at + 1) all)) (record { id = m; below = below; above = above; erasures = erasures })
      ∙ ap (λ (s : Shape). out ++ (s ∷ shapes_of T all (drop (at + 1) all))) same
      ∙ ap (λ ms. out ++ shapes_of T all ms) (sym (first_left at m d lt is)) ∙ i
    where
      all_above : above ≡ above_in T m all
      all_above = g ∙ ap (above_at at all) e ∙ above_told at d all lt ∙ ap (λ n. above_in T n all) (sym is)

      all_sets : sets ≡ map (erasures_within T all (length T.methods)) all
      all_sets = f ∙ ap (λ bs. spread bs (length T.methods) (map (erasures_within T all 0) all)) e ∙ spread_told (length T.methods)

      own : erasures ≡ erasures_within T all (length T.methods) m
      own = h ∙ ap (λ ss. set_in (slice_get ss at)) all_sets ∙ set_told (erasures_within T all (length T.methods)) all at d lt ∙ ap (erasures_within T all (length T.methods)) (sym is)

      all_below : below ≡ below_in T all m
      all_below = j ∙ ap (λ bs. row_in (slice_get bs at)) e ∙ row_told all at d lt ∙ ap (below_in T all) (sym is)

      same : record { id = m; below = below; above = above; erasures = erasures } ≡ shape_of T all m
      same =
          ap (λ bs. let s : Shape = record { id = m; below = bs; above = above; erasures = erasures } in s) all_below ∙ ap (λ js. let s : Shape = record { id = m; below = below_in T all m; above = js; erasures = erasures } in s) all_above
          ∙ ap (λ es. let s : Shape = record { id = m; below = below_in T all m; above = above_in T m all; erasures = es } in s) own
