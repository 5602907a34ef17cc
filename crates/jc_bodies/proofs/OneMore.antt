-- What was checked of bodies, from the last one to the first: what one body more adds.
use Rattle.std.proofs.lemmas.Bool.Decides.{nat_tests}
use Rattle.std.proofs.Common.{arith, ◌≡◌, ◌⊎◌, inl, inr, ℕ, zero, suc, ◌+◌, ◌<◌, ◌≤◌, ◌==◌, Bool, true, false, Option, Some, None, List, [], ◌∷◌, ◌++◌, length, drop, get_or, replicate, slice_set, refl, sym, ap, subst, ◌∙◌, if◌then◌else◌}
use Rattle.std.proofs.lemmas.List.{drop_all, drop_more}
use Rattle.jc_rules.specs.declared.rule.Refusal.{Refusal}
use Rattle.jc_types.specs.declared.table.Table.{Table}
use Rattle.jc_types.specs.Breaks.{before, IsLeast, IsOf, LeastOf, sooner}
use Rattle.jc_types.proofs.Least.{either, told}
use Rattle.jc_declares.specs.declared.heads.Heads.{Heads}
use Rattle.jc_declares.specs.Looking.{Knowledge}
use Rattle.jc_typed.specs.declared.program.TypedMethod.{TypedMethod}
use Rattle.jc_stmts_spec.specs.Bodies.{MethodBody}
use Rattle.jc_stmts_spec.specs.Typed.{BreaksBody, IsBody, body_breaks}
use Rattle.jc_bodies.specs.declared.checking.Typing.{Typing}
use Rattle.jc_bodies.specs.Slots.{AreChecked, AreSlots, IsSlot, slot_at}
use Rattle.jc_bodies.specs.Typed.{body_of, breaks_in}

-- ---- breaks

of_both : (r : Refusal) (xs ys : List Refusal) → IsOf r (xs ++ ys) → IsOf r ys ⊎ IsOf r xs
of_both r [] ys o = inl o
of_both r (x ∷ xs) ys (inl e) = inr (inl e)
of_both r (x ∷ xs) ys (inr o) = further (of_both r xs ys o)
  where
    further : IsOf r ys ⊎ IsOf r xs → IsOf r ys ⊎ IsOf r (x ∷ xs)
    further (inl p) = inl p
    further (inr p) = inr (inr p)

of_first : (r : Refusal) (xs ys : List Refusal) → IsOf r xs → IsOf r (xs ++ ys)
of_first r [] ys o = absurd o
of_first r (x ∷ xs) ys (inl e) = inl e
of_first r (x ∷ xs) ys (inr o) = inr (of_first r xs ys o)

of_second : (r : Refusal) (xs ys : List Refusal) → IsOf r ys → IsOf r (xs ++ ys)
of_second r [] ys o = o
of_second r (x ∷ xs) ys o = inr (of_second r xs ys o)

of_either : (r : Refusal) (xs ys : List Refusal) → IsOf r ys ⊎ IsOf r xs → IsOf r (xs ++ ys)
of_either r xs ys (inl o) = of_second r xs ys o
of_either r xs ys (inr o) = of_first r xs ys o

chosen_some : (a b : Refusal) (t : Bool) → (if t then Some b else Some a) ≡ None → ⊥
chosen_some a b true e = cc
chosen_some a b false e = cc

sooner_some : (a : Option Refusal) (b : Refusal) → sooner a (Some b) ≡ None → ⊥
sooner_some None b e = cc
sooner_some (Some a) b e = chosen_some a b (before b a) e

-- ---- slots

equal_at : (k n : ℕ) → (k == n) ≡ true → n ≡ k
equal_at k n e = grind (arith, nat_tests)

apart_at : (k n : ℕ) → (k == n) ≡ false → k ≡ n → ⊥
apart_at k n e same = grind (arith, nat_tests)

put_here : (slots : List (Option TypedMethod)) (n : ℕ) (m : TypedMethod) → n < length slots → slot_at (slice_set slots n (Some m)) n ≡ Some m
put_here [] n m l = absurd (omega arith)
put_here (s ∷ slots) zero m l = refl
put_here (s ∷ slots) (suc n) m l = put_here slots n m (omega arith)

put_apart : (slots : List (Option TypedMethod)) (k n : ℕ) (m : TypedMethod) → (k ≡ n → ⊥) → slot_at (slice_set slots k (Some m)) n ≡ slot_at slots n
put_apart [] k n m apart = refl
put_apart (s ∷ slots) zero zero m apart = absurd (apart refl)
put_apart (s ∷ slots) zero (suc n) m apart = refl
put_apart (s ∷ slots) (suc k) zero m apart = refl
put_apart (s ∷ slots) (suc k) (suc n) m apart = put_apart slots k n m (λ e. apart (ap suc e))

pub put_past : (slots : List (Option TypedMethod)) (k : ℕ) (s : Option TypedMethod) → length slots ≤ k → slice_set slots k s ≡ slots
put_past [] k s l = refl
put_past (x ∷ slots) zero s l = absurd (omega arith)
put_past (x ∷ slots) (suc k) s l = ap (λ rest. x ∷ rest) (put_past slots k s (omega arith))

pub length_put : (slots : List (Option TypedMethod)) (k : ℕ) (s : Option TypedMethod) → length (slice_set slots k s) ≡ length slots
length_put [] k s = refl
length_put (x ∷ slots) zero s = refl
length_put (x ∷ slots) (suc k) s = ap suc (length_put slots k s)

module _ (T : Table) (H : Heads) (K : Knowledge) (all : List MethodBody) where
  put_by : (b : MethodBody) (bs : List MethodBody) (m : TypedMethod) (slots : List (Option TypedMethod)) (n : ℕ) (t : Bool) → (b.method.0 == n) ≡ t → IsBody T H K all b m → n < length slots → IsSlot T H K all (body_of bs n) (slot_at slots n) →
      IsSlot T H K all (if t then Some b else body_of bs n) (slot_at (slice_set slots b.method.0 (Some m)) n)
  put_by b bs m slots n true e body l s =
      let same : n ≡ b.method.0 = equal_at b.method.0 n e in
      subst (λ k. IsSlot T H K all (Some b) (slot_at (slice_set slots k (Some m)) n)) same (subst (IsSlot T H K all (Some b)) (sym (put_here slots n m l)) body)
  put_by b bs m slots n false e body l s =
      let apart : b.method.0 ≡ n → ⊥ = apart_at b.method.0 n e in
      subst (IsSlot T H K all (body_of bs n)) (sym (put_apart slots b.method.0 n m apart)) s

  put_slots : (b : MethodBody) (bs : List MethodBody) (m : TypedMethod) (slots : List (Option TypedMethod)) → IsBody T H K all b m → AreSlots T H K all bs slots → AreSlots T H K all (b ∷ bs) (slice_set slots b.method.0 (Some m))
  put_slots b bs m slots body are n l =
      let within : n < length slots = subst (λ k. n < k) (length_put slots b.method.0 (Some m)) l in
      put_by b bs m slots n (b.method.0 == n) refl body within (are n within)

  -- a body in which nothing is broken
  pub with_typed : (b : MethodBody) (bs : List MethodBody) (m : TypedMethod) (old new : Typing) → IsBody T H K all b m → new.found ≡ old.found → new.slots.items ≡ slice_set old.slots.items b.method.0 (Some m) → AreChecked T H K all bs old →
      AreChecked T H K all (b ∷ bs) new
  with_typed b bs m old new body found slots are =
      record {
        found =
            let same : LeastOf (λ r. IsOf r (breaks_in T H K all bs)) new.found = subst (LeastOf (λ r. IsOf r (breaks_in T H K all bs))) (sym found) are.found in
            subst (λ (xs : List Refusal). LeastOf (λ r. IsOf r (xs ++ breaks_in T H K all bs)) new.found) (sym body.unbroken) same;
        slots = λ none. subst (AreSlots T H K all (b ∷ bs)) (sym slots) (put_slots b bs m old.slots.items body (are.slots (sym found ∙ none)));
      }

  -- .. and one in which this is the least break
  pub with_broken : (b : MethodBody) (bs : List MethodBody) (refused : Refusal) (old new : Typing) → IsLeast (BreaksBody T H K all b) refused → new.found ≡ sooner old.found (Some refused) → AreChecked T H K all bs old →
      AreChecked T H K all (b ∷ bs) new
  with_broken b bs refused old new least found are =
      record {
        found =
            subst (LeastOf (λ r. IsOf r (breaks_in T H K all (b ∷ bs)))) (sym found)
            (told (λ r. IsOf r (breaks_in T H K all bs) ⊎ BreaksBody T H K all b r) (λ r. IsOf r (breaks_in T H K all (b ∷ bs))) (sooner old.found (Some refused)) (λ r o. of_either r (body_breaks T H K all b) (breaks_in T H K all bs) o)
            (λ r o. of_both r (body_breaks T H K all b) (breaks_in T H K all bs) o) (either (λ r. IsOf r (breaks_in T H K all bs)) (BreaksBody T H K all b) old.found (Some refused) are.found least));
        slots = λ none. absurd (sooner_some old.found refused (sym found ∙ none));
      }

  -- ---- from the last body to the first

  empty_slot : (count n : ℕ) → slot_at (replicate count None) n ≡ None
  empty_slot zero n = refl
  empty_slot (suc count) zero = refl
  empty_slot (suc count) (suc n) = empty_slot count n

  none_checked : (count : ℕ) (t : Typing) → t.found ≡ None → t.slots.items ≡ replicate count None → AreChecked T H K all [] t
  none_checked count t found slots =
      record {
        found = subst (LeastOf (λ b. IsOf b (breaks_in T H K all []))) (sym found) (λ c o. o);
        slots =
            λ none. subst (AreSlots T H K all []) (sym slots)
            (λ n l. subst (IsSlot T H K all None) (sym (empty_slot count n)) tt);
      }

  pub nothing_checked : (count : ℕ) (t : Typing) → t.found ≡ None → t.slots.items ≡ replicate count None → AreChecked T H K all (drop (length all) all) t
  nothing_checked count t found slots = subst (λ bs. AreChecked T H K all bs t) (sym (drop_all (length all) all (omega arith))) (none_checked count t found slots)

  pub one_more : (calls : List MethodBody) (i left : ℕ) (b : MethodBody) (old new : Typing) → calls ≡ all → b ≡ get_or all i b → i < length all → i + 1 ≡ left →
      ((bs : List MethodBody) → AreChecked T H K calls bs old → AreChecked T H K calls (b ∷ bs) new) → AreChecked T H K all (drop left all) old → AreChecked T H K all (drop i all) new
  one_more calls i left b old new same is l next step are =
      let from : drop i all ≡ b ∷ drop left all = drop_more all i b l ∙ ap (λ x. x ∷ drop (i + 1) all) (sym is) ∙ ap (λ n. b ∷ drop n all) next in
      let made : AreChecked T H K calls (b ∷ drop left all) new = step (drop left all) (subst (λ bs. AreChecked T H K bs (drop left all) old) (sym same) are) in
      subst (λ bs. AreChecked T H K all bs new) (sym from) (subst (λ bs. AreChecked T H K bs (b ∷ drop left all) new) same made)

  pub all_checked : (left : ℕ) (t : Typing) → left ≡ 0 → AreChecked T H K all (drop left all) t → AreChecked T H K all all t
  all_checked left t none are = subst (λ n. AreChecked T H K all (drop n all) t) none are
