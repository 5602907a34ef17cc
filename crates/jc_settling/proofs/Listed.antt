-- The lists of member types have what the classes declare.
use Rattle.std.proofs.Common.{◌≡◌, ◌≢◌, ◌<◌, ◌≤◌, ◌-◌, ◌+◌, ℕ, zero, suc, Bool, true, false, List, [], ◌∷◌, ◌++◌, Option, Some, None, length, replicate, slice_get, slice_set, append_assoc, length-append, length-set, refl, sym, ap, ◌∙◌, arith}
use Rattle.std.specs.Prelude.{cond, ◌==◌}
use Rattle.std.proofs.lemmas.Grind.{common_steps}
use Rattle.std.proofs.lemmas.List.{get_or-set_same}
use Rattle.std.proofs.lemmas.Option.{slice_get-get_or}
use Rattle.jc_rules.proofs.Truths.{equal_numbers, other_numbers}
use Rattle.jc_declares.specs.declared.heads.ClassHead.{ClassHead}
use Rattle.jc_declares.specs.declared.heads.Heads.{Heads}
use Rattle.jc_declares.specs.Heads.{Named}
use Rattle.jc_name_index.specs.Spaces.{padded, picked, picked_as}
use Rattle.jc_name_index.specs.Index.{as_member}
use Rattle.jc_name_index.proofs.Picked.{members_picked}
use Rattle.jc_settling.specs.Members.{list_in, list_at, appended_in, appended_as, appended_all, AreMembers}

abbrev nothing : Named
nothing = []

pub padded_push : (s : ℕ) (T : List Named) (x : Named) → x ≡ [] → length T ≤ s → padded s (T ++ x ∷ []) ≡ padded s T
padded_push s T x e h =
    let a : length (T ++ x ∷ []) ≡ suc (length T) = grind (arith, common_steps) in
    let b : suc s - length (T ++ x ∷ []) ≡ s - length T = omega arith in
    let d : suc s - length T ≡ suc (s - length T) = omega arith in
    ap (λ k. (T ++ x ∷ []) ++ replicate k nothing) b ∙ ap (λ y. (T ++ y ∷ []) ++ replicate (s - length T) nothing) e
    ∙ append_assoc T (nothing ∷ []) (replicate (s - length T) nothing) ∙ sym (ap (λ k. T ++ replicate k nothing) d)

get_same : (T : List Named) (q : ℕ) (y : Named) → q < length T → slice_get (slice_set T q y) q ≡ Some y
get_same T q y l =
    let m : q < length (slice_set T q y) = grind (arith, common_steps, length-set) in
    slice_get-get_or (slice_set T q y) q y m ∙ ap Some (get_or-set_same T q y y l)

get_other : (T : List Named) (q s : ℕ) (y : Named) → s ≢ q → slice_get (slice_set T q y) s ≡ slice_get T s
get_other [] q s y ne = refl
get_other (x ∷ T) zero zero y ne = absurd (ne refl)
get_other (x ∷ T) zero (suc s) y ne = refl
get_other (x ∷ T) (suc q) zero y ne = refl
get_other (x ∷ T) (suc q) (suc s) y ne = get_other T q s y (λ e. ne (ap suc e))

no_list : (k s : ℕ) → list_at (replicate k nothing) s ≡ []
no_list zero s = refl
no_list (suc k) zero = refl
no_list (suc k) (suc s) = no_list k s

behind : (T : List Named) (k s : ℕ) → list_at (T ++ replicate k nothing) s ≡ list_at T s
behind [] k s = no_list k s
behind (x ∷ T) k zero = refl
behind (x ∷ T) k (suc s) = behind T k s

room : (T : List Named) (q : ℕ) → q < length (padded q T)
room T q =
    let a : length (padded q T) ≡ length T + length (replicate (suc q - length T) nothing) = length-append T _ in
    let b : length (replicate (suc q - length T) nothing) ≡ suc q - length T = grind (arith, common_steps) in
    omega arith

right_nothing : (es : Named) → es ++ [] ≡ es
right_nothing [] = refl
right_nothing (e ∷ es) = ap (λ ds. e ∷ ds) (right_nothing es)

some_appended : (b : Bool) (es : Named) (T : List Named) (q s : ℕ) (e : List ℕ × ℕ) → (s == q) ≡ b → slice_get T q ≡ Some es → q < length T
    → list_at (slice_set T q (es ++ e ∷ [])) s ≡ list_at T s ++ cond b (e ∷ []) []
some_appended true es T q s e t f l =
    let sq : s ≡ q = equal_numbers s q t in
    ap (list_at (slice_set T q (es ++ e ∷ []))) sq ∙ ap list_in (get_same T q (es ++ e ∷ []) l) ∙ ap (λ ds. ds ++ e ∷ []) (sym (ap (list_at T) sq ∙ ap list_in f))
some_appended false es T q s e t f l = ap list_in (get_other T q s (es ++ e ∷ []) (other_numbers s q t)) ∙ sym (right_nothing (list_at T s))

list_appended : (o : Option Named) (T : List Named) (q s : ℕ) (e : List ℕ × ℕ) → slice_get T q ≡ o → q < length T
    → list_at (appended_in q e T o) s ≡ list_at T s ++ cond (s == q) (e ∷ []) []
list_appended None T q s e f l = absurd (none_some (sym f ∙ slice_get-get_or T q [] l))
  where
    none_some : {x : Named} → None ≡ Some x → ⊥
    none_some e = grind (arith, common_steps)
list_appended (Some es) T q s e f l = some_appended (s == q) es T q s e refl f l

as_appended : (m : Option (ℕ × List ℕ)) (i : ℕ) (T : List Named) (s : ℕ) → list_at (appended_as m i T) s ≡ list_at T s ++ picked_as s m i
as_appended None i T s = sym (right_nothing (list_at T s))
as_appended (Some m) i T s =
    list_appended (slice_get (padded m.0 T) m.0) (padded m.0 T) m.0 s (m.1, i) refl (room T m.0)
    ∙ ap (λ es. es ++ picked_as s (Some m) i) (behind T (suc m.0 - length T) s)

all_appended : (cs : List ClassHead) (i : ℕ) (T : List Named) (s : ℕ) → list_at (appended_all i cs T) s ≡ list_at T s ++ picked as_member s i cs
all_appended [] i T s = sym (right_nothing (list_at T s))
all_appended (c ∷ cs) i T s =
    all_appended cs (suc i) (appended_as (as_member c) i T) s ∙ ap (λ es. es ++ picked as_member s (suc i) cs) (as_appended (as_member c) i T s)
    ∙ append_assoc (list_at T s) (picked_as s (as_member c) i) (picked as_member s (suc i) cs)

pub members_listed : (H : Heads) (xs : List ClassHead) (empty all : List Named) → xs ≡ H.classes → empty ≡ [] → all ≡ appended_all 0 xs empty → AreMembers H all
members_listed H xs empty all ex ee ea =
    λ c. ap (λ (t : List Named). list_at t c) (ea ∙ ap (appended_all 0 xs) ee) ∙ all_appended xs 0 [] c ∙ ap (λ ys. picked as_member c 0 ys) ex ∙ members_picked c 0 H.classes
